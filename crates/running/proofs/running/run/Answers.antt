use Rattle.std.proofs.Common.{◌&&◌, Ok, refl, sym, ap, ap₂, ◌∙◌}
use Rattle.machine.specs.Execute.{is_list, refuses}
use Rattle.machine.proofs.Running.{run-13, run-2, run-10, run-0}
use Rattle.running.proofs.Told.{first_slot-some, first_slot-none}
use Rattle.running.proofs.running.run.Goals.{then-not-is_table-via-then-not-is_table, then-not-is_table-via-else-not-is_table+then-not-is_list}
use Rattle.running.proofs.running.run.Goals as goal

pub returns-then-not-is_table : goal.returns-then-not-is_table
returns-then-not-is_table c =
    let a = c.args in
    let r = run-13 a.state a.list.now a.table.now (elim c.then-not-is_table.branch [
      | then-not-is_table-via-then-not-is_table w ↦ ap (λ b. b && is_list a.list.now) (sym c.is_table.ensures ∙ w.if-not-is_table.true)
      | then-not-is_table-via-else-not-is_table+then-not-is_list w ↦
          ap₂ (λ b d. b && d) (sym c.is_table.ensures ∙ w.if-not-is_table.false) (sym w.is_list.ensures ∙ w.if-not-is_list.true)
    ]) in
    record { value = sym r.0; table_after = sym r.1; list_kept = refl }

pub returns-then-is_bad : goal.returns-then-is_bad
returns-then-is_bad c =
    let a = c.args in
    let t = sym c.is_table.ensures ∙ c.if-not-is_table.false in
    let s = sym c.is_list.ensures ∙ c.if-not-is_list.false in
    let r = run-2 a.state a.list.now a.table.now (ap₂ (λ b d. b && d) t s) (sym c.is_bad.ensures ∙ c.if-is_bad.true) in
    record { value = sym r.0; table_after = sym r.1; list_kept = refl }

pub returns-in-Some : goal.returns-in-Some
returns-in-Some c =
    let a = c.args in
    let t = sym c.is_table.ensures ∙ c.if-not-is_table.false in
    let s = sym c.is_list.ensures ∙ c.if-not-is_list.false in
    let f = first_slot-some (refuses a.state) a.list.now c.in-Some.k (sym c.first_refused.ensures ∙ c.in-Some.is) in
    let r = run-10 a.state a.list.now a.table.now c.in-Some.k (ap₂ (λ b d. b && d) t s) (sym c.is_bad.ensures ∙ c.if-is_bad.false) f.0 f.1 in
    record { value = sym r.0; table_after = sym r.1; list_kept = refl }

pub returns : goal.returns
returns c =
    let a = c.args in
    let t = sym c.is_table.ensures ∙ c.if-not-is_table.false in
    let s = sym c.is_list.ensures ∙ c.if-not-is_list.false in
    let n = first_slot-none (refuses a.state) a.list.now (sym c.first_refused.ensures ∙ c.in_default.is) in
    let r = run-0 a.state a.list.now a.table.now (ap₂ (λ b d. b && d) t s) (sym c.is_bad.ensures ∙ c.if-is_bad.false) n in
    record { value = ap Ok c.run_steps.ensures.value ∙ sym r.0; table_after = c.run_steps.ensures.table_after ∙ sym r.1; list_kept = refl }
