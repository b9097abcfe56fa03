use Rattle.std.proofs.Common.{sym, ap, subst, ◌∙◌}
use Rattle.machine.specs.Execute.{executed_by, table_by}
use Rattle.execution.specs.Sound.{IsSound}
use Rattle.machine.proofs.Executing.{execute-13, execute-2, execute-good}
use Rattle.machine.proofs.Inserting.{table-shape}
use Rattle.execution.proofs.Sound.{resolved-sound}
use Rattle.works.proofs.Reading.{read-resolved, nothing-holds}
use Rattle.execution.proofs.single.execute.Goals as goal

pub returns-then-not-is_table : goal.returns-then-not-is_table
returns-then-not-is_table c =
    let a = c.args in
    let r = execute-13 a.state a.word a.xt a.xt2 a.table.now (sym c.is_table.ensures ∙ c.if-not-is_table.true) in
    record { value = sym r.0; table_after = sym r.1 }

pub returns-then-is_bad : goal.returns-then-is_bad
returns-then-is_bad c =
    let a = c.args in
    let r = execute-2 a.state a.word a.xt a.xt2 a.table.now (sym c.is_table.ensures ∙ c.if-not-is_table.false) (sym c.is_bad.ensures ∙ c.if-is_bad.true) in
    record { value = sym r.0; table_after = sym r.1 }

pub carry_out-requires : goal.carry_out-requires
carry_out-requires c =
    let a = c.args in
    let e = read-resolved a.state a.word a.xt a.xt2 _ _ c.read-read.ensures c.resolve-resolved.ensures in
    let sound = subst IsSound (sym e) (resolved-sound a.state a.word a.xt a.xt2) in
    ((table-shape a.table.now (sym c.is_table.ensures ∙ c.if-not-is_table.false)).0, sound)

pub returns : goal.returns
returns c =
    let a = c.args in
    let l = a.table.now in
    let done = c.carry_out.ensures in
    let e = read-resolved a.state a.word a.xt a.xt2 _ _ c.read-read.ensures c.resolve-resolved.ensures in
    let r = execute-good a.state a.word a.xt a.xt2 l (sym c.is_table.ensures ∙ c.if-not-is_table.false) (sym c.is_bad.ensures ∙ c.if-is_bad.false) in
    record { value = done.value ∙ ap (λ x. executed_by x l) e ∙ sym r.0; table_after = done.table_after ∙ ap (λ x. table_by x l) e ∙ sym r.1 }
