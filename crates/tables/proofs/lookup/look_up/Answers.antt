use Rattle.std.proofs.Common.{rules, ◌%◌, ◌^◌, ℕ, sym, ap, ◌∙◌}
use Rattle.machine.proofs.Inserting.{table-shape}
use Rattle.machine.proofs.Tags.{key-company, key-layout}
use Rattle.machine.specs.Tag.{company_at}
use Rattle.tables.proofs.Looked.{looked-up}
use Rattle.tables.proofs.lookup.look_up.Goals as goal

pub first_match-requires : goal.first_match-requires
first_match-requires c =
    let e = c.company_tag-key.ensures.0 in
    let s = (table-shape c.args.table.now (sym c.is_table.ensures ∙ c.if-not-is_table.false)).0 in
    (s, ap (λ (n : ℕ). n % 2 ^ 4) e ∙ key-layout c.stage1_of.result, c.company_tag-key.ensures.1)

pub returns-in_err-slot-clause-value : goal.returns-in_err-slot-clause-value
returns-in_err-slot-clause-value c =
    let a = c.args in
    let t = sym c.is_table.ensures ∙ c.if-not-is_table.false in
    let b = sym c.is_bad.ensures ∙ c.if-is_bad.false in
    let key = ap company_at c.company_tag-key.ensures.0 ∙ key-company c.stage1_of.result c.stage1_of.ensures.1 ∙ c.stage1_of.ensures.0 in
    rw (← looked-up a.state a.regime a.asid a.address (company_at c.company_tag-key.result) a.table.now t b key, ← c.first_match.ensures) (search rules)

pub returns-clause-value : goal.returns-clause-value
returns-clause-value c =
    let a = c.args in
    let t = sym c.is_table.ensures ∙ c.if-not-is_table.false in
    let b = sym c.is_bad.ensures ∙ c.if-is_bad.false in
    let key = ap company_at c.company_tag-key.ensures.0 ∙ key-company c.stage1_of.result c.stage1_of.ensures.1 ∙ c.stage1_of.ensures.0 in
    rw (← looked-up a.state a.regime a.asid a.address (company_at c.company_tag-key.result) a.table.now t b key, ← c.first_match.ensures) (search rules)
