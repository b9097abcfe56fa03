use Rattle.std.proofs.Common.{sym, ap, subst, ◌∙◌, arith}
use Rattle.machine.specs.Answer.{value_of}
use Rattle.machine.specs.Execute.{executed_by, table_by, resolved_of}
use Rattle.machine.proofs.Executing.{dropped-most}
use Rattle.execution.proofs.Sound.{resolved-sound}
use Rattle.execution.specs.Sound.{IsSound}
use Rattle.running.proofs.Told.{unwrap-value}
use Rattle.works.proofs.Reading.{read-resolved}
use Rattle.running.proofs.running.run_step.Goals as goal

pub carry_out-requires : goal.carry_out-requires
carry_out-requires c =
    let a = c.args in
    let known = read-resolved a.state.now a.word a.xt a.xt2 _ _ c.read-read.ensures c.resolve-resolved.ensures in
    (c.requires, subst IsSound (sym known) (resolved-sound a.state.now a.word a.xt a.xt2))

pub returns-clause-value : goal.returns-clause-value
returns-clause-value c =
    let a = c.args in
    let l = a.table.now in
    let r = resolved_of a.state.now a.word a.xt a.xt2 in
    let known = read-resolved a.state.now a.word a.xt a.xt2 _ _ c.read-read.ensures c.resolve-resolved.ensures in
    let e = c.unwrap_or.ensures ∙ unwrap-value c.carry_out.result ∙ ap value_of (c.carry_out.ensures.value ∙ ap (λ x. executed_by x l) known) in
    (e, omega (arith, e, dropped-most r l))

pub returns-clause-table_after : goal.returns-clause-table_after
returns-clause-table_after c =
    let a = c.args in
    let known = read-resolved a.state.now a.word a.xt a.xt2 _ _ c.read-read.ensures c.resolve-resolved.ensures in
    c.carry_out.ensures.table_after ∙ ap (λ x. table_by x a.table.now) known
