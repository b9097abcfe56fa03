use Rattle.std.proofs.Common.{ap, ◌∙◌}
use Rattle.std.specs.Prelude.{is_err}
use Rattle.machine.specs.Execute.{resolved_of}
use Rattle.running.proofs.Told.{err-refused}
use Rattle.works.proofs.Reading.{read-resolved}
use Rattle.running.proofs.refusal.is_refused.Goals as goal

pub returns : goal.returns
returns c =
    let a = c.args in
    let e = read-resolved a.state.now a.word a.xt a.xt2 _ _ c.read-read.ensures c.resolve.ensures in
    c.is_err.ensures.value ∙ ap is_err e ∙ err-refused (resolved_of a.state.now a.word a.xt a.xt2)
