use Rattle.std.proofs.Common.{sym, ◌∙◌}
use Rattle.machine.proofs.Works.{asked-ttl}
use Rattle.works.proofs.resolution.resolve.Goals as goal

pub work_of-requires : goal.work_of-requires
work_of-requires c =
    let a = c.args in
    let h = sym c.asked.ensures ∙ c.in_ok-operand.was in
    asked-ttl a.state.now c.in_ok-op.op c.in_ok-scope.scope a.xt a.xt2 c.in_ok-operand.operand c.in_ok-operand.range h
