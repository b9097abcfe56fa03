use Rattle.std.proofs.Common.{sym}
use Rattle.machine.proofs.Victims.{own-board}
use Rattle.judge.proofs.verdict.judge.Goals as goal

pub is_target-requires : goal.is_target-requires
is_target-requires c = (own-board c.args.state (sym c.if-is_bad.ensures)).1
