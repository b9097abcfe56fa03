use Rattle.std.proofs.Common.{rules}
use Rattle.machine.proofs.Going.{goes-rest}
use Rattle.machine.proofs.Tags.{legal}
use Rattle.works.proofs.going.goes.Goals as goal

pub is_reached-requires : goal.is_reached-requires
is_reached-requires c = (legal c.args.entry c.requires.0).processor

pub returns : goal.returns
returns c = rw (goes-rest c.args.work c.args.entry c.requires.1 c.requires.2 c.requires.3) (search rules)
