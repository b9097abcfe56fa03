use Rattle.std.proofs.Common.{arith}
use Rattle.std.proofs.lemmas.Grind.{common_steps}
use Rattle.tags.proofs.Parts.{rest-end}
use Rattle.tags.proofs.slot.is_rest.Goals as goal

pub returns-then-is_placed_at : goal.returns-then-is_placed_at
returns-then-is_placed_at c = rw (rest-end c.args.base c.args.tag, c.is_reach_at.ensures) (grind (arith, common_steps))
