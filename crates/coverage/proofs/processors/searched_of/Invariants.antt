use Rattle.std.proofs.Common.{◌<◌, ◌≡◌, ◌-◌}
use Rattle.laws.specs.Mask.{mask_from}
use Rattle.coverage.specs.Processors.{is_searched}
use Rattle.coverage.proofs.processors.searched_of.Given as goal

abbrev pub invariant-loop-p : goal.invariant-loop-p
invariant-loop-p l = (l.searched < 256) × (l.searched ≡ mask_from (is_searched l.processors l.common) l.p (8 - l.p))
