use Rattle.std.proofs.Common.{length, ◌-◌}
use Rattle.machine.specs.Goes.{drops}
use Rattle.laws.proofs.Clearing.{Clearing}
use Rattle.dropping.proofs.slots.drop_all.Given as goal

abbrev pub invariant-loop-i : goal.invariant-loop-i
invariant-loop-i l = Clearing (drops l.work) l.initial.table l.table l.i l.n

abbrev pub decreases-loop-i : goal.decreases-loop-i
decreases-loop-i l = length l.table - l.i
