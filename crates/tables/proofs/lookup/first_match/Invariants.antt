use Rattle.std.proofs.Common.{length, ◌-◌, ◌/◌}
use Rattle.machine.specs.Table.{matches}
use Rattle.machine.specs.Tag.{company_at}
use Rattle.laws.proofs.Slots.{Seeking}
use Rattle.tables.proofs.lookup.first_match.Given as goal

abbrev pub invariant-loop-i : goal.invariant-loop-i
invariant-loop-i l = Seeking (matches (company_at l.key) l.own l.asid l.address) l.table l.i (l.i / 3)

abbrev pub decreases-loop-i : goal.decreases-loop-i
decreases-loop-i l = length l.table - l.i
