use Rattle.std.proofs.Common.{◌≡◌, ◌+◌, ◌*◌, drop}
use Rattle.std.specs.List.{position_or_len}
use Rattle.laws.specs.Chunks.{on_slot, has_key}
use Rattle.tags.proofs.passing.passed.Given as goal

abbrev pub invariant-loop-n : goal.invariant-loop-n
invariant-loop-n l =
    position_or_len (on_slot (has_key l.mask l.key)) l.slots ≡ 8 * l.n + position_or_len (on_slot (has_key l.mask l.key)) (drop (8 * l.n) l.slots)
