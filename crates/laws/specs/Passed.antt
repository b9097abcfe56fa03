-- Slots that a search passes, since the second word of none of them, under a mask, is what is looked for.
use Rattle.std.specs.Prelude.{ℕ, ◌+◌, ◌%◌, ◌<◌, ◌≤◌, List, ◌≡◌, length, get_or}
use Rattle.std.specs.Int.Bits.{bit_and}

-- from the slot at word i to the one at word r: all but the first, which was looked at before
pub record Passed (mask key : ℕ) (l : List ℕ) (i r : ℕ) : Type 0 where
  pub from : i ≤ r
  pub inside : r < length l
  pub whole : r % 3 ≡ 0
  pub others : (j : ℕ) → i < j → j ≤ r → j % 3 ≡ 0 → bit_and (get_or l (j + 1) 0) mask ≡ key → ⊥
