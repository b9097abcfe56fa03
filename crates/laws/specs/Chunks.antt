-- A list of numbers as the list of its slots, each of three numbers.
use Rattle.std.specs.Prelude.{ℕ, ◌/◌, Bool, List, length, eqb, slice_index}
use Rattle.std.specs.Int.Bits.{bit_and}
use Rattle.std.specs.Simd.{first_chunks}

abbrev pub chunks : List ℕ → List (List ℕ)
chunks l = first_chunks 3 (length l / 3) l

-- a test of a slot's three numbers
abbrev pub on_slot : (ℕ → ℕ → ℕ → Bool) → List ℕ → Bool
on_slot p s = p (slice_index s 0) (slice_index s 1) (slice_index s 2)

-- the second of them, under a mask, is a key
abbrev pub has_key : ℕ → ℕ → ℕ → ℕ → ℕ → Bool
has_key mask key base tag out = eqb (bit_and tag mask) key
