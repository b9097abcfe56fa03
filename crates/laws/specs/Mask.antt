-- A set of small numbers as the bits of one number.
use Rattle.std.specs.Prelude.{ℕ, zero, suc, ◌+◌, ◌*◌, ◌/◌, ◌%◌, ◌^◌, Bool, cond, eqb}

-- bit k of m
abbrev pub bit_of : ℕ → ℕ → Bool
bit_of m k = eqb (m / 2 ^ k % 2) 1

-- f at p and at the n - 1 numbers after it, as bits, the first lowest
unfoldable pub mask_from : (ℕ → Bool) → ℕ → ℕ → ℕ
mask_from f p zero = 0
mask_from f p (suc n) = cond (f p) 1 0 + 2 * mask_from f (suc p) n
