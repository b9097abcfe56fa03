-- The bytes of a number that are 0, and a bit of each byte side by side.
use Rattle.std.specs.Prelude.{ℕ, zero, suc, ◌+◌, ◌*◌, ◌/◌, ◌%◌, ◌^◌, cond, eqb}

-- 1 in the place of each of the lowest n bytes of x that is 0, and 0 in that of every other
unfoldable pub zero_bytes : ℕ → ℕ → ℕ
zero_bytes x zero = 0
zero_bytes x (suc n) = cond (eqb (x % 256) 0) 1 0 + 256 * zero_bytes (x / 256) n

-- the lowest bits of eight bytes, which are 0 or 1, side by side: those of the upper four go between those of the lower, and one product brings all to bits 31:24
abbrev pub gathered_of : ℕ → ℕ
gathered_of x = (x % 2 ^ 32 + x / 2 ^ 32 * 16) * 0x01020408 / 2 ^ 24 % 256
