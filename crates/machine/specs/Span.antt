-- 01, "Entries": levels and spans.
use Rattle.std.specs.Prelude.{ℕ, ◌+◌, ◌*◌, ◌-◌, ◌^◌, Bool, cond, ◌&&◌, leb, ℤ, pos, negsuc, nat_abs, ◌-ℤ◌}
use Rattle.std.specs.Int.Signed.{le_z}
use Rattle.machine.specs.Operand.{is_granule, granule_exponent}

-- "Levels run from -1 to 3 as signed numbers."
unfoldable pub is_level : ℤ → Bool
is_level l = le_z (negsuc 0) l && le_z l (pos 3)

-- two levels are one
abbrev pub same_level : ℤ → ℤ → Bool
same_level a b = le_z a b && le_z b a

-- 3 minus the level, where it is a level
unfoldable pub height_of : ℤ → ℕ
height_of l = nat_abs (pos 3 -ℤ l)

-- "Span exponents": a granule at level 3, and at each level above it as many times more as a granule has descriptors, of 8 bytes each, or of 16
unfoldable pub exponent_at : Bool → ℕ → ℕ → ℕ
exponent_at wide tg h = granule_exponent tg + (granule_exponent tg - cond wide 4 3) * h

unfoldable pub exponent_of : Bool → ℕ → ℤ → ℕ
exponent_of wide tg l = exponent_at wide tg (height_of l)

-- the cells that are not "none", of which the greatest is 54
unfoldable pub has_span : Bool → ℕ → ℤ → Bool
has_span wide tg l = is_granule tg && is_level l && leb (exponent_of wide tg l) 54

-- an address is in the span of 2^k bytes from a base
abbrev pub in_span : ℕ → ℕ → ℕ → Bool
in_span base k a = leb base a && leb a (base + (2 ^ k - 1))

-- "its span meets the range": neither ends before the other starts
abbrev pub meets_range : ℕ → ℕ → ℕ → ℕ → Bool
meets_range base k first last = leb first (base + (2 ^ k - 1)) && leb base last
