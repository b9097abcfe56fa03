-- How far the last address of a span lies from its base, by the granule, and by height and width as these stand side by side in a tag from bit 45 on.
use Rattle.std.specs.Prelude.{ℕ, ◌+◌, ◌*◌, ◌-◌, ◌/◌, ◌%◌, ◌^◌, cond, eqb, leb}
use Rattle.laws.specs.Bits.{bits}
use Rattle.machine.specs.Span.{exponent_at}

-- the exponent of the span, of a granule
abbrev pub span_in : ℕ → ℕ → ℕ
span_in g x = exponent_at (eqb (x % 2) 1) g (x / 2)

-- 0 where there is no span: only a senseless slot has such a width and height
unfoldable pub end_at : ℕ → ℕ → ℕ
end_at g x = cond (leb (span_in g x) 54) (2 ^ span_in g x - 1) 0

-- with the granule above the other two, and 0 where that is none
unfoldable pub end_in : ℕ → ℕ
end_in p = cond (leb 1 (p / 16)) (end_at (p / 16) (p % 16)) 0

-- of what stands in a tag
abbrev pub end_of : ℕ → ℕ
end_of tag = end_in (bits 27 26 tag * 16 + bits 48 45 tag)
