-- The rules of a slot that are left where its layout number and company are an entry's.
use Rattle.std.specs.Prelude.{ℕ, ◌%◌, ◌^◌, Bool, not, ◌&&◌, ◌||◌, eqb, ltb, leb}
use Rattle.laws.specs.Bits.{bits}
use Rattle.laws.specs.Mask.{bit_of}
use Rattle.machine.specs.Entry.{has_asids, is_placed, in_reach, span_of}
use Rattle.machine.specs.Tag.{company_at, entry_at}

-- ASID and global flag are 0 where there are none, and the base is in reach
abbrev pub is_reach : ℕ → ℕ → Bool
is_reach base tag = (has_asids (company_at tag) || (eqb (bits 43 28 tag) 0 && not (bit_of tag 44))) && in_reach (company_at tag) base

-- nothing above bit 53, a granule and a span of it, a base that is a multiple of that, a level for a leaf or none, and the reach
unfoldable pub is_rest : ℕ → ℕ → Bool
is_rest base tag =
    ltb tag (2 ^ 54)
    && (leb 1 (bits 27 26 tag) && leb (span_of (entry_at 0 tag)) 54)
    && eqb (base % 2 ^ span_of (entry_at 0 tag)) 0
    && is_placed (entry_at 0 tag).leaf (entry_at 0 tag).level (entry_at 0 tag).global
    && is_reach base tag
