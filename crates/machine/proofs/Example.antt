-- The listing computed from the definitions: 01's example, and corners of its rules.
use Prim.Native.Nat.{ℕ, ◌^◌, ◌-◌}
use mathlib.Core.Path.{◌≡◌, refl}
use mathlib.Core.List.{List, [], ◌∷◌}
use Rattle.machine.specs.Word.{row_of, read_of}
use Rattle.machine.specs.Text.{bytes, digits, decimal_of}
use Rattle.machine.specs.Listing.{line_of, line_at, lines_of, tail_of, listing_of, room_for, written_of, tail_written}

-- "Words D5088260, D503201F, D50E85A0, D54C8620, then one byte"
abbrev pub code : List ℕ
code =
    0x60 ∷ 0x82 ∷ 0x08 ∷ 0xD5
    ∷ 0x1F ∷ 0x20 ∷ 0x03 ∷ 0xD5
    ∷ 0xA0 ∷ 0x85 ∷ 0x0E ∷ 0xD5
    ∷ 0x20 ∷ 0x86 ∷ 0x4C ∷ 0xD5
    ∷ 0x00 ∷ []

pub example : listing_of code ≡ bytes "0 TLBI RVAAE1IS, X0\n8 TLBI RVALE3OS, X0\n12 TLBIP RVAE2, X0, X1\ntail 1\n"
unfolding row_of read_of digits decimal_of line_of line_at lines_of tail_of listing_of
example = refl

-- the last offset, Rt 31, Rt 30 and odd Rt under TLBIP and TLBI, NXS after the shareability, and what is no operation
pub corners :
    (line_at (2 ^ 64) 0xD508827F ≡ bytes "0 TLBI RVAAE1IS, XZR\n")
    × (line_at (2 ^ 64 - 4) 0xD54C863E ≡ bytes "18446744073709551612 TLBIP RVAE2, X30, XZR\n")
    × (line_at 99 0xD54C863F ≡ bytes "99 TLBIP RVAE2, XZR, XZR\n")
    × (line_at 0 0xD54C863D ≡ [])
    × (line_at 0 0xD54C8622 ≡ bytes "0 TLBIP RVAE2, X2, X3\n")
    × (line_at 10 0xD50C8621 ≡ bytes "10 TLBI RVAE2, X1\n")
    × (line_at 100 0xD50895ED ≡ bytes "100 TLBI RVAALE1OSNXS, X13\n")
    × (line_at 0 0xD508A260 ≡ [])
    × (line_at 0 0xD5288260 ≡ [])
    × (line_at 0 (2 ^ 32) ≡ [])
    × (listing_of [] ≡ [])
unfolding row_of read_of digits decimal_of line_of line_at lines_of tail_of listing_of
corners = (refl, refl, refl, refl, refl, refl, refl, refl, refl, refl, refl)

-- a line that fits exactly is written, one that lacks a byte is not, and a word with no line is passed
pub rooms :
    (room_for 0 code 63 ≡ 16)
    × (room_for 0 code 62 ≡ 12)
    × (room_for 0 code 40 ≡ 12)
    × (room_for 0 code 39 ≡ 8)
    × (room_for 0 code 19 ≡ 0)
    × (room_for 0 [] 52 ≡ 0)
    × (room_for 0 (0x60 ∷ 0x82 ∷ []) 52 ≡ 0)
    × (room_for 0 (0x60 ∷ 0x82 ∷ 0x08 ∷ []) 52 ≡ 0)
    × (written_of 0 code 39 ≡ bytes "0 TLBI RVAAE1IS, X0\n")
    × (tail_written 3 7 ≡ bytes "tail 3\n")
    × (tail_written 3 6 ≡ [])
    × (tail_written 0 9 ≡ [])
unfolding row_of read_of digits decimal_of line_of line_at lines_of tail_of room_for written_of tail_written
rooms = (refl, refl, refl, refl, refl, refl, refl, refl, refl, refl, refl, refl)
