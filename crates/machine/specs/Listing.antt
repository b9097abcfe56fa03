-- 01, "The listing program": the text that a piece of A64 code gives.
use Rattle.std.specs.Prelude.{ℕ, ◌+◌, ◌*◌, ◌-◌, ◌%◌, ◌^◌, Bool, cond, not, List, [], ◌∷◌, ◌++◌, eqb, leb, length, take, Option, Some, None}
use Rattle.machine.specs.declared.operation.Name.{Name}
use Rattle.machine.specs.declared.operation.Name.TheVariants.{
  RVAE1,
  RVAAE1,
  RVALE1,
  RVAALE1,
  RVAE2,
  RVALE2,
  RVAE3,
  RVALE3,
  RIPAS2E1,
  RIPAS2LE1,
}
use Rattle.machine.specs.declared.operation.Share.{Share}
use Rattle.machine.specs.declared.operation.Share.TheVariants.{Local, Inner, Outer}
use Rattle.machine.specs.declared.operation.Operation.{Operation}
use Rattle.machine.specs.Text.{bytes, decimal_of}
use Rattle.machine.specs.Word.{read_of, is_odd_pair}

abbrev pub name_text : Name → List ℕ
name_text RVAE1 = bytes "RVAE1"
name_text RVAAE1 = bytes "RVAAE1"
name_text RVALE1 = bytes "RVALE1"
name_text RVAALE1 = bytes "RVAALE1"
name_text RVAE2 = bytes "RVAE2"
name_text RVALE2 = bytes "RVALE2"
name_text RVAE3 = bytes "RVAE3"
name_text RVALE3 = bytes "RVALE3"
name_text RIPAS2E1 = bytes "RIPAS2E1"
name_text RIPAS2LE1 = bytes "RIPAS2LE1"

abbrev pub share_text : Share → List ℕ
share_text Local = []
share_text Inner = bytes "IS"
share_text Outer = bytes "OS"

-- NXS goes after the shareability
abbrev pub nxs_text : Bool → List ℕ
nxs_text nxs = cond nxs (bytes "NXS") []

abbrev pub kind_text : Bool → List ℕ
kind_text tlbip = cond tlbip (bytes " TLBIP ") (bytes " TLBI ")

-- "Register 31 prints XZR"
abbrev pub register_text : ℕ → List ℕ
register_text t = cond (eqb t 31) (bytes ", XZR") (bytes ", X" ++ decimal_of t)

-- "(Rt 31 twice for TLBIP)": the second register is the next one, and that of 31 is 31
abbrev pub second_text : Bool → ℕ → List ℕ
second_text tlbip t = cond tlbip (register_text (cond (eqb t 31) 31 (t + 1))) []

-- "Offsets are decimal.": an offset, TLBI or TLBIP, the name, the registers, and the line's end
unfoldable pub line_of : ℕ → Operation → List ℕ
line_of at op =
    decimal_of at
    ++ kind_text op.tlbip
    ++ name_text op.name
    ++ share_text op.share
    ++ nxs_text op.nxs
    ++ register_text op.rt
    ++ second_text op.tlbip op.rt
    ++ bytes "\n"

-- "SYSP with odd Rt below 31 isn't listed."
abbrev pub is_listed : Operation → Bool
is_listed op = not (is_odd_pair op)

-- the line of what a word is, at an offset (modulo 2^64), or nothing
abbrev pub shown_as : ℕ → Option Operation → List ℕ
shown_as at (Some op) = cond (is_listed op) (line_of (at % 2 ^ 64) op) []
shown_as at None = []

unfoldable pub line_at : ℕ → ℕ → List ℕ
line_at at w = shown_as at (read_of w)

-- "Reads A64 code ..., little-endian."
abbrev pub word_from : ℕ → ℕ → ℕ → ℕ → ℕ
word_from a b c d = a + 256 * (b + 256 * (c + 256 * d))

-- the lines of code that starts at an offset: a word after the other, and nothing for what is left over
unfoldable pub lines_of : ℕ → List ℕ → List ℕ
lines_of at [] = []
lines_of at (a ∷ []) = []
lines_of at (a ∷ b ∷ []) = []
lines_of at (a ∷ b ∷ c ∷ []) = []
lines_of at (a ∷ b ∷ c ∷ d ∷ code) = line_at at (word_from a b c d) ++ lines_of (at + 4) code

-- "tail 1"; "No tail line if none."
unfoldable pub tail_of : ℕ → List ℕ
tail_of n = cond (eqb n 0) [] (bytes "tail " ++ decimal_of n ++ bytes "\n")

-- the whole listing of a piece of code
unfoldable pub listing_of : List ℕ → List ℕ
listing_of code = lines_of 0 code ++ tail_of (length code % 4)

-- how many bytes of the code have room for their lines: whole words, up to the first whose line does not fit
unfoldable pub room_for : ℕ → List ℕ → ℕ → ℕ
room_for at [] room = 0
room_for at (a ∷ []) room = 0
room_for at (a ∷ b ∷ []) room = 0
room_for at (a ∷ b ∷ c ∷ []) room = 0
room_for at (a ∷ b ∷ c ∷ d ∷ code) room =
    cond (leb (length (line_at at (word_from a b c d))) room)
    (room_for (at + 4) code (room - length (line_at at (word_from a b c d))) + 4)
    0

-- what is written of the code into so much room
unfoldable pub written_of : ℕ → List ℕ → ℕ → List ℕ
written_of at code room = lines_of at (take (room_for at code room) code)

-- the tail line, where it fits
unfoldable pub tail_written : ℕ → ℕ → List ℕ
tail_written left room = cond (leb (length (tail_of left)) room) (tail_of left) []
