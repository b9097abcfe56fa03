-- No line is longer than 52 bytes, so that a buffer of 52 always has room for the next word.
use Rattle.std.proofs.Common.{◌≡◌, ℕ, ◌+◌, ◌-◌, ◌%◌, ◌^◌, ◌<◌, ◌≤◌, Bool, true, false, cond, eqb, List, [], ◌∷◌, ◌++◌, length, refl, arith, lit≤, length-append}
use Rattle.std.specs.Prelude.{Option, Some, None}
use native.Mathlib.Decide.{dec_le}
use Rattle.machine.specs.declared.operation.Name.{Name}
use Rattle.machine.specs.declared.operation.Name.TheVariants.{
  RVAE1,
  RVAAE1,
  RVALE1,
  RVAALE1,
  RVAE2,
  RVALE2,
  RVAE3,
  RVALE3,
  RIPAS2E1,
  RIPAS2LE1,
}
use Rattle.machine.specs.declared.operation.Share.{Share}
use Rattle.machine.specs.declared.operation.Share.TheVariants.{Local, Inner, Outer}
use Rattle.machine.specs.declared.operation.Operation.{Operation}
use Rattle.machine.specs.Text.{bytes, decimal_of}
use Rattle.machine.specs.Word.{read_of}
use Rattle.machine.specs.Listing.{name_text, share_text, nxs_text, kind_text, register_text, second_text, line_of, is_listed, shown_as, line_at, word_from, room_for, written_of}
use Rattle.text.proofs.Decimal.{decimal-few, decimal-two}
use Rattle.machine.proofs.Trip.{read-rt}
use Rattle.listing.proofs.Walk.{room-more, written-more, room-full, room-short, written_none}
use Rattle.listing.proofs.Pieces.{room_whole}
use Rattle.listing.specs.declared.code.Listed.{Listed}
use Rattle.listing.specs.Listed.{listed_of}

name-most : (n : Name) → length (name_text n) ≤ 9
name-most RVAE1 = lit≤ tt
name-most RVAAE1 = lit≤ tt
name-most RVALE1 = lit≤ tt
name-most RVAALE1 = lit≤ tt
name-most RVAE2 = lit≤ tt
name-most RVALE2 = lit≤ tt
name-most RVAE3 = lit≤ tt
name-most RVALE3 = lit≤ tt
name-most RIPAS2E1 = lit≤ tt
name-most RIPAS2LE1 = lit≤ tt

share-most : (s : Share) → length (share_text s) ≤ 2
share-most Local = lit≤ tt
share-most Inner = lit≤ tt
share-most Outer = lit≤ tt

nxs-most : (b : Bool) → length (nxs_text b) ≤ 3
nxs-most true = lit≤ tt
nxs-most false = lit≤ tt

kind-most : (b : Bool) → length (kind_text b) ≤ 7
kind-most true = lit≤ tt
kind-most false = lit≤ tt

register-most : (t : ℕ) → t < 100 → length (register_text t) ≤ 5
register-most t h = go (eqb t 31)
  where
    go : (b : Bool) → length (cond b (bytes ", XZR") (bytes ", X" ++ decimal_of t)) ≤ 5
    go true = lit≤ tt
    go false = simp length-append (omega (arith, decimal-two t h))

second-most : (b : Bool) (t : ℕ) → t < 32 → length (second_text b t) ≤ 5
second-most false t h = lit≤ tt
second-most true t h = go (eqb t 31)
  where
    go : (b : Bool) → length (register_text (cond b 31 (t + 1))) ≤ 5
    go true = register-most 31 (omega arith)
    go false = register-most (t + 1) (omega arith)

line-most : (at : ℕ) (op : Operation) → op.rt < 32 → length (line_of at op) ≤ 52
unfolding line_of
line-most at op h =
    simp length-append
    (omega (
      arith,
      decimal-few at,
      kind-most op.tlbip,
      name-most op.name,
      share-most op.share,
      nxs-most op.nxs,
      register-most op.rt (omega arith),
      second-most op.tlbip op.rt h,
    ))

-- whatever a word reads as
pub shown-most : (at w : ℕ) → length (line_at at w) ≤ 52
unfolding line_at
shown-most at w = go (read_of w) refl
  where
    go : (d : Option Operation) → read_of w ≡ d → length (shown_as at d) ≤ 52
    go None e = lit≤ tt
    go (Some op) e = pick (is_listed op)
      where
        pick : (b : Bool) → length (cond b (line_of (at % 2 ^ 64) op) []) ≤ 52
        pick true = line-most (at % 2 ^ 64) op (read-rt w op e)
        pick false = lit≤ tt

-- where there is a word and room for 52 bytes, the listing goes on
pub room-some : (at : ℕ) (code : List ℕ) (room : ℕ) → 4 ≤ length code → 52 ≤ room → 4 ≤ room_for at code room
room-some at [] room h l = absurd (omega arith)
room-some at (a ∷ []) room h l = absurd (omega arith)
room-some at (a ∷ b ∷ []) room h l = absurd (omega arith)
room-some at (a ∷ b ∷ c ∷ []) room h l = absurd (omega arith)
room-some at (a ∷ b ∷ c ∷ d ∷ code) room h l =
    let fits : length (line_at at (word_from a b c d)) ≤ room = omega (arith, shown-most at (word_from a b c d)) in
    rw (room-more at a b c d code room fits) (omega arith)

-- what is written fits
pub written-fits : (at : ℕ) (code : List ℕ) (room : ℕ) → length (written_of at code room) ≤ room
written-fits at [] room = rw (written_none at [] room (room-short at [] room (lit≤ tt))) (omega arith)
written-fits at (a ∷ []) room = rw (written_none at (a ∷ []) room (room-short at (a ∷ []) room (lit≤ tt))) (omega arith)
written-fits at (a ∷ b ∷ []) room = rw (written_none at (a ∷ b ∷ []) room (room-short at (a ∷ b ∷ []) room (lit≤ tt))) (omega arith)
written-fits at (a ∷ b ∷ c ∷ []) room = rw (written_none at (a ∷ b ∷ c ∷ []) room (room-short at (a ∷ b ∷ c ∷ []) room (lit≤ tt))) (omega arith)
written-fits at (a ∷ b ∷ c ∷ d ∷ code) room =
    go (dec_le (length (line_at at (word_from a b c d))) room) (written-fits (at + 4) code (room - length (line_at at (word_from a b c d))))
  where
    go : Dec (length (line_at at (word_from a b c d)) ≤ room) →
        length (written_of (at + 4) code (room - length (line_at at (word_from a b c d)))) ≤ room - length (line_at at (word_from a b c d)) →
        length (written_of at (a ∷ b ∷ c ∷ d ∷ code) room) ≤ room
    go (yes h) rest = rw (written-more at a b c d code room h, length-append) (omega arith)
    go (no h) rest =
        let l : room < length (line_at at (word_from a b c d)) = omega arith in
        rw (written_none at (a ∷ b ∷ c ∷ d ∷ code) room (room-full at a b c d code room l)) (omega arith)

-- what a listing answers where there is a word and room for 52 bytes
pub record Progress (code : List ℕ) (room : ℕ) (r : Listed) : Type 0 where
  pub some : 4 ≤ r.used
  pub within : r.used ≤ length code
  pub fits : r.written ≤ room

pub progress : {r : Listed} (at : ℕ) (code : List ℕ) (room : ℕ) → r ≡ listed_of at code room → 4 ≤ length code → 52 ≤ room → Progress code room r
unfolding listed_of
progress at code room e h l =
    rw e (record { some = room-some at code room h l; within = (room_whole at code room).1; fits = written-fits at code room })
