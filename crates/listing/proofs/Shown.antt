-- The line of a word, by what the word reads as; offsets count modulo 2^64.
use Rattle.std.proofs.Common.{◌≡◌, ℕ, ◌%◌, ◌^◌, ◌<◌, ◌≤◌, true, false, [], length, sym, refl, ap, mod-eq_of_lt, arith, le-leb}
use Rattle.std.specs.Prelude.{Option, Some, None}
use native.Mathlib.Nat.{mod-mod}
use native.Mathlib.Decide.{dec_le}
use borrow.Author.Tests.{lt-leb}
use Rattle.machine.specs.declared.operation.Operation.{Operation}
use Rattle.machine.specs.Word.{is_fixed, read_of}
use Rattle.machine.specs.Listing.{is_listed, line_of, shown_as, line_at, tail_of, tail_written}

pub line-listed : (at w : ℕ) (op : Operation) → read_of w ≡ Some op → is_listed op ≡ true → at < 2 ^ 64 → line_of at op ≡ line_at at w
unfolding line_at
line-listed at w op h l b = sym (rw (h, l) (ap (λ (k : ℕ). line_of k op) (mod-eq_of_lt b)))

pub line-unlisted : (at w : ℕ) (op : Operation) → read_of w ≡ Some op → is_listed op ≡ false → [] ≡ line_at at w
unfolding line_at
line-unlisted at w op h l = sym (rw (h, l))

pub line-unknown : (at w : ℕ) → read_of w ≡ None → [] ≡ line_at at w
unfolding line_at
line-unknown at w h = sym (rw h)

-- a word with other fixed bits has no line
pub line-loose : (at w : ℕ) → is_fixed w ≡ false → [] ≡ line_at at w
unfolding read_of
line-loose at w h = line-unknown at w (simp h)

-- an offset and what is left of it modulo 2^64 give the same line
pub line-mod : (at w : ℕ) → line_at (at % 2 ^ 64) w ≡ line_at at w
unfolding line_at
line-mod at w = same (read_of w)
  where
    same : (d : Option Operation) → shown_as (at % 2 ^ 64) d ≡ shown_as at d
    same (Some op) = simp (mod-mod at (2 ^ 64))
    same None = refl

-- the line of a word and an offset that were computed
pub line-here : {r w : ℕ} (at v : ℕ) → r ≡ at % 2 ^ 64 → w ≡ v → line_at r w ≡ line_at at v
line-here at v e f = rw (e, f) (line-mod at v)

-- the tail line is written just where it fits
pub tail-full : (left room : ℕ) → room < length (tail_of left) → tail_written left room ≡ []
unfolding tail_written
tail-full left room h = simp (lt-leb _ _ h)

pub tail-fits : (left room : ℕ) → length (tail_of left) ≤ room → tail_written left room ≡ tail_of left
unfolding tail_written
tail-fits left room h = simp (le-leb _ _ h)

pub tail_within : (left room : ℕ) → length (tail_written left room) ≤ room
tail_within left room = go (dec_le (length (tail_of left)) room)
  where
    go : Dec (length (tail_of left) ≤ room) → length (tail_written left room) ≤ room
    go (yes h) = rw (tail-fits left room h) h
    go (no h) =
        let l : room < length (tail_of left) = omega arith in
        rw (tail-full left room l) (omega arith)
