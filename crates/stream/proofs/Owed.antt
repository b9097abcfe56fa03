-- What a writer is owed of a listing, and what it is still owed when some of it is written.
use Rattle.std.proofs.Common.{◌≡◌, ℕ, ◌+◌, ◌-◌, ◌%◌, ◌^◌, ◌<◌, ◌≤◌, List, [], ◌∷◌, ◌++◌, length, take, drop, refl, sym, ap, ap₂, ◌∙◌, append_assoc, append-nil, zero-add, subst, arith, lit≤, Bool, true, false, cond, eqb, length-take, length-drop, length-append, length-take-le, take-append-drop}
use Rattle.std.specs.Prelude.{Option, Some, None, ⊤, IfSome, Result, Ok, Err, MatchResult, OnOk, is_ok}
use Rattle.laws.proofs.Truth.{clash}
use Rattle.std.specs.Io.KnownBytes.{Appends, Consumes, IsAtEnd}
use Rattle.std.proofs.lemmas.List.{take_at, take_rest, drop-take}
use Rattle.std.proofs.Math.Seq.{take-add, paste}
use Rattle.std.proofs.lemmas.List.Edits.{take-paste}
use Rattle.machine.specs.Listing.{word_from, lines_of, tail_of, room_for, written_of}
use Rattle.machine.specs.Text.{bytes, decimal_of}
use Rattle.text.proofs.Decimal.{decimal-few}
use Rattle.listing.specs.Listed.{listed_of}
use Rattle.listing.specs.declared.code.Listed.{Listed}
use Rattle.listing.proofs.Pieces.{lines_cut, lines-resumed, room_whole}
use Rattle.listing.proofs.Shown.{line-mod}
use Rattle.stream.specs.Whole.{listing_from, Owes, Moves}

pub owes-all : (o : Option (List ℕ)) (a : List ℕ) → Owes o o a a
owes-all None a = tt
owes-all (Some xs) a = refl

-- a part of what is owed is written
pub owes-less : (o m n : Option (List ℕ)) (a t b : List ℕ) → Owes o m a (t ++ b) → Appends m n t → Owes o n a b
owes-less None m n a t b h p = tt
owes-less (Some xs) None n a t b h p = absurd h
owes-less (Some xs) (Some ys) None a t b h p = absurd p
owes-less (Some xs) (Some ys) (Some zs) a t b h p = h ∙ sym (append_assoc ys t b) ∙ ap (λ (l : List ℕ). l ++ b) (sym p)

-- all of it is written
pub owes-none : (o m : Option (List ℕ)) (a : List ℕ) → Owes o m a [] → Appends o m a
owes-none None m a h = tt
owes-none (Some xs) None a h = absurd h
owes-none (Some xs) (Some ys) a h = sym (h ∙ append-nil ys)

-- fewer than four bytes have no line
pub lines-short : (at : ℕ) (code : List ℕ) → length code < 4 → lines_of at code ≡ []
unfolding lines_of
lines-short at [] h = refl
lines-short at (a ∷ []) h = refl
lines-short at (a ∷ b ∷ []) h = refl
lines-short at (a ∷ b ∷ c ∷ []) h = refl
lines-short at (a ∷ b ∷ c ∷ d ∷ code) h = absurd (omega arith)

-- an offset and what is left of it modulo 2^64 give the same lines
pub lines-mod : (at : ℕ) (code : List ℕ) → lines_of (at % 2 ^ 64) code ≡ lines_of at code
unfolding lines_of
lines-mod at [] = refl
lines-mod at (a ∷ []) = refl
lines-mod at (a ∷ b ∷ []) = refl
lines-mod at (a ∷ b ∷ c ∷ []) = refl
lines-mod at (a ∷ b ∷ c ∷ d ∷ code) =
    let same : (at % 2 ^ 64 + 4) % 2 ^ 64 ≡ (at + 4) % 2 ^ 64 = omega arith in
    ap₂ ◌++◌ (line-mod at (word_from a b c d))
    (sym (lines-mod (at % 2 ^ 64 + 4) code) ∙ ap (λ (k : ℕ). lines_of k code) same ∙ lines-mod (at + 4) code)

module _ {r : Listed} {out : List ℕ} (at : ℕ) (code old : List ℕ) (value : r ≡ listed_of at code (length old))
    (after : out ≡ written_of at code (length old) ++ drop r.written old) where
  -- what a piece's listing wrote, and the lines of what it left, are the lines of the piece
  pub lines-listed : lines_of at code ≡ take r.written out ++ lines_of ((at + r.used) % 2 ^ 64) (take (length code - r.used) (drop r.used code))
  unfolding listed_of
  lines-listed =
      let u : ℕ = room_for at code (length old) in
      let w : List ℕ = written_of at code (length old) in
      let used : r.used ≡ u = ap (λ (x : Listed). x.used) value in
      let written : r.written ≡ length w = ap (λ (x : Listed). x.written) value in
      let text : take (length w) out ≡ w = ap (take (length w)) after ∙ take_at w (drop r.written old) (length w) refl in
      let rest : take (length code - u) (drop u code) ≡ drop u code = take_rest code u in
      rw (used, written, text, rest, lines-mod (at + u) (drop u code)) (lines-resumed at code (length old))

  -- what is left has as many bytes behind its last word
  pub left-listed : length (take (length code - r.used) (drop r.used code)) % 4 ≡ length code % 4
  unfolding listed_of
  left-listed =
      let u : ℕ = room_for at code (length old) in
      let used : r.used ≡ u = ap (λ (x : Listed). x.used) value in
      let whole = room_whole at code (length old) in
      rw (used, length-take, length-drop) (omega (arith, whole))

pub owes-on : (o m n : Option (List ℕ)) (a b c : List ℕ) → Owes o m a b → Owes m n b c → Owes o n a c
owes-on None m n a b c h p = tt
owes-on (Some xs) None n a b c h p = absurd h
owes-on (Some xs) (Some ys) None a b c h p = absurd p
owes-on (Some xs) (Some ys) (Some zs) a b c h p = h ∙ p

-- a piece is listed up to its last word, and what is kept of it stands before what follows
pub listing-moved : (at u : ℕ) (piece kept ys : List ℕ) → u % 4 ≡ 0 → u ≤ length piece → kept ≡ drop u piece → length kept < 4 →
    listing_from at (piece ++ ys) ≡ lines_of at piece ++ listing_from ((at + u) % 2 ^ 64) (kept ++ ys)
listing-moved at u piece kept ys whole low same few =
    rw (lines-mod (at + u) (kept ++ ys), left)
    (ap (λ (l : List ℕ). l ++ tail_of (length (kept ++ ys) % 4)) lines
    ∙ append_assoc (lines_of at piece) (lines_of (at + u) (kept ++ ys)) (tail_of (length (kept ++ ys) % 4)))
  where
    words : List ℕ
    words = take u piece

    long : length words ≡ u
    long = length-take-le u piece low

    parts : piece ≡ words ++ kept
    parts = sym (ap (λ (l : List ℕ). words ++ l) same ∙ take-append-drop u piece)

    left : length (piece ++ ys) % 4 ≡ length (kept ++ ys) % 4
    left = rw (length-append, length-append, ap length same, length-drop) (omega (arith, whole, low))

    alone : lines_of at piece ≡ lines_of at words
    alone =
        ap (lines_of at) parts
        ∙ lines_cut at words kept (rw long whole)
        ∙ ap (λ (l : List ℕ). lines_of at words ++ l) (lines-short (at + length words) kept few)
        ∙ append-nil (lines_of at words)

    lines : lines_of at (piece ++ ys) ≡ lines_of at piece ++ lines_of (at + u) (kept ++ ys)
    lines =
        ap (λ (l : List ℕ). lines_of at (l ++ ys)) parts
        ∙ ap (lines_of at) (append_assoc words kept ys)
        ∙ lines_cut at words (kept ++ ys) (rw long whole)
        ∙ ap (λ (k : ℕ). lines_of at words ++ lines_of (at + k) (kept ++ ys)) long
        ∙ ap (λ (l : List ℕ). l ++ lines_of (at + u) (kept ++ ys)) (sym alone)

pub moves : (known left old new : Option (List ℕ)) (at u : ℕ) (held bs piece kept : List ℕ) →
    Consumes known left bs → 0 < length bs → Appends old new (lines_of at piece) → piece ≡ held ++ bs →
    u % 4 ≡ 0 → u ≤ length piece → kept ≡ drop u piece → length kept < 4 →
    Moves known left old new at ((at + u) % 2 ^ 64) held kept
moves None left old new at u held bs piece kept given some written parts whole low same few = tt
moves (Some xs) None old new at u held bs piece kept given some written parts whole low same few = absurd given
moves (Some xs) (Some ys) old new at u held bs piece kept given some written parts whole low same few =
    let all : held ++ xs ≡ piece ++ ys = ap (λ (l : List ℕ). held ++ l) given ∙ sym (append_assoc held bs ys) ∙ ap (λ (l : List ℕ). l ++ ys) (sym parts) in
    let e : listing_from at (held ++ xs) ≡ lines_of at piece ++ listing_from ((at + u) % 2 ^ 64) (kept ++ ys) =
    ap (listing_from at) all ∙ listing-moved at u piece kept ys whole low same few in (
      owes-less old old new (listing_from at (held ++ xs)) (lines_of at piece) (listing_from ((at + u) % 2 ^ 64) (kept ++ ys))
          (subst (λ (l : List ℕ). Owes old old (listing_from at (held ++ xs)) l) e (owes-all old (listing_from at (held ++ xs)))) written,
      rw (given, length-append) (omega (arith, some)),
    )

-- what a listing has come to after so many turns, each of which had a byte at least
abbrev pub Going : Option (List ℕ) → Option (List ℕ) → Option (List ℕ) → Option (List ℕ) → ℕ → ℕ → List ℕ → ℕ → Type 0
Going None left old new at next kept turns = ⊤
Going (Some xs) None old new at next kept turns = ⊥
Going (Some xs) (Some ys) old new at next kept turns = Owes old new (listing_from at xs) (listing_from next (kept ++ ys)) × (turns + length ys ≤ length xs)

pub going-from : (known old : Option (List ℕ)) (at : ℕ) → Going known known old old at at [] 0
going-from None old at = tt
going-from (Some xs) old at = (owes-all old (listing_from at xs), omega arith)

pub going-on : (known left rest old new out : Option (List ℕ)) (at next then : ℕ) (kept held : List ℕ) (turns : ℕ) →
    Going known left old new at next kept turns → Moves left rest new out next then kept held → Going known rest old out at then held (turns + 1)
going-on None left rest old new out at next then kept held turns h m = tt
going-on (Some xs) None rest old new out at next then kept held turns h m = absurd h
going-on (Some xs) (Some ys) None old new out at next then kept held turns h m = absurd m
going-on (Some xs) (Some ys) (Some zs) old new out at next then kept held turns h m =
    (owes-on old new out (listing_from at xs) (listing_from next (kept ++ ys)) (listing_from then (held ++ zs)) h.0 m.0, omega (arith, h.1, m.1))

-- the reader has nothing left, and the tail line is written
pub going-done : (known left old new out : Option (List ℕ)) (at next : ℕ) (kept : List ℕ) (turns : ℕ) →
    Going known left old new at next kept turns → IsAtEnd left → length kept < 4 → Appends new out (tail_of (length kept)) →
    IfSome known (λ code. length code + 1 < 2 ^ 64 → Appends old out (listing_from at code))
going-done None left old new out at next kept turns h e few p = tt
going-done (Some xs) None old new out at next kept turns h e few p = absurd h
going-done (Some xs) (Some ys) old new out at next kept turns h e few p =
    λ b. owes-none old out (listing_from at xs)
    (owes-less old new out (listing_from at xs) (tail_of (length kept)) []
    (subst (λ (l : List ℕ). Owes old new (listing_from at xs) l) tail h.0) p)
  where
    tail : listing_from next (kept ++ ys) ≡ tail_of (length kept) ++ []
    tail =
        let small : length kept % 4 ≡ length kept = omega arith in
        rw (e, append-nil kept, lines-short next kept few, small) (sym (append-nil (tail_of (length kept))))

-- no code has as many bytes as there are turns
pub going-over : (known left old new : Option (List ℕ)) (at next : ℕ) (kept : List ℕ) (turns : ℕ) →
    Going known left old new at next kept turns → 2 ^ 64 ≤ turns + 1 →
    IfSome known (λ code. length code + 1 < 2 ^ 64 → Appends old new (listing_from at code))
going-over None left old new at next kept turns h l = tt
going-over (Some xs) None old new at next kept turns h l = absurd h
going-over (Some xs) (Some ys) old new at next kept turns h l = λ b. absurd (omega (arith, h.1, l, b))

-- the tail line has at most 26 bytes
pub tail-most : (n : ℕ) → length (tail_of n) ≤ 26
unfolding tail_of
tail-most n = go (eqb n 0)
  where
    go : (b : Bool) → length (cond b [] (bytes "tail " ++ decimal_of n ++ bytes "\n")) ≤ 26
    go true = lit≤ tt
    go false = simp length-append (omega (arith, decimal-few n))

-- an answer that is Ok with its error turned into another was so before
pub mapped : {A E D : Type 0} (G : E → Type 0) (r : Result A E) (s : Result A D) (x : A) → MatchResult r (λ y. s ≡ Ok y) G → is_ok s ≡ is_ok r → s ≡ Ok x → r ≡ Ok x
mapped {A} {E} {D} G (Ok y) s x h v e = ap (λ (z : A). Ok z) (ap worth (sym h ∙ e))
  where
    worth : Result A D → A
    worth (Ok z) = z
    worth (Err d) = x
mapped G (Err d) s x h v e = clash (ap is_ok e) v

pub mapped-ok : {A B C D : Type 0} {P Q : Type 0} (r : Result A C) (s : Result B D) → is_ok s ≡ is_ok r → (P → Q) → OnOk r P → OnOk s Q
mapped-ok (Ok y) (Ok x) v f h = f h
mapped-ok (Err d) (Ok x) v f h = clash refl v
mapped-ok (Ok y) (Err e) v f h = tt
mapped-ok (Err d) (Err e) v f h = tt

-- what is copied to the front stands there
pub moved-front : {after : List ℕ} (code : List ℕ) (i j k : ℕ) → after ≡ paste code 0 (drop i code) (j - i) → i + k ≡ j → j ≤ length code →
    take k after ≡ take k (drop i code)
moved-front code i j k e sum low =
    let same : j - i ≡ k = omega arith in
    rw (e, same)
    (ap (λ (n : ℕ). take n (paste code 0 (drop i code) k)) (sym (zero-add k))
    ∙ take-paste code 0 (drop i code) k (omega arith) (rw length-drop (omega (arith, sum, low))))

-- a piece that was read behind the bytes held over is listed, and its rest moved to the front
pub piece-moves : (known given old new : Option (List ℕ)) (at : ℕ) (before code after : List ℕ) (held read left kept : ℕ) →
    held + read ≤ length code → 0 < read → take held code ≡ take held before →
    Consumes known given (take read (drop held code)) → Appends old new (lines_of at (take (held + read) code)) →
    left ≡ length (take (held + read) code) % 4 → (held + read - left) + kept ≡ held + read →
    take kept after ≡ take kept (drop (held + read - left) code) →
    Moves known given old new at ((at + (held + read - left)) % 2 ^ 64) (take held before) (take kept after)
piece-moves known given old new at before code after held read left kept low some same bytes written over sum moved =
    moves known given old new at (held + read - left) (take held before) (take read (drop held code)) (take (held + read) code) (take kept after) bytes
    (rw (length-take, length-drop) (omega (arith, low, some)))
    written
    (take-add held read code ∙ ap (λ (l : List ℕ). l ++ take read (drop held code)) same)
    (omega (arith, over, long))
    (omega (arith, long))
    (moved ∙ sym (drop-take (held + read - left) kept code) ∙ ap (λ (k : ℕ). drop (held + read - left) (take k code)) sum)
    (rw length-take (omega (arith, sum, over, long)))
  where
    long : length (take (held + read) code) ≡ held + read
    long = length-take-le (held + read) code low
