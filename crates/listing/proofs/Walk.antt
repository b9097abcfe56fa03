-- The walk over a piece of code: what is done of it and what is left make the whole, at every word.
use Rattle.std.proofs.Common.{◌≡◌, ℕ, zero, suc, ◌+◌, ◌-◌, ◌*◌, ◌/◌, ◌<◌, ◌≤◌, List, [], ◌∷◌, ◌++◌, length, get_or, take, drop, sym, refl, ap, ◌∙◌, append_assoc, append-nil, add-zero, zero-add, add-one, arith, length-drop, take-append-drop, length-take-le, drop-cons, drop-drop, le-leb}
use native.Mathlib.Nat.{sub-zero}
use native.Mathlib.Numerals.{add-two, add-three, add-four}
use borrow.Author.Tests.{lt-leb}
use Rattle.std.specs.Int.{w32, from_le_bytes}
use Rattle.std.specs.Simd.{first_chunks}
use Rattle.machine.specs.Listing.{line_at, word_from, lines_of, room_for, written_of}
use Rattle.text.specs.Put.{Put}
use Rattle.text.proofs.Put.{put-length, put_front, put_rest}
use Rattle.listing.specs.Listed.{listed_of, word_at}

-- the word at i and what is behind it
four : (code : List ℕ) (i : ℕ) → i + 4 ≤ length code →
    drop i code ≡ get_or code i 0 ∷ get_or code (i + 1) 0 ∷ get_or code (i + 2) 0 ∷ get_or code (i + 3) 0 ∷ drop (i + 4) code
four code i h =
    let h0 : i < length code = omega arith in
    let h1 : suc i < length code = omega arith in
    let h2 : suc (suc i) < length code = omega arith in
    let h3 : suc (suc (suc i)) < length code = omega arith in
    rw (add-one i, add-two i, add-three i, add-four i, drop-cons code i 0 h0, drop-cons code (suc i) 0 h1, drop-cons code (suc (suc i)) 0 h2, drop-cons code (suc (suc (suc i))) 0 h3)

-- the chunk of four bytes at place k
chunk-at : (n k : ℕ) (code : List ℕ) → k < n → get_or (first_chunks 4 n code) k [] ≡ take 4 (drop (4 * k) code)
chunk-at zero k code h = absurd (omega arith)
chunk-at (suc n) zero code h = refl
chunk-at (suc n) (suc k) code h =
    let next : 4 + 4 * k ≡ 4 * suc k = omega arith in
    chunk-at n k (drop 4 code) (omega arith) ∙ ap (take 4) (drop-drop (4 * k) 4 code ∙ ap (λ (i : ℕ). drop i code) next)

module _ (code : List ℕ) (chunks : List (List ℕ)) (k i : ℕ)
    (chunked : chunks ≡ first_chunks 4 (length code / 4) code) (count : length chunks ≡ length code / 4) (place : i ≡ 4 * k) where
  -- it stands in the code
  pub chunk-within : k < length chunks → i + 4 ≤ length code
  chunk-within h = omega arith

  -- as a number, its lowest byte first, it is the word there
  pub chunk-word : k < length chunks → from_le_bytes w32 (get_or chunks k []) ≡ word_at code i
  chunk-word h =
      let same : get_or chunks k [] ≡ take 4 (drop i code) = rw (chunked, place) (chunk-at (length code / 4) k code (omega arith)) in
      rw (same, four code i (omega arith)) (omega arith)

module _ (at : ℕ) (a b c d : ℕ) (code : List ℕ) (room : ℕ) where
  -- a word whose line fits is listed, and then the rest in the room that is left
  pub room-more : length (line_at at (word_from a b c d)) ≤ room →
      room_for at (a ∷ b ∷ c ∷ d ∷ code) room ≡ room_for (at + 4) code (room - length (line_at at (word_from a b c d))) + 4
  unfolding room_for
  room-more h = simp (le-leb _ _ h)

  pub written-more : length (line_at at (word_from a b c d)) ≤ room →
      written_of at (a ∷ b ∷ c ∷ d ∷ code) room
      ≡ line_at at (word_from a b c d) ++ written_of (at + 4) code (room - length (line_at at (word_from a b c d)))
  unfolding written_of lines_of
  written-more h = rw (room-more h, add-four)

  -- a word whose line does not fit ends the listing
  pub room-full : room < length (line_at at (word_from a b c d)) → room_for at (a ∷ b ∷ c ∷ d ∷ code) room ≡ 0
  unfolding room_for
  room-full h = simp (lt-leb _ _ h)

-- fewer than four bytes are no word
pub room-short : (at : ℕ) (code : List ℕ) (room : ℕ) → length code < 4 → room_for at code room ≡ 0
unfolding room_for
room-short at [] room h = refl
room-short at (a ∷ []) room h = refl
room-short at (a ∷ b ∷ []) room h = refl
room-short at (a ∷ b ∷ c ∷ []) room h = refl
room-short at (a ∷ b ∷ c ∷ d ∷ code) room h = absurd (omega arith)

pub written_none : (at : ℕ) (code : List ℕ) (room : ℕ) → room_for at code room ≡ 0 → written_of at code room ≡ []
unfolding written_of lines_of
written_none at code room h = rw h

-- i bytes of the code are done, n bytes of text stand in the buffer
pub record Walk (at : ℕ) (code start out : List ℕ) (i n : ℕ) : Type 0 where
  pub within : i ≤ length code
  pub room : n ≤ length start
  pub same : length out ≡ length start
  pub used : room_for at code (length start) ≡ i + room_for (at + i) (drop i code) (length start - n)
  pub text : written_of at code (length start) ≡ take n out ++ written_of (at + i) (drop i code) (length start - n)
  pub rest : drop n out ≡ drop n start

pub begin : (at : ℕ) (code start : List ℕ) → Walk at code start start 0 0
begin at code start =
    record {
      within = omega arith;
      room = omega arith;
      same = refl;
      used = simp (add-zero, zero-add, sub-zero);
      text = simp (add-zero, sub-zero);
      rest = refl;
    }

module _ {at : ℕ} {code start out : List ℕ} {i n : ℕ} (w : Walk at code start out i n) where
  -- the line of the next word is put
  pub onward : {more : List ℕ} {m k : ℕ} → i + 4 ≤ length code → Put out n more m (line_at (at + i) (word_at code i)) k → Walk at code start more (i + 4) m
  onward {more} {m} h p =
      record {
        within = h;
        room = omega (arith, w.same, p.fits);
        same = put-length p ∙ w.same;
        used =
            w.used
            ∙ ap (λ (l : List ℕ). i + room_for (at + i) l left) (four code i h)
            ∙ ap (λ (k : ℕ). i + k) (room-more (at + i) w0 w1 w2 w3 after left fits)
            ∙ rw (shorter, next) (omega arith);
        text =
            w.text
            ∙ ap (λ (l : List ℕ). take n out ++ written_of (at + i) l left) (four code i h)
            ∙ ap (λ (l : List ℕ). take n out ++ l) (written-more (at + i) w0 w1 w2 w3 after left fits)
            ∙ rw (shorter, next) (sym (append_assoc (take n out) t (written_of (at + (i + 4)) after (length start - m))))
            ∙ ap (λ (l : List ℕ). l ++ written_of (at + (i + 4)) after (length start - m)) (sym (put_front p));
        rest =
            put_rest p
            ∙ rw p.end (sym (drop-drop (length t) n out) ∙ ap (drop (length t)) w.rest ∙ drop-drop (length t) n start);
      }
    where
      t : List ℕ
      t = line_at (at + i) (word_at code i)

      w0 : ℕ
      w0 = get_or code i 0

      w1 : ℕ
      w1 = get_or code (i + 1) 0

      w2 : ℕ
      w2 = get_or code (i + 2) 0

      w3 : ℕ
      w3 = get_or code (i + 3) 0

      after : List ℕ
      after = drop (i + 4) code

      left : ℕ
      left = length start - n

      fits : length t ≤ left
      fits = omega (arith, w.same, p.fits, p.end)

      shorter : left - length t ≡ length start - m
      shorter = omega (arith, p.end)

      next : at + i + 4 ≡ at + (i + 4)
      next = omega arith

  -- there is no next word, or no room for its line
  pub halted : room_for (at + i) (drop i code) (length start - n) ≡ 0 →
      (record { used = i; written = n } ≡ listed_of at code (length start)) × (out ≡ written_of at code (length start) ++ drop n start)
  unfolding listed_of
  halted h =
      let used : room_for at code (length start) ≡ i = w.used ∙ rw h (add-zero i) in
      let text : written_of at code (length start) ≡ take n out =
      w.text ∙ ap (λ (l : List ℕ). take n out ++ l) (written_none (at + i) (drop i code) (length start - n) h) ∙ append-nil (take n out) in
      let low : n ≤ length out = omega (arith, w.same, w.room) in (
        rw (used, text, length-take-le n out low),
        rw (text, ← w.rest) (sym (take-append-drop n out)),
      )

  -- fewer than four bytes are left
  pub short : length code - i < 4 → room_for (at + i) (drop i code) (length start - n) ≡ 0
  short h = room-short (at + i) (drop i code) (length start - n) (simp length-drop h)

  -- the next line is longer than what is left of the buffer
  pub full : i + 4 ≤ length code → length out - n < length (line_at (at + i) (word_at code i)) → room_for (at + i) (drop i code) (length start - n) ≡ 0
  full h l =
      let less : length start - n < length (line_at (at + i) (word_at code i)) = omega (arith, w.same) in
      ap (λ (d : List ℕ). room_for (at + i) d (length start - n)) (four code i h)
      ∙ room-full (at + i) (get_or code i 0) (get_or code (i + 1) 0) (get_or code (i + 2) 0) (get_or code (i + 3) 0) (drop (i + 4) code) (length start - n) less
