-- Code listed piece by piece gives the listing of the whole, however it is cut.
use Rattle.std.proofs.Common.{◌≡◌, ℕ, ◌+◌, ◌-◌, ◌%◌, ◌≤◌, Bool, true, false, cond, leb, List, [], ◌∷◌, ◌++◌, length, take, drop, sym, ap, ◌∙◌, append_assoc, add-zero, arith, take-append-drop, length-take-le}
use Rattle.machine.specs.Listing.{line_at, word_from, lines_of, room_for, written_of}

-- the lines of whole words, and then those of the rest
pub lines_cut : (at : ℕ) (a b : List ℕ) → length a % 4 ≡ 0 → lines_of at (a ++ b) ≡ lines_of at a ++ lines_of (at + length a) b
unfolding lines_of
lines_cut at [] b h = rw (add-zero at)
lines_cut at (w ∷ []) b h = absurd (omega arith)
lines_cut at (w ∷ x ∷ []) b h = absurd (omega arith)
lines_cut at (w ∷ x ∷ y ∷ []) b h = absurd (omega arith)
lines_cut at (w ∷ x ∷ y ∷ z ∷ a) b h =
    let next : at + 4 + length a ≡ at + length (w ∷ x ∷ y ∷ z ∷ a) = omega arith in
    ap (λ (l : List ℕ). line_at at (word_from w x y z) ++ l) (lines_cut (at + 4) a b (omega arith))
    ∙ sym (append_assoc (line_at at (word_from w x y z)) (lines_of (at + 4) a) (lines_of (at + 4 + length a) b))
    ∙ ap (λ (k : ℕ). line_at at (word_from w x y z) ++ lines_of (at + 4) a ++ lines_of k b) next

-- what has room is whole words of the code
pub room_whole : (at : ℕ) (code : List ℕ) (room : ℕ) → (room_for at code room % 4 ≡ 0) × (room_for at code room ≤ length code)
unfolding room_for
room_whole at [] room = omega arith
room_whole at (a ∷ []) room = omega arith
room_whole at (a ∷ b ∷ []) room = omega arith
room_whole at (a ∷ b ∷ c ∷ []) room = omega arith
room_whole at (a ∷ b ∷ c ∷ d ∷ code) room =
    go (leb (length (line_at at (word_from a b c d))) room) (room_whole (at + 4) code (room - length (line_at at (word_from a b c d))))
  where
    go : {r : ℕ} (t : Bool) → (r % 4 ≡ 0) × (r ≤ length code) →
        (cond t (r + 4) 0 % 4 ≡ 0) × (cond t (r + 4) 0 ≤ length (a ∷ b ∷ c ∷ d ∷ code))
    go true h = omega arith
    go false h = omega arith

-- what was written, and the lines of what is left, are the lines of the code
pub lines-resumed : (at : ℕ) (code : List ℕ) (room : ℕ) →
    lines_of at code ≡ written_of at code room ++ lines_of (at + room_for at code room) (drop (room_for at code room) code)
unfolding written_of
lines-resumed at code room =
    let u = room_for at code room in
    let w = room_whole at code room in
    let l : length (take u code) ≡ u = length-take-le u code w.1 in
    ap (lines_of at) (sym (take-append-drop u code))
    ∙ lines_cut at (take u code) (drop u code) (rw l w.0)
    ∙ ap (λ (k : ℕ). lines_of at (take u code) ++ lines_of (at + k) (drop u code)) l
