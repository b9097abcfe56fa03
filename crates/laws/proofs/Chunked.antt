-- A list of numbers in slots of three, as a list of such slots: what is said of the one by the other.
use Rattle.std.proofs.Common.{bit_and, ◌≡◌, ℕ, zero, suc, ◌+◌, ◌*◌, ◌-◌, ◌/◌, ◌%◌, ◌<◌, ◌≤◌, Bool, true, false, cond, not, List, [], ◌∷◌, length, drop, get_or, count_by, slice_index, refl, sym, ap, ◌∙◌, arith, length-drop}
use Rattle.std.proofs.lemmas.List.{get_or-drop}
use Rattle.std.proofs.lemmas.List.Sums.{sum_by-cons, prefix_len-le-length, fails_before_first}
use Rattle.std.specs.List.{position, position_or_len}
use Rattle.std.specs.Simd.{first_chunks}
use borrow.Author.Tests.{eqb-false}
pub use Rattle.laws.specs.Chunks.{chunks, on_slot}
use Rattle.laws.specs.Chunks.{has_key}
use Rattle.laws.specs.Passed.{Passed}
use Rattle.laws.specs.Slots.{count, first, first_slot}

-- one slot more
div-three : (n : ℕ) → suc (suc (suc n)) / 3 ≡ suc (n / 3)
div-three n = omega arith

length-first_chunks : (k : ℕ) (l : List ℕ) → length (first_chunks 3 k l) ≡ k
length-first_chunks zero l = refl
length-first_chunks (suc k) [] = ap suc (length-first_chunks k [])
length-first_chunks (suc k) (a ∷ []) = ap suc (length-first_chunks k [])
length-first_chunks (suc k) (a ∷ b ∷ []) = ap suc (length-first_chunks k [])
length-first_chunks (suc k) (a ∷ b ∷ c ∷ l) = ap suc (length-first_chunks k l)

pub count-chunks : (p : ℕ → ℕ → ℕ → Bool) (l : List ℕ) → count p l ≡ count_by (on_slot p) (chunks l)
unfolding count
count-chunks p [] = refl
count-chunks p (a ∷ []) = refl
count-chunks p (a ∷ b ∷ []) = refl
count-chunks p (a ∷ b ∷ c ∷ l) =
    rw (div-three (length l))
    (ap (λ (n : ℕ). cond (p a b c) 1 0 + n) (count-chunks p l) ∙ sym (sum_by-cons (λ x. cond (on_slot p x) 1 0) (a ∷ b ∷ c ∷ []) (chunks l)))

or_next : (b : Bool) (m n : ℕ) → m ≡ n → cond b 0 (suc m) ≡ cond (not b) (1 + n) 0
or_next true m n e = refl
or_next false m n e = omega arith

pub first-chunks : (p : ℕ → ℕ → ℕ → Bool) (l : List ℕ) → first p l ≡ position_or_len (on_slot p) (chunks l)
unfolding first
first-chunks p [] = refl
first-chunks p (a ∷ []) = refl
first-chunks p (a ∷ b ∷ []) = refl
first-chunks p (a ∷ b ∷ c ∷ l) = rw (div-three (length l)) (or_next (p a b c) _ _ (first-chunks p l))

pub first_slot-chunks : (p : ℕ → ℕ → ℕ → Bool) (l : List ℕ) → first_slot p l ≡ position (on_slot p) (chunks l)
first_slot-chunks p l = rw (length-first_chunks (length l / 3) l, ← first-chunks p l) refl

-- the second word of a slot
chunk_tag : (n k : ℕ) (l : List ℕ) → k < n → 3 * n ≤ length l → slice_index (get_or (first_chunks 3 n l) k []) 1 ≡ get_or l (3 * k + 1) 0
chunk_tag zero k l h m = absurd (omega arith)
chunk_tag (suc n) k [] h m = absurd (omega arith)
chunk_tag (suc n) k (a ∷ []) h m = absurd (omega arith)
chunk_tag (suc n) k (a ∷ b ∷ []) h m = absurd (omega arith)
chunk_tag (suc n) zero (a ∷ b ∷ c ∷ l) h m = refl
chunk_tag (suc n) (suc k) (a ∷ b ∷ c ∷ l) h m =
    let e : suc (suc (suc (3 * k + 1))) ≡ 3 * suc k + 1 = omega arith in
    chunk_tag n k l (omega arith) (omega arith) ∙ ap (λ (j : ℕ). get_or (a ∷ b ∷ c ∷ l) j 0) e

-- slots without the key are passed, as far as the first that has it
pub passed-to : (mask key : ℕ) (l : List ℕ) (i : ℕ) → length l % 3 ≡ 0 → i % 3 ≡ 0 → i < length l →
    Passed mask key l i (i + 3 * position_or_len (on_slot (has_key mask key)) (chunks (drop (i + 3) l)))
passed-to mask key l i whole at low =
    record { from = omega arith; inside = omega (arith, most, long); whole = omega (arith, at); others = others }
  where
    test : List ℕ → Bool
    test = on_slot (has_key mask key)

    behind : List ℕ
    behind = drop (i + 3) l

    r : ℕ
    r = position_or_len test (chunks behind)

    long : length behind ≡ length l - (i + 3)
    long = length-drop (i + 3) l

    most : r ≤ length behind / 3
    most = omega (arith, prefix_len-le-length (λ (s : List ℕ). not (test s)) (chunks behind), length-first_chunks (length behind / 3) behind)

    others : (j : ℕ) → i < j → j ≤ i + 3 * r → j % 3 ≡ 0 → bit_and (get_or l (j + 1) 0) mask ≡ key → ⊥
    others j a b m e =
        let k : ℕ = j / 3 - i / 3 - 1 in
        let here : i + 3 + (3 * k + 1) ≡ j + 1 = omega arith in
        let less : k < r = omega arith in
        let word : slice_index (get_or (chunks behind) k []) 1 ≡ get_or l (j + 1) 0 =
        chunk_tag (length behind / 3) k behind (omega (arith, most, less)) (omega arith) ∙ get_or-drop (i + 3) l (3 * k + 1) 0 ∙ ap (λ (x : ℕ). get_or l x 0) here in
        eqb-false (bit_and (slice_index (get_or (chunks behind) k []) 1) mask) key (fails_before_first test (chunks behind) k [] less)
        (ap (λ (x : ℕ). bit_and x mask) word ∙ e)

pub ruleset chunked = (count-chunks, first_slot-chunks)

-- the words of a slot
pub step-words : (n k : ℕ) (l : List ℕ) → k < n → 3 * n ≤ length l →
    get_or (first_chunks 3 n l) k [] ≡ (get_or l (3 * k) 0 ∷ get_or l (3 * k + 1) 0 ∷ get_or l (3 * k + 2) 0 ∷ [])
step-words zero k l h m = absurd (omega arith)
step-words (suc n) k [] h m = absurd (omega arith)
step-words (suc n) k (a ∷ []) h m = absurd (omega arith)
step-words (suc n) k (a ∷ b ∷ []) h m = absurd (omega arith)
step-words (suc n) zero (a ∷ b ∷ c ∷ l) h m = refl
step-words (suc n) (suc k) (a ∷ b ∷ c ∷ l) h m =
    let w = a ∷ b ∷ c ∷ l in
    let e : suc (suc (suc (3 * k))) ≡ 3 * suc k = omega arith in
    let f : suc (suc (suc (3 * k + 1))) ≡ 3 * suc k + 1 = omega arith in
    let g : suc (suc (suc (3 * k + 2))) ≡ 3 * suc k + 2 = omega arith in
    step-words n k l (omega arith) (omega arith)
    ∙ ap (λ (j : ℕ). get_or w j 0 ∷ get_or l (3 * k + 1) 0 ∷ get_or l (3 * k + 2) 0 ∷ []) e
    ∙ ap (λ (j : ℕ). get_or w (3 * suc k) 0 ∷ get_or w j 0 ∷ get_or l (3 * k + 2) 0 ∷ []) f
    ∙ ap (λ (j : ℕ). get_or w (3 * suc k) 0 ∷ get_or w (3 * suc k + 1) 0 ∷ get_or w j 0 ∷ []) g
