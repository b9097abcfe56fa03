-- Lists as slots of three: the slots that a test holds at cleared and counted, by a loop over them and word by word.
use Prim.Native.Nat.{ℕ, zero, suc, ◌+◌, ◌*◌, ◌/◌, ◌%◌, ◌<◌, ◌≤◌}
use mathlib.Core.Bool.{Bool, true, false, cond, ◌&&◌, ◌||◌}
use mathlib.Core.List.{List, [], ◌∷◌, ◌++◌, append-nil}
use mathlib.Core.Logic.{◌↔◌}
use mathlib.Core.Path.{◌≡◌, refl, sym, ap, ap₂, ◌∙◌}
use native.Mathlib.Numerals.{add-one, add-two, add-three}
use native.Mathlib.Omega.{arith}
use lib.Dec.{eqb, ltb}
use lib.ListN.{length, get_or, take, drop, set, length-set, drop_of_length-le, get_or-eq_default}
use lib.Seq.{take_all}
use borrow.Author.Tests.{eqb-true, ltb-true, ltb-false}
use Rattle.laws.proofs.Slots.{slot_same, next-slot, next-holds}
use Rattle.laws.specs.Slots.{slots, holds_at, count, first, cleared, emptied}

-- a list is as long as it was
pub cleared-length : (p : ℕ → ℕ → ℕ → Bool) (l : List ℕ) → length (cleared p l) ≡ length l
unfolding cleared
cleared-length p [] = refl
cleared-length p (a ∷ []) = refl
cleared-length p (a ∷ b ∷ []) = refl
cleared-length p (a ∷ b ∷ c ∷ l) = go (p a b c) (cleared-length p l)
  where
    go : (t : Bool) → length (cleared p l) ≡ length l →
        length (cond t (0 ∷ 0 ∷ 0 ∷ cleared p l) (a ∷ b ∷ c ∷ cleared p l)) ≡ suc (suc (suc (length l)))
    go true e = ap (λ (n : ℕ). suc (suc (suc n))) e
    go false e = ap (λ (n : ℕ). suc (suc (suc n))) e

-- the three words of a slot are zeros where the test held, and what they were where it did not
pub cleared-slot : (p : ℕ → ℕ → ℕ → Bool) (l : List ℕ) (k : ℕ) → k < slots l →
    (get_or (cleared p l) (3 * k) 0 ≡ cond (holds_at p l k) 0 (get_or l (3 * k) 0))
    × (get_or (cleared p l) (3 * k + 1) 0 ≡ cond (holds_at p l k) 0 (get_or l (3 * k + 1) 0))
    × (get_or (cleared p l) (3 * k + 2) 0 ≡ cond (holds_at p l k) 0 (get_or l (3 * k + 2) 0))
unfolding cleared
cleared-slot p [] k h = absurd (omega arith)
cleared-slot p (a ∷ []) k h = absurd (omega arith)
cleared-slot p (a ∷ b ∷ []) k h = absurd (omega arith)
cleared-slot p (a ∷ b ∷ c ∷ l) zero h = go (p a b c)
  where
    go : (t : Bool) →
        (get_or (cond t (0 ∷ 0 ∷ 0 ∷ cleared p l) (a ∷ b ∷ c ∷ cleared p l)) 0 0 ≡ cond t 0 a)
        × (get_or (cond t (0 ∷ 0 ∷ 0 ∷ cleared p l) (a ∷ b ∷ c ∷ cleared p l)) 1 0 ≡ cond t 0 b)
        × (get_or (cond t (0 ∷ 0 ∷ 0 ∷ cleared p l) (a ∷ b ∷ c ∷ cleared p l)) 2 0 ≡ cond t 0 c)
    go true = (refl, refl, refl)
    go false = (refl, refl, refl)
cleared-slot p (a ∷ b ∷ c ∷ l) (suc k) h =
    let (x, y, z) = cleared-slot p l k (omega arith) in
    let t = p a b c in
    (step t (3 * suc k) (3 * k) (omega arith) x, step t (3 * suc k + 1) (3 * k + 1) (omega arith) y, step t (3 * suc k + 2) (3 * k + 2) (omega arith) z)
  where
    step : (t : Bool) (i j : ℕ) → i ≡ suc (suc (suc j)) → get_or (cleared p l) j 0 ≡ cond (holds_at p l k) 0 (get_or l j 0) →
        get_or (cond t (0 ∷ 0 ∷ 0 ∷ cleared p l) (a ∷ b ∷ c ∷ cleared p l)) i 0 ≡ cond (holds_at p (a ∷ b ∷ c ∷ l) (suc k)) 0 (get_or (a ∷ b ∷ c ∷ l) i 0)
    step t i j e f =
        ap (λ (n : ℕ). get_or (cond t (0 ∷ 0 ∷ 0 ∷ cleared p l) (a ∷ b ∷ c ∷ cleared p l)) n 0) e
        ∙ rest t
        ∙ f
        ∙ ap₂ (λ (s : Bool) (n : ℕ). cond s 0 n) (sym (next-holds p a b c l k)) (ap (λ (n : ℕ). get_or (a ∷ b ∷ c ∷ l) n 0) (sym e))
      where
        rest : (s : Bool) → get_or (cond s (0 ∷ 0 ∷ 0 ∷ cleared p l) (a ∷ b ∷ c ∷ cleared p l)) (suc (suc (suc j))) 0 ≡ get_or (cleared p l) j 0
        rest true = refl
        rest false = refl

-- there are not more of them than slots
pub count_most : (p : ℕ → ℕ → ℕ → Bool) (l : List ℕ) → 3 * count p l ≤ length l
unfolding count
count_most p [] = omega arith
count_most p (a ∷ []) = omega arith
count_most p (a ∷ b ∷ []) = omega arith
count_most p (a ∷ b ∷ c ∷ l) = go (p a b c) (count_most p l)
  where
    go : (t : Bool) → 3 * count p l ≤ length l → 3 * (cond t 1 0 + count p l) ≤ suc (suc (suc (length l)))
    go true h = omega arith
    go false h = omega arith

-- A loop that clears them has come to word i, and has cleared n.
abbrev pub Clearing : (ℕ → ℕ → ℕ → Bool) → List ℕ → List ℕ → ℕ → ℕ → Type 0
Clearing p old l i n =
    (length l ≡ length old)
    × (length l % 3 ≡ 0)
    × (i ≤ length l)
    × (i % 3 ≡ 0)
    × (3 * n ≤ i)
    × (take i l ++ cleared p (drop i l) ≡ cleared p old)
    × (n + count p (drop i l) ≡ count p old)

-- three words written at word i stand between what is before them and what follows
written : (i a b c : ℕ) (l : List ℕ) → i + 2 < length l → (r : List ℕ) →
    (take (i + 3) (set (set (set l i a) (i + 1) b) (i + 2) c) ++ r ≡ take i l ++ a ∷ b ∷ c ∷ r)
    × (drop (i + 3) (set (set (set l i a) (i + 1) b) (i + 2) c) ≡ drop (i + 3) l)
written i a b c l h r = rw (add-one, add-two, add-three) (go i l (omega arith))
  where
    go : (i : ℕ) (l : List ℕ) → suc (suc i) < length l →
        (take (suc (suc (suc i))) (set (set (set l i a) (suc i) b) (suc (suc i)) c) ++ r ≡ take i l ++ a ∷ b ∷ c ∷ r)
        × (drop (suc (suc (suc i))) (set (set (set l i a) (suc i) b) (suc (suc i)) c) ≡ drop (suc (suc (suc i))) l)
    go zero [] h = absurd (omega arith)
    go zero (x ∷ []) h = absurd (omega arith)
    go zero (x ∷ y ∷ []) h = absurd (omega arith)
    go zero (x ∷ y ∷ z ∷ l) h = (refl, refl)
    go (suc i) [] h = absurd (omega arith)
    go (suc i) (x ∷ l) h = let (s, t) = go i l (omega arith) in (ap (λ (m : List ℕ). x ∷ m) s, t)

-- three words left alone
kept : (i : ℕ) (l : List ℕ) → i + 2 < length l → (r : List ℕ) →
    take (i + 3) l ++ r ≡ take i l ++ get_or l i 0 ∷ get_or l (i + 1) 0 ∷ get_or l (i + 2) 0 ∷ r
kept i l h r = rw (add-one, add-two, add-three) (go i l (omega arith))
  where
    go : (i : ℕ) (l : List ℕ) → suc (suc i) < length l →
        take (suc (suc (suc i))) l ++ r ≡ take i l ++ get_or l i 0 ∷ get_or l (suc i) 0 ∷ get_or l (suc (suc i)) 0 ∷ r
    go zero [] h = absurd (omega arith)
    go zero (x ∷ []) h = absurd (omega arith)
    go zero (x ∷ y ∷ []) h = absurd (omega arith)
    go zero (x ∷ y ∷ z ∷ l) h = refl
    go (suc i) [] h = absurd (omega arith)
    go (suc i) (x ∷ l) h = ap (λ (m : List ℕ). x ∷ m) (go i l (omega arith))

-- at the start, where a slot passes and is cleared, where one does not, and at the end
pub clear-start : (p : ℕ → ℕ → ℕ → Bool) (l : List ℕ) → length l % 3 ≡ 0 → Clearing p l l 0 0
clear-start p l h = (refl, h, omega arith, omega arith, omega arith, refl, omega arith)

pub clear-drop : (p : ℕ → ℕ → ℕ → Bool) (old l : List ℕ) (i n : ℕ) → i < length l → Clearing p old l i n →
    p (get_or l i 0) (get_or l (i + 1) 0) (get_or l (i + 2) 0) ≡ true → Clearing p old (set (set (set l i 0) (i + 1) 0) (i + 2) 0) (i + 3) (n + 1)
unfolding cleared count
clear-drop p old l i n h s e =
    let (long, three, low, at, few, done, number) = s in
    let fits : i + 2 < length l = omega arith in
    let m = set (set (set l i 0) (i + 1) 0) (i + 2) 0 in
    let same : length m ≡ length l = length-set (set (set l i 0) (i + 1) 0) (i + 2) 0 ∙ length-set (set l i 0) (i + 1) 0 ∙ length-set l i 0 in
    let here : cleared p (drop i l) ≡ 0 ∷ 0 ∷ 0 ∷ cleared p (drop (i + 3) l) = ap (cleared p) (next-slot l i fits) ∙ simp e in
    let one : count p (drop i l) ≡ 1 + count p (drop (i + 3) l) = ap (count p) (next-slot l i fits) ∙ simp e in
    let (front, rest) = written i 0 0 0 l fits (cleared p (drop (i + 3) m)) in
    let tail : count p (drop (i + 3) m) ≡ count p (drop (i + 3) l) = ap (count p) rest in
    let text : take (i + 3) m ++ cleared p (drop (i + 3) m) ≡ cleared p old =
    front ∙ ap (λ (r : List ℕ). take i l ++ 0 ∷ 0 ∷ 0 ∷ cleared p r) rest ∙ ap (λ (r : List ℕ). take i l ++ r) (sym here) ∙ done in
    (same ∙ long, omega arith, omega arith, omega arith, omega arith, text, omega arith)

pub clear-keep : (p : ℕ → ℕ → ℕ → Bool) (old l : List ℕ) (i n : ℕ) → i < length l → Clearing p old l i n →
    p (get_or l i 0) (get_or l (i + 1) 0) (get_or l (i + 2) 0) ≡ false → Clearing p old l (i + 3) n
unfolding cleared count
clear-keep p old l i n h s e =
    let (long, three, low, at, few, done, number) = s in
    let fits : i + 2 < length l = omega arith in
    let here : cleared p (drop i l) ≡ get_or l i 0 ∷ get_or l (i + 1) 0 ∷ get_or l (i + 2) 0 ∷ cleared p (drop (i + 3) l) = ap (cleared p) (next-slot l i fits) ∙ simp e in
    let none : count p (drop i l) ≡ 0 + count p (drop (i + 3) l) = ap (count p) (next-slot l i fits) ∙ simp e in
    let text : take (i + 3) l ++ cleared p (drop (i + 3) l) ≡ cleared p old =
    kept i l fits (cleared p (drop (i + 3) l)) ∙ ap (λ (r : List ℕ). take i l ++ r) (sym here) ∙ done in
    (long, three, omega arith, omega arith, omega arith, text, omega arith)

pub clear-end : (p : ℕ → ℕ → ℕ → Bool) (old l : List ℕ) (i n : ℕ) → length l ≤ i → Clearing p old l i n → (l ≡ cleared p old) × (n ≡ count p old)
unfolding cleared count
clear-end p old l i n h s =
    let (long, three, low, at, few, done, number) = s in
    let none : drop i l ≡ [] = drop_of_length-le l h in
    let empty : cleared p (drop i l) ≡ [] = ap (cleared p) none in
    let zeros : count p (drop i l) ≡ 0 = ap (count p) none in
    (sym (take_all i l h) ∙ sym (append-nil (take i l)) ∙ ap (λ (r : List ℕ). take i l ++ r) (sym empty) ∙ done, omega arith)

-- none is counted exactly if there is no first
pub count_none : (p : ℕ → ℕ → ℕ → Bool) (l : List ℕ) → (count p l ≡ 0) ↔ (first p l ≡ slots l)
unfolding count first
count_none p [] = (λ (e : ◌≡◌ {A = ℕ} 0 0). omega arith, λ (e : ◌≡◌ {A = ℕ} 0 0). refl)
count_none p (a ∷ []) = (λ (e : ◌≡◌ {A = ℕ} 0 0). omega arith, λ (e : 0 ≡ 1 / 3). refl)
count_none p (a ∷ b ∷ []) = (λ (e : ◌≡◌ {A = ℕ} 0 0). omega arith, λ (e : 0 ≡ 2 / 3). refl)
count_none p (a ∷ b ∷ c ∷ l) = go (p a b c) (count_none p l)
  where
    go : (t : Bool) → ((count p l ≡ 0) ↔ (first p l ≡ slots l)) →
        (cond t 1 0 + count p l ≡ 0) ↔ (cond t 0 (suc (first p l)) ≡ suc (suc (suc (length l))) / 3)
    go true i = (λ (e : 1 + count p l ≡ 0). omega arith, λ (e : 0 ≡ suc (suc (suc (length l))) / 3). omega arith)
    go false i = (
      λ (e : 0 + count p l ≡ 0). let f : first p l ≡ slots l = i.0 (omega arith) in omega arith,
      λ (e : suc (first p l) ≡ suc (suc (suc (length l))) / 3). let f : count p l ≡ 0 = i.1 (omega arith) in omega arith,
    )

-- where zeros do not pass, nothing is left to clear
pub cleared-again : (p : ℕ → ℕ → ℕ → Bool) (l : List ℕ) → p 0 0 0 ≡ false → (cleared p (cleared p l) ≡ cleared p l) × (count p (cleared p l) ≡ 0)
unfolding cleared count
cleared-again p [] z = (refl, refl)
cleared-again p (a ∷ []) z = (refl, refl)
cleared-again p (a ∷ b ∷ []) z = (refl, refl)
cleared-again p (a ∷ b ∷ c ∷ l) z = go (p a b c) refl (cleared-again p l z)
  where
    go : (t : Bool) → p a b c ≡ t → (cleared p (cleared p l) ≡ cleared p l) × (count p (cleared p l) ≡ 0) →
        (cleared p (cond t (0 ∷ 0 ∷ 0 ∷ cleared p l) (a ∷ b ∷ c ∷ cleared p l)) ≡ cond t (0 ∷ 0 ∷ 0 ∷ cleared p l) (a ∷ b ∷ c ∷ cleared p l))
        × (count p (cond t (0 ∷ 0 ∷ 0 ∷ cleared p l) (a ∷ b ∷ c ∷ cleared p l)) ≡ 0)
    go true e i = (simp (z, i.0), simp (z, i.1))
    go false e i = (simp (e, i.0), simp (e, i.1))

-- where the test holds only at slots of another test, which zeros do not pass, as many slots of the other are three zeros then as were cleared
pub cleared-emptied : (p q : ℕ → ℕ → ℕ → Bool) (l : List ℕ) → ((a b c : ℕ) → p a b c ≡ true → q a b c ≡ true) → q 0 0 0 ≡ false →
    emptied q l (cleared p l) ≡ count p l
unfolding cleared count emptied
cleared-emptied p q [] i z = refl
cleared-emptied p q (a ∷ []) i z = refl
cleared-emptied p q (a ∷ b ∷ []) i z = refl
cleared-emptied p q (a ∷ b ∷ c ∷ l) i z = go (p a b c) refl (cleared-emptied p q l i z)
  where
    zeros : (u v w x : Bool) → q a b c ≡ u → eqb a 0 ≡ v → eqb b 0 ≡ w → eqb c 0 ≡ x → (u && v && w && x) ≡ false
    zeros true true true true eu ev ew ex =
        let e : q a b c ≡ q 0 0 0 = slot_same q (eqb-true a 0 ev) (eqb-true b 0 ew) (eqb-true c 0 ex) in sym eu ∙ e ∙ z
    zeros true true true false eu ev ew ex = refl
    zeros true true false x eu ev ew ex = refl
    zeros true false w x eu ev ew ex = refl
    zeros false v w x eu ev ew ex = refl

    go : (t : Bool) → p a b c ≡ t → emptied q l (cleared p l) ≡ count p l →
        emptied q (a ∷ b ∷ c ∷ l) (cond t (0 ∷ 0 ∷ 0 ∷ cleared p l) (a ∷ b ∷ c ∷ cleared p l)) ≡ cond t 1 0 + count p l
    go true e h = simp (i a b c e, h)
    go false e h = simp (zeros (q a b c) (eqb a 0) (eqb b 0) (eqb c 0) refl refl refl refl, h)

-- clearing by one test and then by another, which zeros do not pass, is clearing by both
pub cleared_both : (p q : ℕ → ℕ → ℕ → Bool) (l : List ℕ) → q 0 0 0 ≡ false →
    (cleared q (cleared p l) ≡ cleared (λ a b c. p a b c || q a b c) l) × (count p l + count q (cleared p l) ≡ count (λ a b c. p a b c || q a b c) l)
unfolding cleared count
cleared_both p q [] z = (refl, refl)
cleared_both p q (a ∷ []) z = (refl, refl)
cleared_both p q (a ∷ b ∷ []) z = (refl, refl)
cleared_both p q (a ∷ b ∷ c ∷ l) z = go (p a b c) (q a b c) refl (cleared_both p q l z)
  where
    r : ℕ → ℕ → ℕ → Bool
    r = λ a b c. p a b c || q a b c

    go : (s t : Bool) → q a b c ≡ t → (cleared q (cleared p l) ≡ cleared r l) × (count p l + count q (cleared p l) ≡ count r l) →
        (cleared q (cond s (0 ∷ 0 ∷ 0 ∷ cleared p l) (a ∷ b ∷ c ∷ cleared p l)) ≡ cond (s || t) (0 ∷ 0 ∷ 0 ∷ cleared r l) (a ∷ b ∷ c ∷ cleared r l))
        × (cond s 1 0 + count p l + count q (cond s (0 ∷ 0 ∷ 0 ∷ cleared p l) (a ∷ b ∷ c ∷ cleared p l)) ≡ cond (s || t) 1 0 + count r l)
    go true t e i =
        let n : count q (0 ∷ 0 ∷ 0 ∷ cleared p l) ≡ 0 + count q (cleared p l) = simp z in
        (simp (z, i.0), omega (arith, n, i.1))
    go false true e i =
        let n : count q (a ∷ b ∷ c ∷ cleared p l) ≡ 1 + count q (cleared p l) = simp e in
        (simp (e, i.0), omega (arith, n, i.1))
    go false false e i =
        let n : count q (a ∷ b ∷ c ∷ cleared p l) ≡ 0 + count q (cleared p l) = simp e in
        (simp (e, i.0), omega (arith, n, i.1))

-- where no slot passes, the list is what it was
pub cleared-none : (p : ℕ → ℕ → ℕ → Bool) (l : List ℕ) → ((a b c : ℕ) → p a b c ≡ false) → (cleared p l ≡ l) × (count p l ≡ 0)
unfolding cleared count
cleared-none p [] n = (refl, refl)
cleared-none p (a ∷ []) n = (refl, refl)
cleared-none p (a ∷ b ∷ []) n = (refl, refl)
cleared-none p (a ∷ b ∷ c ∷ l) n = let i = cleared-none p l n in (simp (n a b c, i.0), simp (n a b c, i.1))

-- every word of a slot that does not pass stays
pub cleared-word : (p : ℕ → ℕ → ℕ → Bool) (l : List ℕ) (i : ℕ) → length l % 3 ≡ 0 → holds_at p l (i / 3) ≡ false → get_or (cleared p l) i 0 ≡ get_or l i 0
cleared-word p l i three h = go (ltb i (length l)) refl
  where
    place : (j : ℕ) → get_or (cleared p l) j 0 ≡ cond (holds_at p l (i / 3)) 0 (get_or l j 0) → get_or (cleared p l) j 0 ≡ get_or l j 0
    place j e = e ∙ simp h

    at : (j : ℕ) → i ≡ j → get_or (cleared p l) j 0 ≡ get_or l j 0 → get_or (cleared p l) i 0 ≡ get_or l i 0
    at j e q = ap (λ (n : ℕ). get_or (cleared p l) n 0) e ∙ q ∙ ap (λ (n : ℕ). get_or l n 0) (sym e)

    which : (r : ℕ) → i % 3 ≡ r → i / 3 < slots l → get_or (cleared p l) i 0 ≡ get_or l i 0
    which zero e n = at (3 * (i / 3)) (omega arith) (place (3 * (i / 3)) (cleared-slot p l (i / 3) n).0)
    which (suc zero) e n = at (3 * (i / 3) + 1) (omega arith) (place (3 * (i / 3) + 1) (cleared-slot p l (i / 3) n).1)
    which (suc (suc zero)) e n = at (3 * (i / 3) + 2) (omega arith) (place (3 * (i / 3) + 2) (cleared-slot p l (i / 3) n).2)
    which (suc (suc (suc r))) e n = absurd (omega arith)

    go : (b : Bool) → ltb i (length l) ≡ b → get_or (cleared p l) i 0 ≡ get_or l i 0
    go true e = let low : i < length l = ltb-true i (length l) e in which (i % 3) refl (omega arith)
    go false e =
        let high : length l ≤ i = ltb-false i (length l) e in
        get_or-eq_default (cleared p l) 0 {n = i} (omega (arith, high, cleared-length p l)) ∙ sym (get_or-eq_default l 0 {n = i} high)

-- and nothing is emptied where nothing changes
pub emptied-same : (q : ℕ → ℕ → ℕ → Bool) (l : List ℕ) → q 0 0 0 ≡ false → emptied q l l ≡ 0
emptied-same q l z =
    let (same, none) = cleared-none never l (λ a b c. refl) in
    ap (emptied q l) (sym same) ∙ cleared-emptied never q l (λ a b c h. absurd (let y : ◌≡◌ {A = ℕ} 0 1 = cc in omega arith)) z ∙ none
  where
    never : ℕ → ℕ → ℕ → Bool
    never a b c = false

-- clearing the slots of one test changes neither the first nor the number of another that says of each of them what it says of three zeros
pub cleared-alike : (p q : ℕ → ℕ → ℕ → Bool) → ((a b c : ℕ) → q a b c ≡ true → p 0 0 0 ≡ p a b c) → (l : List ℕ) →
    (first p (cleared q l) ≡ first p l) × (count p (cleared q l) ≡ count p l)
unfolding first count cleared
cleared-alike p q h [] = (refl, refl)
cleared-alike p q h (a ∷ []) = (refl, refl)
cleared-alike p q h (a ∷ b ∷ []) = (refl, refl)
cleared-alike p q h (a ∷ b ∷ c ∷ l) = go (q a b c) refl (cleared-alike p q h l)
  where
    on : (s t : Bool) → s ≡ t → (first p (cleared q l) ≡ first p l) × (count p (cleared q l) ≡ count p l) →
        (cond s 0 (suc (first p (cleared q l))) ≡ cond t 0 (suc (first p l))) × (cond s 1 0 + count p (cleared q l) ≡ cond t 1 0 + count p l)
    on s t e (f, n) = (ap₂ (λ (b : Bool) (k : ℕ). cond b 0 (suc k)) e f, ap₂ (λ (b : Bool) (k : ℕ). cond b 1 0 + k) e n)

    go : (t : Bool) → q a b c ≡ t → (first p (cleared q l) ≡ first p l) × (count p (cleared q l) ≡ count p l) →
        (first p (cond t (0 ∷ 0 ∷ 0 ∷ cleared q l) (a ∷ b ∷ c ∷ cleared q l)) ≡ cond (p a b c) 0 (suc (first p l)))
        × (count p (cond t (0 ∷ 0 ∷ 0 ∷ cleared q l) (a ∷ b ∷ c ∷ cleared q l)) ≡ cond (p a b c) 1 0 + count p l)
    go true e i = on (p 0 0 0) (p a b c) (h a b c e) i
    go false e i = on (p a b c) (p a b c) refl i

-- and two clearings can be done in either order
pub cleared-swap : (p q : ℕ → ℕ → ℕ → Bool) (l : List ℕ) → cleared p (cleared q l) ≡ cleared q (cleared p l)
unfolding cleared
cleared-swap p q [] = refl
cleared-swap p q (a ∷ []) = refl
cleared-swap p q (a ∷ b ∷ []) = refl
cleared-swap p q (a ∷ b ∷ c ∷ l) = go (p a b c) refl (q a b c) refl (cleared-swap p q l)
  where
    zeroed : (t : Bool) (m : List ℕ) → cond t (0 ∷ 0 ∷ 0 ∷ m) (0 ∷ 0 ∷ 0 ∷ m) ≡ 0 ∷ 0 ∷ 0 ∷ m
    zeroed true m = refl
    zeroed false m = refl

    go : (s : Bool) → p a b c ≡ s → (t : Bool) → q a b c ≡ t → cleared p (cleared q l) ≡ cleared q (cleared p l) →
        cleared p (cond t (0 ∷ 0 ∷ 0 ∷ cleared q l) (a ∷ b ∷ c ∷ cleared q l)) ≡ cleared q (cond s (0 ∷ 0 ∷ 0 ∷ cleared p l) (a ∷ b ∷ c ∷ cleared p l))
    go true e true f i =
        zeroed (p 0 0 0) (cleared p (cleared q l)) ∙ ap (λ (m : List ℕ). 0 ∷ 0 ∷ 0 ∷ m) i ∙ sym (zeroed (q 0 0 0) (cleared q (cleared p l)))
    go true e false f i =
        ap (λ (t : Bool). cond t (0 ∷ 0 ∷ 0 ∷ cleared p (cleared q l)) (a ∷ b ∷ c ∷ cleared p (cleared q l))) e
        ∙ ap (λ (m : List ℕ). 0 ∷ 0 ∷ 0 ∷ m) i
        ∙ sym (zeroed (q 0 0 0) (cleared q (cleared p l)))
    go false e true f i =
        zeroed (p 0 0 0) (cleared p (cleared q l))
        ∙ ap (λ (m : List ℕ). 0 ∷ 0 ∷ 0 ∷ m) i
        ∙ sym (ap (λ (t : Bool). cond t (0 ∷ 0 ∷ 0 ∷ cleared q (cleared p l)) (a ∷ b ∷ c ∷ cleared q (cleared p l))) f)
    go false e false f i =
        ap (λ (t : Bool). cond t (0 ∷ 0 ∷ 0 ∷ cleared p (cleared q l)) (a ∷ b ∷ c ∷ cleared p (cleared q l))) e
        ∙ ap (λ (m : List ℕ). a ∷ b ∷ c ∷ m) i
        ∙ sym (ap (λ (t : Bool). cond t (0 ∷ 0 ∷ 0 ∷ cleared q (cleared p l)) (a ∷ b ∷ c ∷ cleared q (cleared p l))) f)
