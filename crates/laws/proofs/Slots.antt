-- Lists as slots of three: the laws of a loop over them, and which slot is the first.
use Prim.Native.Nat.{ℕ, zero, suc, ◌+◌, ◌*◌, ◌/◌, ◌%◌, ◌<◌, ◌≤◌}
use mathlib.Core.Bool.{Bool, true, false, cond, ◌||◌}
use mathlib.Core.List.{List, [], ◌∷◌}
use mathlib.Core.Path.{◌≡◌, refl, sym, ap, subst, ◌∙◌}
use native.Mathlib.Omega.{arith}
use lib.Dec.{ltb}
use lib.ListN.{length, get_or, drop, set, length-set, drop_of_length-le}
use lib.Seq.{drop-cons, get_or-set_same, get_or-set_other}
use borrow.Author.Tests.{ltb-true, ltb-false, lt-ltb, le-ltb}
use Rattle.laws.proofs.Truth.{clash}
use Rattle.laws.specs.Slots.{slots, holds_at, first, some, put}

-- equal numbers pass alike
pub slot_same : (p : ℕ → ℕ → ℕ → Bool) {a b c x y z : ℕ} → a ≡ x → b ≡ y → c ≡ z → p a b c ≡ p x y z
slot_same p e f g = cc

-- from word i on, a list is the slot there and what follows it
pub next-slot : (l : List ℕ) (i : ℕ) → i + 2 < length l → drop i l ≡ get_or l i 0 ∷ get_or l (i + 1) 0 ∷ get_or l (i + 2) 0 ∷ drop (i + 3) l
next-slot l i h =
    let e1 : suc i ≡ i + 1 = omega arith in
    let e2 : suc (i + 1) ≡ i + 2 = omega arith in
    let e3 : suc (i + 2) ≡ i + 3 = omega arith in
    drop-cons l i 0 (omega arith)
    ∙ ap (λ (r : List ℕ). get_or l i 0 ∷ r)
    (ap (λ (j : ℕ). drop j l) e1
    ∙ drop-cons l (i + 1) 0 (omega arith)
    ∙ ap (λ (r : List ℕ). get_or l (i + 1) 0 ∷ r)
    (ap (λ (j : ℕ). drop j l) e2 ∙ drop-cons l (i + 2) 0 h ∙ ap (λ (r : List ℕ). get_or l (i + 2) 0 ∷ r) (ap (λ (j : ℕ). drop j l) e3)))

-- A loop that looks for it has come to word i, which is slot k, and has not met it.
abbrev pub Seeking : (ℕ → ℕ → ℕ → Bool) → List ℕ → ℕ → ℕ → Type 0
Seeking p l i k = (length l % 3 ≡ 0) × (i ≤ length l) × (i ≡ 3 * k) × (k + first p (drop i l) ≡ first p l)

-- at the start, where a slot does not pass, where one does, and at the end
pub seek-start : (p : ℕ → ℕ → ℕ → Bool) (l : List ℕ) → length l % 3 ≡ 0 → Seeking p l 0 0
seek-start p l h = (h, omega arith, omega arith, omega arith)

pub seek-on : (p : ℕ → ℕ → ℕ → Bool) (l : List ℕ) (i k : ℕ) → i < length l → Seeking p l i k → p (get_or l i 0) (get_or l (i + 1) 0) (get_or l (i + 2) 0) ≡ false →
    Seeking p l (i + 3) (k + 1)
unfolding first
seek-on p l i k h s e =
    let (m, b, a, r) = s in
    let n : i + 2 < length l = omega arith in
    let f : first p (drop i l) ≡ suc (first p (drop (i + 3) l)) = ap (first p) (next-slot l i n) ∙ simp e in
    (m, omega arith, omega arith, omega arith)

-- where slots are counted by words, slot i / 3 stands at word i
pub seek-next : (p : ℕ → ℕ → ℕ → Bool) (l : List ℕ) (i : ℕ) → i < length l → Seeking p l i (i / 3) →
    p (get_or l i 0) (get_or l (i + 1) 0) (get_or l (i + 2) 0) ≡ false → Seeking p l (i + 3) ((i + 3) / 3)
seek-next p l i h s e =
    let next : i / 3 + 1 ≡ (i + 3) / 3 = omega arith in
    subst (λ (k : ℕ). Seeking p l (i + 3) k) next (seek-on p l i (i / 3) h s e)

pub seek-here : (p : ℕ → ℕ → ℕ → Bool) (l : List ℕ) (i k : ℕ) → i < length l → Seeking p l i k → p (get_or l i 0) (get_or l (i + 1) 0) (get_or l (i + 2) 0) ≡ true →
    k ≡ first p l
unfolding first
seek-here p l i k h s e =
    let (m, b, a, r) = s in
    let n : i + 2 < length l = omega arith in
    let f : first p (drop i l) ≡ 0 = ap (first p) (next-slot l i n) ∙ simp e in
    omega arith

pub seek-end : (p : ℕ → ℕ → ℕ → Bool) (l : List ℕ) (i k : ℕ) → length l ≤ i → Seeking p l i k → k ≡ first p l
unfolding first
seek-end p l i k h s = let (m, b, a, r) = s in let f : first p (drop i l) ≡ 0 = ap (first p) (drop_of_length-le l h) in omega arith

-- a slot of a longer list is a slot of the rest
pub next-holds : (p : ℕ → ℕ → ℕ → Bool) (a b c : ℕ) (l : List ℕ) (k : ℕ) → holds_at p (a ∷ b ∷ c ∷ l) (suc k) ≡ holds_at p l k
next-holds p a b c l k = slot_same p (word (3 * suc k) (3 * k) (omega arith)) (word (3 * suc k + 1) (3 * k + 1) (omega arith)) (word (3 * suc k + 2) (3 * k + 2) (omega arith))
  where
    word : (i j : ℕ) → i ≡ suc (suc (suc j)) → get_or (a ∷ b ∷ c ∷ l) i 0 ≡ get_or l j 0
    word i j e = ap (λ (n : ℕ). get_or (a ∷ b ∷ c ∷ l) n 0) e

-- the test holds at no slot before the first
pub first-none : (p : ℕ → ℕ → ℕ → Bool) (l : List ℕ) (k : ℕ) → k < first p l → holds_at p l k ≡ false
unfolding first
first-none p [] k h = absurd (omega arith)
first-none p (a ∷ []) k h = absurd (omega arith)
first-none p (a ∷ b ∷ []) k h = absurd (omega arith)
first-none p (a ∷ b ∷ c ∷ l) zero h = go (p a b c) refl h
  where
    go : (t : Bool) → p a b c ≡ t → 0 < cond t 0 (suc (first p l)) → p a b c ≡ false
    go true e i = absurd (omega arith)
    go false e i = e
first-none p (a ∷ b ∷ c ∷ l) (suc k) h = next-holds p a b c l k ∙ first-none p l k (go (p a b c) h)
  where
    go : (t : Bool) → suc k < cond t 0 (suc (first p l)) → k < first p l
    go true i = absurd (omega arith)
    go false i = omega arith

-- and holds at the first, if there is one
pub first_holds : (p : ℕ → ℕ → ℕ → Bool) (l : List ℕ) → first p l < slots l → holds_at p l (first p l) ≡ true
unfolding first
first_holds p [] h = absurd (omega arith)
first_holds p (a ∷ []) h = absurd (omega arith)
first_holds p (a ∷ b ∷ []) h = absurd (omega arith)
first_holds p (a ∷ b ∷ c ∷ l) h = go (p a b c) refl (first_holds p l) h
  where
    go : (t : Bool) → p a b c ≡ t → (first p l < slots l → holds_at p l (first p l) ≡ true) →
        cond t 0 (suc (first p l)) < suc (suc (suc (length l))) / 3 → holds_at p (a ∷ b ∷ c ∷ l) (cond t 0 (suc (first p l))) ≡ true
    go true e i j = e
    go false e i j = next-holds p a b c l (first p l) ∙ i (omega arith)

-- so it is the lowest: no slot before it passes, and it does
pub first-is : (p : ℕ → ℕ → ℕ → Bool) (l : List ℕ) (k : ℕ) → k < slots l → ((j : ℕ) → j < k → holds_at p l j ≡ false) → holds_at p l k ≡ true → first p l ≡ k
first-is p l k h none here = go (ltb (first p l) k) refl (ltb k (first p l)) refl
  where
    clash : {b : Bool} → b ≡ true → b ≡ false → ⊥
    clash q r = let z : ◌≡◌ {A = ℕ} 0 1 = cc in omega arith

    go : (s : Bool) → ltb (first p l) k ≡ s → (t : Bool) → ltb k (first p l) ≡ t → first p l ≡ k
    go true e t f = absurd (clash (first_holds p l (omega (arith, ltb-true (first p l) k e))) (none (first p l) (ltb-true (first p l) k e)))
    go false e true f = absurd (clash here (first-none p l k (ltb-true k (first p l) f)))
    go false e false f = omega (arith, ltb-false (first p l) k e, ltb-false k (first p l) f)

-- three numbers put into slot k are its numbers, and those of every other slot stay
pub put-length : (k a b c : ℕ) (l : List ℕ) → length (put k a b c l) ≡ length l
put-length k a b c l =
    length-set (set (set l (3 * k) a) (3 * k + 1) b) (3 * k + 2) c ∙ length-set (set l (3 * k) a) (3 * k + 1) b ∙ length-set l (3 * k) a

pub put-here : (k a b c : ℕ) (l : List ℕ) → 3 * k + 2 < length l →
    (get_or (put k a b c l) (3 * k) 0 ≡ a) × (get_or (put k a b c l) (3 * k + 1) 0 ≡ b) × (get_or (put k a b c l) (3 * k + 2) 0 ≡ c)
put-here k a b c l h =
    let l1 = set l (3 * k) a in
    let l2 = set l1 (3 * k + 1) b in
    let n1 : length l1 ≡ length l = length-set l (3 * k) a in
    let n2 : length l2 ≡ length l1 = length-set l1 (3 * k + 1) b in (
      get_or-set_other l2 (3 * k + 2) (3 * k) c 0 (λ e. omega arith)
          ∙ get_or-set_other l1 (3 * k + 1) (3 * k) b 0 (λ e. omega arith)
          ∙ get_or-set_same l (3 * k) a 0 (omega arith),
      get_or-set_other l2 (3 * k + 2) (3 * k + 1) c 0 (λ e. omega arith)
          ∙ get_or-set_same l1 (3 * k + 1) b 0 (omega arith),
      get_or-set_same l2 (3 * k + 2) c 0 (omega arith),
    )

pub put_other : (k a b c : ℕ) (l : List ℕ) (j : ℕ) → (j / 3 ≡ k → ⊥) → get_or (put k a b c l) j 0 ≡ get_or l j 0
put_other k a b c l j d =
    let l1 = set l (3 * k) a in
    let l2 = set l1 (3 * k + 1) b in
    get_or-set_other l2 (3 * k + 2) j c 0 (λ e. d (omega arith))
    ∙ get_or-set_other l1 (3 * k + 1) j b 0 (λ e. d (omega arith))
    ∙ get_or-set_other l (3 * k) j a 0 (λ e. d (omega arith))

pub put_holds : (p : ℕ → ℕ → ℕ → Bool) (k a b c : ℕ) (l : List ℕ) → 3 * k + 2 < length l → holds_at p (put k a b c l) k ≡ p a b c
put_holds p k a b c l h = let (x, y, z) = put-here k a b c l h in slot_same p x y z

pub put_keeps : (p : ℕ → ℕ → ℕ → Bool) (k a b c : ℕ) (l : List ℕ) (j : ℕ) → (j ≡ k → ⊥) → holds_at p (put k a b c l) j ≡ holds_at p l j
put_keeps p k a b c l j d =
    slot_same p (put_other k a b c l (3 * j) (λ e. d (omega arith))) (put_other k a b c l (3 * j + 1) (λ e. d (omega arith)))
    (put_other k a b c l (3 * j + 2) (λ e. d (omega arith)))

-- there is one exactly if some slot passes
pub some-none : (p : ℕ → ℕ → ℕ → Bool) (l : List ℕ) → some p l ≡ false → (k : ℕ) → k < slots l → holds_at p l k ≡ false
some-none p l h k n = first-none p l k (omega (arith, ltb-false (first p l) (slots l) h))

pub none-some : (p : ℕ → ℕ → ℕ → Bool) (l : List ℕ) → ((k : ℕ) → k < slots l → holds_at p l k ≡ false) → some p l ≡ false
none-some p l none = go (some p l) refl
  where
    go : (b : Bool) → some p l ≡ b → b ≡ false
    go true h = let low : first p l < slots l = ltb-true (first p l) (slots l) h in sym (first_holds p l low) ∙ none (first p l) low
    go false h = refl

pub some_at : (p : ℕ → ℕ → ℕ → Bool) (l : List ℕ) (k : ℕ) → k < slots l → holds_at p l k ≡ true → some p l ≡ true
some_at p l k n h = go (some p l) refl
  where
    go : (b : Bool) → some p l ≡ b → some p l ≡ true
    go true e = e
    go false e = clash h (some-none p l e k n)

-- the first slot passes, or one of the others
pub some-cons : (p : ℕ → ℕ → ℕ → Bool) (x y z : ℕ) (l : List ℕ) → some p (x ∷ y ∷ z ∷ l) ≡ (p x y z || some p l)
unfolding first
some-cons p x y z l = go (p x y z)
  where
    long : slots (x ∷ y ∷ z ∷ l) ≡ suc (slots l)
    long = omega arith

    rest : (b : Bool) → some p l ≡ b → ltb (suc (first p l)) (slots (x ∷ y ∷ z ∷ l)) ≡ b
    rest true e = lt-ltb (suc (first p l)) (slots (x ∷ y ∷ z ∷ l)) (omega (arith, long, ltb-true (first p l) (slots l) e))
    rest false e = le-ltb (suc (first p l)) (slots (x ∷ y ∷ z ∷ l)) (omega (arith, long, ltb-false (first p l) (slots l) e))

    go : (b : Bool) → ltb (cond b 0 (suc (first p l))) (slots (x ∷ y ∷ z ∷ l)) ≡ (b || some p l)
    go true = lt-ltb 0 (slots (x ∷ y ∷ z ∷ l)) (omega (arith, long))
    go false = rest (some p l) refl
