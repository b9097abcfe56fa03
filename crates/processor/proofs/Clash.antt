-- A processor against those below it, of which no two clash: it clashes with all of those in its inner domain or with none.
use Prim.Native.Nat.{ℕ, ◌+◌, ◌-◌, ◌≤◌, ◌<◌}
use mathlib.Core.Bool.{Bool, true, false, not, ◌||◌}
use mathlib.Core.List.{List}
use mathlib.Core.Path.{◌≡◌, refl, sym, ap, subst, ◌∙◌}
use native.Mathlib.Decide.{ℕ_discrete}
use native.Mathlib.Omega.{arith}
use lib.Dec.{eqb}
use lib.ListN.{get_or}
use borrow.Author.Tests.{eqb-true, eq-eqb, ne_eqb}
use Rattle.laws.proofs.Every.{at, each}
use Rattle.laws.proofs.Truth.{alike, or_right}
use Rattle.laws.specs.Every.{every}
use Rattle.machine.proofs.States.{domains-half}
use Rattle.machine.specs.State.{agree_by}

-- none from q on and below p is in the inner domain of p
abbrev pub Apart : List ℕ → ℕ → ℕ → Type 0
Apart inner p q = (k : ℕ) → q ≤ k → k < p → get_or inner k 0 ≡ get_or inner p 0 → ⊥

-- a loop that goes down from p: at its start, at a turn and at its end
pub apart_none : (inner : List ℕ) (p : ℕ) → Apart inner p p
apart_none inner p k h l e = omega arith

pub apart-down : (inner : List ℕ) (p q : ℕ) → 0 < q → (get_or inner (q - 1) 0 ≡ get_or inner p 0 → ⊥) → Apart inner p q → Apart inner p (q - 1)
apart-down inner p q some n above k h l = go (ℕ_discrete k (q - 1))
  where
    go : Dec (k ≡ q - 1) → get_or inner k 0 ≡ get_or inner p 0 → ⊥
    go (yes e) = subst (λ (j : ℕ). get_or inner j 0 ≡ get_or inner p 0 → ⊥) (sym e) n
    go (no d) = above k (omega arith) l

pub apart-agrees : (inner outer : List ℕ) (p q : ℕ) → q ≤ 0 → Apart inner p q → every (agree_by inner outer p) p ≡ true
apart-agrees inner outer p q z above = each (agree_by inner outer p) p one
  where
    one : (k : ℕ) → k < p → agree_by inner outer p k ≡ true
    one k l = ap (λ (b : Bool). not b || eqb (get_or outer p 0) (get_or outer k 0)) (ne_eqb (get_or inner p 0) (get_or inner k 0) (λ (e : get_or inner p 0 ≡ get_or inner k 0). above k (omega arith) l (sym e)))

-- two that agree and are in one inner domain are in one outer
in-outer : (inner outer : List ℕ) (p q : ℕ) → agree_by inner outer p q ≡ true → get_or inner p 0 ≡ get_or inner q 0 → get_or outer p 0 ≡ get_or outer q 0
in-outer inner outer p q h e =
    eqb-true (get_or outer p 0) (get_or outer q 0)
    (ap (λ (b : Bool). not b || eqb (get_or outer p 0) (get_or outer q 0)) (sym (eq-eqb (get_or inner p 0) (get_or inner q 0) e)) ∙ h)

-- one that is found tells for all
pub mate-tells : (inner outer : List ℕ) (p q : ℕ) → q < p → every (λ a. every (agree_by inner outer a) a) p ≡ true → get_or inner q 0 ≡ get_or inner p 0 →
    eqb (get_or outer q 0) (get_or outer p 0) ≡ every (agree_by inner outer p) p
mate-tells inner outer p q below h mate = alike (eqb (get_or outer q 0) (get_or outer p 0)) (every (agree_by inner outer p) p) there back
  where
    square : every (λ a. every (agree_by inner outer a) p) p ≡ true
    square = sym (domains-half inner outer p) ∙ h

    there : eqb (get_or outer q 0) (get_or outer p 0) ≡ true → every (agree_by inner outer p) p ≡ true
    there same = each (agree_by inner outer p) p (λ (k : ℕ) (l : k < p). one k l (eqb (get_or inner p 0) (get_or inner k 0)) refl)
      where
        one : (k : ℕ) → k < p → (b : Bool) → eqb (get_or inner p 0) (get_or inner k 0) ≡ b → agree_by inner outer p k ≡ true
        one k l true e =
            let inner-same : get_or inner q 0 ≡ get_or inner k 0 = mate ∙ eqb-true (get_or inner p 0) (get_or inner k 0) e in
            let outer_same : get_or outer q 0 ≡ get_or outer k 0 = in-outer inner outer q k (at (agree_by inner outer q) p (at (λ (a : ℕ). every (agree_by inner outer a) p) p square q below) k l) inner-same in
            or_right (not (eqb (get_or inner p 0) (get_or inner k 0))) (eqb (get_or outer p 0) (get_or outer k 0))
            (eq-eqb (get_or outer p 0) (get_or outer k 0) (sym (eqb-true (get_or outer q 0) (get_or outer p 0) same) ∙ outer_same))
        one k l false e = ap (λ (b : Bool). not b || eqb (get_or outer p 0) (get_or outer k 0)) e

    back : every (agree_by inner outer p) p ≡ true → eqb (get_or outer q 0) (get_or outer p 0) ≡ true
    back all = eq-eqb (get_or outer q 0) (get_or outer p 0) (sym (in-outer inner outer p q (at (agree_by inner outer p) p all q below) (sym mate)))

-- no processor below p is in an inner domain above high
abbrev pub Under : List ℕ → ℕ → ℕ → Type 0
Under inner high p = (k : ℕ) → k < p → get_or inner k 0 ≤ high

pub under_first : (inner : List ℕ) → Under inner (get_or inner 0 0) 1
under_first inner k l = let z : k ≡ 0 = omega arith in omega (arith, ap (λ (j : ℕ). get_or inner j 0) z)

pub under_more : (inner : List ℕ) (high next p : ℕ) → high ≤ next → get_or inner p 0 ≤ next → Under inner high p → Under inner next (p + 1)
under_more inner high next p up own below k l = go (ℕ_discrete k p)
  where
    go : Dec (k ≡ p) → get_or inner k 0 ≤ next
    go (yes e) = omega (arith, ap (λ (j : ℕ). get_or inner j 0) e, own)
    go (no d) = let h : get_or inner k 0 ≤ high = below k (omega arith) in omega (arith, h, up)

-- so a processor in one above it clashes with none of them
pub above-agrees : (inner outer : List ℕ) (high p : ℕ) → Under inner high p → high < get_or inner p 0 → every (agree_by inner outer p) p ≡ true
above-agrees inner outer high p below up =
    apart-agrees inner outer p 0 (omega arith) (λ (k : ℕ) (z : 0 ≤ k) (l : k < p) (e : get_or inner k 0 ≡ get_or inner p 0). let h : get_or inner k 0 ≤ high = below k l in omega (arith, h, e, up))

-- the first processor has none below it
pub first-agrees : (inner outer : List ℕ) → true ≡ every (λ q. every (agree_by inner outer q) q) 1
unfolding every
first-agrees inner outer = refl
