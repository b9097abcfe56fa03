-- Boards on which no two processors clash: those of one outer domain, and those whose inner and outer domains are the same.
use Prim.Native.Nat.{ℕ, ◌≤◌, ◌<◌}
use mathlib.Core.Bool.{Bool, true, false, not, ◌||◌}
use mathlib.Core.List.{List}
use mathlib.Core.Path.{◌≡◌, refl, sym, ◌∙◌}
use native.Mathlib.Omega.{arith}
use lib.Dec.{eqb}
use lib.ListN.{get_or}
use borrow.Author.Tests.{eqb-true, eq-eqb}
use Rattle.laws.proofs.Every.{at, each}
use Rattle.laws.proofs.Truth.{or_right}
use Rattle.laws.specs.Every.{every}
use Rattle.machine.specs.State.{agree_by}
use Rattle.processor.specs.Domains.{is_first}

-- any two processors of one domain are in the same
pub one_same : (domains : List ℕ) → every (is_first domains) 8 ≡ true → (p q : ℕ) → p < 8 → q < 8 → eqb (get_or domains p 0) (get_or domains q 0) ≡ true
one_same domains h p q l m = eq-eqb (get_or domains p 0) (get_or domains q 0) (first p l ∙ sym (first q m))
  where
    first : (k : ℕ) → k < 8 → get_or domains k 0 ≡ get_or domains 0 0
    first k u = eqb-true (get_or domains k 0) (get_or domains 0 0) (at (is_first domains) 8 h k u)

-- so where it is the outer, no two of those below the count clash
pub one-agrees : (inner outer : List ℕ) (n : ℕ) → n ≤ 8 → every (is_first outer) 8 ≡ true → every (λ p. every (agree_by inner outer p) n) n ≡ true
one-agrees inner outer n most h = each (λ (p : ℕ). every (agree_by inner outer p) n) n (λ (p : ℕ) (l : p < n). each (agree_by inner outer p) n (λ (q : ℕ) (m : q < n). two p q l m))
  where
    two : (p q : ℕ) → p < n → q < n → agree_by inner outer p q ≡ true
    two p q l m =
        or_right (not (eqb (get_or inner p 0) (get_or inner q 0))) (eqb (get_or outer p 0) (get_or outer q 0))
        (one_same outer h p q (omega arith) (omega arith))

-- nor do any where inner and outer domains are the same
pub same-agrees : (domains : List ℕ) (n : ℕ) → every (λ p. every (agree_by domains domains p) n) n ≡ true
same-agrees domains n = each (λ (p : ℕ). every (agree_by domains domains p) n) n (λ (p : ℕ) (l : p < n). each (agree_by domains domains p) n (λ (q : ℕ) (m : q < n). own (eqb (get_or domains p 0) (get_or domains q 0))))
  where
    own : (b : Bool) → (not b || b) ≡ true
    own true = refl
    own false = refl
