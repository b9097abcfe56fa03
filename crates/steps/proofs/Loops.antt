-- Loops over the works of a list's steps.
use Prim.Native.Nat.{ℕ, ◌+◌, ◌^◌, ◌<◌, ◌≤◌}
use mathlib.Core.Bool.{Bool, true, false, cond, not, or_comm}
use mathlib.Core.List.{List}
use mathlib.Core.Path.{◌≡◌, refl, sym, ap, subst, ◌∙◌}
use native.Mathlib.Decide.{ℕ_discrete}
use native.Mathlib.Omega.{arith}
use lib.Bits.{bit_or}
use lib.Dec.{eqb, ltb}
use lib.ListN.{length, set}
use lib.Seq.{get_or-set_same, get_or-set_other}
use borrow.Author.Tests.{eqb-true, eq-eqb, ne_eqb, ltb-false, not-true, not-false}
use Rattle.laws.proofs.Truth.{clash}
use Rattle.std.specs.Prelude.{Option, Some, None, Ok}
use Rattle.std.specs.Option.{option_or}
use Rattle.laws.proofs.Any.{any-turn, any-end, any_same}
use Rattle.laws.proofs.Bits.{and-bit, or-bit, power-bit}
use Rattle.laws.proofs.Every.{at, every_more, every-end, every-same}
use Rattle.laws.specs.Every.{every, any}
use Rattle.laws.specs.Mask.{bit_of}
use Rattle.laws.specs.Slots.{slots}
use Rattle.machine.specs.Judge.{holds_number, holds_asid}
use Rattle.machine.specs.Table.{same_company}
use Rattle.machine.specs.declared.entry.Company.{Company}
use Rattle.machine.specs.declared.processor.State.{State}
use Rattle.machine.specs.declared.work.Work.{Work}
use Rattle.steps.specs.Steps.{no_work, work_in, work_at, step_at, AreSteps, FirstNone, FirstOther, Checks, asid_bit, unchecked, with_step}
use Rattle.steps.specs.declared.checks.Checked.{Checked}

-- The first number below i without a property, if there is one: at the start of a pass, and at a turn.
abbrev pub FirstBelow : (ℕ → Bool) → ℕ → Option ℕ → Type 0
FirstBelow f i None = (x : ℕ) → x < i → f x ≡ true
FirstBelow f i (Some k) = (k < i) × ((x : ℕ) → x < k → f x ≡ true) × (f k ≡ false)

first-more : (f : ℕ → Bool) (i : ℕ) (r : Option ℕ) → FirstBelow f i r → FirstBelow f (i + 1) (option_or r (cond (f i) None (Some i)))
first-more f i (Some k) (l, h, e) = (omega arith, h, e)
first-more f i None h = go (f i) refl
  where
    go : (b : Bool) → f i ≡ b → FirstBelow f (i + 1) (cond b None (Some i))
    go true e = λ (x : ℕ) (l : x < i + 1). by x l (ℕ_discrete x i)
      where
        by : (x : ℕ) → x < i + 1 → Dec (x ≡ i) → f x ≡ true
        by x l (yes p) = ap f p ∙ e
        by x l (no d) = h x (omega arith)
    go false e = (omega arith, h, e)

-- What was said of the works of the steps below i.
pub record Checking (c : Company) (w : ℕ → Work) (i : ℕ) (r : Checked) : Type 0 where
  pub refused : FirstBelow (λ (x : ℕ). not (eqb (w x).granule 0)) i r.refused
  pub outside : FirstBelow (λ (x : ℕ). same_company (w x).company c) i r.outside
  pub common : (p : ℕ) → p < 8 → bit_of r.common p ≡ every (λ (x : ℕ). bit_of (w x).reached p) i
  pub used : (a : ℕ) → a < 16 → bit_of r.used a ≡ any (λ (x : ℕ). holds_asid a (w x)) i

pub checking-start : (c : Company) (w : ℕ → Work) → Checking c w 0 unchecked
unfolding every any
checking-start c w = record {
  refused = λ (x : ℕ) (l : x < 0). absurd (omega arith);
  outside = λ (x : ℕ) (l : x < 0). absurd (omega arith);
  common = at (bit_of 255) 8 refl;
  used = λ (a : ℕ) (l : a < 16). not-true (bit_of 0 a) (at (λ (b : ℕ). not (bit_of 0 b)) 16 refl a l);
}

-- the bit of a used ASID
asid-bit : (asid : Option ℕ) (a : ℕ) → a < 16 → bit_of (asid_bit asid) a ≡ holds_number a asid
unfolding every
asid-bit asid a l = go asid
  where
    none : bit_of 0 a ≡ false
    none = not-true (bit_of 0 a) (at (λ (b : ℕ). not (bit_of 0 b)) 16 refl a l)

    by : (n : ℕ) (b : Bool) → ltb n 16 ≡ b → bit_of (cond b (2 ^ n) 0) a ≡ eqb n a
    by n true e = power-bit n a
    by n false e = let m : 16 ≤ n = ltb-false n 16 e in none ∙ sym (ne_eqb n a (λ (i : n ≡ a). omega arith))

    go : (o : Option ℕ) → bit_of (asid_bit o) a ≡ holds_number a o
    go None = none
    go (Some n) = by n (ltb n 16) refl

pub checking-more : (c : Company) (w : ℕ → Work) (i : ℕ) (v : Work) (r : Checked) → v ≡ w i → Checking c w i r → Checking c w (i + 1) (with_step r c i v)
checking-more c w i v r e h = subst (λ (x : Work). Checking c w (i + 1) (with_step r c i x)) (sym e) (record {
  refused = first-more (λ (x : ℕ). not (eqb (w x).granule 0)) i r.refused h.refused;
  outside = first-more (λ (x : ℕ). same_company (w x).company c) i r.outside h.outside;
  common = λ (p : ℕ) (k : p < 8). and-bit (w i).reached r.common p ∙ every_more (λ (x : ℕ). bit_of (w x).reached p) i (bit_of (w i).reached p) (bit_of r.common p) refl (h.common p k);
  used = used;
})
  where
    used : (a : ℕ) → a < 16 → bit_of (bit_or r.used (asid_bit (w i).asid)) a ≡ any (λ (x : ℕ). holds_asid a (w x)) (i + 1)
    used a k =
        or-bit r.used (asid_bit (w i).asid) a
        ∙ or_comm (bit_of r.used a) (bit_of (asid_bit (w i).asid) a)
        ∙ any-turn (λ (x : ℕ). holds_asid a (w x)) i (bit_of (asid_bit (w i).asid) a) (bit_of r.used a) (asid-bit (w i).asid a k) (h.used a k)

pub checking-end : (c : Company) (w : ℕ → Work) (works : List Work) (n i : ℕ) (r : Checked) → i ≤ n → n ≤ i → ((x : ℕ) → x < n → work_at works x ≡ w x) →
    Checking c w i r → Checks c works n r
checking-end c w works n i r k l same h = record {
  refused = none r.refused h.refused;
  outside = outside r.outside h.outside;
  common = λ (p : ℕ) (b : p < 8).
      every-end (λ (x : ℕ). bit_of (w x).reached p) i n (bit_of r.common p) (h.common p b) k l
      ∙ every-same (λ (x : ℕ). bit_of (w x).reached p) (λ (x : ℕ). bit_of (work_at works x).reached p) n (λ (x : ℕ) (m : x < n). ap (reaches p) (sym (same x m)));
  used = λ (a : ℕ) (b : a < 16).
      any-end (λ (x : ℕ). holds_asid a (w x)) i n (bit_of r.used a) (h.used a b) k l
      ∙ any_same (λ (x : ℕ). holds_asid a (w x)) (λ (x : ℕ). holds_asid a (work_at works x)) n (λ (x : ℕ) (m : x < n). ap (holds_asid a) (sym (same x m)));
}
  where
    own : Work → Bool
    own v = same_company v.company c

    outside : (o : Option ℕ) → FirstBelow (λ (x : ℕ). own (w x)) i o → FirstOther c works n o
    outside None f = λ (x : ℕ) (m : x < n). ap own (same x m) ∙ f x (omega arith)
    outside (Some x) (m, f, e) = (omega arith, λ (y : ℕ) (b : y < x). ap own (same y (omega arith)) ∙ f y b, ap own (same x (omega arith)) ∙ e)

    granule : Work → ℕ
    granule v = v.granule

    none : (o : Option ℕ) → FirstBelow (λ (x : ℕ). not (eqb (w x).granule 0)) i o → FirstNone works n o
    none None f = λ (x : ℕ) (m : x < n) (z : (work_at works x).granule ≡ 0).
        clash (eq-eqb (w x).granule 0 (ap granule (sym (same x m)) ∙ z)) (not-true (eqb (w x).granule 0) (f x (omega arith)))
    none (Some x) (m, f, e) = (
      omega arith,
      λ (y : ℕ) (b : y < x) (z : (work_at works y).granule ≡ 0).
          clash (eq-eqb (w y).granule 0 (ap granule (sym (same y (omega arith))) ∙ z)) (not-true (eqb (w y).granule 0) (f y b)),
      ap granule (same x (omega arith)) ∙ eqb-true (w x).granule 0 (not-false (eqb (w x).granule 0) e),
    )

    reaches : ℕ → Work → Bool
    reaches p v = bit_of v.reached p

-- the work of step x, and: the steps below i have work, which the list of works has
abbrev pub step_work : State → List ℕ → ℕ → Work
step_work st steps x = work_in (step_at st steps x)

abbrev pub Each : State → List ℕ → List Work → ℕ → Type 0
Each st steps works i = (x : ℕ) → x < i → step_at st steps x ≡ Ok (work_at works x)

pub each_more : (st : State) (steps : List ℕ) (works : List Work) (i : ℕ) (w : Work) → i < length works → step_at st steps i ≡ Ok w → Each st steps works i →
    Each st steps (set works i w) (i + 1)
each_more st steps works i w l e h x m = go (ℕ_discrete x i)
  where
    go : Dec (x ≡ i) → step_at st steps x ≡ Ok (work_at (set works i w) x)
    go (yes p) = subst (λ (y : ℕ). step_at st steps y ≡ Ok (work_at (set works i w) y)) (sym p) (e ∙ ap Ok (sym (get_or-set_same works i w no_work l)))
    go (no d) = h x (omega arith) ∙ ap Ok (sym (get_or-set_other works i x w no_work d))

pub each-end : (st : State) (steps : List ℕ) (works : List Work) (i : ℕ) → slots steps ≤ i → Each st steps works i → AreSteps st steps works
each-end st steps works i m h = record { each = λ (x : ℕ) (k : x < slots steps). ap work_in (sym (h x (omega arith))) }
