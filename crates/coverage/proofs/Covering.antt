-- Which works drop an entry, and which ASIDs they use.
use Prim.Native.Nat.{ℕ, ◌+◌, ◌*◌, ◌/◌, ◌^◌, ◌<◌, ◌≤◌}
use mathlib.Core.Bool.{true, false}
use mathlib.Core.List.{List}
use mathlib.Core.Path.{◌≡◌, refl, sym, ap, ap₂, ◌∙◌}
use Rattle.std.specs.Prelude.{Option, Some, None, is_some, unwrap_or}
use native.Mathlib.Decide.{dec_lt}
use native.Mathlib.Nat.{div-lt_iff_lt-mul, le-div_iff_mul-le}
use native.Mathlib.Omega.{arith}
use lib.Dec.{leb}
use lib.Pow.{pow-add, pow_mono, pow_pos}
use borrow.Author.Tests.{eqb-true, leb-true}
use Rattle.laws.proofs.Below.{Below, below_more}
use Rattle.laws.proofs.Any.{few}
use Rattle.laws.proofs.Truth.{and-1, not_so, clash}
use Rattle.laws.specs.Mask.{bit_of}
use Rattle.machine.proofs.Going.{going}
use Rattle.machine.proofs.Spans.{span-most, meets-number, number-meets}
use Rattle.machine.proofs.Tags.{legal}
use Rattle.machine.specs.Entry.{has_asids, span_of, is_legal}
use Rattle.machine.specs.Goes.{is_met, goes}
use Rattle.machine.specs.Judge.{holds_number, holds_asid}
use Rattle.machine.specs.Span.{meets_range}
use Rattle.machine.specs.declared.entry.Entry.{Entry}
use Rattle.machine.specs.declared.judge.Target.{Target}
use Rattle.machine.specs.declared.work.Work.{Work}
use Rattle.coverage.specs.Asids.{LowestOut, Free, NamedWith, Named, NamedBy}
use Rattle.steps.specs.Steps.{work_at, used_by}

-- an ASID is one number, and none is no number
number-one : {m n : ℕ} → Some m ≡ Some n → m ≡ n
number-one {m} h = ap (λ (o : Option ℕ). unwrap_or o m) h

none-some : {n : ℕ} → None ≡ Some n → ⊥
none-some h = clash (ap is_some h) refl

-- an entry of another granule stays
pub other-granule : (w : Work) (e : Entry) → (e.granule ≡ w.granule → ⊥) → goes w e ≡ false
other-granule w e d = not_so (goes w e) (λ (h : goes w e ≡ true). d (eqb-true e.granule w.granule (going w e h).granule))

-- the span of an entry is at most 2^54 bytes
pub span-low : (e : Entry) (k : ℕ) → is_legal e ≡ true → k ≡ span_of e → k < 64
span-low e k h s = omega (arith, s, span-most e.wide e.granule e.level (legal e h).span)

-- an entry that starts after the range of a work stays
pub span-above : (w : Work) (e : Entry) → w.last < e.base → goes w e ≡ false
span-above w e n =
    not_so (goes w e)
    (λ (h : goes w e ≡ true). omega (arith, n, leb-true e.base w.last (and-1 (leb w.first _) (leb e.base w.last) (going w e h).met)))

-- and so does one whose span ends before it: q is the number of the span
pub span_below : (w : Work) (e : Entry) (k q : ℕ) → k ≡ span_of e → e.base ≡ q * 2 ^ k → q < w.first / 2 ^ k → goes w e ≡ false
span_below w e k q s b n =
    not_so (goes w e)
    (λ (h : goes w e ≡ true).
    let m : meets_range (q * 2 ^ k) k w.first w.last ≡ true = ap₂ (λ (x j : ℕ). meets_range x j w.first w.last) (sym b) s ∙ (going w e h).met in
    omega (arith, n, (number-meets k q w.first w.last m).0))

pub ruleset turned_away = (other-granule, span-low, span-above, span_below)

-- one that does neither is met
pub span-met : (w : Work) (e : Entry) (k q : ℕ) → k ≡ span_of e → e.base ≡ q * 2 ^ k → w.first / 2 ^ k ≤ q → e.base ≤ w.last → is_met w e ≡ true
span-met w e k q s b from to =
    let most : q ≤ w.last / 2 ^ k = (le-div_iff_mul-le (pow_pos k)).1 (omega (arith, b, to)) in
    ap₂ (λ (x j : ℕ). meets_range x j w.first w.last) b (sym s) ∙ meets-number k q w.first w.last from most

-- the ASIDs below a are used
abbrev pub Used : List Work → ℕ → ℕ → Type 0
Used works n = Below (λ (b : ℕ). used_by works n b ≡ true)

-- a step uses one ASID at most, so n steps use n at most
pub used-few : (works : List Work) (n a : ℕ) → Used works n a → a ≤ n
used-few works n a h = few (λ (k b : ℕ). holds_asid b (work_at works k)) n a one h
  where
    one : (k x y : ℕ) → holds_asid x (work_at works k) ≡ true → holds_asid y (work_at works k) ≡ true → x ≡ y
    one k x y p q = same (work_at works k).asid x y p q
      where
        same : (o : Option ℕ) (x y : ℕ) → holds_number x o ≡ true → holds_number y o ≡ true → x ≡ y
        same None x y p q = clash p refl
        same (Some a) x y p q = sym (eqb-true a x p) ∙ eqb-true a y q

pub used-end : (works : List Work) (n a : ℕ) → Used works n a → used_by works n a ≡ false → Free works n a
used-end works n a h e = record { free = e; lowest = h }

-- the number of a span of 2^12 bytes or more
pub number-most : (x k : ℕ) → x < 2 ^ 64 → 12 ≤ k → x / 2 ^ k < 2 ^ 52
number-most x k l h =
    let s : 2 ^ 64 ≤ 2 ^ (52 + k) = pow_mono {i = 64} {j = 52 + k} (omega arith) in
    let e : 2 ^ (52 + k) ≡ 2 ^ 52 * 2 ^ k = pow-add 2 52 k in
    (div-lt_iff_lt-mul {x = x} {y = 2 ^ 52} (pow_pos k)).1 (omega (arith, s, e))

-- the ASID of the entry that is looked for, in each of its cases
pub named-own : (t : Target) (IsFree : ℕ → Type 0) (n : ℕ) → t.asid ≡ Some n → NamedWith t IsFree n
named-own t IsFree n h = record {
  own = λ (m : ℕ) (i : t.asid ≡ Some m). number-one (sym h ∙ i);
  free = λ (i : t.asid ≡ None) (a : has_asids t.company ≡ true). absurd (none-some (sym i ∙ h));
  none = λ (i : t.asid ≡ None) (a : has_asids t.company ≡ false). absurd (none-some (sym i ∙ h));
}

pub named-free : (t : Target) (IsFree : ℕ → Type 0) (a : ℕ) → t.asid ≡ None → has_asids t.company ≡ true → IsFree a → NamedWith t IsFree a
named-free t IsFree a h k f = record {
  own = λ (n : ℕ) (i : t.asid ≡ Some n). absurd (none-some (sym h ∙ i));
  free = λ (i : t.asid ≡ None) (j : has_asids t.company ≡ true). f;
  none = λ (i : t.asid ≡ None) (j : has_asids t.company ≡ false). clash k j;
}

pub named_none : (t : Target) (IsFree : ℕ → Type 0) → t.asid ≡ None → has_asids t.company ≡ false → NamedWith t IsFree 0
named_none t IsFree h k = record {
  own = λ (n : ℕ) (i : t.asid ≡ Some n). absurd (none-some (sym h ∙ i));
  free = λ (i : t.asid ≡ None) (j : has_asids t.company ≡ true). clash j k;
  none = λ (i : t.asid ≡ None) (j : has_asids t.company ≡ false). refl;
}

-- the numbers below a are in a set: at the two ends of a loop that looks for one that is not
abbrev pub InBelow : ℕ → ℕ → Type 0
InBelow used = Below (λ (b : ℕ). bit_of used b ≡ true)

pub out-here : (used a : ℕ) → a < 16 → InBelow used a → bit_of used a ≡ false → LowestOut used a
out-here used a l h e = record { most = omega arith; lower = h; here = λ (m : a < 16). e }

pub out-end : (used a : ℕ) → 16 ≤ a → InBelow used a → LowestOut used 16
out-end used a l h = record {
  most = omega arith;
  lower = λ (b : ℕ) (m : b < 16). h b (omega arith);
  here = λ (m : 16 < 16). absurd (let z : ⊥ = omega arith in z);
}

-- the set of the ASIDs below 16 that a few steps use names the one that no step uses
lowest-free : (works : List Work) (n used a : ℕ) → n ≤ 16 → ((b : ℕ) → b < 16 → bit_of used b ≡ used_by works n b) → LowestOut used a → Free works n a
lowest-free works n used a most same h = used-end works n a lower (go (dec_lt a 16))
  where
    lower : Used works n a
    lower b l = let m = h.most in sym (same b (omega arith)) ∙ h.lower b l

    go : Dec (a < 16) → used_by works n a ≡ false
    go (yes l) = sym (same a l) ∙ h.here l
    go (no l) =
        not_so (used_by works n a) (λ (e : used_by works n a ≡ true). let few = used-few works n (a + 1) (below_more (λ (b : ℕ). used_by works n b ≡ true) a lower e) in omega arith)

pub named_by : (t : Target) (works : List Work) (n used a : ℕ) → n ≤ 16 → ((b : ℕ) → b < 16 → bit_of used b ≡ used_by works n b) → NamedBy t used a →
    Named t works n a
named_by t works n used a most same h = record {
  own = h.own;
  free = λ (i : t.asid ≡ None) (j : has_asids t.company ≡ true). lowest-free works n used a most same (h.free i j);
  none = h.none;
}
