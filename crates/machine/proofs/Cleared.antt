-- What a cleared word is, bit by bit and field by field.
use Prim.Native.Nat.{ℕ, ◌+◌, ◌*◌, ◌-◌, ◌/◌, ◌%◌, ◌^◌, ◌<◌, ◌≤◌}
use mathlib.Core.Bool.{Bool, true, false, cond, not, ◌&&◌, ◌||◌}
use mathlib.Core.Path.{◌≡◌, refl, sym, ap, ◌∙◌}
use native.Mathlib.Nat.{mul_comm}
use native.Mathlib.Omega.{arith}
use lib.Dec.{eqb, ltb, leb}
use lib.Pow.{field}
use borrow.Author.Tests.{eq-eqb, ne_eqb, le-leb, lt-leb, le-ltb, lt-ltb}
use Rattle.laws.proofs.Bits.{mask-cut, mask-within, mask-if}
use Rattle.laws.proofs.Mask.{mask_below, mask-bit}
use Rattle.laws.specs.Bits.{bits, down}
use Rattle.laws.specs.Mask.{bit_of, mask_from}
use Rattle.machine.proofs.Bases.{SomeGranule}
use Rattle.machine.specs.Operand.{has_asid, has_ns, granule_exponent, reads_as_zero, asid_in, ns_in, tg_in, scale_in, num_in, ttl_in, stays_xt, stays_xt2, cleared}
use Rattle.machine.specs.declared.operand.Form.{Form}
use Rattle.machine.specs.declared.operand.Form.TheVariants.{TwoRangesAsid, TwoRanges, OneRange, Stage2Ns, Stage2NoNs}
use Rattle.machine.specs.declared.operand.Told.{Told}

-- each of the 64 bits of a cleared word
pub cleared-bit : (stays : ℕ → Bool) (x i : ℕ) → i < 64 → bit_of (cleared stays x) i ≡ (bit_of x i && stays i)
cleared-bit stays x i h =
    let e : 0 + i ≡ i = omega arith in
    mask-bit (λ (k : ℕ). bit_of x k && stays k) 0 64 i h ∙ ap (λ (k : ℕ). bit_of x k && stays k) e

-- and there are no others
pub cleared-fits : (stays : ℕ → Bool) (x : ℕ) → cleared stays x < 2 ^ 64
cleared-fits stays x = mask_below (λ (k : ℕ). bit_of x k && stays k) 0 64

-- no form has both ASID and NS
pub one_of : (f : Form) → (has_asid f && has_ns f) ≡ false
one_of TwoRangesAsid = refl
one_of TwoRanges = refl
one_of OneRange = refl
one_of Stage2Ns = refl
one_of Stage2NoNs = refl

-- where a test of the bits from p on is one answer, they stay or are cleared together
together : (stays : ℕ → Bool) (b : Bool) (x p n : ℕ) → ((k : ℕ) → p ≤ k → k < p + n → stays k ≡ b) →
    mask_from (λ i. bit_of x i && stays i) p n ≡ cond b (x / 2 ^ p % 2 ^ n) 0
together stays b x p n h =
    mask-within (λ (i : ℕ). bit_of x i && stays i) (λ (i : ℕ). bit_of x i && b) p n
    (λ (k : ℕ) (l : p ≤ k) (u : k < p + n). ap (λ (c : Bool). bit_of x k && c) (h k l u))
    ∙ mask-if x p n b

-- The bits that stay, from the top: 63:48, 47:39, 38:37 and 36:0.
abbrev stays_top : Bool → Bool → ℕ → Bool
stays_top a n i = a || (n && eqb i 63)

top-bits : (a n : Bool) (x : ℕ) → (a && n) ≡ false →
    mask_from (λ i. bit_of x i && stays_top a n i) 48 16 ≡ cond n (bits 63 63 x) 0 * 2 ^ 15 + cond a (bits 63 48 x) 0
top-bits true true x d = absurd (let z : ◌≡◌ {A = ℕ} 0 1 = cc in omega arith)
top-bits true false x d = let h : mask_from (λ i. bit_of x i && true) 48 16 ≡ x / 2 ^ 48 % 2 ^ 16 = mask-if x 48 16 true in omega arith
top-bits false true x d =
    let g : ℕ → Bool = λ (i : ℕ). bit_of x i && (false || (true && eqb i 63)) in
    let low : mask_from g 48 15 ≡ 0 =
    together (λ (i : ℕ). eqb i 63) false x 48 15 (λ (k : ℕ) (l : 48 ≤ k) (u : k < 48 + 15). ne_eqb k 63 (λ (e : k ≡ 63). omega arith)) in
    let high : mask_from g 63 1 ≡ x / 2 ^ 63 % 2 ^ 1 =
    together (λ (i : ℕ). eqb i 63) true x 63 1 (λ (k : ℕ) (l : 63 ≤ k) (u : k < 63 + 1). let e : k ≡ 63 = omega arith in eq-eqb k 63 e) in
    let cut : mask_from g 48 16 ≡ mask_from g 48 15 + 2 ^ 15 * mask_from g 63 1 = mask-cut g 48 15 1 in
    omega arith
top-bits false false x d = mask-if x 48 16 false

middle : (x : ℕ) → x / 2 ^ 39 % 2 ^ 9 ≡ num_in x + scale_in x * 2 ^ 5 + tg_in x * 2 ^ 7
middle x = omega arith

pub xt-cleared : (t : Told) (xt : ℕ) →
    cleared (stays_xt t xt) xt
    ≡ ns_in t.form xt * 2 ^ 63
    + asid_in t.form xt * 2 ^ 48
    + tg_in xt * 2 ^ 46
    + scale_in xt * 2 ^ 44
    + num_in xt * 2 ^ 39
    + cond (not (reads_as_zero t.lpa2 (tg_in xt) (ttl_in xt))) (ttl_in xt) 0 * 2 ^ 37
    + cond (not t.tlbip) (bits 36 0 xt) 0
xt-cleared t xt =
    let stays : ℕ → Bool = stays_xt t xt in
    let hinted : Bool = not (reads_as_zero t.lpa2 (tg_in xt) (ttl_in xt)) in
    let g : ℕ → Bool = λ (i : ℕ). bit_of xt i && stays i in
    let base : mask_from g 0 37 ≡ cond (not t.tlbip) (bits 36 0 xt) 0 =
    together stays (not t.tlbip) xt 0 37
    (λ (k : ℕ) (l : 0 ≤ k) (u : k < 0 + 37). simp (lt-leb 48 k (omega arith), lt-leb 39 k (omega arith), lt-leb 37 k (omega arith))) in
    let hint : mask_from g 37 2 ≡ cond hinted (ttl_in xt) 0 =
    together stays hinted xt 37 2
    (λ (k : ℕ) (l : 37 ≤ k) (u : k < 37 + 2). simp (lt-leb 48 k (omega arith), lt-leb 39 k (omega arith), le-leb 37 k l)) in
    let mid : mask_from g 39 9 ≡ xt / 2 ^ 39 % 2 ^ 9 =
    together stays true xt 39 9 (λ (k : ℕ) (l : 39 ≤ k) (u : k < 39 + 9). simp (lt-leb 48 k (omega arith), le-leb 39 k l)) in
    let top : mask_from g 48 16 ≡ ns_in t.form xt * 2 ^ 15 + asid_in t.form xt =
    mask-within g (λ (i : ℕ). bit_of xt i && stays_top (has_asid t.form) (has_ns t.form) i) 48 16
    (λ (k : ℕ) (l : 48 ≤ k) (u : k < 48 + 16). simp (le-leb 48 k l))
    ∙ top-bits (has_asid t.form) (has_ns t.form) xt (one_of t.form) in
    let c1 : mask_from g 0 64 ≡ mask_from g 0 37 + 2 ^ 37 * mask_from g 37 27 = mask-cut g 0 37 27 in
    let c2 : mask_from g 37 27 ≡ mask_from g 37 2 + 2 ^ 2 * mask_from g 39 25 = mask-cut g 37 2 25 in
    let c3 : mask_from g 39 25 ≡ mask_from g 39 9 + 2 ^ 9 * mask_from g 48 16 = mask-cut g 39 9 16 in
    omega (arith, middle xt)

-- and of Xt2: BaseADDR[55:12] from the granule on
pub xt2-cleared : (t : Told) (xt xt2 : ℕ) → SomeGranule (tg_in xt) →
    cleared (stays_xt2 t xt) xt2 ≡ cond t.tlbip (down (granule_exponent (tg_in xt) - 12) (bits 43 0 xt2)) 0
xt2-cleared t xt xt2 (some, most) = go t.tlbip
  where
    stays : Bool → ℕ → Bool
    stays p i = p && ltb i 44 && leb (granule_exponent (tg_in xt)) (i + 12)

    pair : (j : ℕ) → granule_exponent (tg_in xt) ≡ j + 12 → j ≤ 44 → cleared (stays true) xt2 ≡ down j (bits 43 0 xt2)
    pair j e h =
        let g : ℕ → Bool = λ (i : ℕ). bit_of xt2 i && stays true i in
        let low : mask_from g 0 j ≡ 0 =
        together (stays true) false xt2 0 j
        (λ (k : ℕ) (l : 0 ≤ k) (u : k < 0 + j). simp (lt-ltb k 44 (omega arith), lt-leb (granule_exponent (tg_in xt)) (k + 12) (omega arith))) in
        let mid : mask_from g j (44 - j) ≡ xt2 / 2 ^ j % 2 ^ (44 - j) =
        together (stays true) true xt2 j (44 - j)
        (λ (k : ℕ) (l : j ≤ k) (u : k < j + (44 - j)). simp (lt-ltb k 44 (omega arith), le-leb (granule_exponent (tg_in xt)) (k + 12) (omega arith))) in
        let high : mask_from g 44 20 ≡ 0 =
        together (stays true) false xt2 44 20 (λ (k : ℕ) (l : 44 ≤ k) (u : k < 44 + 20). simp (le-ltb k 44 l)) in
        let i : j + (44 - j) ≡ 44 = omega arith in
        let c1 : mask_from g 0 64 ≡ mask_from g 0 44 + 2 ^ 44 * mask_from g 44 20 = mask-cut g 0 44 20 in
        let o : 0 + j ≡ j = omega arith in
        let c2 : mask_from g 0 44 ≡ mask_from g 0 j + 2 ^ j * mask_from g j (44 - j) =
        ap (mask_from g 0) (sym i)
        ∙ mask-cut g 0 j (44 - j)
        ∙ ap (λ (q : ℕ). mask_from g 0 j + 2 ^ j * mask_from g q (44 - j)) o in
        let all : xt2 / 2 ^ 0 ≡ xt2 = omega arith in
        let c : 44 ≡ (44 - j) + j = omega arith in
        let f : bits 43 0 xt2 / 2 ^ j ≡ xt2 / 2 ^ j % 2 ^ (44 - j) =
        ap (λ (n : ℕ). n % 2 ^ 44 / 2 ^ j) all ∙ ap (λ (n : ℕ). xt2 % 2 ^ n / 2 ^ j) c ∙ field xt2 (44 - j) j in
        let z : mask_from g 0 64 ≡ 2 ^ j * mask_from g j (44 - j) = omega arith in
        z ∙ ap (λ (n : ℕ). 2 ^ j * n) (mid ∙ sym f) ∙ mul_comm (2 ^ j) (bits 43 0 xt2 / 2 ^ j)

    go : (p : Bool) → cleared (stays p) xt2 ≡ cond p (down (granule_exponent (tg_in xt) - 12) (bits 43 0 xt2)) 0
    go true = pair (granule_exponent (tg_in xt) - 12) (omega arith) (omega arith)
    go false = mask-if xt2 0 64 false
