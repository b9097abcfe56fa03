-- A range covers the addresses from its base on, as many as it is long, save those that there are not; and the operand's answers.
use Rattle.std.specs.Prelude.{Ok, Err, Result}
use Prim.Native.Nat.{ℕ, ◌+◌, ◌*◌, ◌-◌, ◌^◌, ◌<◌, ◌≤◌}
use mathlib.Core.Bool.{Bool, true, false, cond, ◌||◌}
use mathlib.Core.Logic.{◌↔◌}
use mathlib.Core.Path.{◌≡◌, refl, subst}
use native.Mathlib.Nat.{mul-pos}
use native.Mathlib.Omega.{arith}
use lib.Dec.{eqb, ltb}
use lib.Pow.{pow_pos}
use Rattle.laws.specs.Bits.{bits}
use Rattle.machine.proofs.Bases.{address-fits, address-reach, field-most}
use Rattle.machine.proofs.Fields.{writable, read-writable, read-within}
use Rattle.machine.specs.Answer.{number_of}
use Rattle.machine.specs.Operand.{copies_top, granule_exponent, address_of, tg_in, fields_in, operand_of, field_of, is_writable, xt_of, xt2_of, words_of}
use Rattle.machine.specs.Range.{length_of, range_of, is_unpredictable, ranged_by, ranged_of}
use Rattle.machine.specs.declared.operand.Operand.{Operand}
use Rattle.machine.specs.declared.operand.Told.{Told}
use Rattle.machine.specs.declared.refusal.Refusal.TheVariants as refusal
use Rattle.machine.specs.declared.refusal.Refusal.{Refusal}

-- a base that is read is an address
pub read-base : (t : Told) (xt xt2 : ℕ) (o : Operand) → operand_of t xt xt2 ≡ Ok o → o.base < 2 ^ 64
read-base t xt xt2 o h =
    let w = read-within t xt xt2 o h in
    let s : address_of t o.tg (field_of t o.tg o.base) ≡ o.base = (writable t o (read-writable t xt xt2 o h)).shown in
    subst (λ (n : ℕ). n < 2 ^ 64) s (address-fits t o.tg (field_of t o.tg o.base) (w.0, w.1) (field-most t o.tg o.base))

-- and its bits 63:55 are equal where there are two ranges, or it is below 2^56
pub read-reach : (t : Told) (xt xt2 : ℕ) (o : Operand) → operand_of t xt xt2 ≡ Ok o →
    cond (copies_top t.form) (eqb (bits 63 55 o.base) 0 || eqb (bits 63 55 o.base) (2 ^ 9 - 1)) (ltb o.base (2 ^ 56)) ≡ true
read-reach t xt xt2 o h =
    let w = read-within t xt xt2 o h in
    let s : address_of t o.tg (field_of t o.tg o.base) ≡ o.base = (writable t o (read-writable t xt xt2 o h)).shown in
    subst (λ (n : ℕ). cond (copies_top t.form) (eqb (bits 63 55 n) 0 || eqb (bits 63 55 n) (2 ^ 9 - 1)) (ltb n (2 ^ 56)) ≡ true) s
    (address-reach t o.tg (field_of t o.tg o.base) (w.0, w.1) (field-most t o.tg o.base))

-- some address is covered, and there is a last
length_some : (o : Operand) → 0 < length_of o
unfolding length_of
length_some o = mul-pos (mul-pos (omega arith) (pow_pos (5 * o.scale + 1))) (pow_pos (granule_exponent o.tg))

pub range-some : (o : Operand) → o.base < 2 ^ 64 → ((range_of o).first ≤ (range_of o).last) × ((range_of o).last < 2 ^ 64)
unfolding range_of
range-some o h = let l : 0 < length_of o = length_some o in (omega arith, omega arith)

-- "first and last" are both in it, the sum does not wrap, and it ends at 2^64 at most
pub range-covers : (o : Operand) → o.base < 2 ^ 64 → (a : ℕ) → a < 2 ^ 64 →
    (((range_of o).first ≤ a) × (a ≤ (range_of o).last)) ↔ ((o.base ≤ a) × (a < o.base + length_of o))
unfolding range_of
range-covers o h a k =
    let l : 0 < length_of o = length_some o in
    (λ (p : (o.base ≤ a) × (a ≤ (range_of o).last)). (p.0, omega (arith, p.1)), λ (p : (o.base ≤ a) × (a < o.base + length_of o)). (p.0, omega (arith, p.1)))

-- "Operand reader: 6; writer: 8.", each exactly there; and 6 before 7
pub read_answer : (t : Told) (xt xt2 : ℕ) → number_of (operand_of t xt xt2) ≡ cond (eqb (tg_in xt) 0) 6 0
unfolding operand_of
read_answer t xt xt2 = go (eqb (tg_in xt) 0)
  where
    go : (b : Bool) → number_of (cond b (Err refusal.NoGranule) (Ok (fields_in t xt xt2))) ≡ cond b 6 0
    go true = refl
    go false = refl

pub write-answer : (t : Told) (o : Operand) → number_of (words_of t o) ≡ cond (is_writable t o) 0 8
unfolding words_of
write-answer t o = go (is_writable t o)
  where
    go : (b : Bool) → number_of (cond {A = Result (ℕ × ℕ) Refusal} b (Ok (xt_of t o, xt2_of t o)) (Err refusal.Illegal)) ≡ cond b 0 8
    go true = refl
    go false = refl

pub range-answer : (t : Told) (xt xt2 : ℕ) →
    number_of (ranged_of t xt xt2) ≡ cond (eqb (tg_in xt) 0) 6 (cond (is_unpredictable t.tlbip (fields_in t xt xt2)) 7 0)
unfolding ranged_of operand_of
range-answer t xt xt2 = go (eqb (tg_in xt) 0) (is_unpredictable t.tlbip (fields_in t xt xt2)) refl
  where
    go : (b u : Bool) → is_unpredictable t.tlbip (fields_in t xt xt2) ≡ u →
        number_of (ranged_by t.tlbip (cond b (Err refusal.NoGranule) (Ok (fields_in t xt xt2)))) ≡ cond b 6 (cond u 7 0)
    go true u e = refl
    go false true e = simp e
    go false false e = simp e
