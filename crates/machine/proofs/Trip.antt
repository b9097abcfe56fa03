-- Reading and building are inverse to each other: a word reads as an operation exactly when that operation builds it.
use Rattle.std.specs.Prelude.{Option, Some, None}
use Prim.Native.Nat.{ℕ, ◌+◌, ◌*◌, ◌/◌, ◌^◌, ◌≤◌, ◌<◌}
use mathlib.Core.Path.{◌≡◌, refl, sym, ap, ◌∙◌}
use mathlib.Core.Bool.{Bool, true, false, cond, ◌||◌}
use mathlib.Core.Logic.{◌↔◌}
use native.Mathlib.Omega.{arith}
use lib.Dec.{eqb, ltb}
use borrow.Author.Tests.{eqb-true, ltb-true, lt-ltb, ne_eqb}
use Rattle.laws.proofs.Truth.{and_0, and-1}
use Rattle.machine.specs.declared.operation.Operation.{Operation}
use Rattle.machine.specs.Word.{family_of, op1_of, crm_of, op2_of, row_of, fixed_of, is_sys, is_sysp, is_fixed, op1_in, crn_in, crm_in, op2_in, rt_in, of_row, read_of, word_of, built_of}
use Rattle.machine.proofs.Rows.{row-of-numbers, op1-below, crm-below, op2-below, numbers-of-row}
use Rattle.machine.specs.declared.operation.Name.{Name}
use Rattle.machine.specs.declared.operation.Share.{Share}

-- a word put together from its places, over the number f of its fixed bits
abbrev word : ℕ → ℕ → ℕ → ℕ → ℕ → ℕ → ℕ
word f o c m n t = f * 524288 + o * 65536 + c * 4096 + m * 256 + n * 32 + t

-- each place of such a word reads back
record Places (f o c m n t : ℕ) : Type 0 where
  fixed : fixed_of (word f o c m n t) ≡ f * 524288
  op1 : op1_in (word f o c m n t) ≡ o
  crn : crn_in (word f o c m n t) ≡ c
  crm : crm_in (word f o c m n t) ≡ m
  op2 : op2_in (word f o c m n t) ≡ n
  rt : rt_in (word f o c m n t) ≡ t

places : (f o c m n t : ℕ) → o < 8 → c < 16 → m < 16 → n < 8 → t < 32 → Places f o c m n t
places f o c m n t ho hc hm hn ht =
    record { fixed = omega arith; op1 = omega arith; crn = omega arith; crm = omega arith; op2 = omega arith; rt = omega arith }

-- the fixed bits of SYS and SYSP, and CRn, from the flags
abbrev fixed_no : Bool → ℕ
fixed_no tlbip = cond tlbip 6825 6817

abbrev crn_no : Bool → ℕ
crn_no nxs = cond nxs 9 8

read-places : (p x : Bool) (o m n t : ℕ) → o < 8 → m < 16 → n < 8 → t < 32 →
    read_of (word (fixed_no p) o (crn_no x) m n t) ≡ of_row (row_of o m n) x p t
unfolding read_of
read-places true true o m n t ho hm hn ht =
    let w = places 6825 o 9 m n t ho (omega arith) hm hn ht in
    simp (w.fixed, w.op1, w.crn, w.crm, w.op2, w.rt)
read-places true false o m n t ho hm hn ht =
    let w = places 6825 o 8 m n t ho (omega arith) hm hn ht in
    simp (w.fixed, w.op1, w.crn, w.crm, w.op2, w.rt)
read-places false true o m n t ho hm hn ht =
    let w = places 6817 o 9 m n t ho (omega arith) hm hn ht in
    simp (w.fixed, w.op1, w.crn, w.crm, w.op2, w.rt)
read-places false false o m n t ho hm hn ht =
    let w = places 6817 o 8 m n t ho (omega arith) hm hn ht in
    simp (w.fixed, w.op1, w.crn, w.crm, w.op2, w.rt)

word-of-places : (p x : Bool) (o m n t : ℕ) →
    cond p 0xD5480000 0xD5080000 + o * 65536 + cond x 9 8 * 4096 + m * 256 + n * 32 + t ≡ word (fixed_no p) o (crn_no x) m n t
word-of-places true x o m n t = refl
word-of-places false x o m n t = refl

-- what an operation's word reads as
pub built-reads : (op : Operation) → op.rt < 32 → read_of (word_of op) ≡ Some op
unfolding word_of
built-reads op h =
    let n = op.name in
    let s = op.share in
    ap read_of (word-of-places op.tlbip op.nxs (op1_of (family_of n)) (crm_of (family_of n) s) (op2_of n s) op.rt)
    ∙ read-places op.tlbip op.nxs (op1_of (family_of n)) (crm_of (family_of n) s) (op2_of n s) op.rt (op1-below n s) (crm-below n s) (op2-below n s) h
    ∙ ap (λ (r : Option (Name × Share)). of_row r op.nxs op.tlbip op.rt) (row-of-numbers n s)

-- one place at a time, then added up: all at once is too much for `omega`
sum : (f o c m n t u v w x y : ℕ) → f + o ≡ u → u + c ≡ v → v + m ≡ w → w + n ≡ x → x + t ≡ y → f + o + c + m + n + t ≡ y
sum f o c m n t u v w x y h i j k l = omega arith

-- every number is the word of its places
joined : (w : ℕ) → fixed_of w + op1_in w * 65536 + crn_in w * 4096 + crm_in w * 256 + op2_in w * 32 + rt_in w ≡ w
joined w =
    sum (fixed_of w) (op1_in w * 65536) (crn_in w * 4096) (crm_in w * 256) (op2_in w * 32) (rt_in w)
    (w / 65536 * 65536) (w / 4096 * 4096) (w / 256 * 256) (w / 32 * 32) w
    (omega arith) (omega arith) (omega arith) (omega arith) (omega arith)

fixed-is : (w : ℕ) (s p : Bool) → is_sys w ≡ s → is_sysp w ≡ p → (s || p) ≡ true → fixed_of w ≡ cond p 0xD5480000 0xD5080000
fixed-is w s true hs hp h = eqb-true _ _ hp
fixed-is w true false hs hp h = eqb-true _ _ hs
fixed-is w false false hs hp h = absurd (let z : ◌≡◌ {A = ℕ} 0 1 = cc in omega arith)

crn-is : (w : ℕ) (e x : Bool) → eqb (crn_in w) 8 ≡ e → eqb (crn_in w) 9 ≡ x → (e || x) ≡ true → crn_in w ≡ cond x 9 8
crn-is w e true he hx h = eqb-true _ _ hx
crn-is w true false he hx h = eqb-true _ _ he
crn-is w false false he hx h = absurd (let z : ◌≡◌ {A = ℕ} 0 1 = cc in omega arith)

taken : (b : Bool) (d : Option Operation) (op : Operation) → cond b d None ≡ Some op → (b ≡ true) × (d ≡ Some op)
taken true d op h = (refl, h)
taken false d op h = absurd (let z : ◌≡◌ {A = ℕ} 0 1 = cc in omega arith)

-- the operation of a row, put together again
rebuilt : (w : ℕ) → is_fixed w ≡ true → (r : Option (Name × Share)) → row_of (op1_in w) (crm_in w) (op2_in w) ≡ r → (op : Operation) →
    of_row r (eqb (crn_in w) 9) (is_sysp w) (rt_in w) ≡ Some op → built_of op ≡ Some w
unfolding word_of built_of
rebuilt w f None hr op h = absurd (let z : ◌≡◌ {A = ℕ} 0 1 = cc in omega arith)
rebuilt w f (Some (n, s)) hr op h =
    let k = numbers-of-row (op1_in w) (crm_in w) (op2_in w) (omega arith) (omega arith) (omega arith) n s hr in
    let sys : Bool = is_sys w || is_sysp w in
    let crn : Bool = eqb (crn_in w) 8 || eqb (crn_in w) 9 in
    let a = fixed-is w (is_sys w) (is_sysp w) refl refl (and_0 sys crn f) in
    let b = crn-is w (eqb (crn_in w) 8) (eqb (crn_in w) 9) refl refl (and-1 sys crn f) in
    let l : ltb (rt_in w) 32 ≡ true = lt-ltb (rt_in w) 32 (omega arith) in
    let e : op ≡ record { name = n; share = s; nxs = eqb (crn_in w) 9; tlbip = is_sysp w; rt = rt_in w } = cc in
    ap built_of e ∙ rw (l, k.op1, k.crm, k.op2, ← a, ← b) (ap Some (joined w))

-- what is read was built
pub read-builds : (w : ℕ) (op : Operation) → read_of w ≡ Some op → built_of op ≡ Some w
unfolding read_of
read-builds w op h =
    let t = taken (is_fixed w) (of_row (row_of (op1_in w) (crm_in w) (op2_in w)) (eqb (crn_in w) 9) (is_sysp w) (rt_in w)) op h in
    rebuilt w t.0 (row_of (op1_in w) (crm_in w) (op2_in w)) refl op t.1

-- an operation builds a word just where its Rt has a place
pub built-word : (op : Operation) (w : ℕ) → built_of op ≡ Some w → (op.rt < 32) × (word_of op ≡ w)
unfolding built_of
built-word op w h = go (ltb op.rt 32) refl h
  where
    go : (b : Bool) → ltb op.rt 32 ≡ b → cond b (Some (word_of op)) None ≡ Some w → (op.rt < 32) × (word_of op ≡ w)
    go true t g = (ltb-true _ _ t, cc)
    go false t g = absurd (let z : ◌≡◌ {A = ℕ} 0 1 = cc in omega arith)

-- "a word is read exactly when some operation builds it"
pub reads-built : (w : ℕ) (op : Operation) → (read_of w ≡ Some op) ↔ (built_of op ≡ Some w)
reads-built w op = (
  read-builds w op,
  λ (h : built_of op ≡ Some w). sym (ap read_of (built-word op w h).1) ∙ built-reads op (built-word op w h).0,
)

-- the Rt of what is read has a place
pub read-rt : (w : ℕ) (op : Operation) → read_of w ≡ Some op → op.rt < 32
read-rt w op h = (built-word op w (read-builds w op h)).0

-- 2^32 or more is not one of the operations
pub read-far : (w : ℕ) → 2 ^ 32 ≤ w → read_of w ≡ None
unfolding read_of
read-far w h = simp (ne_eqb (fixed_of w) 0xD5080000 (omega arith), ne_eqb (fixed_of w) 0xD5480000 (omega arith))
