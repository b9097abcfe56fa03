-- Reading and writing operands are inverse to each other, in every form, for TLBI and TLBIP, and in either unit.
use Rattle.std.specs.Prelude.{Ok, Err, Result}
use Prim.Native.Nat.{ℕ, zero, suc, ◌+◌, ◌*◌, ◌-◌, ◌/◌, ◌^◌, ◌<◌, ◌≤◌}
use mathlib.Core.Bool.{Bool, true, false, cond, not, ◌&&◌}
use mathlib.Core.Path.{◌≡◌, refl, sym, ap, ap₂, subst, ◌∙◌}
use native.Mathlib.Nat.{mod-lt}
use native.Mathlib.Omega.{arith}
use lib.Dec.{eqb, ltb}
use borrow.Author.Tests.{eq-eqb, eqb-true, ltb-true, lt-ltb, not-true}
use Rattle.laws.proofs.Truth.{and_0, and-1}
use Rattle.laws.specs.Bits.{bits, down}
use Rattle.machine.proofs.Bases.{SomeGranule, width_of, kept_of, field-most, field-read, shown_read}
use Rattle.machine.proofs.Cleared.{one_of, xt-cleared, xt2-cleared}
use Rattle.machine.specs.Answer.{number_of, written_xt, written_xt2}
use Rattle.machine.specs.Operand.{has_asid, has_ns, granule_exponent, address_of, reads_as_zero, hint_of, tg_in, scale_in, num_in, ttl_in, base_in, fields_in, Within, operand_of, field_of, is_shown, fits, is_writable, xt_of, xt2_of, words_of, stays_xt, stays_xt2, cleared}
use Rattle.machine.specs.declared.operand.Operand.{Operand}
use Rattle.machine.specs.declared.operand.Told.{Told}
use Rattle.machine.specs.declared.refusal.Refusal.TheVariants as refusal
use Rattle.machine.specs.declared.refusal.Refusal.{Refusal}

-- What is not refused, reason by reason.
pub record Writable (t : Told) (o : Operand) : Type 0 where
  pub tg_most : o.tg < 4
  pub tg_some : eqb o.tg 0 ≡ false
  pub scale : o.scale < 4
  pub num : o.num < 32
  pub ttl : o.ttl < 4
  pub asid : fits (has_asid t.form) 16 o.asid ≡ true
  pub ns : fits (has_ns t.form) 1 o.ns ≡ true
  pub hint : reads_as_zero t.lpa2 o.tg o.ttl ≡ false
  pub shown : address_of t o.tg (field_of t o.tg o.base) ≡ o.base

pub writable : (t : Told) (o : Operand) → is_writable t o ≡ true → Writable t o
unfolding is_writable is_shown
writable t o h =
    let a1 : Bool = ltb o.tg 4 in
    let a2 : Bool = not (eqb o.tg 0) in
    let a3 : Bool = ltb o.scale 4 in
    let a4 : Bool = ltb o.num 32 in
    let a5 : Bool = ltb o.ttl 4 in
    let a6 : Bool = fits (has_asid t.form) 16 o.asid in
    let a7 : Bool = fits (has_ns t.form) 1 o.ns in
    let a8 : Bool = not (reads_as_zero t.lpa2 o.tg o.ttl) in
    let h8 = and_0 (a1 && a2 && a3 && a4 && a5 && a6 && a7 && a8) _ h in
    let h7 = and_0 (a1 && a2 && a3 && a4 && a5 && a6 && a7) a8 h8 in
    let h6 = and_0 (a1 && a2 && a3 && a4 && a5 && a6) a7 h7 in
    let h5 = and_0 (a1 && a2 && a3 && a4 && a5) a6 h6 in
    let h4 = and_0 (a1 && a2 && a3 && a4) a5 h5 in
    let h3 = and_0 (a1 && a2 && a3) a4 h4 in
    let h2 = and_0 (a1 && a2) a3 h3 in
    record {
      tg_most = ltb-true _ _ (and_0 a1 a2 h2);
      tg_some = not-true _ (and-1 a1 a2 h2);
      scale = ltb-true _ _ (and-1 (a1 && a2) a3 h3);
      num = ltb-true _ _ (and-1 (a1 && a2 && a3) a4 h4);
      ttl = ltb-true _ _ (and-1 (a1 && a2 && a3 && a4) a5 h5);
      asid = and-1 (a1 && a2 && a3 && a4 && a5) a6 h6;
      ns = and-1 (a1 && a2 && a3 && a4 && a5 && a6) a7 h7;
      hint = not-true _ (and-1 (a1 && a2 && a3 && a4 && a5 && a6 && a7) a8 h8);
      shown = eqb-true _ _ (and-1 (a1 && a2 && a3 && a4 && a5 && a6 && a7 && a8) _ h);
    }

pub writable-holds : (t : Told) (o : Operand) → Writable t o → is_writable t o ≡ true
unfolding is_writable is_shown
writable-holds t o w =
    simp (
      lt-ltb _ _ w.tg_most,
      w.tg_some,
      lt-ltb _ _ w.scale,
      lt-ltb _ _ w.num,
      lt-ltb _ _ w.ttl,
      w.asid,
      w.ns,
      w.hint,
      eq-eqb _ _ w.shown,
    )

-- the word of fields over the number of its 37 lowest bits
abbrev word : ℕ → ℕ → ℕ → ℕ → ℕ → ℕ → ℕ → ℕ
word ns asid tg scale num ttl low = ns * 2 ^ 63 + asid * 2 ^ 48 + tg * 2 ^ 46 + scale * 2 ^ 44 + num * 2 ^ 39 + ttl * 2 ^ 37 + low

-- each place of such a word reads back
record Places (ns asid tg scale num ttl low : ℕ) : Type 0 where
  tg_place : tg_in (word ns asid tg scale num ttl low) ≡ tg
  scale_place : scale_in (word ns asid tg scale num ttl low) ≡ scale
  num_place : num_in (word ns asid tg scale num ttl low) ≡ num
  ttl_place : ttl_in (word ns asid tg scale num ttl low) ≡ ttl
  low_place : bits 36 0 (word ns asid tg scale num ttl low) ≡ low

places : (ns asid tg scale num ttl low : ℕ) → tg < 4 → scale < 4 → num < 32 → ttl < 4 → low < 2 ^ 37 → Places ns asid tg scale num ttl low
places ns asid tg scale num ttl low h1 h2 h3 h4 h5 =
    record { tg_place = omega arith; scale_place = omega arith; num_place = omega arith; ttl_place = omega arith; low_place = omega arith }

-- and so do ASID and NS, of which a form has one at most
asid-place : (a n : Bool) (ns asid tg scale num ttl low : ℕ) → tg < 4 → scale < 4 → num < 32 → ttl < 4 → low < 2 ^ 37 → (a && n) ≡ false →
    fits a 16 asid ≡ true → fits n 1 ns ≡ true → cond a (bits 63 48 (word ns asid tg scale num ttl low)) 0 ≡ asid
asid-place true true ns asid tg scale num ttl low h1 h2 h3 h4 h5 d i j = absurd (let z : ◌≡◌ {A = ℕ} 0 1 = cc in omega arith)
asid-place true false ns asid tg scale num ttl low h1 h2 h3 h4 h5 d i j =
    let ha : asid < 2 ^ 16 = ltb-true asid (2 ^ 16) i in
    let hn : ns ≡ 0 = eqb-true ns 0 j in
    omega arith
asid-place false n ns asid tg scale num ttl low h1 h2 h3 h4 h5 d i j = sym (eqb-true asid 0 i)

ns-place : (a n : Bool) (ns asid tg scale num ttl low : ℕ) → tg < 4 → scale < 4 → num < 32 → ttl < 4 → low < 2 ^ 37 → (a && n) ≡ false →
    fits a 16 asid ≡ true → fits n 1 ns ≡ true → cond n (bits 63 63 (word ns asid tg scale num ttl low)) 0 ≡ ns
ns-place true true ns asid tg scale num ttl low h1 h2 h3 h4 h5 d i j = absurd (let z : ◌≡◌ {A = ℕ} 0 1 = cc in omega arith)
ns-place false true ns asid tg scale num ttl low h1 h2 h3 h4 h5 d i j =
    let ha : asid ≡ 0 = eqb-true asid 0 i in
    let hn : ns < 2 ^ 1 = ltb-true ns (2 ^ 1) j in
    omega arith
ns-place a false ns asid tg scale num ttl low h1 h2 h3 h4 h5 d i j = sym (eqb-true ns 0 j)

low-most : (p : Bool) (b : ℕ) → b < 2 ^ width_of p → cond p 0 b < 2 ^ 37
low-most true b h = omega arith
low-most false b h = h

base-place : (p : Bool) (xt b : ℕ) → b < 2 ^ width_of p → bits 36 0 xt ≡ cond p 0 b → base_in p xt (cond p b 0) ≡ b
base-place true xt b h e = omega arith
base-place false xt b h e = e

hint-stays : (lpa2 : Bool) (tg ttl : ℕ) → reads_as_zero lpa2 tg ttl ≡ false → hint_of lpa2 tg ttl ≡ ttl
unfolding hint_of
hint-stays lpa2 tg ttl h = simp h

-- the words of fields that are not refused read as those fields
pub read-words : (t : Told) (o : Operand) → is_writable t o ≡ true → operand_of t (xt_of t o) (xt2_of t o) ≡ Ok o
unfolding operand_of xt_of xt2_of
read-words t o h =
    let w = writable t o h in
    let b : ℕ = field_of t o.tg o.base in
    let most : b < 2 ^ width_of t.tlbip = field-most t o.tg o.base in
    let low : ℕ = cond t.tlbip 0 b in
    let l : low < 2 ^ 37 = low-most t.tlbip b most in
    let p = places o.ns o.asid o.tg o.scale o.num o.ttl low w.tg_most w.scale w.num w.ttl l in
    let a = asid-place (has_asid t.form) (has_ns t.form) o.ns o.asid o.tg o.scale o.num o.ttl low w.tg_most w.scale w.num w.ttl l (one_of t.form) w.asid w.ns in
    let n = ns-place (has_asid t.form) (has_ns t.form) o.ns o.asid o.tg o.scale o.num o.ttl low w.tg_most w.scale w.num w.ttl l (one_of t.form) w.asid w.ns in
    let e = base-place t.tlbip (word o.ns o.asid o.tg o.scale o.num o.ttl low) b most p.low_place in
    simp (p.tg_place, p.scale_place, p.num_place, p.ttl_place, a, n, e, w.tg_some, w.shown, hint-stays t.lpa2 o.tg o.ttl w.hint)

pub read-written : (t : Told) (o : Operand) (xt xt2 : ℕ) → words_of t o ≡ Ok (xt, xt2) → operand_of t xt xt2 ≡ Ok o
unfolding words_of
read-written t o xt xt2 h = go (is_writable t o) refl h
  where
    go : (b : Bool) → is_writable t o ≡ b → cond {A = Result (ℕ × ℕ) Refusal} b (Ok (xt_of t o, xt2_of t o)) (Err refusal.Illegal) ≡ Ok (xt, xt2) → operand_of t xt xt2 ≡ Ok o
    go true e h =
        let x : xt_of t o ≡ xt = ap written_xt h in
        let y : xt2_of t o ≡ xt2 = ap written_xt2 h in
        sym (ap₂ (operand_of t) x y) ∙ read-words t o e
    go false e h = absurd (let z : ◌≡◌ {A = ℕ} 0 1 = cc in omega arith)

-- The fields of any word are not refused, save where TG is 00.
some : (n : ℕ) → eqb n 0 ≡ false → 1 ≤ n
some zero h = absurd (let z : ◌≡◌ {A = ℕ} 0 1 = cc in omega arith)
some (suc n) h = omega arith

tg-some-read : (xt : ℕ) → eqb (tg_in xt) 0 ≡ false → SomeGranule (tg_in xt)
tg-some-read xt h = (some (tg_in xt) h, mod-lt (xt / 2 ^ 46) (omega arith))

asid-read : (a : Bool) (xt : ℕ) → fits a 16 (cond a (bits 63 48 xt) 0) ≡ true
asid-read true xt = lt-ltb _ _ (mod-lt (xt / 2 ^ 48) (omega arith))
asid-read false xt = refl

ns-read : (n : Bool) (xt : ℕ) → fits n 1 (cond n (bits 63 63 xt) 0) ≡ true
ns-read true xt = lt-ltb _ _ (mod-lt (xt / 2 ^ 63) (omega arith))
ns-read false xt = refl

hint-most : (lpa2 : Bool) (tg ttl : ℕ) → ttl < 4 → hint_of lpa2 tg ttl < 4
unfolding hint_of
hint-most lpa2 tg ttl h = go (reads_as_zero lpa2 tg ttl)
  where
    go : (b : Bool) → cond b 0 ttl < 4
    go true = omega arith
    go false = h

hint-read : (lpa2 : Bool) (tg ttl : ℕ) → reads_as_zero lpa2 tg (hint_of lpa2 tg ttl) ≡ false
unfolding hint_of
hint-read lpa2 tg ttl = go (reads_as_zero lpa2 tg ttl) refl
  where
    go : (b : Bool) → reads_as_zero lpa2 tg ttl ≡ b → reads_as_zero lpa2 tg (cond b 0 ttl) ≡ false
    go true e = refl
    go false e = e

base-most : (p : Bool) (xt xt2 : ℕ) → base_in p xt xt2 < 2 ^ width_of p
base-most true xt xt2 = mod-lt (xt2 / 2 ^ 0) (omega arith)
base-most false xt xt2 = mod-lt (xt / 2 ^ 0) (omega arith)

pub writable-read : (t : Told) (xt xt2 : ℕ) → eqb (tg_in xt) 0 ≡ false → Writable t (fields_in t xt xt2)
writable-read t xt xt2 h =
    record {
      tg_most = mod-lt (xt / 2 ^ 46) (omega arith);
      tg_some = h;
      scale = mod-lt (xt / 2 ^ 44) (omega arith);
      num = mod-lt (xt / 2 ^ 39) (omega arith);
      ttl = hint-most t.lpa2 (tg_in xt) (ttl_in xt) (mod-lt (xt / 2 ^ 37) (omega arith));
      asid = asid-read (has_asid t.form) xt;
      ns = ns-read (has_ns t.form) xt;
      hint = hint-read t.lpa2 (tg_in xt) (ttl_in xt);
      shown = shown_read t (tg_in xt) (base_in t.tlbip xt xt2) (tg-some-read xt h) (base-most t.tlbip xt xt2);
    }

not-cond : (b : Bool) (v : ℕ) → cond (not b) v 0 ≡ cond b 0 v
not-cond true v = refl
not-cond false v = refl

kept_low : (p : Bool) (tg xt xt2 : ℕ) → cond p 0 (kept_of p tg (base_in p xt xt2)) ≡ cond (not p) (bits 36 0 xt) 0
kept_low true tg xt xt2 = refl
kept_low false tg xt xt2 = refl

kept_high : (p : Bool) (tg xt xt2 : ℕ) → cond p (kept_of p tg (base_in p xt xt2)) 0 ≡ cond p (down (granule_exponent tg - 12) (bits 43 0 xt2)) 0
kept_high true tg xt xt2 = refl
kept_high false tg xt xt2 = refl

-- "Writing what was read gives the word with RES0 bits, ignored bits and such a TTL cleared."
pub words-read : (t : Told) (xt xt2 : ℕ) → eqb (tg_in xt) 0 ≡ false →
    words_of t (fields_in t xt xt2) ≡ Ok (cleared (stays_xt t xt) xt, cleared (stays_xt2 t xt) xt2)
unfolding words_of xt_of xt2_of hint_of
words-read t xt xt2 h =
    let g = tg-some-read xt h in
    let f = field-read t (tg_in xt) (base_in t.tlbip xt xt2) g (base-most t.tlbip xt xt2) in
    let w : is_writable t (fields_in t xt xt2) ≡ true = writable-holds t (fields_in t xt xt2) (writable-read t xt xt2 h) in
    simp (
      w,
      f,
      kept_low t.tlbip (tg_in xt) xt xt2,
      kept_high t.tlbip (tg_in xt) xt xt2,
      xt-cleared t xt,
      xt2-cleared t xt xt2 g,
      not-cond (reads_as_zero t.lpa2 (tg_in xt) (ttl_in xt)) (ttl_in xt),
    )

-- what reads as fields: those words' own, and TG is not 00
pub read-fields : (t : Told) (xt xt2 : ℕ) (o : Operand) → operand_of t xt xt2 ≡ Ok o → (eqb (tg_in xt) 0 ≡ false) × (fields_in t xt xt2 ≡ o)
unfolding operand_of
read-fields t xt xt2 o h = go (eqb (tg_in xt) 0) h
  where
    go : (b : Bool) → cond b (Err refusal.NoGranule) (Ok (fields_in t xt xt2)) ≡ Ok o → (b ≡ false) × (fields_in t xt xt2 ≡ o)
    go true h = absurd (let z : ◌≡◌ {A = ℕ} 0 1 = cc in omega arith)
    go false h = (refl, cc)

pub written_read : (t : Told) (xt xt2 : ℕ) (o : Operand) → operand_of t xt xt2 ≡ Ok o →
    words_of t o ≡ Ok (cleared (stays_xt t xt) xt, cleared (stays_xt2 t xt) xt2)
written_read t xt xt2 o h =
    let (some, e) = read-fields t xt xt2 o h in
    ap (words_of t) (sym e) ∙ words-read t xt xt2 some

-- clearing changes nothing that is read
pub cleared-reads : (t : Told) (xt xt2 : ℕ) (o : Operand) → operand_of t xt xt2 ≡ Ok o →
    operand_of t (cleared (stays_xt t xt) xt) (cleared (stays_xt2 t xt) xt2) ≡ Ok o
cleared-reads t xt xt2 o h = read-written t o _ _ (written_read t xt xt2 o h)

-- the writer refuses nothing that could be read back
pub read-writable : (t : Told) (xt xt2 : ℕ) (o : Operand) → operand_of t xt xt2 ≡ Ok o → is_writable t o ≡ true
read-writable t xt xt2 o h =
    let (some, e) = read-fields t xt xt2 o h in
    subst (λ (p : Operand). is_writable t p ≡ true) e (writable-holds t (fields_in t xt xt2) (writable-read t xt xt2 some))

-- and what it refuses no words read as
pub refused-unread : (t : Told) (o : Operand) → words_of t o ≡ Err refusal.Illegal → (xt xt2 : ℕ) → operand_of t xt xt2 ≡ Ok o → ⊥
refused-unread t o r xt xt2 h =
    let z : ◌≡◌ {A = ℕ} 0 8 = ap number_of (sym (written_read t xt xt2 o h) ∙ r) in
    omega arith

-- What callers use.
pub writable-within : (t : Told) (o : Operand) → is_writable t o ≡ true → Within o
writable-within t o h = let w = writable t o h in (some o.tg w.tg_some, w.tg_most, w.scale, w.num, w.ttl)

pub read-within : (t : Told) (xt xt2 : ℕ) (o : Operand) → operand_of t xt xt2 ≡ Ok o → Within o
read-within t xt xt2 o h = writable-within t o (read-writable t xt xt2 o h)

top-fits : (a n : Bool) (ns asid : ℕ) → (a && n) ≡ false → fits a 16 asid ≡ true → fits n 1 ns ≡ true → ns * 2 ^ 15 + asid < 2 ^ 16
top-fits true true ns asid d i j = absurd (let z : ◌≡◌ {A = ℕ} 0 1 = cc in omega arith)
top-fits true false ns asid d i j = let ha : asid < 2 ^ 16 = ltb-true asid (2 ^ 16) i in let hn : ns ≡ 0 = eqb-true ns 0 j in omega arith
top-fits false true ns asid d i j = let ha : asid ≡ 0 = eqb-true asid 0 i in let hn : ns < 2 ^ 1 = ltb-true ns (2 ^ 1) j in omega arith
top-fits false false ns asid d i j = let ha : asid ≡ 0 = eqb-true asid 0 i in let hn : ns ≡ 0 = eqb-true ns 0 j in omega arith

-- ASID and NS of fields that are not refused have room side by side
pub writable-top : (t : Told) (o : Operand) → is_writable t o ≡ true → o.ns * 2 ^ 15 + o.asid < 2 ^ 16
writable-top t o h = let w = writable t o h in top-fits (has_asid t.form) (has_ns t.form) o.ns o.asid (one_of t.form) w.asid w.ns
