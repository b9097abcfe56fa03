-- Which slots an operation drops: what turns a slot away, what one compare of the tag tells, and the parts of "goes" one by one.
use Prim.Native.Nat.{ℕ, ◌%◌, ◌^◌, ◌<◌, ◌≤◌}
use mathlib.Core.Bool.{Bool, true, false, ◌&&◌}
use mathlib.Core.Path.{◌≡◌, refl, sym, ap, ◌∙◌}
use native.Mathlib.Omega.{arith}
use borrow.Author.Tests.{eqb-true, eq-eqb}
use Rattle.laws.proofs.Truth.{and_0, and-1, not_so}
use Rattle.laws.specs.Bits.{bits}
use Rattle.machine.proofs.Tags.{written-reads, entry-layout, company-at}
use Rattle.machine.specs.Entry.{is_legal}
use Rattle.machine.specs.Goes.{is_reached, is_owned, is_granule_of, is_met, is_hinted, has_width, is_leaf_of, is_asid_of, is_xs_of, goes, key_of, drops}
use Rattle.machine.specs.Tag.{company_tag, tag_of, entry_at, is_entry, Sized}
use Rattle.machine.specs.declared.entry.Entry.{Entry}
use Rattle.machine.specs.declared.work.Work.{Work}

-- "all hold": what holds of an entry that goes
pub record Goes (w : Work) (e : Entry) : Type 0 where
  pub reached : is_reached w e ≡ true
  pub owned : is_owned w e ≡ true
  pub granule : is_granule_of w e ≡ true
  pub met : is_met w e ≡ true
  pub hinted : is_hinted w e ≡ true
  pub width : has_width w e ≡ true
  pub leaf : is_leaf_of w e ≡ true
  pub asid : is_asid_of w e ≡ true
  pub xs : is_xs_of w e ≡ true

pub going : (w : Work) (e : Entry) → goes w e ≡ true → Goes w e
unfolding goes
going w e h9 =
    let a1 = is_reached w e in
    let a2 = is_owned w e in
    let a3 = is_granule_of w e in
    let a4 = is_met w e in
    let a5 = is_hinted w e in
    let a6 = has_width w e in
    let a7 = is_leaf_of w e in
    let a8 = is_asid_of w e in
    let a9 = is_xs_of w e in
    let h8 = and_0 (a1 && a2 && a3 && a4 && a5 && a6 && a7 && a8) a9 h9 in
    let h7 = and_0 (a1 && a2 && a3 && a4 && a5 && a6 && a7) a8 h8 in
    let h6 = and_0 (a1 && a2 && a3 && a4 && a5 && a6) a7 h7 in
    let h5 = and_0 (a1 && a2 && a3 && a4 && a5) a6 h6 in
    let h4 = and_0 (a1 && a2 && a3 && a4) a5 h5 in
    let h3 = and_0 (a1 && a2 && a3) a4 h4 in
    let h2 = and_0 (a1 && a2) a3 h3 in
    record {
      reached = and_0 a1 a2 h2;
      owned = and-1 a1 a2 h2;
      granule = and-1 (a1 && a2) a3 h3;
      met = and-1 (a1 && a2 && a3) a4 h4;
      hinted = and-1 (a1 && a2 && a3 && a4) a5 h5;
      width = and-1 (a1 && a2 && a3 && a4 && a5) a6 h6;
      leaf = and-1 (a1 && a2 && a3 && a4 && a5 && a6) a7 h7;
      asid = and-1 (a1 && a2 && a3 && a4 && a5 && a6 && a7) a8 h8;
      xs = and-1 (a1 && a2 && a3 && a4 && a5 && a6 && a7 && a8) a9 h9;
    }

pub going-holds : (w : Work) (e : Entry) → Goes w e → goes w e ≡ true
unfolding goes
going-holds w e k = simp (k.reached, k.owned, k.granule, k.met, k.hinted, k.width, k.leaf, k.asid, k.xs)

-- the slot of a legal entry is dropped exactly where the entry goes
pub written-drops : (w : Work) (e : Entry) (out : ℕ) → Sized e → is_legal e ≡ true → drops w e.base (tag_of e) out ≡ goes w e
unfolding drops
written-drops w e out z h =
    let (reads, back) = written-reads e z h in
    ap (λ (b : Bool). b && goes w (entry_at e.base (tag_of e))) reads ∙ ap (goes w) back

-- only a slot that reads as an entry is dropped: a senseless slot is not, and zeros are not
pub drop-reads : (w : Work) (base tag out : ℕ) → drops w base tag out ≡ true → is_entry base tag ≡ true
unfolding drops
drop-reads w base tag out h = and_0 (is_entry base tag) (goes w (entry_at base tag)) h

pub drop-empty : (w : Work) (base tag out : ℕ) → is_entry base tag ≡ false → drops w base tag out ≡ false
unfolding drops
drop-empty w base tag out h = ap (λ (b : Bool). b && goes w (entry_at base tag)) h

pub drop-entry : (w : Work) (base tag out : ℕ) → is_entry base tag ≡ true → drops w base tag out ≡ goes w (entry_at base tag)
unfolding drops
drop-entry w base tag out h = ap (λ (b : Bool). b && goes w (entry_at base tag)) h

-- a slot whose lower part is not the key is not dropped
pub drop-other : (w : Work) (base tag out : ℕ) → (tag % 2 ^ 28 ≡ key_of w → ⊥) → w.company.vmid < 2 ^ 16 → drops w base tag out ≡ false
unfolding entry_at
drop-other w base tag out d v =
    not_so (drops w base tag out)
    (λ (h : drops w base tag out ≡ true).
    let reads = drop-reads w base tag out h in
    let k = going w (entry_at base tag) (sym (drop-entry w base tag out reads) ∙ h) in
    let g : bits 27 26 tag ≡ w.granule = eqb-true (bits 27 26 tag) w.granule k.granule in
    let c : tag % 2 ^ 26 ≡ company_tag w.company =
    eqb-true (tag % 2 ^ 26) (company_tag w.company) (sym (company-at w.company tag v (entry-layout base tag reads)) ∙ k.owned) in
    d (omega (arith, g, c)))

-- and one whose lower part is the key is of the company and the granule
pub drop_own : (w : Work) (base tag : ℕ) → is_entry base tag ≡ true → tag % 2 ^ 28 ≡ key_of w → company_tag w.company < 2 ^ 26 → w.company.vmid < 2 ^ 16 →
    w.granule ≤ 3 → (is_owned w (entry_at base tag) ≡ true) × (is_granule_of w (entry_at base tag) ≡ true)
unfolding entry_at
drop_own w base tag reads e low v g =
    let tg : bits 27 26 tag ≡ w.granule = omega (arith, e, low, g) in
    let c : tag % 2 ^ 26 ≡ company_tag w.company = omega (arith, e, low, g) in
    (company-at w.company tag v (entry-layout base tag reads) ∙ eq-eqb (tag % 2 ^ 26) (company_tag w.company) c, eq-eqb (bits 27 26 tag) w.granule tg)

-- what is left to test then, of an entry that the range meets
pub goes-rest : (w : Work) (e : Entry) → is_owned w e ≡ true → is_granule_of w e ≡ true → is_met w e ≡ true →
    goes w e ≡ (is_reached w e && is_hinted w e && has_width w e && is_leaf_of w e && is_asid_of w e && is_xs_of w e)
unfolding goes
goes-rest w e h g m = go (is_reached w e) (is_owned w e) (is_granule_of w e) (is_met w e) h g m
  where
    go : (a b d f : Bool) → b ≡ true → d ≡ true → f ≡ true →
        (a && b && d && f && is_hinted w e && has_width w e && is_leaf_of w e && is_asid_of w e && is_xs_of w e)
        ≡ (a && is_hinted w e && has_width w e && is_leaf_of w e && is_asid_of w e && is_xs_of w e)
    go true b d f p q r = simp (p, q, r)
    go false b d f p q r = refl
