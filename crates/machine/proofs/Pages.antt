-- The pages' pseudocode and the general rule are one at the pages' operations.
use Rattle.std.specs.Prelude.{Result, Ok, Err}
use Prim.Native.Nat.{ℕ, zero, suc, ◌≤◌}
use mathlib.Core.Bool.{Bool, true, false, cond, not, ◌&&◌, ◌||◌, and-true, or-true}
use mathlib.Core.Path.{◌≡◌, refl, sym, ap, ◌∙◌}
use native.Mathlib.Omega.{arith}
use lib.Dec.{eqb, ltb}
use borrow.Author.Tests.{eqb-true, le-ltb, ne_eqb, not-true}
use Rattle.laws.proofs.Truth.{and_0, and-1, or-0}
use Rattle.machine.proofs.States.{Good, good}
use Rattle.machine.specs.Access.{is_barred, is_trapped, acts_nxs, reaches, reached_of, scope_of, access_e1, access_e2, access_e3, access_stage2, access_of}
use Rattle.machine.specs.Pages.{page_el2_enabled, page_nv, page_host_bits, page_hcrx_enabled, page_reached, page_valid_el2, page_valid_el3, page_security, page_vmid, rva2, page000, rvaa10, rvaa20, page001, page001nxs, rva3, page002, ripas2, page003, page004, op000, op001, op002, op003, op004}
use Rattle.machine.specs.State.{is_secure, security_of, security_in, el2_enabled, e2h_of, tge_of, vmid_in, hcrx_live, bad_fields, bad_state}
use Rattle.machine.specs.Word.{is_odd_pair}
use Rattle.machine.specs.declared.operation.Name.TheVariants.{RVALE3}
use Rattle.machine.specs.declared.operation.Operation.{Operation}
use Rattle.machine.specs.declared.operation.Share.TheVariants.{Local, Outer}
use Rattle.machine.specs.declared.processor.State.{State}
use Rattle.machine.specs.declared.scope.Regime.TheVariants.{EL10, EL20, EL2, EL3}
use Rattle.machine.specs.declared.scope.Security.TheVariants.{Secure, NonSecure, Realm}
use Rattle.machine.specs.declared.refusal.Refusal.{Refusal}
use Rattle.machine.specs.declared.refusal.Refusal.TheVariants as refusal
use Rattle.machine.specs.declared.scope.Scope.{Scope}

-- The functions that the pseudocode calls are 01's.
security-is : (st : State) → security_of st ≡ page_security st
unfolding security_of
security-is st = go st.present.el3 st.features.rme st.scr.nse st.scr.ns
  where
    go : (three rme nse ns : Bool) →
        cond three (cond ns (cond (rme && nse) Realm NonSecure) Secure) NonSecure
        ≡ cond (not three) NonSecure
        (cond rme (cond nse (cond ns Realm Secure) (cond ns NonSecure Secure)) (cond ns NonSecure Secure))
    go false rme nse ns = refl
    go true true true true = refl
    go true true true false = refl
    go true true false true = refl
    go true true false false = refl
    go true false nse true = refl
    go true false nse false = refl

enabled-is : (st : State) → el2_enabled st ≡ page_el2_enabled st
unfolding el2_enabled security_of
enabled-is st = go st.present.el2 st.present.el3 (st.features.rme && st.scr.nse) st.scr.ns (st.features.sel2 && st.scr.eel2)
  where
    go : (two three realm ns sel2 : Bool) →
        (two && (not (is_secure (cond three (cond ns (cond realm Realm NonSecure) Secure) NonSecure)) || sel2))
        ≡ (two && (not three || ns || sel2))
    go two false realm ns sel2 = refl
    go two true true true sel2 = refl
    go two true false true sel2 = refl
    go two true realm false sel2 = refl

live-is : (st : State) → hcrx_live st ≡ page_hcrx_enabled st
unfolding hcrx_live
live-is st = rw (enabled-is st) (go st.features.hcx st.present.el3 st.scr.hxen (page_el2_enabled st))
  where
    go : (hcx three hxen on : Bool) →
        (hcx && (not three || hxen) && on) ≡ cond (not hcx) false (cond (three && not hxen) false on)
    go false three hxen on = refl
    go true false hxen on = refl
    go true true true on = refl
    go true true false on = refl

-- the first lines of every page: what is absent, and EL0
first-lines : (absent xs el0 odd : Bool) (a : Result Scope Refusal) → odd ≡ false →
    cond (absent || xs || el0 || odd) (Err refusal.Undefined) a ≡ cond absent (Err refusal.Undefined) (cond xs (Err refusal.Undefined) (cond el0 (Err refusal.Undefined) a))
first-lines true xs el0 odd a h = refl
first-lines false true el0 odd a h = refl
first-lines false false true odd a h = refl
first-lines false false false odd a h = simp h

-- what the rule runs on for RVAE2, where E2H counts as h
scope-000 : (st : State) (nxs : Bool) (rt : ℕ) (h : Bool) →
    scope_of st (op000 nxs rt) (cond h EL20 EL2) false nxs
    ≡ record {
      regime = cond h EL20 EL2;
      security = security_of st;
      vmid = 0;
      stage2 = false;
      reached = page_reached st Local;
      asid = h;
      last = false;
      nxs = nxs;
    }
unfolding scope_of security_in vmid_in reached_of reaches
scope-000 st nxs rt true = refl
scope-000 st nxs rt false = refl

runs-000 : (st : State) (nxs : Bool) (rt : ℕ) →
    Ok (scope_of st (op000 nxs rt) (cond (e2h_of st) EL20 EL2) false nxs) ≡ rva2 st nxs
runs-000 st nxs rt = ap Ok (scope-000 st nxs rt (e2h_of st)) ∙ rw (enabled-is st, security-is st) refl

-- from EL1 on: NV at EL1, what runs at EL2, and EL2 disabled at EL3
from-el1 : (st : State) → Good st → (trap run off : Result Scope Refusal) →
    cond (eqb st.el 1) (cond (el2_enabled st && st.hcr.nv) trap (Err refusal.Undefined)) (cond (el2_enabled st) run off)
    ≡ cond (eqb st.el 1) (cond (page_nv st) trap (Err refusal.Undefined))
    (cond (eqb st.el 2) run (cond (not (page_el2_enabled st)) off run))
from-el1 st g trap run off =
    go (eqb st.el 1) (eqb st.el 2) (el2_enabled st) (page_el2_enabled st) (λ (e : eqb st.el 2 ≡ true). g.at_el2 (eqb-true _ _ e)) (enabled-is st)
  where
    go : (one two on page : Bool) → (two ≡ true → on ≡ true) → on ≡ page →
        cond one (cond (on && st.hcr.nv) trap (Err refusal.Undefined)) (cond on run off)
        ≡ cond one (cond (page && st.hcr.nv) trap (Err refusal.Undefined)) (cond two run (cond (not page) off run))
    go true two on page h e = simp e
    go false true on page h e = simp (h refl)
    go false false true page h e = simp (← e)
    go false false false page h e = simp (← e)

valid-el2 : (st : State) → Good st → (st.features.rme && not (page_valid_el2 st)) ≡ false
valid-el2 st g = go st.features.rme st.scr.nse st.scr.ns g.rme_state
  where
    go : (rme nse ns : Bool) → (rme && nse && not ns) ≡ false → (rme && not (not (nse && not ns))) ≡ false
    go true true true h = refl
    go true true false h = h
    go true false ns h = refl
    go false nse ns h = refl

valid-el3 : (st : State) → Good st → (st.features.rme && not (page_valid_el3 st)) ≡ false
valid-el3 st g = go st.features.rme st.present.el3 g.rme_el3
  where
    go : (rme three : Bool) → (rme ≡ true → three ≡ true) → (rme && not three) ≡ false
    go true three h = simp (h refl)
    go false three h = refl

-- TLBIP RVAE2 and TLBIP RVAE2NXS
pub page-000 : (st : State) → bad_state st ≡ false → (nxs : Bool) (rt : ℕ) → is_odd_pair (op000 nxs rt) ≡ false →
    access_of st (op000 nxs rt) ≡ page000 st nxs
unfolding access_of is_barred access_e2
page-000 st good-st nxs rt even =
    let g = good st good-st in
    first-lines (not st.features.d128) (nxs && not st.features.xs) (eqb st.el 0) (is_odd_pair (op000 nxs rt)) _ even
    ∙ rw (valid-el2 st g, ← runs-000 st nxs rt)
    (ap (λ (a : Result Scope Refusal). cond (not st.features.d128) (Err refusal.Undefined) (cond (nxs && not st.features.xs) (Err refusal.Undefined) (cond (eqb st.el 0) (Err refusal.Undefined) a)))
    (from-el1 st g _ _ _))

-- 003's call
runs-003 : (st : State) (nxs : Bool) (rt : ℕ) → Ok (scope_of st (op003 nxs rt) EL10 true nxs) ≡ ripas2 st nxs
unfolding scope_of security_in vmid_in reached_of reaches
runs-003 st nxs rt = rw (enabled-is st, security-is st) refl

-- TLBIP RIPAS2LE1IS and TLBIP RIPAS2LE1ISNXS
pub page-003 : (st : State) → bad_state st ≡ false → (nxs : Bool) (rt : ℕ) → is_odd_pair (op003 nxs rt) ≡ false →
    access_of st (op003 nxs rt) ≡ page003 st nxs
unfolding access_of is_barred access_stage2
page-003 st good-st nxs rt even =
    first-lines (not st.features.d128) (nxs && not st.features.xs) (eqb st.el 0) (is_odd_pair (op003 nxs rt)) _ even
    ∙ rw (← runs-003 st nxs rt)
    (ap (λ (a : Result Scope Refusal). cond (not st.features.d128) (Err refusal.Undefined) (cond (nxs && not st.features.xs) (Err refusal.Undefined) (cond (eqb st.el 0) (Err refusal.Undefined) a)))
    (from-el1 st (good st good-st) _ _ _))

-- below EL3, level by level
below-el3 : (el : ℕ) (run : Result Scope Refusal) →
    cond (eqb el 0) (Err refusal.Undefined) (cond (ltb el 3) (Err refusal.Undefined) run)
    ≡ cond (eqb el 0) (Err refusal.Undefined) (cond (eqb el 1) (Err refusal.Undefined) (cond (eqb el 2) (Err refusal.Undefined) run))
below-el3 zero run = refl
below-el3 (suc zero) run = refl
below-el3 (suc (suc zero)) run = refl
below-el3 (suc (suc (suc n))) run =
    let el : ℕ = suc (suc (suc n)) in
    simp (le-ltb el 3 (omega arith), ne_eqb el 0 (λ (e : el ≡ 0). omega arith), ne_eqb el 1 (λ (e : el ≡ 1). omega arith), ne_eqb el 2 (λ (e : el ≡ 2). omega arith))

-- the calls of 002 and 004, with one operation or the other
runs-el3 : (st : State) (nxs tlbip : Bool) (rt : ℕ) →
    Ok (scope_of st (record { name = RVALE3; share = Outer; nxs = nxs; tlbip = tlbip; rt = rt }) EL3 false nxs) ≡ rva3 st nxs
unfolding scope_of security_in vmid_in reached_of reaches
runs-el3 st nxs tlbip rt = refl

-- TLBIP RVALE3OS and TLBIP RVALE3OSNXS, the range twins of TLBIP VALE3OS and TLBIP VALE3OSNXS
pub page-002 : (st : State) (nxs : Bool) (rt : ℕ) → is_odd_pair (op002 nxs rt) ≡ false → access_of st (op002 nxs rt) ≡ page002 st nxs
unfolding access_of is_barred access_e3
page-002 st nxs rt even =
    first-lines (not st.features.d128) (nxs && not st.features.xs) (eqb st.el 0) (is_odd_pair (op002 nxs rt)) _ even
    ∙ rw (← runs-el3 st nxs true rt)
    (ap (λ (a : Result Scope Refusal). cond (not st.features.d128) (Err refusal.Undefined) (cond (nxs && not st.features.xs) (Err refusal.Undefined) a))
    (below-el3 st.el _))

-- TLBI RVALE3OS and TLBI RVALE3OSNXS
pub page-004 : (st : State) → bad_state st ≡ false → (nxs : Bool) (rt : ℕ) → access_of st (op004 nxs rt) ≡ page004 st nxs
unfolding access_of is_barred access_e3
page-004 st good-st nxs rt =
    let x : Bool = nxs && not st.features.xs in
    ap (λ (b : Bool). cond (b || x || eqb st.el 0 || false) (Err refusal.Undefined) (access_e3 st (op004 nxs rt)))
    (both st.features.tlbirange st.features.tlbios)
    ∙ first-lines (not (st.features.tlbirange && st.features.tlbios)) x (eqb st.el 0) false _ refl
    ∙ rw (valid-el3 st (good st good-st), ← runs-el3 st nxs false rt)
    (ap (λ (a : Result Scope Refusal). cond (not (st.features.tlbirange && st.features.tlbios)) (Err refusal.Undefined) (cond x (Err refusal.Undefined) a))
    (below-el3 st.el _))
  where
    both : (a b : Bool) → (not a || not b) ≡ not (a && b)
    both true b = refl
    both false b = refl

-- 001's calls, where the regime is EL2&0 if h
runs-001 : (st : State) (nxs : Bool) (rt : ℕ) (h x : Bool) →
    Ok (scope_of st (op001 nxs rt) (cond h EL20 EL10) false x) ≡ cond h (rvaa20 st x) (rvaa10 st x)
unfolding scope_of security_in vmid_in reached_of reaches
runs-001 st nxs rt true x = rw (security-is st) refl
runs-001 st nxs rt false x = rw (enabled-is st, security-is st) refl

-- the lines of 001 on what is absent, and on EL0
first-lines-001 : (range xs el0 : Bool) (a : Result Scope Refusal) →
    cond ((not range || false) || xs || el0 || false) (Err refusal.Undefined) a
    ≡ cond (not range) (Err refusal.Undefined) (cond xs (Err refusal.Undefined) (cond el0 (Err refusal.Undefined) a))
first-lines-001 true true el0 a = refl
first-lines-001 true false true a = refl
first-lines-001 true false false a = refl
first-lines-001 false xs el0 a = refl

turned : (e flag hcx clear : Bool) → (e && flag && (hcx && clear)) ≡ (e && hcx && clear && flag)
turned false flag hcx clear = refl
turned true true true true = refl
turned true true true false = refl
turned true true false clear = refl
turned true false true true = refl
turned true false true false = refl
turned true false false clear = refl

-- the lines on traps at EL1, of the plain name and of the NXS one
traps-plain : (on ttlb ttlbis ttlbos fgt en flag : Bool) (t a : Result Scope Refusal) →
    cond (on && (ttlb || (ttlbis && true) || (ttlbos && false) || (fgt && en && flag && true))) t a
    ≡ cond (on && ttlb) t (cond (on && ttlbis) t (cond (on && fgt && en && flag) t a))
traps-plain false ttlb ttlbis ttlbos fgt en flag t a = refl
traps-plain true true ttlbis ttlbos fgt en flag t a = refl
traps-plain true false true ttlbos fgt en flag t a = refl
traps-plain true false false true fgt en flag t a = simp (and-true (fgt && en && flag))
traps-plain true false false false fgt en flag t a = simp (and-true (fgt && en && flag))

traps-nxs : (on ttlb ttlbis ttlbos fgt en flag hcx clear : Bool) (t a : Result Scope Refusal) →
    cond (on && (ttlb || (ttlbis && true) || (ttlbos && false) || (fgt && en && flag && (hcx && clear)))) t a
    ≡ cond (on && ttlb) t (cond (on && ttlbis) t (cond (on && fgt && en && hcx && clear && flag) t a))
traps-nxs false ttlb ttlbis ttlbos fgt en flag hcx clear t a = refl
traps-nxs true true ttlbis ttlbos fgt en flag hcx clear t a = refl
traps-nxs true false true ttlbos fgt en flag hcx clear t a = refl
traps-nxs true false false true fgt en flag hcx clear t a = ap (λ (b : Bool). cond b t a) (turned (fgt && en) flag hcx clear)
traps-nxs true false false false fgt en flag hcx clear t a = ap (λ (b : Bool). cond b t a) (turned (fgt && en) flag hcx clear)

-- the line on FnXS asks for HCX once more
fnxs-line : (xs hcx rest fnxs : Bool) →
    (xs && cond (not hcx) false rest && fnxs) ≡ (xs && hcx && cond (not hcx) false rest && fnxs)
fnxs-line true true rest fnxs = refl
fnxs-line true false rest fnxs = refl
fnxs-line false hcx rest fnxs = refl

runs-either : (st : State) (x : Bool) → cond x (rvaa10 st true) (rvaa10 st false) ≡ rvaa10 st x
runs-either st true = refl
runs-either st false = refl

-- at EL3 with EL2 disabled the pseudocode of 001 goes by E2H and TGE as they stand: there 01 overrules it
abbrev pub is_overruled : State → Bool
is_overruled st = eqb st.el 3 && not (el2_enabled st) && page_host_bits st

counted : (on e2h tge : Bool) → (not on && (e2h && tge)) ≡ false → ((on && e2h) && (on && tge)) ≡ (e2h && tge)
counted true e2h tge h = refl
counted false e2h tge h = sym h

-- at EL2 and EL3, where 01 does not overrule, E2H and TGE are what they count as
host : (el : ℕ) (on e2h tge : Bool) → el ≤ 3 → (el ≡ 2 → on ≡ true) → (eqb el 3 && not on && (e2h && tge)) ≡ false → (u v a b : Result Scope Refusal) →
    cond (eqb el 0) u (cond (eqb el 1) v (cond ((on && e2h) && (on && tge)) a b))
    ≡ cond (eqb el 0) u (cond (eqb el 1) v (cond (eqb el 2) (cond (e2h && tge) a b) (cond (e2h && tge) a b)))
host zero on e2h tge l two h u v a b = refl
host (suc zero) on e2h tge l two h u v a b = refl
host (suc (suc zero)) on e2h tge l two h u v a b = simp (two refl)
host (suc (suc (suc zero))) on e2h tge l two h u v a b = simp (counted on e2h tge h)
host (suc (suc (suc (suc n)))) on e2h tge l two h u v a b = absurd (omega arith)

-- the lines of 001 at EL1, of the plain name and of the NXS one
plain-el1 : (st : State) (rt : ℕ) →
    cond (is_trapped st (op001 false rt)) (Err (refusal.Trapped 0x18)) (Ok (scope_of st (op001 false rt) EL10 false (acts_nxs st (op001 false rt))))
    ≡ cond (page_el2_enabled st && st.hcr.ttlb) (Err (refusal.Trapped 0x18))
    (cond (page_el2_enabled st && st.hcr.ttlbis) (Err (refusal.Trapped 0x18))
    (cond
    (page_el2_enabled st && st.features.fgt && (not st.present.el3 || st.scr.fgten) && st.traps.rvaae1.inner)
    (Err (refusal.Trapped 0x18))
    (cond (st.features.xs && st.features.hcx && page_hcrx_enabled st && st.hcrx.fnxs) (rvaa10 st true) (rvaa10 st false))))
unfolding is_trapped
plain-el1 st rt =
    rw (enabled-is st, runs-001 st false rt false (acts_nxs st (op001 false rt)), live-is st, fnxs-line st.features.xs st.features.hcx (cond (st.present.el3 && not st.scr.hxen) false (page_el2_enabled st)) st.hcrx.fnxs)
    (traps-plain (page_el2_enabled st) st.hcr.ttlb st.hcr.ttlbis st.hcr.ttlbos st.features.fgt (not st.present.el3 || st.scr.fgten) st.traps.rvaae1.inner (Err (refusal.Trapped 0x18)) _
    ∙ rw (runs-either st (st.features.xs && st.features.hcx && page_hcrx_enabled st && st.hcrx.fnxs)) refl)

nxs-el1 : (st : State) (rt : ℕ) →
    cond (is_trapped st (op001 true rt)) (Err (refusal.Trapped 0x18)) (Ok (scope_of st (op001 true rt) EL10 false true))
    ≡ cond (page_el2_enabled st && st.hcr.ttlb) (Err (refusal.Trapped 0x18))
    (cond (page_el2_enabled st && st.hcr.ttlbis) (Err (refusal.Trapped 0x18))
    (cond
    (page_el2_enabled st
    && st.features.fgt
    && (not st.present.el3 || st.scr.fgten)
    && st.features.hcx
    && (not (page_hcrx_enabled st) || not st.hcrx.fgtnxs)
    && st.traps.rvaae1.inner)
    (Err (refusal.Trapped 0x18))
    (rvaa10 st true)))
unfolding is_trapped
nxs-el1 st rt =
    rw (enabled-is st, runs-001 st true rt false true, live-is st)
    (traps-nxs (page_el2_enabled st) st.hcr.ttlb st.hcr.ttlbis st.hcr.ttlbos st.features.fgt (not st.present.el3 || st.scr.fgten) st.traps.rvaae1.inner st.features.hcx (not (page_hcrx_enabled st) || not st.hcrx.fgtnxs) (Err (refusal.Trapped 0x18)) (rvaa10 st true))

-- TLBI RVAAE1IS
pub page-001 : (st : State) → bad_state st ≡ false → (rt : ℕ) → is_overruled st ≡ false → access_of st (op001 false rt) ≡ page001 st
unfolding access_of is_barred access_e1
page-001 st good-st rt agreed =
    let g = good st good-st in
    let range : Bool = st.features.tlbirange in
    let op = op001 false rt in
    first-lines-001 range false (eqb st.el 0) (access_e1 st op)
    ∙ rw (runs-001 st false rt (e2h_of st && tge_of st) false, plain-el1 st rt)
    (ap (cond (not range) (Err refusal.Undefined)) (host st.el (el2_enabled st) st.hcr.e2h st.hcr.tge g.level g.at_el2 agreed _ _ _ _))

-- TLBI RVAAE1ISNXS
pub page-001-nxs : (st : State) → bad_state st ≡ false → (rt : ℕ) → is_overruled st ≡ false → access_of st (op001 true rt) ≡ page001nxs st
unfolding access_of is_barred access_e1
page-001-nxs st good-st rt agreed =
    let g = good st good-st in
    let range : Bool = st.features.tlbirange in
    let xs : Bool = st.features.xs in
    let op = op001 true rt in
    first-lines-001 range (not xs) (eqb st.el 0) (access_e1 st op)
    ∙ rw (runs-001 st true rt (e2h_of st && tge_of st) true, nxs-el1 st rt)
    (ap (λ (a : Result Scope Refusal). cond (not range) (Err refusal.Undefined) (cond (not xs) (Err refusal.Undefined) a))
    (host st.el (el2_enabled st) st.hcr.e2h st.hcr.tge g.level g.at_el2 agreed _ _ _ _))

rule-overruled : (st : State) (nxs : Bool) (rt : ℕ) → st.el ≡ 3 → el2_enabled st ≡ false → is_barred st (op001 nxs rt) ≡ false →
    access_of st (op001 nxs rt) ≡ rvaa10 st nxs
unfolding access_of access_e1
rule-overruled st nxs rt three off free =
    let bits : (e2h_of st && tge_of st) ≡ false = simp off in
    simp (free, three, bits) (runs-001 st nxs rt false nxs)

page-overruled : (st : State) (nxs : Bool) (rt : ℕ) → st.el ≡ 3 → page_host_bits st ≡ true → is_barred st (op001 nxs rt) ≡ false →
    cond nxs (page001nxs st) (page001 st) ≡ rvaa20 st nxs
unfolding is_barred
page-overruled st nxs rt three bits free = go nxs st.features.tlbirange st.features.xs refl refl here
  where
    here : ((not st.features.tlbirange || false) || (nxs && not st.features.xs)) ≡ false
    here = or-0 ((not st.features.tlbirange || false) || (nxs && not st.features.xs)) (eqb st.el 0) (or-0 ((not st.features.tlbirange || false) || (nxs && not st.features.xs) || eqb st.el 0) false free)

    go : (x range xs : Bool) → st.features.tlbirange ≡ range → st.features.xs ≡ xs → ((not range || false) || (x && not xs)) ≡ false →
        cond x (page001nxs st) (page001 st) ≡ rvaa20 st x
    go true true true r s h = simp (r, s, three, bits)
    go true true false r s h = absurd (let z : ◌≡◌ {A = ℕ} 0 1 = cc in omega arith)
    go false true xs r s h = simp (r, three, bits)
    go x false xs r s h = absurd (let z : ◌≡◌ {A = ℕ} 0 1 = cc in omega arith)

-- where 01 overrules 001: the page gives EL2&0, the rule EL1&0 with VMID 0
pub page-001-overruled : (st : State) → is_overruled st ≡ true → (nxs : Bool) (rt : ℕ) → is_barred st (op001 nxs rt) ≡ false →
    (access_of st (op001 nxs rt) ≡ rvaa10 st nxs) × (page_vmid st ≡ 0) × (cond nxs (page001nxs st) (page001 st) ≡ rvaa20 st nxs)
page-001-overruled st h nxs rt free =
    let three : Bool = eqb st.el 3 in
    let disabled : Bool = not (el2_enabled st) in
    let both = and_0 (three && disabled) (page_host_bits st) h in
    let off = not-true (el2_enabled st) (and-1 three disabled both) in
    let el = eqb-true st.el 3 (and_0 three disabled both) in (
      rule-overruled st nxs rt el off free,
      ap (λ (b : Bool). cond b st.vmid 0) (sym (enabled-is st) ∙ off),
      page-overruled st nxs rt el (and-1 (three && disabled) (page_host_bits st) h) free,
    )

-- where 01 overrules 000 and 004: with RME and {NSE, NS} = {1, 0} at EL3, 000 returns and 004 runs, and the state is bad
pair-bad : (st : State) → st.features.rme ≡ true → st.scr.nse ≡ true → st.scr.ns ≡ false → bad_state st ≡ true
unfolding bad_state bad_fields
pair-bad st rme nse ns =
    let pair : (st.features.rme && st.scr.nse && not st.scr.ns) ≡ true = simp (rme, nse, ns) in
    rw pair (simp or-true)

pub page-000-overruled : (st : State) (nxs : Bool) → st.el ≡ 3 → st.features.d128 ≡ true → (nxs && not st.features.xs) ≡ false →
    page_el2_enabled st ≡ true → st.features.rme ≡ true → st.scr.nse ≡ true → st.scr.ns ≡ false →
    (bad_state st ≡ true) × (page000 st nxs ≡ Err refusal.NoEffect)
page-000-overruled st nxs el d128 xs on rme nse ns = (pair-bad st rme nse ns, rw (d128, xs, el, on, rme, nse, ns) refl)

pub page-004-overruled : (st : State) (nxs : Bool) → st.el ≡ 3 → st.present.el3 ≡ true → st.features.tlbirange ≡ true →
    st.features.tlbios ≡ true → (nxs && not st.features.xs) ≡ false → st.features.rme ≡ true → st.scr.nse ≡ true →
    st.scr.ns ≡ false → (bad_state st ≡ true) × (page004 st nxs ≡ rva3 st nxs)
page-004-overruled st nxs el three range os xs rme nse ns = (pair-bad st rme nse ns, simp (range, os, xs, el, rme, three))

-- the pages say nothing of an odd Rt; the rule does, before all else
pub odd-undefined : (st : State) (op : Operation) → is_odd_pair op ≡ true → access_of st op ≡ Err refusal.Undefined
unfolding access_of is_barred
odd-undefined st op odd = rw odd (simp or-true)
