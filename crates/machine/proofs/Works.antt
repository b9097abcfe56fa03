-- The work of an operation: what it comes from, what its fields keep, and whose it is.
use Rattle.std.specs.Prelude.{Option, Some, None, Result, Ok, Err, IfSome}
use Prim.Native.Nat.{ℕ, suc, ◌^◌, ◌<◌, ◌≤◌}
use mathlib.Core.Bool.{Bool, true, false, cond, not, ◌&&◌, ◌||◌}
use mathlib.Core.Path.{◌≡◌, refl, sym, ap, ap₂, subst, ◌∙◌}
use native.Mathlib.Omega.{arith}
use lib.Dec.{eqb, ltb}
use borrow.Author.Tests.{eqb-true, lt-ltb, eq-eqb}
use Rattle.laws.proofs.Truth.{or_right}
use Rattle.laws.specs.Bits.{bits}
use Rattle.laws.specs.Mask.{bit_of}
use Rattle.machine.proofs.Covered.{read-base, range-some}
use Rattle.machine.proofs.Numbers.{not-done}
use Rattle.machine.proofs.Fields.{read-fields, writable, read-writable, read-within, writable-top}
use Rattle.machine.proofs.Reach.{reached-bit}
use Rattle.machine.proofs.Tags.{company-same}
use Rattle.machine.specs.Access.{reaches, reached_of, uses_asid, has_l, scope_of, access_e1, access_e2, access_stage2, access_e3, access_of, access_by, access_nv, is_barred, is_trapped, acts_nxs, trapped}
use Rattle.machine.specs.Answer.{number_of}
use Rattle.machine.specs.Asked.{xt_used, xt2_used, is_two_ranges, form_of, told_of, asked_of}
use Rattle.machine.specs.Entry.{is_el10, is_root, is_state_of, is_company}
use Rattle.machine.specs.Execute.{resolved_range, resolved_access, resolved_word, resolved_of, is_work}
use Rattle.machine.specs.Goes.{work_of}
use Rattle.machine.specs.Operand.{has_ns, ns_in, fits, operand_of}
use Rattle.machine.specs.Range.{range_of, is_unpredictable, ranged_by, ranged_of}
use Rattle.machine.specs.State.{is_secure, security_of, security_in, el2_enabled, e2h_of, tge_of, vmid_in}
use Rattle.machine.specs.Table.{stage1_of}
use Rattle.machine.specs.Tag.{regime_number}
use Rattle.machine.specs.Word.{read_of, family_of}
use Rattle.machine.specs.declared.entry.Company.{Company}
use Rattle.machine.specs.declared.operand.Form.TheVariants.{TwoRangesAsid, TwoRanges, OneRange, Stage2Ns, Stage2NoNs}
use Rattle.machine.specs.declared.operand.Operand.{Operand}
use Rattle.machine.specs.declared.operand.Range.{Range}
use Rattle.machine.specs.declared.operation.Family.{Family}
use Rattle.machine.specs.declared.operation.Family.TheVariants.{E1, E2, E3, Stage2}
use Rattle.machine.specs.declared.operation.Operation.{Operation}
use Rattle.machine.specs.declared.processor.State.{State}
use Rattle.machine.specs.declared.scope.Regime.{Regime}
use Rattle.machine.specs.declared.scope.Regime.TheVariants.{EL10, EL20, EL2, EL3}
use Rattle.machine.specs.declared.scope.Scope.{Scope}
use Rattle.machine.specs.declared.scope.Security.TheVariants.{Secure, NonSecure, Realm, Root}
use Rattle.machine.specs.declared.work.Work.{Work}
use Rattle.machine.specs.declared.refusal.Refusal.{Refusal}
use Rattle.machine.specs.declared.refusal.Refusal.TheVariants as refusal

-- fields that cover a range were read from the words, are not UNPREDICTABLE, and mean that range
pub record Asks (st : State) (op : Operation) (s : Scope) (xt xt2 : ℕ) (o : Operand) (r : Range) : Type 0 where
  pub read : operand_of (told_of st op s) (xt_used op xt) (xt2_used op xt2) ≡ Ok o
  pub range : range_of o ≡ r
  pub predictable : is_unpredictable op.tlbip o ≡ false

pub asks : (st : State) (op : Operation) (s : Scope) (xt xt2 : ℕ) (o : Operand) (r : Range) → asked_of st op s xt xt2 ≡ Ok (o, r) →
    Asks st op s xt xt2 o r
unfolding asked_of ranged_of told_of
asks st op s xt xt2 o r = go (operand_of (told_of st op s) (xt_used op xt) (xt2_used op xt2)) refl
  where
    fields_of : Result (Operand × Range) Refusal → Operand
    fields_of (Ok p) = p.0
    fields_of (Err f) = o

    range_in : Result (Operand × Range) Refusal → Range
    range_in (Ok p) = p.1
    range_in (Err f) = r

    by : (p : Operand) → operand_of (told_of st op s) (xt_used op xt) (xt2_used op xt2) ≡ Ok p → (b : Bool) → is_unpredictable op.tlbip p ≡ b →
        cond {A = Result (Operand × Range) Refusal} b (Err refusal.Unpredictable) (Ok (p, range_of p)) ≡ Ok (o, r) → Asks st op s xt xt2 o r
    by p e true u h = absurd (let z : ◌≡◌ {A = ℕ} 7 0 = ap number_of h in omega arith)
    by p e false u h =
        let f : p ≡ o = ap fields_of h in
        record {
          read = e ∙ ap Ok f;
          range = ap range_of (sym f) ∙ ap range_in h;
          predictable = ap (is_unpredictable op.tlbip) (sym f) ∙ u;
        }

    go : (x : Result Operand Refusal) → operand_of (told_of st op s) (xt_used op xt) (xt2_used op xt2) ≡ x → ranged_by op.tlbip x ≡ Ok (o, r) → Asks st op s xt xt2 o r
    go (Ok p) e h = by p e (is_unpredictable op.tlbip p) refl h
    go (Err f) e h = absurd (not-done f (ap number_of h))

-- so their TTL is one of four
pub asked-ttl : (st : State) (op : Operation) (s : Scope) (xt xt2 : ℕ) (o : Operand) (r : Range) → asked_of st op s xt xt2 ≡ Ok (o, r) → o.ttl < 4
asked-ttl st op s xt xt2 o r h = (read-within (told_of st op s) (xt_used op xt) (xt2_used op xt2) o (asks st op s xt xt2 o r h).read).4

-- where there is work, the word is an operation, it runs, and its operand covers a range
pub record Resolves (st : State) (word xt xt2 : ℕ) (w : Work) : Type 0 where
  pub operation : Operation
  pub scope : Scope
  pub operand : Operand
  pub range : Range
  pub known : read_of word ≡ Some operation
  pub runs : access_of st operation ≡ Ok scope
  pub asked : asked_of st operation scope xt xt2 ≡ Ok (operand, range)
  pub work : work_of st operation scope operand range ≡ w

pub resolves : (st : State) (word xt xt2 : ℕ) (w : Work) → resolved_of st word xt xt2 ≡ Ok w → Resolves st word xt xt2 w
unfolding resolved_of
resolves st word xt xt2 w = by_word (read_of word) refl
  where
    none : {r : Result Work Refusal} → is_work r ≡ false → r ≡ Ok w → ⊥
    none e h = let t : false ≡ true = sym e ∙ ap is_work h in let z : ◌≡◌ {A = ℕ} 0 1 = cc in omega arith

    work_in : Result Work Refusal → Work
    work_in (Ok v) = v
    work_in (Err r) = w

    by_range : (op : Operation) → read_of word ≡ Some op → (s : Scope) → access_of st op ≡ Ok s → (x : Result (Operand × Range) Refusal) → asked_of st op s xt xt2 ≡ x →
        resolved_range st op s x ≡ Ok w → Resolves st word xt xt2 w
    by_range op k s a (Ok (o, r)) e h =
        record { operation = op; scope = s; operand = o; range = r; known = k; runs = a; asked = e; work = ap work_in h }
    by_range op k s a (Err r) e h = absurd (none refl h)

    by_access : (op : Operation) → read_of word ≡ Some op → (x : Result Scope Refusal) → access_of st op ≡ x → resolved_access st op xt xt2 x ≡ Ok w →
        Resolves st word xt xt2 w
    by_access op k (Err r) e h = absurd (none refl h)
    by_access op k (Ok s) e h = by_range op k s e (asked_of st op s xt xt2) refl h

    by_word : (x : Option Operation) → read_of word ≡ x → resolved_word st xt xt2 x ≡ Ok w → Resolves st word xt xt2 w
    by_word (Some op) e h = by_access op e (access_of st op) refl h
    by_word None e h = absurd (none refl h)

-- a word is one operation
pub known-one : {x y : Operation} → Some x ≡ Some y → x ≡ y
known-one {x} h = ap operation_in h
  where
    operation_in : Option Operation → Operation
    operation_in (Some o) = o
    operation_in None = x

-- what the fields of work keep
pub record Fit (w : Work) : Type 0 where
  pub granule_some : 1 ≤ w.granule
  pub granule_most : w.granule ≤ 3
  pub asid : IfSome w.asid (λ n. n < 2 ^ 16)
  pub ordered : w.first ≤ w.last
  pub last : w.last < 2 ^ 64

pub fit : (st : State) (word xt xt2 : ℕ) (w : Work) → resolved_of st word xt xt2 ≡ Ok w → Fit w
unfolding work_of
fit st word xt xt2 w h =
    let it = resolves st word xt xt2 w h in
    let o = it.operand in
    let t = told_of st it.operation it.scope in
    let a = asks st it.operation it.scope xt xt2 o it.range it.asked in
    let within = read-within t _ _ o a.read in
    let top = writable-top t o (read-writable t _ _ o a.read) in
    let some = range-some o (read-base t _ _ o a.read) in
    subst Fit it.work
    (record {
      granule_some = within.0;
      granule_most = omega (arith, within.1);
      asid = asid it.scope.asid (omega (arith, top));
      ordered = subst (λ (r : Range). r.first ≤ r.last) a.range some.0;
      last = subst (λ (r : Range). r.last < 2 ^ 64) a.range some.1;
    })
  where
    asid : {a : ℕ} (b : Bool) → a < 2 ^ 16 → IfSome (cond b (Some a) None) (λ n. n < 2 ^ 16)
    asid true l = l
    asid false l = tt

-- the regime and the stage that the names of a family act on, where they run
abbrev pub regime_of : Family → State → Regime
regime_of E1 st = cond (eqb st.el 1) EL10 (cond (e2h_of st && tge_of st) EL20 EL10)
regime_of E2 st = cond (e2h_of st) EL20 EL2
regime_of E3 st = EL3
regime_of Stage2 st = EL10

abbrev pub is_stage2 : Family → Bool
is_stage2 E1 = false
is_stage2 E2 = false
is_stage2 E3 = false
is_stage2 Stage2 = true

-- whose an operation that runs is: its regime and stage are its family's, its security state and VMID those of the state for the regime
pub record Scoped (f : Family) (st : State) (op : Operation) (s : Scope) : Type 0 where
  pub regime : s.regime ≡ regime_of f st
  pub stage2 : s.stage2 ≡ is_stage2 f
  pub security : s.security ≡ security_in st s.regime
  pub vmid : s.vmid ≡ vmid_in st s.regime
  -- whom it reaches, whether an ASID applies, and whether its name has L
  pub reached : s.reached ≡ reached_of st op
  pub asid : s.asid ≡ uses_asid op.name s.regime
  pub last : s.last ≡ has_l op.name

abbrev scope_in : Scope → Result Scope Refusal → Scope
scope_in s (Err r) = s
scope_in s (Ok t) = t

runs-scoped : (f : Family) (st : State) (op : Operation) (s : Scope) (g : Regime) (stage2 nxs : Bool) → g ≡ regime_of f st → stage2 ≡ is_stage2 f →
    ◌≡◌ {A = Result Scope Refusal} (Ok (scope_of st op g stage2 nxs)) (Ok s) → Scoped f st op s
unfolding scope_of
runs-scoped f st op s g stage2 nxs e i h =
    subst (Scoped f st op) (ap (scope_in s) h)
    (record { regime = e; stage2 = i; security = refl; vmid = refl; reached = refl; asid = refl; last = refl })

refused : {x : Result Scope Refusal} {n : ℕ} {s : Scope} {A : Type 0} → number_of x ≡ suc n → x ≡ Ok s → A
refused {x} {n} e h = absurd (let z : suc n ≡ 0 = sym e ∙ ap number_of h in omega arith)

pub scoped : (st : State) (op : Operation) (s : Scope) → access_of st op ≡ Ok s → Scoped (family_of op.name) st op s
unfolding access_of access_e1 access_e2 access_stage2 access_e3
scoped st op s = barred (is_barred st op)
  where
    by_e1 : (a : Bool) → eqb st.el 1 ≡ a → (b : Bool) →
        cond a (cond b (trapped op) (Ok (scope_of st op EL10 false (acts_nxs st op))))
        (Ok (scope_of st op (cond (e2h_of st && tge_of st) EL20 EL10) false op.nxs))
        ≡ Ok s →
        Scoped E1 st op s
    by_e1 true e true h = refused refl h
    by_e1 true e false h = runs-scoped E1 st op s EL10 false (acts_nxs st op) (simp e) refl h
    by_e1 false e b h = runs-scoped E1 st op s (cond (e2h_of st && tge_of st) EL20 EL10) false op.nxs (simp e) refl h

    by_nv : (f : Family) (a : Bool) → cond a (trapped op) (Err refusal.Undefined) ≡ Ok s → Scoped f st op s
    by_nv f true h = refused refl h
    by_nv f false h = refused refl h

    by_e2 : (a b : Bool) → cond a (access_nv st op) (cond b (Ok (scope_of st op (cond (e2h_of st) EL20 EL2) false op.nxs)) (Err refusal.Undefined)) ≡ Ok s →
        Scoped E2 st op s
    by_e2 true b h = by_nv E2 (el2_enabled st && st.hcr.nv) h
    by_e2 false true h = runs-scoped E2 st op s (cond (e2h_of st) EL20 EL2) false op.nxs refl refl h
    by_e2 false false h = refused refl h

    by_stage2 : (a b : Bool) → cond a (access_nv st op) (cond b (Ok (scope_of st op EL10 true op.nxs)) (Err refusal.NoEffect)) ≡ Ok s →
        Scoped Stage2 st op s
    by_stage2 true b h = by_nv Stage2 (el2_enabled st && st.hcr.nv) h
    by_stage2 false true h = runs-scoped Stage2 st op s EL10 true op.nxs refl refl h
    by_stage2 false false h = refused refl h

    by_e3 : (a : Bool) → cond a (Err refusal.Undefined) (Ok (scope_of st op EL3 false op.nxs)) ≡ Ok s → Scoped E3 st op s
    by_e3 true h = refused refl h
    by_e3 false h = runs-scoped E3 st op s EL3 false op.nxs refl refl h

    by_family : (f : Family) → access_by f st op ≡ Ok s → Scoped f st op s
    by_family E1 h = by_e1 (eqb st.el 1) refl (is_trapped st op) h
    by_family E2 h = by_e2 (eqb st.el 1) (el2_enabled st) h
    by_family E3 h = by_e3 (ltb st.el 3) h
    by_family Stage2 h = by_stage2 (eqb st.el 1) (el2_enabled st) h

    barred : (a : Bool) → cond a (Err refusal.Undefined) (access_by (family_of op.name) st op) ≡ Ok s → Scoped (family_of op.name) st op s
    barred true h = refused refl h
    barred false h = by_family (family_of op.name) h

-- below EL3 no E3 name runs
pub scoped-below : (st : State) (op : Operation) (s : Scope) → st.el < 3 → access_of st op ≡ Ok s → s.regime ≡ EL3 → ⊥
unfolding access_of access_e3
scoped-below st op s el h e = barred (is_barred st op) h
  where
    third : (f : Family) → EL3 ≡ regime_of f st → f ≡ E3
    third E1 i = absurd (first (eqb st.el 1) (e2h_of st && tge_of st) i)
      where
        first : (a b : Bool) → EL3 ≡ cond a EL10 (cond b EL20 EL10) → ⊥
        first true b i = let z : ◌≡◌ {A = ℕ} 3 0 = ap regime_number i in omega arith
        first false true i = let z : ◌≡◌ {A = ℕ} 3 1 = ap regime_number i in omega arith
        first false false i = let z : ◌≡◌ {A = ℕ} 3 0 = ap regime_number i in omega arith
    third E2 i = absurd (second (e2h_of st) i)
      where
        second : (a : Bool) → EL3 ≡ cond a EL20 EL2 → ⊥
        second true i = let z : ◌≡◌ {A = ℕ} 3 1 = ap regime_number i in omega arith
        second false i = let z : ◌≡◌ {A = ℕ} 3 2 = ap regime_number i in omega arith
    third E3 i = refl
    third Stage2 i = absurd (let z : ◌≡◌ {A = ℕ} 3 0 = ap regime_number i in omega arith)

    is : family_of op.name ≡ E3
    is = third (family_of op.name) (sym e ∙ (scoped st op s h).regime)

    low : ltb st.el 3 ≡ true
    low = lt-ltb st.el 3 el

    barred : (a : Bool) → cond a (Err refusal.Undefined) (access_by (family_of op.name) st op) ≡ Ok s → ⊥
    barred true h = refused refl h
    barred false h = refused {x = Err refusal.Undefined} refl (sym (ap (λ f. access_by f st op) is ∙ rw low refl) ∙ h)

-- a guest's: at EL1 only stage 1 of EL1&0 is acted on
pub scoped-guest : (st : State) (op : Operation) (s : Scope) → st.el ≡ 1 → access_of st op ≡ Ok s → (s.regime ≡ EL10) × (s.stage2 ≡ false)
unfolding access_of access_e1 access_e2 access_stage2 access_e3 scope_of
scoped-guest st op s el = barred (is_barred st op)
  where
    at1 : eqb st.el 1 ≡ true
    at1 = eq-eqb st.el 1 el

    at3 : ltb st.el 3 ≡ true
    at3 = ap (λ (n : ℕ). ltb n 3) el

    by_nv : (a : Bool) → cond a (trapped op) (Err refusal.Undefined) ≡ Ok s → (s.regime ≡ EL10) × (s.stage2 ≡ false)
    by_nv true h = refused refl h
    by_nv false h = refused refl h

    by_e1 : (b : Bool) → cond b (trapped op) (Ok (scope_of st op EL10 false (acts_nxs st op))) ≡ Ok s → (s.regime ≡ EL10) × (s.stage2 ≡ false)
    by_e1 true h = refused refl h
    by_e1 false h = let e = ap (scope_in s) h in (ap (λ (t : Scope). t.regime) (sym e), ap (λ (t : Scope). t.stage2) (sym e))

    by_family : (f : Family) → access_by f st op ≡ Ok s → (s.regime ≡ EL10) × (s.stage2 ≡ false)
    by_family E1 h = by_e1 (is_trapped st op) (sym (rw at1 refl) ∙ h)
    by_family E2 h = by_nv (el2_enabled st && st.hcr.nv) (sym (rw at1 refl) ∙ h)
    by_family E3 h = refused {x = Err refusal.Undefined} refl (sym (rw at3 refl) ∙ h)
    by_family Stage2 h = by_nv (el2_enabled st && st.hcr.nv) (sym (rw at1 refl) ∙ h)

    barred : (a : Bool) → cond a (Err refusal.Undefined) (access_by (family_of op.name) st op) ≡ Ok s → (s.regime ≡ EL10) × (s.stage2 ≡ false)
    barred true h = refused refl h
    barred false h = by_family (family_of op.name) h

-- the state that {NSE, NS} or NS gives is never Root, and EL3's own is Root or Secure
state-of : (st : State) (g : Regime) → is_state_of g (security_in st g) ≡ true
unfolding security_in security_of
state-of st = go
  where
    low : (a b c : Bool) → not (is_root (cond a (cond b (cond c Realm NonSecure) Secure) NonSecure)) ≡ true
    low true true true = refl
    low true true false = refl
    low true false c = refl
    low false b c = refl

    own : (a : Bool) → (is_root (cond a Root Secure) || is_secure (cond a Root Secure)) ≡ true
    own true = refl
    own false = refl

    go : (g : Regime) → is_state_of g (security_in st g) ≡ true
    go EL10 = low st.present.el3 st.scr.ns (st.features.rme && st.scr.nse)
    go EL20 = low st.present.el3 st.scr.ns (st.features.rme && st.scr.nse)
    go EL2 = low st.present.el3 st.scr.ns (st.features.rme && st.scr.nse)
    go EL3 = own st.features.rme

-- NS is read only in stage 2 of the Secure state
space-of : (st : State) (op : Operation) (s : Scope) (o : Operand) → fits (has_ns (told_of st op s).form) 1 o.ns ≡ true →
    (not (eqb o.ns 1) || (is_secure s.security && s.stage2)) ≡ true
unfolding told_of form_of
space-of st op s o = go s.stage2 (is_secure s.security) (is_two_ranges s.regime) s.asid
  where
    zero : (b : Bool) → eqb o.ns 0 ≡ true → (not (eqb o.ns 1) || b) ≡ true
    zero b h = let e : o.ns ≡ 0 = eqb-true o.ns 0 h in ap (λ (n : ℕ). not (eqb n 1) || b) e

    go : (a b c d : Bool) → fits (has_ns (cond a (cond b Stage2Ns Stage2NoNs) (cond c (cond d TwoRangesAsid TwoRanges) OneRange))) 1 o.ns ≡ true →
        (not (eqb o.ns 1) || (b && a)) ≡ true
    go true true c d h = or_right (not (eqb o.ns 1)) true refl
    go true false c d h = zero false h
    go false b true true h = zero (b && false) h
    go false b true false h = zero (b && false) h
    go false b false d h = zero (b && false) h

-- whose the work is: the state's, for the regime of its operation, and one that entries can have
pub record Owner (st : State) (c : Company) : Type 0 where
  pub security : c.security ≡ security_in st c.regime
  pub vmid : c.vmid ≡ vmid_in st c.regime
  pub company : is_company c ≡ true

pub owner : (st : State) (word xt xt2 : ℕ) (w : Work) → resolved_of st word xt xt2 ≡ Ok w → Owner st w.company
unfolding work_of is_company vmid_in
owner st word xt xt2 w h =
    let it = resolves st word xt xt2 w h in
    let op = it.operation in
    let s = it.scope in
    let o = it.operand in
    let a = asks st op s xt xt2 o it.range it.asked in
    let k = scoped st op s it.runs in
    let space = space-of st op s o (writable (told_of st op s) o (read-writable (told_of st op s) _ _ o a.read)).ns in
    let right : is_state_of s.regime s.security ≡ true = ap (is_state_of s.regime) k.security ∙ state-of st s.regime in
    subst (λ (v : Work). Owner st v.company) it.work
    (record { security = k.security; vmid = k.vmid; company = simp (guest s.regime s.vmid k.vmid, space, staged (family_of op.name) s.stage2 s.regime k.stage2 k.regime, right) })
  where
    guest : (g : Regime) (v : ℕ) → v ≡ vmid_in st g → (is_el10 g || eqb v 0) ≡ true
    guest EL10 v e = refl
    guest EL20 v e = eq-eqb v 0 e
    guest EL2 v e = eq-eqb v 0 e
    guest EL3 v e = eq-eqb v 0 e

    staged : (f : Family) (b : Bool) (g : Regime) → b ≡ is_stage2 f → g ≡ regime_of f st → (not b || is_el10 g) ≡ true
    staged E1 b g e i = ap (λ (x : Bool). not x || is_el10 g) e
    staged E2 b g e i = ap (λ (x : Bool). not x || is_el10 g) e
    staged E3 b g e i = ap (λ (x : Bool). not x || is_el10 g) e
    staged Stage2 b g e i = ap₂ (λ (x : Bool) (y : Regime). not x || is_el10 y) e i

-- a guest's work, at EL1, is stage 1 of EL1&0 with the state's own VMID and security state, whatever the word and the operand
pub owner-guest : (st : State) (word xt xt2 : ℕ) (w : Work) → st.el ≡ 1 → resolved_of st word xt xt2 ≡ Ok w → w.company ≡ stage1_of st EL10
unfolding work_of stage1_of
owner-guest st word xt xt2 w el h =
    let it = resolves st word xt xt2 w h in
    let op = it.operation in
    let s = it.scope in
    let o = it.operand in
    let a = asks st op s xt xt2 o it.range it.asked in
    let k = scoped st op s it.runs in
    let (regime, stage) = scoped-guest st op s el it.runs in
    let space = space-of st op s o (writable (told_of st op s) o (read-writable (told_of st op s) _ _ o a.read)).ns in
    ap (λ (v : Work). v.company) (sym it.work)
    ∙ company-same regime (k.security ∙ ap (security_in st) regime) (k.vmid ∙ ap (vmid_in st) regime) stage (none (eqb o.ns 1) (is_secure s.security) s.stage2 stage space)
  where
    none : (a b c : Bool) → c ≡ false → (not a || (b && c)) ≡ true → a ≡ false
    none true true true e h = e
    none true true false e h = sym h
    none true false c e h = sym h
    none false b c e h = refl

-- the company of the work of a word: regime and stage by the family of its name, and "for RIPAS2 bit 63 is NS" in the Secure state
pub work-company : (st : State) (word xt xt2 : ℕ) (w : Work) (op : Operation) → resolved_of st word xt xt2 ≡ Ok w → read_of word ≡ Some op →
    (w.company.regime ≡ regime_of (family_of op.name) st)
    × (w.company.stage2 ≡ is_stage2 (family_of op.name))
    × (w.company.ns ≡ (w.company.stage2 && is_secure w.company.security && eqb (bits 63 63 (xt_used op xt)) 1))
unfolding work_of told_of form_of
work-company st word xt xt2 w op h known =
    let it = resolves st word xt xt2 w h in
    let s = it.scope in
    let o = it.operand in
    let one : it.operation ≡ op = known-one (sym it.known ∙ known) in
    let a = asks st it.operation s xt xt2 o it.range it.asked in
    let k = scoped st it.operation s it.runs in
    let read = (read-fields (told_of st it.operation s) (xt_used it.operation xt) (xt2_used it.operation xt2) o a.read).1 in
    let ns : o.ns ≡ ns_in (form_of s) (xt_used it.operation xt) = ap (λ (p : Operand). p.ns) (sym read) in
    let space = ap (λ (n : ℕ). eqb n 1) ns ∙ form s.stage2 (is_secure s.security) (is_two_ranges s.regime) s.asid (bits 63 63 (xt_used it.operation xt)) in
    subst
    (λ (v : Work).
    (v.company.regime ≡ regime_of (family_of op.name) st)
    × (v.company.stage2 ≡ is_stage2 (family_of op.name))
    × (v.company.ns ≡ (v.company.stage2 && is_secure v.company.security && eqb (bits 63 63 (xt_used op xt)) 1)))
    it.work
    (subst
    (λ (x : Operation).
    (s.regime ≡ regime_of (family_of x.name) st)
    × (s.stage2 ≡ is_stage2 (family_of x.name))
    × (eqb o.ns 1 ≡ (s.stage2 && is_secure s.security && eqb (bits 63 63 (xt_used x xt)) 1)))
    one
    (k.regime, k.stage2, space))
  where
    form : (a b c d : Bool) (n : ℕ) →
        eqb (cond (has_ns (cond a (cond b Stage2Ns Stage2NoNs) (cond c (cond d TwoRangesAsid TwoRanges) OneRange))) n 0) 1 ≡ (a && b && eqb n 1)
    form true true c d n = refl
    form true false c d n = refl
    form false b true true n = refl
    form false b true false n = refl
    form false b false d n = refl

-- "its processor is below the count and reached"
pub work-reached : (st : State) (word xt xt2 : ℕ) (w : Work) (op : Operation) (p : ℕ) → resolved_of st word xt xt2 ≡ Ok w → read_of word ≡ Some op →
    p < 8 → bit_of w.reached p ≡ reaches st op p
unfolding work_of
work-reached st word xt xt2 w op p h known low =
    let it = resolves st word xt xt2 w h in
    let one : it.operation ≡ op = known-one (sym it.known ∙ known) in
    let mask : w.reached ≡ reached_of st it.operation = ap (λ (v : Work). v.reached) (sym it.work) ∙ (scoped st it.operation it.scope it.runs).reached in
    ap (λ (m : ℕ). bit_of m p) mask ∙ ap (λ (o : Operation). bit_of (reached_of st o) p) one ∙ reached-bit st op p low
