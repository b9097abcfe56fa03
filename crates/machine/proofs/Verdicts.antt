-- The verdict: a list is accepted exactly when it does its work, what each refusal shows, and that there is one verdict for every input.
use Rattle.std.specs.Prelude.{Result, Ok, Err, ⊤}
use Prim.Native.Nat.{ℕ, zero, suc, ◌+◌, ◌*◌, ◌^◌, ◌<◌}
use mathlib.Core.Bool.{Bool, true, false, cond, not, ◌&&◌, ◌||◌}
use mathlib.Core.List.{List, [], ◌∷◌}
use mathlib.Core.Logic.{◌↔◌}
use mathlib.Core.Path.{◌≡◌, refl, sym, ap, subst, ◌∙◌}
use native.Mathlib.Omega.{arith}
use lib.Dec.{eqb, ltb}
use lib.IntN.{ℤ, pos, negsuc}
use lib.ListN.{get_or}
use borrow.Author.Tests.{eqb-true, ltb-true, ltb-false, eq-eqb, not-true}
use Rattle.std.specs.Prelude.{Option, Some, None}
use Rattle.laws.proofs.Slots.{slot_same, first_holds, some_at}
use Rattle.laws.proofs.Truth.{and_0, and-1, or-0, or-1, not_so, clash}
use Rattle.laws.specs.Slots.{slots, holds_at, count, first, some, cleared}
use Rattle.machine.proofs.Executing.{execute-work}
use Rattle.machine.proofs.Going.{written-drops}
use Rattle.machine.proofs.Judging.{is_taken, done-list, list_done, alone-inserted, alone-words, alone-table, alone-fits, alone-reads, alone-run}
use Rattle.machine.proofs.Spans.{by_level, span-level}
use Rattle.machine.proofs.Tags.{legal, company-one, entry-same, zero-empty}
use Rattle.machine.proofs.Victims.{victim, victim-legal, victim-goes, victim-sized}
use Rattle.machine.specs.Answer.{judged_number, judged_step, judged_entry, no_entry, number_of}
use Rattle.machine.specs.Entry.{has_asids, is_placed, is_legal}
use Rattle.machine.specs.Execute.{resolved_of, is_list, on_work, refuses, ran_of, run_table, executed_of, execute_table}
use Rattle.machine.specs.Goes.{goes, drops}
use Rattle.machine.specs.Judge.{Does, is_outside, kind_of, leaf_at, level_at, is_before, alone, Aimed, Survivor, Sound, Verdict}
use Rattle.machine.specs.Span.{is_level, height_of}
use Rattle.machine.specs.State.{bad_state}
use Rattle.machine.specs.Table.{slot_reads, slot_entry, same_company, inserted_of}
use Rattle.machine.specs.Tag.{Sized, tag_of}
use Rattle.machine.specs.Target.{is_named, is_of_company, is_of_width, is_of_granule, is_of_kind, is_of_asid, is_within, is_target, aims}
use Rattle.machine.specs.declared.entry.Company.{Company}
use Rattle.machine.specs.declared.entry.Entry.{Entry}
use Rattle.machine.specs.declared.judge.Target.{Target}
use Rattle.machine.specs.declared.processor.State.{State}
use Rattle.machine.specs.declared.work.Work.{Work}
use Rattle.machine.specs.declared.refusal.Refusal.{Refusal}
use Rattle.machine.specs.declared.judge.Objection.{Objection}
use Rattle.machine.specs.declared.judge.Objection.TheVariants as objection

-- Refused with 11: a step outside the company is work of another company, and there is a table in which it drops an entry of that
record Other (st : State) (c : Company) (word xt xt2 : ℕ) : Type 0 where
  work : Work
  resolved : resolved_of st word xt xt2 ≡ Ok work
  apart : same_company work.company c ≡ false

outside-work : (st : State) (c : Company) (word xt xt2 : ℕ) → is_outside st c word xt xt2 ≡ true → Other st c word xt xt2
outside-work st c word xt xt2 = go (resolved_of st word xt xt2) refl
  where
    go : (r : Result Work Refusal) → resolved_of st word xt xt2 ≡ r → on_work (λ w. not (same_company w.company c)) r ≡ true → Other st c word xt xt2
    go (Ok w) e h = record { work = w; resolved = e; apart = not-true (same_company w.company c) h }
    go (Err r) e h = clash h refl

pub record Harmed (st : State) (c : Company) (word xt xt2 : ℕ) : Type 0 where
  pub entry : Entry
  pub sized : Sized entry
  pub fits : entry.base < 2 ^ 64
  pub legal : is_legal entry ≡ true
  pub other : same_company entry.company c ≡ false
  pub dropped : (executed_of st word xt xt2 (alone entry) ≡ Ok 1) × (execute_table st word xt xt2 (alone entry) ≡ (0 ∷ 0 ∷ 0 ∷ []))

-- and the step is one that drops the entry wherever it stands
record Struck (st : State) (c : Company) (word xt xt2 : ℕ) : Type 0 where
  harmed : Harmed st c word xt xt2
  taken : is_taken st harmed.entry word xt xt2 ≡ true

outside-harms : (st : State) (c : Company) (word xt xt2 : ℕ) → bad_state st ≡ false → st.vmid < 2 ^ 16 → is_outside st c word xt xt2 ≡ true →
    Struck st c word xt xt2
unfolding victim count cleared
outside-harms st c word xt xt2 good low h =
    let o = outside-work st c word xt xt2 h in
    let w = o.work in
    let v = victim st w in
    let ok : is_legal v ≡ true = victim-legal st word xt xt2 w good o.resolved in
    let going : goes w v ≡ true = victim-goes st word xt xt2 w good o.resolved in
    let (sized, fits) = victim-sized st word xt xt2 w good o.resolved low in
    let l = alone-words v ok in
    let here : drops w v.base (tag_of v) 0 ≡ true = written-drops w v 0 sized ok ∙ going in
    let (answer, table) = execute-work st word xt xt2 (alone v) w (alone-table v ok).0 good o.resolved in
    record {
      harmed = record {
        entry = v;
        sized = sized;
        fits = fits;
        legal = ok;
        other = o.apart;
        dropped = (answer ∙ ap (λ (m : List ℕ). (Ok (count (drops w) m))) l ∙ ap Ok (one here), table ∙ ap (cleared (drops w)) l ∙ gone (v.base ∷ tag_of v ∷ 0 ∷ []) here);
      };
      taken = ap (on_work (λ w. goes w v)) o.resolved ∙ going;
    }
  where
    one : {b : Bool} → b ≡ true → cond b 1 0 + 0 ≡ 1
    one e = ap (λ (x : Bool). cond x 1 0 + 0) e

    gone : {b : Bool} (l : List ℕ) → b ≡ true → cond b (0 ∷ 0 ∷ 0 ∷ []) l ≡ (0 ∷ 0 ∷ 0 ∷ [])
    gone l e = ap (λ (x : Bool). cond x (0 ∷ 0 ∷ 0 ∷ []) l) e

-- A list that does its work, and acceptance.
module _ (st : State) (t : Target) (steps : List ℕ) (s : Sound st t steps) where
  -- a list that does its work is made of steps that end as done
  does-done : Does st t steps → some (refuses st) steps ≡ false
  does-done d = done-list st steps [] (d.done [] refl (λ (i : ℕ). none i))
    where
      none : (i : ℕ) → get_or {A = ℕ} [] i 0 < 2 ^ 64
      none i = omega arith

  -- none of them outside the company
  does-inside : st.vmid < 2 ^ 16 → Does st t steps → some (is_outside st t.company) steps ≡ false
  does-inside low d =
      not_so (some (is_outside st t.company) steps)
      (λ (h : some (is_outside st t.company) steps ≡ true).
      let k = first (is_outside st t.company) steps in
      let n = ltb-true k (slots steps) h in
      let word = get_or steps (3 * k) 0 in
      let xt = get_or steps (3 * k + 1) 0 in
      let xt2 = get_or steps (3 * k + 2) 0 in
      let here = first_holds (is_outside st t.company) steps n in
      let struck = outside-harms st t.company word xt xt2 s.state low here in
      let it = struck.harmed in
      let v = it.entry in
      let (shape, size) = alone-table v it.legal in
      let words = alone-fits v it.sized it.fits it.legal in
      let (reads, same) = alone-reads v it.sized it.legal in
      let taken : some (is_taken st v) steps ≡ true = some_at (is_taken st v) steps k n struck.taken in
      let left = alone-run st steps v true it.sized it.legal (d.done (alone v) shape words) taken in
      let other : same_company (slot_entry (alone v) 0).company t.company ≡ false = ap (λ (e : Entry). same_company e.company t.company) same ∙ it.other in
      let (x, y, z) = d.spares (alone v) shape words 0 (omega (arith, size)) reads other in
      clash (slot_same slot_reads x y z ∙ reads) (ap (λ (m : List ℕ). holds_at slot_reads m 0) left ∙ zero-empty 0))

  -- and no entry that the target asks for survives it
  does-clears : (e : Entry) → Does st t steps → Survivor st t steps e → ⊥
  does-clears e d v =
      let a = v.asked in
      let (shape, size) = alone-table e a.legal in
      let words = alone-fits e a.sized a.word a.legal in
      let (reads, same) = alone-reads e a.sized a.legal in
      let after : holds_at slot_reads (run_table st steps (alone e)) 0 ≡ true = ap (λ (m : List ℕ). holds_at slot_reads m 0) v.survives ∙ reads in
      let back : slot_entry (run_table st steps (alone e)) 0 ≡ e = ap (λ (m : List ℕ). slot_entry m 0) v.survives ∙ same in
      clash (ap (aims t) back ∙ a.aimed) (d.clears (alone e) shape words 0 (omega (arith, size)) after)

  -- Demand 3: "A list of invalidations is accepted exactly when, from every table of legal shape, it does its work and harms no other company."
  pub accepted-exactly : st.vmid < 2 ^ 16 → (r : Result ⊤ Objection) → Verdict st t steps r → (r ≡ Ok tt) ↔ Does st t steps
  accepted-exactly low r v = (λ (e : r ≡ Ok tt). (subst (Verdict st t steps) e v).1, back r v)
    where
      back : (r : Result ⊤ Objection) → Verdict st t steps r → Does st t steps → r ≡ Ok tt
      back (Ok tt) v d = refl
      back (Err objection.BadShape) v d = clash s.list v
      back (Err objection.BadState) v d = clash v.1 s.state
      back (Err objection.BadTarget) v d = clash s.target v.2
      back (Err (objection.Refused k)) v d = clash v.1 (does-done d)
      back (Err (objection.Outside k)) v d = clash v.2 (does-inside low d)
      back (Err (objection.Gap e)) v d = absurd (does-clears e d v.3)

-- an answer of number 0 is acceptance
does-is : (st : State) (t : Target) (steps : List ℕ) (v : Result ⊤ Objection) → judged_number v ≡ 0 → Verdict st t steps v → Does st t steps
does-is st t steps (Ok tt) e h = h.1
does-is st t steps (Err objection.BadShape) e h = absurd (let z : ◌≡◌ {A = ℕ} 13 0 = e in omega arith)
does-is st t steps (Err objection.BadState) e h = absurd (let z : ◌≡◌ {A = ℕ} 2 0 = e in omega arith)
does-is st t steps (Err objection.BadTarget) e h = absurd (let z : ◌≡◌ {A = ℕ} 8 0 = e in omega arith)
does-is st t steps (Err (objection.Refused k)) e h = absurd (let z : ◌≡◌ {A = ℕ} 10 0 = e in omega arith)
does-is st t steps (Err (objection.Outside k)) e h = absurd (let z : ◌≡◌ {A = ℕ} 11 0 = e in omega arith)
does-is st t steps (Err (objection.Gap x)) e h = absurd (let z : ◌≡◌ {A = ℕ} 12 0 = e in omega arith)

-- and so by its number
pub accepted-number : (st : State) (t : Target) (steps : List ℕ) (r : Result ⊤ Objection) → Sound st t steps → st.vmid < 2 ^ 16 → Verdict st t steps r →
    (judged_number r ≡ 0) ↔ Does st t steps
accepted-number st t steps r s low v =
    (λ (e : judged_number r ≡ 0). does-is st t steps r e v, λ (d : Does st t steps). ap judged_number ((accepted-exactly st t steps s low r v).1 d))

-- Refused with 11: there is a table in which that step drops an entry of another company.
pub outside-shows : (st : State) (t : Target) (steps : List ℕ) (k : ℕ) → st.vmid < 2 ^ 16 → Verdict st t steps (Err (objection.Outside k)) →
    (k < slots steps) × Harmed st t.company (get_or steps (3 * k) 0) (get_or steps (3 * k + 1) 0) (get_or steps (3 * k + 2) 0)
outside-shows st t steps k low (s, done, some, at) =
    let n = ltb-true (first (is_outside st t.company) steps) (slots steps) some in
    let here = ap (holds_at (is_outside st t.company) steps) at ∙ first_holds (is_outside st t.company) steps n in
    let struck = outside-harms st t.company (get_or steps (3 * k) 0) (get_or steps (3 * k + 1) 0) (get_or steps (3 * k + 2) 0) s.state low here in
    (omega (arith, at, n), struck.harmed)

-- Refused with 12: insert makes a table of the entry, the run from it ends as done, and the entry still stands in it.
pub record Left (st : State) (t : Target) (steps : List ℕ) (e : Entry) : Type 0 where
  pub inserted : inserted_of e (0 ∷ 0 ∷ 0 ∷ []) ≡ Ok 0
  pub ran : number_of (ran_of st steps (alone e)) ≡ 0
  pub reads : holds_at slot_reads (run_table st steps (alone e)) 0 ≡ true
  pub entry : slot_entry (run_table st steps (alone e)) 0 ≡ e
  pub output : get_or (run_table st steps (alone e)) 2 0 ≡ 0
  pub asked : Aimed t e

pub gap-shows : (st : State) (t : Target) (steps : List ℕ) (e : Entry) → Verdict st t steps (Err (objection.Gap e)) → Left st t steps e
gap-shows st t steps e (s, done, inside, v) =
    let a = v.asked in
    let (reads, same) = alone-reads e a.sized a.legal in
    record {
      inserted = alone-inserted e a.legal;
      ran = list_done st steps (alone e) s.list s.state done (alone-table e a.legal).0;
      reads = ap (λ (m : List ℕ). holds_at slot_reads m 0) v.survives ∙ reads;
      entry = ap (λ (m : List ℕ). slot_entry m 0) v.survives ∙ same;
      output = ap (λ (m : List ℕ). get_or m 2 0) (v.survives ∙ alone-words e a.legal);
      asked = a;
    }

-- 12 is given, after the other checks, exactly where the list does not do its work
pub gap-number : (st : State) (t : Target) (steps : List ℕ) (r : Result ⊤ Objection) → Sound st t steps → st.vmid < 2 ^ 16 → some (refuses st) steps ≡ false →
    some (is_outside st t.company) steps ≡ false → Verdict st t steps r → (judged_number r ≡ 12) ↔ (Does st t steps → ⊥)
gap-number st t steps r s low done inside v = (there r v, back r v)
  where
    there : (r : Result ⊤ Objection) → Verdict st t steps r → judged_number r ≡ 12 → Does st t steps → ⊥
    there (Ok tt) v e d = let z : ◌≡◌ {A = ℕ} 0 12 = e in omega arith
    there (Err objection.BadShape) v e d = let z : ◌≡◌ {A = ℕ} 13 12 = e in omega arith
    there (Err objection.BadState) v e d = let z : ◌≡◌ {A = ℕ} 2 12 = e in omega arith
    there (Err objection.BadTarget) v e d = let z : ◌≡◌ {A = ℕ} 8 12 = e in omega arith
    there (Err (objection.Refused k)) v e d = let z : ◌≡◌ {A = ℕ} 10 12 = e in omega arith
    there (Err (objection.Outside k)) v e d = let z : ◌≡◌ {A = ℕ} 11 12 = e in omega arith
    there (Err (objection.Gap x)) v e d = does-clears st t steps s x d v.3

    back : (r : Result ⊤ Objection) → Verdict st t steps r → (Does st t steps → ⊥) → judged_number r ≡ 12
    back (Ok tt) v n = absurd (n v.1)
    back (Err objection.BadShape) v n = clash s.list v
    back (Err objection.BadState) v n = clash v.1 s.state
    back (Err objection.BadTarget) v n = clash s.target v.2
    back (Err (objection.Refused k)) v n = clash v.1 done
    back (Err (objection.Outside k)) v n = clash v.2 inside
    back (Err (objection.Gap x)) v n = refl

-- the kind of an entry tells whether it is a leaf, and its level
pub kind-back : (leaf : Bool) (l : ℤ) (global : Bool) → is_level l ≡ true → is_placed leaf l global ≡ true →
    (kind_of leaf l < 7) × (leaf_at (kind_of leaf l) ≡ leaf) × (level_at (kind_of leaf l) ≡ l)
unfolding kind_of leaf_at level_at height_of
kind-back leaf l global v h = by_level (λ (z : ℤ). (b : Bool) → is_placed b z global ≡ true → Back b z) (at, at0, at1, at2, at3) l v leaf h
  where
    Back : Bool → ℤ → Type 0
    Back b z = (kind_of b z < 7) × (leaf_at (kind_of b z) ≡ b) × (level_at (kind_of b z) ≡ z)

    at : (b : Bool) → is_placed b (negsuc 0) global ≡ true → Back b (negsuc 0)
    at true i = clash i refl
    at false i = (omega arith, refl, refl)

    at0 : (b : Bool) → is_placed b (pos 0) global ≡ true → Back b (pos 0)
    at0 true i = clash i refl
    at0 false i = (omega arith, refl, refl)

    at1 : (b : Bool) → is_placed b (pos 1) global ≡ true → Back b (pos 1)
    at1 true i = (omega arith, refl, refl)
    at1 false i = (omega arith, refl, refl)

    at2 : (b : Bool) → is_placed b (pos 2) global ≡ true → Back b (pos 2)
    at2 true i = (omega arith, refl, refl)
    at2 false i = (omega arith, refl, refl)

    at3 : (b : Bool) → is_placed b (pos 3) global ≡ true → Back b (pos 3)
    at3 true i = (omega arith, refl, refl)
    at3 false i = clash i refl

-- and each of seven kinds is that of its leaf and level, which an entry can have
pub kind-there : (j : ℕ) → j < 7 → (kind_of (leaf_at j) (level_at j) ≡ j) × (is_placed (leaf_at j) (level_at j) false ≡ true)
unfolding kind_of leaf_at level_at height_of
kind-there zero l = (refl, refl)
kind-there (suc zero) l = (refl, refl)
kind-there (suc (suc zero)) l = (refl, refl)
kind-there (suc (suc (suc zero))) l = (refl, refl)
kind-there (suc (suc (suc (suc zero)))) l = (refl, refl)
kind-there (suc (suc (suc (suc (suc zero))))) l = (refl, refl)
kind-there (suc (suc (suc (suc (suc (suc zero)))))) l = (refl, refl)
kind-there (suc (suc (suc (suc (suc (suc (suc j))))))) l = absurd (omega arith)

-- neither of two entries is before the other only if their places are one
same_place : (d e : Entry) → is_before d e ≡ false → is_before e d ≡ false →
    (d.processor ≡ e.processor) × (kind_of d.leaf d.level ≡ kind_of e.leaf e.level) × (d.base ≡ e.base)
unfolding is_before
same_place d e h i =
    go d.processor e.processor (kind_of d.leaf d.level) (kind_of e.leaf e.level) d.base e.base h i
  where
    equal : (m n : ℕ) (r s : Bool) → (ltb m n || (eqb m n && r)) ≡ false → (ltb n m || (eqb n m && s)) ≡ false → (m ≡ n) × (r ≡ false) × (s ≡ false)
    equal m n r s a b =
        let u = ltb-false m n (or-0 (ltb m n) (eqb m n && r) a) in
        let v = ltb-false n m (or-0 (ltb n m) (eqb n m && s) b) in
        let e : m ≡ n = omega arith in
        (e, rest (eqb m n) r (eq-eqb m n e) (or-1 (ltb m n) (eqb m n && r) a), rest (eqb n m) s (eq-eqb n m (sym e)) (or-1 (ltb n m) (eqb n m && s) b))
      where
        rest : (x y : Bool) → x ≡ true → (x && y) ≡ false → y ≡ false
        rest true y p q = q
        rest false y p q = clash p refl

    go : (p q j k x y : ℕ) → (ltb p q || (eqb p q && (ltb j k || (eqb j k && ltb x y)))) ≡ false → (ltb q p || (eqb q p && (ltb k j || (eqb k j && ltb y x)))) ≡ false →
        (p ≡ q) × (j ≡ k) × (x ≡ y)
    go p q j k x y a b =
        let (ep, a1, b1) = equal p q (ltb j k || (eqb j k && ltb x y)) (ltb k j || (eqb k j && ltb y x)) a b in
        let (ej, a2, b2) = equal j k (ltb x y) (ltb y x) a1 b1 in
        let u = ltb-false x y a2 in
        let v = ltb-false y x b2 in
        (ep, ej, omega arith)

-- what it is to be asked for, part by part
pub record Aims (t : Target) (e : Entry) : Type 0 where
  pub named : is_named t e ≡ true
  pub company : is_of_company t e ≡ true
  pub width : is_of_width t e ≡ true
  pub granule : is_of_granule t e ≡ true
  pub kind : is_of_kind t e ≡ true
  pub asid : is_of_asid t e ≡ true
  pub within : is_within t e ≡ true

pub aiming : (t : Target) (e : Entry) → aims t e ≡ true → Aims t e
unfolding aims
aiming t e h7 =
    let a1 = is_named t e in
    let a2 = is_of_company t e in
    let a3 = is_of_width t e in
    let a4 = is_of_granule t e in
    let a5 = is_of_kind t e in
    let a6 = is_of_asid t e in
    let a7 = is_within t e in
    let h6 = and_0 (a1 && a2 && a3 && a4 && a5 && a6) a7 h7 in
    let h5 = and_0 (a1 && a2 && a3 && a4 && a5) a6 h6 in
    let h4 = and_0 (a1 && a2 && a3 && a4) a5 h5 in
    let h3 = and_0 (a1 && a2 && a3) a4 h4 in
    let h2 = and_0 (a1 && a2) a3 h3 in
    record {
      named = and_0 a1 a2 h2;
      company = and-1 a1 a2 h2;
      width = and-1 (a1 && a2) a3 h3;
      granule = and-1 (a1 && a2 && a3) a4 h4;
      kind = and-1 (a1 && a2 && a3 && a4) a5 h5;
      asid = and-1 (a1 && a2 && a3 && a4 && a5) a6 h6;
      within = and-1 (a1 && a2 && a3 && a4 && a5 && a6) a7 h7;
    }

pub aiming-holds : (t : Target) (e : Entry) → Aims t e → aims t e ≡ true
unfolding aims
aiming-holds t e k = simp (k.named, k.company, k.width, k.granule, k.kind, k.asid, k.within)

-- an entry that is asked for has the target's width
pub aimed-width : (t : Target) (e : Entry) → is_of_width t e ≡ true → e.wide ≡ t.wide
aimed-width t e = go t.wide e.wide
  where
    go : (a b : Bool) → cond a b (not b) ≡ true → b ≡ a
    go true b h = h
    go false true h = sym h
    go false false h = refl

-- "Answer 12 names the entry": one entry
pub survivor-one : (st : State) (t : Target) (steps : List ℕ) (d e : Entry) → Survivor st t steps d → Survivor st t steps e → d ≡ e
survivor-one st t steps d e u v =
    let ld = legal d u.asked.legal in
    let le = legal e v.asked.legal in
    let ad = aiming t d u.asked.aimed in
    let ae = aiming t e v.asked.aimed in
    let (p, k, b) = same_place d e (v.lowest d u.asked u.survives) (u.lowest e v.asked v.survives) in
    let (dk, df, dl) = kind-back d.leaf d.level d.global (span-level d.wide d.granule d.level ld.span) ld.placed in
    let (ek, ef, el) = kind-back e.leaf e.level e.global (span-level e.wide e.granule e.level le.span) le.placed in
    let c : d.company ≡ e.company = company-one d.company t.company ad.company ∙ sym (company-one e.company t.company ae.company) in
    let w : d.wide ≡ e.wide = aimed-width t d ad.width ∙ sym (aimed-width t e ae.width) in
    let g : d.granule ≡ e.granule = eqb-true d.granule t.granule ad.granule ∙ sym (eqb-true e.granule t.granule ae.granule) in
    let f : d.leaf ≡ e.leaf = sym df ∙ ap leaf_at k ∙ ef in
    let l : d.level ≡ e.level = sym dl ∙ ap level_at k ∙ el in
    ap (λ (x : ℕ). at d x) b ∙ entry-same e.base p c (asid t.asid refl (has_asids t.company) refl) (u.global ∙ sym v.global) w g l f (u.xs ∙ sym v.xs)
  where
    at : Entry → ℕ → Entry
    at a x = record {
      processor = a.processor;
      company = a.company;
      asid = a.asid;
      global = a.global;
      wide = a.wide;
      granule = a.granule;
      level = a.level;
      leaf = a.leaf;
      xs = a.xs;
      base = x;
    }

    least : (a b : Entry) → Survivor st t steps a → Survivor st t steps b → t.asid ≡ None → has_asids t.company ≡ true → a.asid < b.asid → ⊥
    least a b x y i j l = clash (y.lowest_asid i a.asid l) (x.asid_free i j)

    asid : (o : Option ℕ) → t.asid ≡ o → (h : Bool) → has_asids t.company ≡ h → d.asid ≡ e.asid
    asid (Some n) i h j = u.own_asid n i ∙ sym (v.own_asid n i)
    asid None i true j =
        let x : ltb d.asid e.asid ≡ false = not_so (ltb d.asid e.asid) (λ (q : ltb d.asid e.asid ≡ true). least d e u v i j (ltb-true d.asid e.asid q)) in
        let y : ltb e.asid d.asid ≡ false = not_so (ltb e.asid d.asid) (λ (q : ltb e.asid d.asid ≡ true). least e d v u i j (ltb-true e.asid d.asid q)) in
        omega (arith, ltb-false d.asid e.asid x, ltb-false e.asid d.asid y)
    asid None i false j = u.no_asid j ∙ sym (v.no_asid j)

-- "Judge: 13, 2, 8, 10 over all steps, 11 over all steps, 12.": "Each is given exactly when its row holds and no earlier check applies."; of the last
-- row and of 0 `gap-number` and `accepted-number` say when
abbrev pub rows : (list bad target refused outside : Bool) → ℕ → ℕ
rows list bad target refused outside n = cond list (cond bad 2 (cond target (cond refused 10 (cond outside 11 n)) 8)) 13

abbrev pub last_row : Result ⊤ Objection → ℕ
last_row v = cond (eqb (judged_number v) 12) 12 0

pub verdict-number : (st : State) (t : Target) (steps : List ℕ) (v : Result ⊤ Objection) → st.vmid < 2 ^ 16 → Verdict st t steps v →
    judged_number v ≡ rows (is_list steps) (bad_state st) (is_target st t) (some (refuses st) steps) (some (is_outside st t.company) steps) (last_row v)
verdict-number st t steps (Ok tt) low (s, d) = simp (s.list, s.state, s.target, does-done st t steps s d, does-inside st t steps s low d)
verdict-number st t steps (Err objection.BadShape) low h = simp h
verdict-number st t steps (Err objection.BadState) low (l, b) = simp (l, b)
verdict-number st t steps (Err objection.BadTarget) low (l, b, g) = simp (l, b, g)
verdict-number st t steps (Err (objection.Refused k)) low (s, r, e) = simp (s.list, s.state, s.target, r)
verdict-number st t steps (Err (objection.Outside k)) low (s, r, o, e) = simp (s.list, s.state, s.target, r, o)
verdict-number st t steps (Err (objection.Gap e)) low (s, r, o, v) = simp (s.list, s.state, s.target, r, o)

-- an answer by its number, its step and its entry
abbrev answer_by : ℕ → ℕ → Entry → Result ⊤ Objection
answer_by n k e =
    cond (eqb n 13) (Err objection.BadShape)
    (cond (eqb n 2) (Err objection.BadState) (cond (eqb n 8) (Err objection.BadTarget) (cond (eqb n 10) (Err (objection.Refused k)) (cond (eqb n 11) (Err (objection.Outside k)) (cond (eqb n 12) (Err (objection.Gap e)) (Ok tt))))))

answer_back : (v : Result ⊤ Objection) → answer_by (judged_number v) (judged_step v) (judged_entry v) ≡ v
answer_back (Ok tt) = refl
answer_back (Err objection.BadShape) = refl
answer_back (Err objection.BadState) = refl
answer_back (Err objection.BadTarget) = refl
answer_back (Err (objection.Refused k)) = refl
answer_back (Err (objection.Outside k)) = refl
answer_back (Err (objection.Gap e)) = refl

pub step_is : (st : State) (t : Target) (steps : List ℕ) (v : Result ⊤ Objection) → Verdict st t steps v →
    judged_step v ≡ cond (eqb (judged_number v) 10) (first (refuses st) steps) (cond (eqb (judged_number v) 11) (first (is_outside st t.company) steps) 0)
step_is st t steps (Ok tt) h = refl
step_is st t steps (Err objection.BadShape) h = refl
step_is st t steps (Err objection.BadState) h = refl
step_is st t steps (Err objection.BadTarget) h = refl
step_is st t steps (Err (objection.Refused k)) h = h.2
step_is st t steps (Err (objection.Outside k)) h = h.3
step_is st t steps (Err (objection.Gap e)) h = refl

pub entry-is : (v : Result ⊤ Objection) → eqb (judged_number v) 12 ≡ false → judged_entry v ≡ no_entry
entry-is (Ok tt) h = refl
entry-is (Err objection.BadShape) h = refl
entry-is (Err objection.BadState) h = refl
entry-is (Err objection.BadTarget) h = refl
entry-is (Err (objection.Refused k)) h = refl
entry-is (Err (objection.Outside k)) h = refl
entry-is (Err (objection.Gap e)) h = clash refl h

gap_is : (st : State) (t : Target) (steps : List ℕ) (v : Result ⊤ Objection) → eqb (judged_number v) 12 ≡ true → Verdict st t steps v →
    Sound st t steps × Survivor st t steps (judged_entry v)
gap_is st t steps (Ok tt) e h = clash e refl
gap_is st t steps (Err objection.BadShape) e h = clash e refl
gap_is st t steps (Err objection.BadState) e h = clash e refl
gap_is st t steps (Err objection.BadTarget) e h = clash e refl
gap_is st t steps (Err (objection.Refused k)) e h = clash e refl
gap_is st t steps (Err (objection.Outside k)) e h = clash e refl
gap_is st t steps (Err (objection.Gap x)) e h = (h.0, h.3)

-- "the contract leaves one possible answer"
pub verdict-one : (st : State) (t : Target) (steps : List ℕ) (v w : Result ⊤ Objection) → st.vmid < 2 ^ 16 → Verdict st t steps v → Verdict st t steps w → v ≡ w
verdict-one st t steps v w low hv hw = go (eqb (judged_number v) 12) refl (eqb (judged_number w) 12) refl
  where
    R : ℕ → ℕ
    R n = rows (is_list steps) (bad_state st) (is_target st t) (some (refuses st) steps) (some (is_outside st t.company) steps) n

    nv : judged_number v ≡ R (last_row v)
    nv = verdict-number st t steps v low hv

    nw : judged_number w ≡ R (last_row w)
    nw = verdict-number st t steps w low hw

    zero_row : (a b c d e : Bool) → rows a b c d e 12 ≡ 12 → rows a b c d e 0 ≡ 0
    zero_row true true c d e h = absurd (let z : ◌≡◌ {A = ℕ} 2 12 = h in omega arith)
    zero_row true false true true e h = absurd (let z : ◌≡◌ {A = ℕ} 10 12 = h in omega arith)
    zero_row true false true false true h = absurd (let z : ◌≡◌ {A = ℕ} 11 12 = h in omega arith)
    zero_row true false true false false h = refl
    zero_row true false false d e h = absurd (let z : ◌≡◌ {A = ℕ} 8 12 = h in omega arith)
    zero_row false b c d e h = absurd (let z : ◌≡◌ {A = ℕ} 13 12 = h in omega arith)

    -- a gap and an acceptance exclude each other
    apart : (x y : Result ⊤ Objection) → Verdict st t steps x → Verdict st t steps y → eqb (judged_number x) 12 ≡ true → judged_number x ≡ R (last_row x) →
        eqb (judged_number y) 12 ≡ false → judged_number y ≡ R (last_row y) → ⊥
    apart x y hx hy ex nx ey ny =
        let twelve : judged_number x ≡ 12 = eqb-true (judged_number x) 12 ex in
        let top : R 12 ≡ 12 = sym (nx ∙ ap (λ (b : Bool). R (cond b 12 0)) ex) ∙ twelve in
        let none : judged_number y ≡ 0 =
        ny ∙ ap (λ (b : Bool). R (cond b 12 0)) ey ∙ zero_row (is_list steps) (bad_state st) (is_target st t) (some (refuses st) steps) (some (is_outside st t.company) steps) top in
        let (s, survivor) = gap_is st t steps x ex hx in
        does-clears st t steps s (judged_entry x) (does-is st t steps y none hy) survivor

    same : judged_number v ≡ judged_number w → judged_entry v ≡ judged_entry w → v ≡ w
    same n e =
        let k : judged_step v ≡ judged_step w =
        step_is st t steps v hv
        ∙ ap (λ (m : ℕ). cond (eqb m 10) (first (refuses st) steps) (cond (eqb m 11) (first (is_outside st t.company) steps) 0)) n
        ∙ sym (step_is st t steps w hw) in
        sym (answer_back v)
        ∙ ap (λ (m : ℕ). answer_by m (judged_step v) (judged_entry v)) n
        ∙ ap (λ (m : ℕ). answer_by (judged_number w) m (judged_entry v)) k
        ∙ ap (answer_by (judged_number w) (judged_step w)) e
        ∙ answer_back w

    go : (a : Bool) → eqb (judged_number v) 12 ≡ a → (b : Bool) → eqb (judged_number w) 12 ≡ b → v ≡ w
    go true ea true eb =
        same (eqb-true (judged_number v) 12 ea ∙ sym (eqb-true (judged_number w) 12 eb))
        (survivor-one st t steps (judged_entry v) (judged_entry w) (gap_is st t steps v ea hv).1 (gap_is st t steps w eb hw).1)
    go true ea false eb = absurd (apart v w hv hw ea nv eb nw)
    go false ea true eb = absurd (apart w v hw hv eb nw ea nv)
    go false ea false eb =
        same (nv ∙ ap (λ (b : Bool). R (cond b 12 0)) ea ∙ sym (nw ∙ ap (λ (b : Bool). R (cond b 12 0)) eb)) (entry-is v ea ∙ sym (entry-is w eb))
