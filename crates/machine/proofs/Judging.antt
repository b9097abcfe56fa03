-- Judging: what a run does to one entry, what a list does to every table, and when a list is accepted.
use Rattle.std.specs.Prelude.{Result, Ok, Err}
use Prim.Native.Nat.{ℕ, zero, suc, ◌+◌, ◌*◌, ◌^◌, ◌<◌}
use mathlib.Core.Bool.{Bool, true, false, cond, not, ◌||◌}
use mathlib.Core.List.{List, [], ◌∷◌}
use mathlib.Core.Path.{◌≡◌, refl, sym, ap, ap₂, subst, ◌∙◌}
use native.Mathlib.Omega.{arith}
use lib.ListN.{get_or}
use borrow.Author.Tests.{ltb-true, ltb-false, le-ltb, not-false}
use Rattle.laws.proofs.Clearing.{cleared-slot}
use Rattle.laws.proofs.Slots.{some-none, first_holds, some-cons}
use Rattle.laws.proofs.Truth.{not_so, clash}
use Rattle.laws.specs.Slots.{slots, holds_at, first, some, cleared}
use Rattle.machine.proofs.Going.{going, drop-entry}
use Rattle.machine.proofs.Inserting.{insert-0}
use Rattle.machine.proofs.Running.{run-0, drops_by, drops_any, ran-all, ran-done}
use Rattle.machine.proofs.Tags.{entry-low, written-reads, reads-written, zero-empty, company-one}
use Rattle.machine.specs.Answer.{number_of}
use Rattle.machine.specs.Entry.{is_legal}
use Rattle.machine.specs.Execute.{resolved_of, is_list, on_work, refuses, ran_of, run_table}
use Rattle.machine.specs.Goes.{goes}
use Rattle.machine.specs.Judge.{AreWords, Does, is_outside, alone, Survives, Aimed}
use Rattle.machine.specs.State.{bad_state}
use Rattle.machine.specs.Table.{is_table, is_empty, slot_reads, slot_entry, Kept, same_company, inserted_of}
use Rattle.machine.specs.Tag.{Sized, tag_of, entry_at, is_entry}
use Rattle.machine.specs.Target.{aims}
use Rattle.machine.specs.declared.entry.Company.{Company}
use Rattle.machine.specs.declared.entry.Entry.{Entry}
use Rattle.machine.specs.declared.judge.Target.{Target}
use Rattle.machine.specs.declared.processor.State.{State}
use Rattle.machine.specs.declared.refusal.Refusal.{Refusal}
use Rattle.machine.specs.declared.work.Work.{Work}

-- a step drops an entry
abbrev pub is_taken : State → Entry → ℕ → ℕ → ℕ → Bool
is_taken st e word xt xt2 = on_work (λ w. goes w e) (resolved_of st word xt xt2)

-- a slot that reads as an entry is dropped by a run exactly if some step drops the entry
by-takes : (r : Result Work Refusal) (a b c : ℕ) → is_entry a b ≡ true → drops_by r a b c ≡ on_work (λ w. goes w (entry_at a b)) r
by-takes (Ok w) a b c h = drop-entry w a b c h
by-takes (Err r) a b c h = refl

any-taken : (st : State) (steps : List ℕ) (a b c : ℕ) → is_entry a b ≡ true → drops_any st steps a b c ≡ some (is_taken st (entry_at a b)) steps
unfolding drops_any first
any-taken st [] a b c h = refl
any-taken st (x ∷ []) a b c h = refl
any-taken st (x ∷ y ∷ []) a b c h = refl
any-taken st (x ∷ y ∷ z ∷ steps) a b c h =
    ap₂ ◌||◌ (by-takes (resolved_of st x y z) a b c h) (any-taken st steps a b c h) ∙ sym (some-cons (is_taken st (entry_at a b)) x y z steps)

-- a list whose steps all end as done runs from every table
pub list_done : (st : State) (steps l : List ℕ) → is_list steps ≡ true → bad_state st ≡ false → some (refuses st) steps ≡ false → is_table l ≡ true →
    number_of (ran_of st steps l) ≡ 0
list_done st steps l list good none shape =
    ap number_of (run-0 st steps l (simp (shape, list)) good (ltb-false (first (refuses st) steps) (slots steps) none)).0

-- and conversely
pub done-list : (st : State) (steps l : List ℕ) → number_of (ran_of st steps l) ≡ 0 → some (refuses st) steps ≡ false
done-list st steps l h = let (shape, list, good, none) = ran-done st steps l h in le-ltb (first (refuses st) steps) (slots steps) none

-- what a run leaves of the three words of a slot
run-slot : (st : State) (steps l : List ℕ) (k : ℕ) → number_of (ran_of st steps l) ≡ 0 → k < slots l → holds_at slot_reads l k ≡ true → (b : Bool) →
    some (is_taken st (slot_entry l k)) steps ≡ b →
    (get_or (run_table st steps l) (3 * k) 0 ≡ cond b 0 (get_or l (3 * k) 0))
    × (get_or (run_table st steps l) (3 * k + 1) 0 ≡ cond b 0 (get_or l (3 * k + 1) 0))
    × (get_or (run_table st steps l) (3 * k + 2) 0 ≡ cond b 0 (get_or l (3 * k + 2) 0))
run-slot st steps l k h n reads b e =
    let new = (ran-all st steps l h).table in
    let (x, y, z) = cleared-slot (drops_any st steps) l k n in
    let d : holds_at (drops_any st steps) l k ≡ b = any-taken st steps (get_or l (3 * k) 0) (get_or l (3 * k + 1) 0) (get_or l (3 * k + 2) 0) reads ∙ e in (
      word (3 * k) new ∙ x ∙ ap (λ (t : Bool). cond t 0 (get_or l (3 * k) 0)) d,
      word (3 * k + 1) new ∙ y ∙ ap (λ (t : Bool). cond t 0 (get_or l (3 * k + 1) 0)) d,
      word (3 * k + 2) new ∙ z ∙ ap (λ (t : Bool). cond t 0 (get_or l (3 * k + 2) 0)) d,
    )
  where
    word : (i : ℕ) {m : List ℕ} → run_table st steps l ≡ m → get_or (run_table st steps l) i 0 ≡ get_or m i 0
    word i p = ap (λ (m : List ℕ). get_or m i 0) p

-- a slot that reads as an entry after a run did so before, and its words are what they were
run-reads : (st : State) (steps l : List ℕ) (k : ℕ) → number_of (ran_of st steps l) ≡ 0 → k < slots l → holds_at slot_reads (run_table st steps l) k ≡ true →
    (holds_at slot_reads l k ≡ true) × (some (is_taken st (slot_entry l k)) steps ≡ false) × (slot_entry (run_table st steps l) k ≡ slot_entry l k)
run-reads st steps l k h n reads = go (holds_at (drops_any st steps) l k) refl
  where
    new : run_table st steps l ≡ cleared (drops_any st steps) l
    new = (ran-all st steps l h).table

    word : (i : ℕ) → get_or (run_table st steps l) i 0 ≡ get_or (cleared (drops_any st steps) l) i 0
    word i = ap (λ (m : List ℕ). get_or m i 0) new

    go : (b : Bool) → holds_at (drops_any st steps) l k ≡ b →
        (holds_at slot_reads l k ≡ true) × (some (is_taken st (slot_entry l k)) steps ≡ false) × (slot_entry (run_table st steps l) k ≡ slot_entry l k)
    go true e =
        let (x, y, z) = cleared-slot (drops_any st steps) l k n in
        let a : get_or (run_table st steps l) (3 * k) 0 ≡ 0 = word (3 * k) ∙ x ∙ simp e in
        let t : get_or (run_table st steps l) (3 * k + 1) 0 ≡ 0 = word (3 * k + 1) ∙ y ∙ simp e in
        clash (sym (ap₂ is_entry a t) ∙ reads) (zero-empty 0)
    go false e =
        let (x, y, z) = cleared-slot (drops_any st steps) l k n in
        let a : get_or (run_table st steps l) (3 * k) 0 ≡ get_or l (3 * k) 0 = word (3 * k) ∙ x ∙ simp e in
        let t : get_or (run_table st steps l) (3 * k + 1) 0 ≡ get_or l (3 * k + 1) 0 = word (3 * k + 1) ∙ y ∙ simp e in
        let before : holds_at slot_reads l k ≡ true = sym (ap₂ is_entry a t) ∙ reads in
        (before, sym (any-taken st steps (get_or l (3 * k) 0) (get_or l (3 * k + 1) 0) (get_or l (3 * k + 2) 0) before) ∙ e, ap₂ entry_at a t)

-- the table of one slot that insert makes of a legal entry
alone-made : (e : Entry) → is_legal e ≡ true → (inserted_of e (0 ∷ 0 ∷ 0 ∷ []) ≡ Ok 0) × (alone e ≡ (e.base ∷ tag_of e ∷ 0 ∷ []))
unfolding first is_entry
alone-made e h =
    let z : is_entry 0 0 ≡ false = zero-empty 0 in
    let f : 0 ≡ first is_empty (0 ∷ 0 ∷ 0 ∷ []) = simp z in
    insert-0 e 0 (0 ∷ 0 ∷ 0 ∷ []) 0 refl h f (omega arith)

pub alone-inserted : (e : Entry) → is_legal e ≡ true → inserted_of e (0 ∷ 0 ∷ 0 ∷ []) ≡ Ok 0
alone-inserted e h = (alone-made e h).0

pub alone-words : (e : Entry) → is_legal e ≡ true → alone e ≡ (e.base ∷ tag_of e ∷ 0 ∷ [])
alone-words e h = (alone-made e h).1

-- has one slot
pub alone-table : (e : Entry) → is_legal e ≡ true → (is_table (alone e) ≡ true) × (slots (alone e) ≡ 1)
alone-table e h = (ap is_table (alone-words e h), ap slots (alone-words e h))

-- is a table of words, and reads as the entry
pub alone-fits : (e : Entry) → Sized e → e.base < 2 ^ 64 → is_legal e ≡ true → AreWords (alone e)
alone-fits e z b h i = subst (λ (l : List ℕ). get_or l i 0 < 2 ^ 64) (sym (alone-words e h)) (each i)
  where
    tag : tag_of e < 2 ^ 64
    tag = omega (arith, entry-low e.base (tag_of e) (written-reads e z h).0)

    each : (j : ℕ) → get_or (e.base ∷ tag_of e ∷ 0 ∷ []) j 0 < 2 ^ 64
    each zero = b
    each (suc zero) = tag
    each (suc (suc zero)) = omega arith
    each (suc (suc (suc j))) = omega arith

pub alone-reads : (e : Entry) → Sized e → is_legal e ≡ true → (holds_at slot_reads (alone e) 0 ≡ true) × (slot_entry (alone e) 0 ≡ e)
alone-reads e z h =
    let (reads, back) = written-reads e z h in
    let l = alone-words e h in
    (ap (λ (m : List ℕ). holds_at slot_reads m 0) l ∙ reads, ap (λ (m : List ℕ). slot_entry m 0) l ∙ back)

-- what a run leaves of it
pub alone-run : (st : State) (steps : List ℕ) (e : Entry) (b : Bool) → Sized e → is_legal e ≡ true → number_of (ran_of st steps (alone e)) ≡ 0 →
    some (is_taken st e) steps ≡ b → run_table st steps (alone e) ≡ cond b (0 ∷ 0 ∷ 0 ∷ []) (alone e)
unfolding cleared
alone-run st steps e b z h done taken =
    let (reads, back) = written-reads e z h in
    let l = alone-words e h in
    let d : drops_any st steps e.base (tag_of e) 0 ≡ b =
    any-taken st steps e.base (tag_of e) 0 reads ∙ ap (λ (x : Entry). some (is_taken st x) steps) back ∙ taken in
    (ran-all st steps (alone e) done).table ∙ ap (cleared (drops_any st steps)) l ∙ same b d ∙ ap (cond b (0 ∷ 0 ∷ 0 ∷ [])) (sym l)
  where
    same : (c : Bool) → drops_any st steps e.base (tag_of e) 0 ≡ c →
        cond (drops_any st steps e.base (tag_of e) 0) (0 ∷ 0 ∷ 0 ∷ []) (e.base ∷ tag_of e ∷ 0 ∷ []) ≡ cond c (0 ∷ 0 ∷ 0 ∷ []) (e.base ∷ tag_of e ∷ 0 ∷ [])
    same c i = ap (λ (x : Bool). cond x (0 ∷ 0 ∷ 0 ∷ []) (e.base ∷ tag_of e ∷ 0 ∷ [])) i

-- it still holds the entry exactly if no step drops that
pub survive : (st : State) (steps : List ℕ) (e : Entry) → Sized e → is_legal e ≡ true → number_of (ran_of st steps (alone e)) ≡ 0 →
    some (is_taken st e) steps ≡ false → Survives st steps e
survive st steps e z h done none = alone-run st steps e false z h done none

pub survived : (st : State) (steps : List ℕ) (e : Entry) → Sized e → is_legal e ≡ true → number_of (ran_of st steps (alone e)) ≡ 0 → Survives st steps e →
    some (is_taken st e) steps ≡ false
survived st steps e z h done s = not_so (some (is_taken st e) steps) gone
  where
    gone : some (is_taken st e) steps ≡ true → ⊥
    gone t =
        let zeros : (0 ∷ 0 ∷ 0 ∷ []) ≡ alone e = sym (alone-run st steps e true z h done t) ∙ s in
        clash (alone-reads e z h).0 (ap (λ (m : List ℕ). holds_at slot_reads m 0) (sym zeros) ∙ zero-empty 0)

-- an entry that some step drops is of the company of that step
taken-company : (c : Company) (r : Result Work Refusal) (e : Entry) → on_work (λ w. not (same_company w.company c)) r ≡ false → on_work (λ w. goes w e) r ≡ true →
    same_company e.company c ≡ true
taken-company c (Ok w) e i h =
    let own : e.company ≡ w.company = company-one e.company w.company (going w e h).owned in
    ap (λ (d : Company). same_company d c) own ∙ not-false (same_company w.company c) i
taken-company c (Err r) e i h = clash h refl

-- so a list of which no step is outside the company drops no entry of another
spared : (st : State) (c : Company) (steps : List ℕ) (e : Entry) → some (is_outside st c) steps ≡ false → same_company e.company c ≡ false →
    some (is_taken st e) steps ≡ false
spared st c steps e inside other =
    not_so (some (is_taken st e) steps)
    (λ (h : some (is_taken st e) steps ≡ true).
    let low = ltb-true (first (is_taken st e) steps) (slots steps) h in
    let k = first (is_taken st e) steps in
    let here = first_holds (is_taken st e) steps low in
    let apart = some-none (is_outside st c) steps inside k low in
    clash (taken-company c (resolved_of st (get_or steps (3 * k) 0) (get_or steps (3 * k + 1) 0) (get_or steps (3 * k + 2) 0)) e apart here) other)

-- "it does its work and harms no other company": where each step ends as done, none is outside the company, and each entry that the target asks for is
-- dropped by some step
pub does : (st : State) (t : Target) (steps : List ℕ) → is_list steps ≡ true → bad_state st ≡ false → some (refuses st) steps ≡ false →
    some (is_outside st t.company) steps ≡ false → ((e : Entry) → Aimed t e → some (is_taken st e) steps ≡ true) → Does st t steps
does st t steps list good done inside taken = record { done = runs; clears = clears; spares = spares }
  where
    runs : (l : List ℕ) → is_table l ≡ true → AreWords l → number_of (ran_of st steps l) ≡ 0
    runs l shape words = list_done st steps l list good done shape

    clears : (l : List ℕ) → is_table l ≡ true → AreWords l → (k : ℕ) → k < slots l → holds_at slot_reads (run_table st steps l) k ≡ true →
        aims t (slot_entry (run_table st steps l) k) ≡ false
    clears l shape words k n reads =
        let (before, left, same) = run-reads st steps l k (runs l shape words) n reads in
        let (z, legal, base, tag) = reads-written (get_or l (3 * k) 0) (get_or l (3 * k + 1) 0) before in
        not_so (aims t (slot_entry (run_table st steps l) k))
        (λ (h : aims t (slot_entry (run_table st steps l) k) ≡ true).
        let aimed : Aimed t (slot_entry l k) =
        record { sized = z; word = subst (λ (m : ℕ). m < 2 ^ 64) (sym base) (words (3 * k)); legal = legal; aimed = ap (aims t) (sym same) ∙ h } in
        clash (taken (slot_entry l k) aimed) left)

    spares : (l : List ℕ) → is_table l ≡ true → AreWords l → (k : ℕ) → k < slots l → holds_at slot_reads l k ≡ true →
        same_company (slot_entry l k).company t.company ≡ false → Kept l (run_table st steps l) k
    spares l shape words k n reads other = run-slot st steps l k (runs l shape words) n reads false (spared st t.company steps (slot_entry l k) inside other)
