-- Demand 3: "A list of invalidations is accepted exactly when, from every table of legal shape, it does its work and harms no other company. A list refused
-- for a gap comes with an entry that would survive."; and what a run does.
use Prim.Native.Nat.{ℕ, ◌+◌, ◌*◌, ◌^◌, ◌<◌}
use mathlib.Core.Bool.{true, false, not}
use mathlib.Core.List.{List}
use mathlib.Core.Logic.{◌↔◌}
use mathlib.Core.Path.{◌≡◌, sym, ap, subst, ◌∙◌}
use native.Mathlib.Omega.{arith}
use lib.ListN.{get_or}
use Rattle.std.specs.Prelude.{Result, Ok, Err, ⊤}
use Rattle.laws.specs.Slots.{slots, holds_at, some, emptied}
use Rattle.machine.proofs.Running.{drops_any, Stopped, stopped, ran-done, run-0, run-exactly, run-count, run-guest-kept}
use Rattle.machine.proofs.Verdicts.{Harmed, accepted-number, outside-shows, Left, gap-shows, gap-number, survivor-one}
use Rattle.machine.specs.Answer.{number_of, value_of, judged_number}
use Rattle.machine.specs.Execute.{refuses, steps_table, steps_dropped}
use Rattle.machine.specs.Judge.{Does, Sound, Survivor, is_outside}
use Rattle.machine.specs.Table.{slot_reads, slot_entry, Kept, stage1_of}
use Rattle.machine.specs.declared.entry.Entry.{Entry}
use Rattle.machine.specs.declared.judge.Target.{Target}
use Rattle.machine.specs.declared.processor.State.{State}
use Rattle.machine.specs.declared.scope.Regime.TheVariants.{EL10}
use Rattle.calls.specs.Promises.{Runs, Judges}
use Rattle.machine.specs.declared.refusal.Refusal.{Refusal}
use Rattle.machine.specs.declared.refusal.Refusal.TheVariants as refusal
use Rattle.machine.specs.declared.judge.Objection.{Objection}
use Rattle.machine.specs.declared.judge.Objection.TheVariants as objection

-- "else all steps in order and the sum of dropped slots"
pub ran-in-order : (st : State) (steps l : List ℕ) (r : Result ℕ Refusal) (m : List ℕ) → Runs st steps l r m → number_of r ≡ 0 →
    (m ≡ steps_table st steps l) × (value_of r ≡ steps_dropped st steps l)
ran-in-order st steps l r m h zero =
    let (shape, list, good, none) = ran-done st steps l (ap number_of (sym h.0) ∙ zero) in
    let (answer, table) = run-0 st steps l (simp (shape, list)) good none in
    (h.1 ∙ table, ap value_of (h.0 ∙ answer))

-- the sum is read off the slots, whatever the answer is
pub ran-number : (st : State) (steps l : List ℕ) (r : Result ℕ Refusal) (m : List ℕ) → Runs st steps l r m → value_of r ≡ emptied slot_reads l m
ran-number st steps l r m h = ap value_of h.0 ∙ run-count st steps l ∙ ap (emptied slot_reads l) (sym h.1)

-- an entry is gone after a run exactly when some step drops it
pub ran-exactly : (st : State) (steps l : List ℕ) (r : Result ℕ Refusal) (m : List ℕ) → Runs st steps l r m → number_of r ≡ 0 → (k : ℕ) → k < slots l → holds_at slot_reads l k ≡ true →
    holds_at slot_reads m k ≡ not (holds_at (drops_any st steps) l k)
ran-exactly st steps l r m h zero k n e =
    ap (λ (t : List ℕ). holds_at slot_reads t k) h.1 ∙ run-exactly st steps l k (ap number_of (sym h.0) ∙ zero) n e

-- "10: a list's step doesn't answer 0", "first such step"
pub run-stopped : (st : State) (steps l : List ℕ) (k : ℕ) (m : List ℕ) → Runs st steps l (Err (refusal.StepRefused k)) m → Stopped st steps k
run-stopped st steps l k m h = stopped st steps l k (sym h.0)

-- what a guest runs at EL1 leaves every entry but those of its own stage 1 as it was
pub ran-guest-kept : (st : State) (steps l : List ℕ) (r : Result ℕ Refusal) (m : List ℕ) → Runs st steps l r m → st.el ≡ 1 → (k : ℕ) → k < slots l →
    ((slot_entry l k).company ≡ stage1_of st EL10 → ⊥) → Kept l m k
ran-guest-kept st steps l r m h el k n other = subst (λ (t : List ℕ). Kept l t k) (sym h.1) (run-guest-kept st l k el n other steps)

-- Demand 3: accepted exactly when it does its work from every table of legal shape and harms no other company
pub accepted-exactly : (st : State) (t : Target) (steps : List ℕ) (r : Result ⊤ Objection) → st.vmid < 2 ^ 16 → Judges st t steps r →
    (judged_number r ≡ 0) ↔ (Sound st t steps × Does st t steps)
accepted-exactly st t steps r low v = (there r v, λ (h : Sound st t steps × Does st t steps). (accepted-number st t steps r h.0 low v).1 h.1)
  where
    there : (r : Result ⊤ Objection) → Judges st t steps r → judged_number r ≡ 0 → Sound st t steps × Does st t steps
    there (Ok unit) v e = v
    there (Err objection.BadShape) v e = absurd (let z : ◌≡◌ {A = ℕ} 13 0 = e in omega arith)
    there (Err objection.BadState) v e = absurd (let z : ◌≡◌ {A = ℕ} 2 0 = e in omega arith)
    there (Err objection.BadTarget) v e = absurd (let z : ◌≡◌ {A = ℕ} 8 0 = e in omega arith)
    there (Err (objection.Refused k)) v e = absurd (let z : ◌≡◌ {A = ℕ} 10 0 = e in omega arith)
    there (Err (objection.Outside k)) v e = absurd (let z : ◌≡◌ {A = ℕ} 11 0 = e in omega arith)
    there (Err (objection.Gap x)) v e = absurd (let z : ◌≡◌ {A = ℕ} 12 0 = e in omega arith)

-- 12 exactly when, after the other checks, it does not
pub gap-exactly : (st : State) (t : Target) (steps : List ℕ) (r : Result ⊤ Objection) → st.vmid < 2 ^ 16 → Sound st t steps → some (refuses st) steps ≡ false →
    some (is_outside st t.company) steps ≡ false → Judges st t steps r → (judged_number r ≡ 12) ↔ (Does st t steps → ⊥)
gap-exactly st t steps r low s done inside v = gap-number st t steps r s low done inside v

-- "comes with an entry that would survive": insert takes it, the run ends as done, and it is still there
pub gap-survives : (st : State) (t : Target) (steps : List ℕ) (e : Entry) → Judges st t steps (Err (objection.Gap e)) → Left st t steps e
gap-survives st t steps e v = gap-shows st t steps e v

-- and it is the one that 01 names, of which there is one
pub gap-named : (st : State) (t : Target) (steps : List ℕ) (e : Entry) → Judges st t steps (Err (objection.Gap e)) → Survivor st t steps e
gap-named st t steps e v = v.3

pub gap-one : (st : State) (t : Target) (steps : List ℕ) (d e : Entry) → Survivor st t steps d → Survivor st t steps e → d ≡ e
gap-one = survivor-one

-- refused with 11: there is a table in which that very step drops an entry of another company
pub outside-harms : (st : State) (t : Target) (steps : List ℕ) (k : ℕ) → st.vmid < 2 ^ 16 → Judges st t steps (Err (objection.Outside k)) →
    (k < slots steps) × Harmed st t.company (get_or steps (3 * k) 0) (get_or steps (3 * k + 1) 0) (get_or steps (3 * k + 2) 0)
outside-harms st t steps k low v = outside-shows st t steps k low v
