-- A value that a field cannot have: the state is bad, and the entry, the target and the operation break a rule.
use Prim.Native.Nat.{ℕ, ◌^◌, ◌≤◌, ◌<◌}
use mathlib.Core.Bool.{Bool, true, false, cond, ◌&&◌, ◌||◌}
use mathlib.Core.Path.{◌≡◌, refl}
use native.Mathlib.Omega.{arith}
use lib.Dec.{ltb}
use Rattle.std.specs.Prelude.{None, is_none, Result, Ok, Err}
use borrow.Author.Tests.{ltb-true}
use Rattle.laws.proofs.Truth.{and_0, and-1, not_so}
use Rattle.machine.proofs.Tags.{legal}
use Rattle.machine.specs.Entry.{is_company, has_asids, is_legal}
use Rattle.machine.specs.Operand.{is_granule}
use Rattle.machine.specs.State.{bad_fields, bad_state}
use Rattle.machine.specs.Target.{are_processors, are_addresses, is_target}
use Rattle.machine.specs.Word.{built_of}
use Rattle.machine.specs.declared.judge.Target.{Target}
use Rattle.machine.specs.declared.processor.State.{State}
use Rattle.machine.specs.declared.refusal.Refusal.{Refusal}
use Rattle.machine.specs.declared.refusal.Refusal.TheVariants.{Illegal}
use Rattle.received.specs.Entries.{entry_fits, entry_in}
use Rattle.received.specs.Operations.{operation_fits, operation_in}
use Rattle.received.specs.States.{state_fits, state_in}
use Rattle.received.specs.Targets.{target_fits, target_in}
use Rattle.received.specs.declared.entry.EntryRecord.{EntryRecord}
use Rattle.received.specs.declared.operation.OperationRecord.{OperationRecord}
use Rattle.received.specs.declared.state.StateRecord.{StateRecord}
use Rattle.received.specs.declared.target.TargetRecord.{TargetRecord}

-- a flag that is neither 0 nor 1
pub state-unfit : (s : StateRecord) → state_fits s ≡ false → bad_state (state_in s) ≡ true
unfolding bad_state bad_fields state_in
state-unfit s h = simp h

processor : (e : EntryRecord) → entry_fits e ≡ false → (entry_in e).processor ≡ 255
unfolding entry_in
processor e h = simp h

-- no entry of processor 255 is legal
pub entry-unfit : (e : EntryRecord) → entry_fits e ≡ false → is_legal (entry_in e) ≡ false
entry-unfit e h = not_so (is_legal (entry_in e)) (λ (k : is_legal (entry_in e) ≡ true). none (entry_in e).processor (processor e h) (legal (entry_in e) k).processor)
  where
    none : (p : ℕ) → p ≡ 255 → p ≤ 7 → ⊥
    none p same most = omega arith

processors : (t : TargetRecord) → target_fits t ≡ false → (target_in t).processors ≡ 0
unfolding target_in
processors t h = simp h

some : (st : State) (t : Target) → is_target st t ≡ true → 0 < t.processors
unfolding is_target
some st t k =
    let a = is_company t.company && is_granule t.granule && (is_none t.asid || has_asids t.company) in
    let set = are_processors st t.processors in
    let named : set ≡ true = and-1 a set (and_0 (a && set) (are_addresses t.company t.first t.last) k) in
    ltb-true 0 t.processors (and_0 (ltb 0 t.processors) (ltb t.processors (2 ^ st.board.count)) named)

-- no target of no processor is one
pub target-unfit : (st : State) (t : TargetRecord) → target_fits t ≡ false → is_target st (target_in t) ≡ false
target-unfit st t h = not_so (is_target st (target_in t)) (λ (k : is_target st (target_in t) ≡ true). none (target_in t).processors (processors t h) (some st (target_in t) k))
  where
    none : (set : ℕ) → set ≡ 0 → 0 < set → ⊥
    none set same more = omega arith

-- no word has room for Rt 255
pub operation-unfit : (o : OperationRecord) → operation_fits o ≡ false → built_of (operation_in o) ≡ None
unfolding built_of operation_in
operation-unfit o h = simp h

-- what is not taken in does not fit
pub refused : {A : Type 0} (fits : Bool) (a : A) (r : Refusal) → cond {A = Result A Refusal} fits (Ok a) (Err Illegal) ≡ Err r → fits ≡ false
refused true a r h = absurd cc
refused false a r h = refl
