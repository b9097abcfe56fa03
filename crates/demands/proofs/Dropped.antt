-- Demand 2: "which entries go is what Arm's published pages say, entry by entry, with only the required ones dropped".
use Prim.Native.Nat.{ℕ, ◌+◌, ◌*◌, ◌<◌}
use mathlib.Core.Bool.{true, false}
use mathlib.Core.List.{List}
use mathlib.Core.Logic.{◌↔◌}
use mathlib.Core.Path.{◌≡◌, sym, ap, subst, ◌∙◌}
use lib.ListN.{length, get_or}
use Rattle.std.specs.Prelude.{Result, Ok}
use Rattle.laws.specs.Slots.{slots, holds_at, emptied}
use Rattle.machine.proofs.Executing.{Done, done, After, after, execute-apart, execute-count, execute-length, guest-kept}
use Rattle.machine.proofs.Going.{Goes, going, going-holds, drop-entry, drop-empty}
use Rattle.machine.proofs.Works.{Resolves, resolves}
use Rattle.machine.specs.Answer.{number_of, value_of}
use Rattle.machine.specs.Execute.{resolved_of, execute_table}
use Rattle.machine.specs.Goes.{goes}
use Rattle.machine.specs.Table.{slot_reads, slot_entry, Holds, Kept, stage1_of}
use Rattle.machine.specs.declared.entry.Entry.{Entry}
use Rattle.machine.specs.declared.processor.State.{State}
use Rattle.machine.specs.declared.scope.Regime.TheVariants.{EL10}
use Rattle.machine.specs.declared.work.Work.{Work}
use Rattle.calls.specs.Promises.{Executes}
use Rattle.machine.specs.declared.refusal.Refusal.{Refusal}

-- what an execution that answers 0 has done
pub record Exactly (st : State) (word xt xt2 : ℕ) (l : List ℕ) (r : Result ℕ Refusal) (m : List ℕ) : Type 0 where
  -- what the word comes to: the operation, its scope and its range, which hang on the state and the operand and on no table
  pub work : Work
  pub resolved : resolved_of st word xt xt2 ≡ Ok work
  pub origin : Resolves st word xt xt2 work
  -- "A dropped slot is three zeros": every entry that goes
  pub gone : (k : ℕ) → k < slots l → holds_at slot_reads l k ≡ true → goes work (slot_entry l k) ≡ true → Holds m k 0 0 0
  -- "every other word stays": of an entry that does not go
  pub stays : (k : ℕ) → k < slots l → holds_at slot_reads l k ≡ true → goes work (slot_entry l k) ≡ false → Kept l m k
  -- "those of senseless slots too"
  pub senseless : (k : ℕ) → k < slots l → holds_at slot_reads l k ≡ false → Kept l m k
  pub as_long : length m ≡ length l
  -- "The call returns how many were dropped.": the slots that read as an entry and are three zeros now
  pub number : value_of r ≡ emptied slot_reads l m

pub dropped-exactly : (st : State) (word xt xt2 : ℕ) (l : List ℕ) (r : Result ℕ Refusal) (m : List ℕ) → Executes st word xt xt2 l r m → number_of r ≡ 0 →
    Exactly st word xt xt2 l r m
dropped-exactly st word xt xt2 l r m h zero = record {
  work = w;
  resolved = d.resolved;
  origin = resolves st word xt xt2 w d.resolved;
  gone = λ (k : ℕ) (n : k < slots l) (e : holds_at slot_reads l k ≡ true) (g : goes w (slot_entry l k) ≡ true).
      subst (λ (t : List ℕ). Holds t k 0 0 0) (sym h.1) (a.zeros k n (drop-entry w (get_or l (3 * k) 0) (get_or l (3 * k + 1) 0) (get_or l (3 * k + 2) 0) e ∙ g));
  stays = λ (k : ℕ) (n : k < slots l) (e : holds_at slot_reads l k ≡ true) (g : goes w (slot_entry l k) ≡ false).
      as_it_was k (a.stays k n (drop-entry w (get_or l (3 * k) 0) (get_or l (3 * k + 1) 0) (get_or l (3 * k + 2) 0) e ∙ g));
  senseless = λ (k : ℕ) (n : k < slots l) (e : holds_at slot_reads l k ≡ false).
      as_it_was k (a.stays k n (drop-empty w (get_or l (3 * k) 0) (get_or l (3 * k + 1) 0) (get_or l (3 * k + 2) 0) e));
  as_long = ap length h.1 ∙ a.as_long;
  number = ap value_of h.0 ∙ a.number ∙ ap (emptied slot_reads l) (sym h.1);
}
  where
    d : Done st word xt xt2 l
    d = done st word xt xt2 l (ap number_of (sym h.0) ∙ zero)

    w : Work
    w = d.work

    a : After st word xt xt2 l w
    a = after st word xt xt2 l d

    as_it_was : (k : ℕ) → Kept l (execute_table st word xt xt2 l) k → Kept l m k
    as_it_was k = subst (λ (t : List ℕ). Kept l t k) (sym h.1)

-- "An entry goes exactly when all hold: ...", part by part
pub goes-exactly : (w : Work) (e : Entry) → (goes w e ≡ true) ↔ Goes w e
goes-exactly w e = (going w e, going-holds w e)

-- the count and the length, whatever the answer is
pub dropped-number : (st : State) (word xt xt2 : ℕ) (l : List ℕ) (r : Result ℕ Refusal) (m : List ℕ) → Executes st word xt xt2 l r m →
    (value_of r ≡ emptied slot_reads l m) × (length m ≡ length l)
dropped-number st word xt xt2 l r m h =
    (ap value_of h.0 ∙ execute-count st word xt xt2 l ∙ ap (emptied slot_reads l) (sym h.1), ap length h.1 ∙ execute-length st word xt xt2 l)

-- an entry of another company than the operation's keeps its words
pub another-company-kept : (st : State) (word xt xt2 : ℕ) (l : List ℕ) (r : Result ℕ Refusal) (m : List ℕ) → Executes st word xt xt2 l r m → (k : ℕ) → k < slots l →
    ((w : Work) → resolved_of st word xt xt2 ≡ Ok w → (slot_entry l k).company ≡ w.company → ⊥) → Kept l m k
another-company-kept st word xt xt2 l r m h k n other = subst (λ (t : List ℕ). Kept l t k) (sym h.1) (execute-apart st word xt xt2 l k n other)

-- what a guest executes at EL1 leaves every entry but those of its own stage 1 as it was
pub another-guest-kept : (st : State) (word xt xt2 : ℕ) (l : List ℕ) (r : Result ℕ Refusal) (m : List ℕ) → Executes st word xt xt2 l r m → st.el ≡ 1 → (k : ℕ) → k < slots l →
    ((slot_entry l k).company ≡ stage1_of st EL10 → ⊥) → Kept l m k
another-guest-kept st word xt xt2 l r m h el k n other = subst (λ (t : List ℕ). Kept l t k) (sym h.1) (guest-kept st l k el n other word xt xt2)
