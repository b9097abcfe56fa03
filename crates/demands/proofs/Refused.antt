-- Demand 1: "Each kind of refusal has its number and changes no word of any table."
use Prim.Native.Nat.{ℕ, ◌^◌, ◌<◌}
use mathlib.Core.Bool.{Bool, true, false, cond, not, ◌&&◌}
use mathlib.Core.List.{List}
use mathlib.Core.Logic.{◌↔◌}
use mathlib.Core.Path.{◌≡◌, refl, sym, ap, subst, ◌∙◌}
use native.Mathlib.Omega.{arith}
use lib.Dec.{eqb, ltb}
use Rattle.std.specs.Prelude.{Option, Some, None, Result, ⊤}
use Rattle.laws.specs.Slots.{slots, holds_at, first, some}
use Rattle.machine.proofs.Covered.{read_answer, write-answer}
use Rattle.machine.proofs.Executing.{execute-answer, execute-refused}
use Rattle.machine.proofs.Found.{lookup-answer}
use Rattle.machine.proofs.Inserting.{insert-answer, insert-refused}
use Rattle.machine.proofs.Reading.{slot-answer}
use Rattle.machine.proofs.Running.{run-answer, run-refused, refuses-answer}
use Rattle.machine.proofs.Trip.{reads-built}
use Rattle.machine.proofs.Verdicts.{verdict-number, step_is, entry-is}
use Rattle.machine.specs.Answer.{decoded_number, built_number, number_of, judged_number, judged_step, judged_entry, no_entry}
use Rattle.machine.specs.Entry.{is_legal}
use Rattle.machine.specs.Execute.{resolved_of, is_list, refuses}
use Rattle.machine.specs.Judge.{is_outside}
use Rattle.machine.specs.Operand.{tg_in, is_writable}
use Rattle.machine.specs.State.{bad_state}
use Rattle.machine.specs.Table.{is_table, slot_reads, is_empty, stage1_of, matches}
use Rattle.machine.specs.Target.{is_target}
use Rattle.machine.specs.Word.{read_of, word_of, built_of}
use Rattle.machine.specs.declared.entry.Entry.{Entry}
use Rattle.machine.specs.declared.judge.Target.{Target}
use Rattle.machine.specs.declared.operand.Operand.{Operand}
use Rattle.machine.specs.declared.operand.Told.{Told}
use Rattle.machine.specs.declared.operation.Operation.{Operation}
use Rattle.machine.specs.declared.processor.State.{State}
use Rattle.machine.specs.declared.scope.Regime.{Regime}
use Rattle.calls.specs.Promises.{Decodes, Builds, Reads, Writes, Inserts, LooksUp, ReadsSlot, Executes, Runs, Judges}
use Rattle.machine.specs.declared.refusal.Refusal.{Refusal}
use Rattle.machine.specs.declared.judge.Objection.{Objection}
use Rattle.machine.specs.declared.table.Match.{Match}

-- some operation builds the word
pub record Operated (word : ℕ) : Type 0 where
  pub operation : Operation
  pub builds : built_of operation ≡ Some word

-- "Execute: 13, 2, 1, 3 to 5 by the access rules ..., 6, 7."
pub execute-number : (st : State) (word xt xt2 : ℕ) (l : List ℕ) (r : Result ℕ Refusal) (m : List ℕ) → Executes st word xt xt2 l r m →
    number_of r ≡ cond (not (is_table l)) 13 (cond (bad_state st) 2 (number_of (resolved_of st word xt xt2)))
execute-number st word xt xt2 l r m h = ap number_of h.0 ∙ execute-answer st word xt xt2 l

-- "Insert: 13, 8, 9."
pub insert-number : (e : Entry) (out : ℕ) (l : List ℕ) (r : Result ℕ Refusal) (m : List ℕ) → Inserts e out l r m →
    number_of r ≡ cond (not (is_table l)) 13 (cond (not (is_legal e)) 8 (cond (not (some is_empty l)) 9 0))
insert-number e out l r m h = ap number_of h.0 ∙ insert-answer e l

-- "Look up: 13, 2, 14."
pub look-up-number : (st : State) (g : Regime) (asid address : ℕ) (l : List ℕ) (r : Result Match Refusal) (m : List ℕ) → LooksUp st g asid address l r m →
    number_of r ≡ cond (not (is_table l)) 13 (cond (bad_state st) 2 (cond (not (some (matches (stage1_of st g) st.board.own asid address) l)) 14 0))
look-up-number st g asid address l r m h = ap number_of h.0 ∙ lookup-answer st g asid address l

-- a slot read back: 13, 8 where there is no such slot, 14 where it reads as empty
pub read-slot-number : (k : ℕ) (l : List ℕ) (r : Result (Entry × ℕ) Refusal) (m : List ℕ) → ReadsSlot k l r m →
    number_of r ≡ cond (not (is_table l)) 13 (cond (not (ltb k (slots l))) 8 (cond (not (holds_at slot_reads l k)) 14 0))
read-slot-number k l r m h = ap number_of h.0 ∙ slot-answer k l

-- "Run: 13, 2, 10"
pub run-number : (st : State) (steps l : List ℕ) (r : Result ℕ Refusal) (m : List ℕ) → Runs st steps l r m →
    number_of r ≡ cond (not (is_table l && is_list steps)) 13 (cond (bad_state st) 2 (cond (some (refuses st) steps) 10 0))
run-number st steps l r m h = ap number_of h.0 ∙ run-answer st steps l

-- "Judge: 13, 2, 8, 10 over all steps, 11 over all steps, 12."; when the last row is 12 and when 0 is on the page of lists
pub judge-number : (st : State) (t : Target) (steps : List ℕ) (r : Result ⊤ Objection) → st.vmid < 2 ^ 16 → Judges st t steps r →
    judged_number r
    ≡ cond (not (is_list steps)) 13
    (cond (bad_state st) 2
    (cond (not (is_target st t)) 8 (cond (some (refuses st) steps) 10 (cond (some (is_outside st t.company) steps) 11 (cond (eqb (judged_number r) 12) 12 0)))))
judge-number st t steps r low v =
    verdict-number st t steps r low v
    ∙ turned (is_list steps) (bad_state st) (is_target st t) (cond (some (refuses st) steps) 10 (cond (some (is_outside st t.company) steps) 11 (cond (eqb (judged_number r) 12) 12 0)))
  where
    turned : (a b c : Bool) (n : ℕ) → cond a (cond b 2 (cond c n 8)) 13 ≡ cond (not a) 13 (cond b 2 (cond (not c) 8 n))
    turned true b true n = refl
    turned true b false n = refl
    turned false b c n = refl

-- "first such step"; "Numbers not named are 0."
pub judge-step : (st : State) (t : Target) (steps : List ℕ) (r : Result ⊤ Objection) → Judges st t steps r →
    judged_step r ≡ cond (eqb (judged_number r) 10) (first (refuses st) steps) (cond (eqb (judged_number r) 11) (first (is_outside st t.company) steps) 0)
judge-step = step_is

pub judge-entry : (r : Result ⊤ Objection) → eqb (judged_number r) 12 ≡ false → judged_entry r ≡ no_entry
judge-entry = entry-is

-- "a list's step doesn't answer 0": executed on any table of legal shape
pub refused-step : (st : State) (word xt xt2 : ℕ) (l : List ℕ) (r : Result ℕ Refusal) (m : List ℕ) → Executes st word xt xt2 l r m → is_table l ≡ true → bad_state st ≡ false →
    refuses st word xt xt2 ≡ not (eqb (number_of r) 0)
refused-step st word xt xt2 l r m h shape good =
    refuses-answer st word xt xt2 l shape good ∙ ap (λ (x : Result ℕ Refusal). not (eqb (number_of x) 0)) (sym h.0)

-- "Operand reader: 6; writer: 8."
pub read_number_lem : (t : Told) (xt xt2 : ℕ) (r : Result Operand Refusal) → Reads t xt xt2 r → number_of r ≡ cond (eqb (tg_in xt) 0) 6 0
read_number_lem t xt xt2 r h = ap number_of h ∙ read_answer t xt xt2

pub write-number : (t : Told) (o : Operand) (r : Result (ℕ × ℕ) Refusal) → Writes t o r → number_of r ≡ cond (is_writable t o) 0 8
write-number t o r h = ap number_of h ∙ write-answer t o

-- a word is 1 exactly where no operation builds it, and an operation has a word exactly where Rt is below 32
pub decode-number : (word : ℕ) (r : Option Operation) → Decodes word r → (decoded_number r ≡ 0) ↔ Operated word
decode-number word r h = (there r h, λ (o : Operated word). ap decoded_number (h ∙ (reads-built word o.operation).1 o.builds))
  where
    there : (r : Option Operation) → r ≡ read_of word → decoded_number r ≡ 0 → Operated word
    there (Some op) e z = record { operation = op; builds = (reads-built word op).0 (sym e) }
    there None e z = absurd (let n : ◌≡◌ {A = ℕ} 1 0 = z in omega arith)

pub build-number : (op : Operation) (r : Option ℕ) → Builds op r → built_number r ≡ cond (ltb op.rt 32) 0 8
unfolding built_of
build-number op r h = ap built_number h ∙ go (ltb op.rt 32)
  where
    go : (b : Bool) → built_number (cond b (Some (word_of op)) None) ≡ cond b 0 8
    go true = refl
    go false = refl

-- "Every answer but 0 leaves all lent memory unchanged."
pub execute-unchanged : (st : State) (word xt xt2 : ℕ) (l : List ℕ) (r : Result ℕ Refusal) (m : List ℕ) → Executes st word xt xt2 l r m →
    (number_of r ≡ 0 → ⊥) → m ≡ l
execute-unchanged st word xt xt2 l r m h n =
    h.1 ∙ execute-refused st word xt xt2 l (subst (λ (x : Result ℕ Refusal). number_of x ≡ 0 → ⊥) h.0 n)

pub insert-unchanged : (e : Entry) (out : ℕ) (l : List ℕ) (r : Result ℕ Refusal) (m : List ℕ) → Inserts e out l r m → (number_of r ≡ 0 → ⊥) → m ≡ l
insert-unchanged e out l r m h n = h.1 ∙ insert-refused e out l (subst (λ (x : Result ℕ Refusal). number_of x ≡ 0 → ⊥) h.0 n)

pub run-unchanged : (st : State) (steps l : List ℕ) (r : Result ℕ Refusal) (m : List ℕ) → Runs st steps l r m → (number_of r ≡ 0 → ⊥) → m ≡ l
run-unchanged st steps l r m h n = h.1 ∙ run-refused st steps l (subst (λ (x : Result ℕ Refusal). number_of x ≡ 0 → ⊥) h.0 n)

-- whatever look up answers
pub look-up-unchanged : (st : State) (g : Regime) (asid address : ℕ) (l : List ℕ) (r : Result Match Refusal) (m : List ℕ) → LooksUp st g asid address l r m → m ≡ l
look-up-unchanged st g asid address l r m h = h.1

-- whatever reading a slot back answers
pub read-slot-unchanged : (k : ℕ) (l : List ℕ) (r : Result (Entry × ℕ) Refusal) (m : List ℕ) → ReadsSlot k l r m → m ≡ l
read-slot-unchanged k l r m h = h.1
