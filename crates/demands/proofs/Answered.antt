-- Demand 1: "Any instruction word, operand, processor state, table or list gets an answer", and 01: "the contract leaves one possible answer and one possible
-- content of lent memory". The calls ask nothing and end; what is given here of a number, it has by its type.
use Prim.Native.Nat.{ℕ, ◌^◌, ◌<◌}
use mathlib.Core.List.{List, ◌++◌}
use mathlib.Core.Path.{refl, ap, ◌∙◌}
use lib.ListN.{length, drop}
use Rattle.std.specs.Prelude.{Result, ⊤}
use Rattle.judge.proofs.Computed.{judged_of, judged-verdict, judged-is}
use Rattle.judge.proofs.Targets.{Fits}
use Rattle.listing.specs.Listed.{listed_of}
use Rattle.listing.specs.declared.code.Listed.{Listed}
use Rattle.machine.specs.Execute.{executed_of, execute_table, ran_of, run_table}
use Rattle.machine.specs.Listing.{written_of, tail_written}
use Rattle.machine.specs.Operand.{operand_of, words_of}
use Rattle.machine.specs.Table.{inserted_of, insert_table, looked_up_of, slot_read_of}
use Rattle.machine.specs.Word.{read_of, built_of}
use Rattle.machine.specs.declared.entry.Entry.{Entry}
use Rattle.machine.specs.declared.judge.Target.{Target}
use Rattle.machine.specs.declared.operand.Operand.{Operand}
use Rattle.machine.specs.declared.operand.Told.{Told}
use Rattle.machine.specs.declared.operation.Operation.{Operation}
use Rattle.machine.specs.declared.processor.State.{State}
use Rattle.machine.specs.declared.scope.Regime.{Regime}
use Rattle.calls.specs.Promises.{Decodes, Builds, Reads, Writes, Inserts, LooksUp, ReadsSlot, Executes, Runs, Judges, Lists, Tails}
use Rattle.demands.specs.One.{OneAnswer, One}
use Rattle.machine.specs.declared.judge.Objection.{Objection}

pub decode-one : (word : ℕ) → OneAnswer (Decodes word)
decode-one word = record { answer = read_of word; kept = refl; only = λ r h. h }

pub build-one : (op : Operation) → OneAnswer (Builds op)
build-one op = record { answer = built_of op; kept = refl; only = λ r h. h }

pub read_one : (t : Told) (xt xt2 : ℕ) → OneAnswer (Reads t xt xt2)
read_one t xt xt2 = record { answer = operand_of t xt xt2; kept = refl; only = λ r h. h }

pub write-one : (t : Told) (o : Operand) → OneAnswer (Writes t o)
write-one t o = record { answer = words_of t o; kept = refl; only = λ r h. h }

pub insert-one : (e : Entry) (out : ℕ) (l : List ℕ) → One (Inserts e out l)
insert-one e out l = record { answer = inserted_of e l; memory = insert_table e out l; kept = (refl, refl); only = λ r m h. h }

pub look-up-one : (st : State) (r : Regime) (asid address : ℕ) (l : List ℕ) → One (LooksUp st r asid address l)
look-up-one st r asid address l = record { answer = looked_up_of st r asid address l; memory = l; kept = (refl, refl); only = λ a m h. h }

pub read-slot-one : (k : ℕ) (l : List ℕ) → One (ReadsSlot k l)
read-slot-one k l = record { answer = slot_read_of k l; memory = l; kept = (refl, refl); only = λ r m h. h }

pub execute-one : (st : State) (word xt xt2 : ℕ) (l : List ℕ) → One (Executes st word xt xt2 l)
execute-one st word xt xt2 l = record {
  answer = executed_of st word xt xt2 l;
  memory = execute_table st word xt xt2 l;
  kept = (refl, refl);
  only = λ r m h. h;
}

pub run-one : (st : State) (steps l : List ℕ) → One (Runs st steps l)
run-one st steps l = record { answer = ran_of st steps l; memory = run_table st steps l; kept = (refl, refl); only = λ r m h. h }

pub judge-one : (st : State) (t : Target) (steps : List ℕ) → st.vmid < 2 ^ 16 → Fits t → OneAnswer (Judges st t steps)
judge-one st t steps low f = record {
  answer = judged_of st t steps;
  kept = judged-verdict st t steps f;
  only = λ (r : Result ⊤ Objection) (v : Judges st t steps r). judged-is st t steps r low f v;
}

pub list-one : (code : List ℕ) (at : ℕ) (room : List ℕ) → One (Lists code at room)
list-one code at room = record {
  answer = listed_of at code (length room);
  memory = written_of at code (length room) ++ drop (listed_of at code (length room)).written room;
  kept = (refl, refl);
  only = λ (r : Listed) (m : List ℕ) (h : Lists code at room r m).
      (h.0, h.1 ∙ ap (λ (x : Listed). written_of at code (length room) ++ drop x.written room) h.0);
}

pub tail-one : (left : ℕ) (room : List ℕ) → One (Tails left room)
tail-one left room = record {
  answer = length (tail_written left (length room));
  memory = tail_written left (length room) ++ drop (length (tail_written left (length room))) room;
  kept = (refl, refl);
  only = λ (r : ℕ) (m : List ℕ) (h : Tails left room r m). (h.0, h.1 ∙ ap (λ (x : ℕ). tail_written left (length room) ++ drop x room) h.0);
}
