-- What each public call promises of its input, its answer and the memory that it was lent.
use Rattle.std.specs.Prelude.{ℕ, List, ◌++◌, ◌≡◌, length, drop, Option, Result, ⊤}
use Rattle.listing.specs.Listed.{listed_of}
use Rattle.listing.specs.declared.code.Listed.{Listed}
use Rattle.machine.specs.Execute.{executed_of, execute_table, ran_of, run_table}
use Rattle.machine.specs.Judge.{Verdict}
use Rattle.machine.specs.Listing.{written_of, tail_written}
use Rattle.machine.specs.Operand.{operand_of, words_of}
use Rattle.machine.specs.Table.{inserted_of, insert_table, looked_up_of, slot_read_of}
use Rattle.machine.specs.Word.{read_of, built_of}
use Rattle.machine.specs.declared.entry.Entry.{Entry}
use Rattle.machine.specs.declared.judge.Target.{Target}
use Rattle.machine.specs.declared.operand.Operand.{Operand}
use Rattle.machine.specs.declared.operand.Told.{Told}
use Rattle.machine.specs.declared.operation.Operation.{Operation}
use Rattle.machine.specs.declared.processor.State.{State}
use Rattle.machine.specs.declared.scope.Regime.{Regime}
use Rattle.machine.specs.declared.refusal.Refusal.{Refusal}
use Rattle.machine.specs.declared.judge.Objection.{Objection}
use Rattle.machine.specs.declared.table.Match.{Match}

-- decode and build an instruction word
abbrev pub Decodes : ℕ → Option Operation → Type 0
Decodes word r = r ≡ read_of word

abbrev pub Builds : Operation → Option ℕ → Type 0
Builds op r = r ≡ built_of op

-- read and write an operand
abbrev pub Reads : Told → ℕ → ℕ → Result Operand Refusal → Type 0
Reads t xt xt2 r = r ≡ operand_of t xt xt2

abbrev pub Writes : Told → Operand → Result (ℕ × ℕ) Refusal → Type 0
Writes t o r = r ≡ words_of t o

-- insert, look up, read a slot back, and execute: the table before, the answer, and the table after
abbrev pub Inserts : Entry → ℕ → List ℕ → Result ℕ Refusal → List ℕ → Type 0
Inserts e out l r m = (r ≡ inserted_of e l) × (m ≡ insert_table e out l)

abbrev pub LooksUp : State → Regime → ℕ → ℕ → List ℕ → Result Match Refusal → List ℕ → Type 0
LooksUp st regime asid address l r m = (r ≡ looked_up_of st regime asid address l) × (m ≡ l)

abbrev pub ReadsSlot : ℕ → List ℕ → Result (Entry × ℕ) Refusal → List ℕ → Type 0
ReadsSlot k l r m = (r ≡ slot_read_of k l) × (m ≡ l)

abbrev pub Executes : State → ℕ → ℕ → ℕ → List ℕ → Result ℕ Refusal → List ℕ → Type 0
Executes st word xt xt2 l r m = (r ≡ executed_of st word xt xt2 l) × (m ≡ execute_table st word xt xt2 l)

-- run a list
abbrev pub Runs : State → List ℕ → List ℕ → Result ℕ Refusal → List ℕ → Type 0
Runs st steps l r m = (r ≡ ran_of st steps l) × (m ≡ run_table st steps l)

-- judge a list
abbrev pub Judges : State → Target → List ℕ → Result ⊤ Objection → Type 0
Judges st t steps r = Verdict st t steps r

-- list a piece of code, and its tail: what the room held before, the answer, and what it holds after
abbrev pub Lists : List ℕ → ℕ → List ℕ → Listed → List ℕ → Type 0
Lists code at room r m = (r ≡ listed_of at code (length room)) × (m ≡ written_of at code (length room) ++ drop r.written room)

abbrev pub Tails : ℕ → List ℕ → ℕ → List ℕ → Type 0
Tails left room r m = (r ≡ length (tail_written left (length room))) × (m ≡ tail_written left (length room) ++ drop r room)
