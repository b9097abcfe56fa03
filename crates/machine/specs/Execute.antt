-- 01, "Answer numbers" and "Entries": execute and run.
use Rattle.std.specs.Prelude.{ℕ, ◌+◌, Bool, true, false, cond, not, ◌&&◌, List, [], ◌∷◌, length, Option, Some, None, Result, Ok, Err}
use Rattle.laws.specs.Slots.{count, first, some, cleared}
use Rattle.machine.specs.declared.operation.Operation.{Operation}
use Rattle.machine.specs.declared.processor.State.{State}
use Rattle.machine.specs.declared.scope.Scope.{Scope}
use Rattle.machine.specs.declared.work.Work.{Work}
use Rattle.machine.specs.Word.{read_of}
use Rattle.machine.specs.State.{bad_state}
use Rattle.machine.specs.Access.{access_of}
use Rattle.machine.specs.Asked.{asked_of}
use Rattle.machine.specs.Table.{has_shape, is_table}
use Rattle.machine.specs.Goes.{work_of, drops}
use Rattle.machine.specs.Answer.{value_of}
use Rattle.machine.specs.declared.refusal.Refusal.{Refusal}
use Rattle.machine.specs.declared.refusal.Refusal.TheVariants as refusal
use Rattle.machine.specs.declared.operand.Operand.{Operand}
use Rattle.machine.specs.declared.operand.Range.{Range}

-- "1, 3 to 5 by the access rules ..., 6, 7": "6, 7" of an operation that runs
abbrev pub resolved_range : State → Operation → Scope → Result (Operand × Range) Refusal → Result Work Refusal
resolved_range st op s (Ok (o, r)) = Ok (work_of st op s o r)
resolved_range st op s (Err r) = Err r

-- "3 to 5" of an operation
abbrev pub resolved_access : State → Operation → ℕ → ℕ → Result Scope Refusal → Result Work Refusal
resolved_access st op xt xt2 (Err r) = Err r
resolved_access st op xt xt2 (Ok s) = resolved_range st op s (asked_of st op s xt xt2)

-- "1" of a word
abbrev pub resolved_word : State → ℕ → ℕ → Option Operation → Result Work Refusal
resolved_word st xt xt2 (Some op) = resolved_access st op xt xt2 (access_of st op)
resolved_word st xt xt2 None = Err refusal.Unknown

unfoldable pub resolved_of : State → ℕ → ℕ → ℕ → Result Work Refusal
resolved_of st word xt xt2 = resolved_word st xt xt2 (read_of word)

-- "The call returns how many were dropped."
abbrev pub executed_by : Result Work Refusal → List ℕ → Result ℕ Refusal
executed_by (Ok w) l = Ok (count (drops w) l)
executed_by (Err r) l = Err r

-- "A dropped slot is three zeros; every other word stays, those of senseless slots too."
abbrev pub table_by : Result Work Refusal → List ℕ → List ℕ
table_by (Ok w) l = cleared (drops w) l
table_by (Err r) l = l

-- "Execute: 13, 2, 1, 3 to 5 by the access rules ..., 6, 7."
unfoldable pub executed_of : State → ℕ → ℕ → ℕ → List ℕ → Result ℕ Refusal
executed_of st word xt xt2 l =
    cond (is_table l) (cond (bad_state st) (Err refusal.BadState) (executed_by (resolved_of st word xt xt2) l)) (Err refusal.BadShape)

-- "Every answer but 0 leaves all lent memory unchanged."
unfoldable pub execute_table : State → ℕ → ℕ → ℕ → List ℕ → List ℕ
execute_table st word xt xt2 l = cond (is_table l) (cond (bad_state st) l (table_by (resolved_of st word xt xt2) l)) l

-- "Shape is bad if the words aren't a multiple of three or are over ... 48."
abbrev pub is_list : List ℕ → Bool
is_list steps = has_shape 48 (length steps)

-- a test of the work, which none passes where there is none
abbrev pub on_work : (Work → Bool) → Result Work Refusal → Bool
on_work f (Ok w) = f w
on_work f (Err r) = false

-- there is work
abbrev pub is_work : Result Work Refusal → Bool
is_work r = on_work (λ w. true) r

-- "a list's step doesn't answer 0"
abbrev pub refuses : State → ℕ → ℕ → ℕ → Bool
refuses st word xt xt2 = not (is_work (resolved_of st word xt xt2))

-- "all steps in order and the sum of dropped slots": what the steps leave of a table, and the sum
unfoldable pub steps_table : State → List ℕ → List ℕ → List ℕ
steps_table st [] l = l
steps_table st (word ∷ []) l = l
steps_table st (word ∷ xt ∷ []) l = l
steps_table st (word ∷ xt ∷ xt2 ∷ steps) l = steps_table st steps (execute_table st word xt xt2 l)

unfoldable pub steps_dropped : State → List ℕ → List ℕ → ℕ
steps_dropped st [] l = 0
steps_dropped st (word ∷ []) l = 0
steps_dropped st (word ∷ xt ∷ []) l = 0
steps_dropped st (word ∷ xt ∷ xt2 ∷ steps) l = value_of (executed_of st word xt xt2 l) + steps_dropped st steps (execute_table st word xt xt2 l)

-- "Run: 13, 2, 10, else all steps in order and the sum of dropped slots."
unfoldable pub ran_of : State → List ℕ → List ℕ → Result ℕ Refusal
ran_of st steps l =
    cond (is_table l && is_list steps)
    (cond (bad_state st) (Err refusal.BadState) (cond (some (refuses st) steps) (Err (refusal.StepRefused (first (refuses st) steps))) (Ok (steps_dropped st steps l))))
    (Err refusal.BadShape)

unfoldable pub run_table : State → List ℕ → List ℕ → List ℕ
run_table st steps l = cond (is_table l && is_list steps) (cond (bad_state st) l (cond (some (refuses st) steps) l (steps_table st steps l))) l
