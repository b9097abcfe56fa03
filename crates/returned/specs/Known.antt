-- What C gets where a value that it gave is none that its field can have: 8, which comes after 13 and 2, and nothing besides.
use Rattle.std.specs.Prelude.{ℕ, Bool, true, false, cond, List, [], ◌∷◌, Result, Ok, Err}
use Rattle.machine.specs.Answer.{refusal_number, number_of}
use Rattle.machine.specs.declared.operand.Operand.{Operand}
use Rattle.machine.specs.declared.refusal.Refusal.{Refusal}
use Rattle.machine.specs.declared.refusal.Refusal.TheVariants.{NotFound}
use Rattle.machine.specs.declared.table.Match.{Match}
use Rattle.returned.specs.Words.{looked_up_words, read_words, written_words}

-- look up, by whether the regime is one
abbrev pub found_number : Bool → Result Match Refusal → ℕ
found_number true r = number_of r
found_number false (Ok m) = 8
found_number false (Err (NotFound n)) = 8
found_number false (Err r) = refusal_number r

abbrev pub found_words : Bool → Result Match Refusal → List ℕ
found_words known r = cond known (looked_up_words r) (0 ∷ 0 ∷ 0 ∷ [])

-- an operand's reader and writer, by whether what they are told can be
abbrev pub read_number_if : Bool → Result Operand Refusal → ℕ
read_number_if known r = cond known (number_of r) 8

abbrev pub read_words_if : Bool → Result Operand Refusal → List ℕ
read_words_if known r = cond known (read_words r) (0 ∷ 0 ∷ 0 ∷ 0 ∷ 0 ∷ 0 ∷ 0 ∷ [])

abbrev pub written_number_if : Bool → Result (ℕ × ℕ) Refusal → ℕ
written_number_if known r = cond known (number_of r) 8

abbrev pub written_words_if : Bool → Result (ℕ × ℕ) Refusal → List ℕ
written_words_if known r = cond known (written_words r) (0 ∷ 0 ∷ [])
