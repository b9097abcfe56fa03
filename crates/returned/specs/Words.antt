-- The words that C gets beside an answer's number, in the order of the header's records. "Numbers not named are 0."
use Rattle.std.specs.Prelude.{ℕ, ◌-◌, cond, List, [], ◌∷◌, ℤ, nat_le, ⊤, Option, Some, None, Result}
use Rattle.machine.specs.Answer.{value_of, trap_of, looked_up_slot, looked_up_out, looked_up_examined, ran_step, judged_entry, judged_step, read_fields, written_xt, written_xt2, slot_entry_read, slot_out}
use Rattle.machine.specs.Span.{is_level, height_of}
use Rattle.machine.specs.Tag.{regime_number, security_number, flag}
use Rattle.machine.specs.declared.entry.Entry.{Entry}
use Rattle.machine.specs.declared.judge.Objection.{Objection}
use Rattle.machine.specs.declared.operand.Operand.{Operand}
use Rattle.machine.specs.declared.operation.Name.{Name}
use Rattle.machine.specs.declared.operation.Name.TheVariants.{RVAE1, RVAAE1, RVALE1, RVAALE1, RVAE2, RVALE2, RVAE3, RVALE3, RIPAS2E1, RIPAS2LE1}
use Rattle.machine.specs.declared.operation.Operation.{Operation}
use Rattle.machine.specs.declared.operation.Share.{Share}
use Rattle.machine.specs.declared.operation.Share.TheVariants.{Local, Inner, Outer}
use Rattle.machine.specs.declared.refusal.Refusal.{Refusal}
use Rattle.machine.specs.declared.table.Match.{Match}

-- a level as a signed word: level -1, whose height is 4, is 2^64 - 1
unfoldable pub level_word : ℤ → ℕ
level_word l = cond (is_level l) (cond (nat_le 4 (height_of l)) 18446744073709551615 (3 - height_of l)) 0

-- the fields of an entry, and a word behind them
unfoldable pub entry_words : Entry → ℕ → List ℕ
entry_words e behind =
    e.processor
    ∷ regime_number e.company.regime
    ∷ security_number e.company.security
    ∷ e.company.vmid
    ∷ flag e.company.stage2
    ∷ flag e.company.ns
    ∷ e.asid
    ∷ flag e.global
    ∷ flag e.wide
    ∷ e.granule
    ∷ level_word e.level
    ∷ flag e.leaf
    ∷ flag e.xs
    ∷ e.base
    ∷ behind
    ∷ []

-- insert: the slot; look up: the slot, the output word and how many slots were examined; a slot read back: its entry and output word
abbrev pub inserted_words : Result ℕ Refusal → List ℕ
inserted_words r = value_of r ∷ []

abbrev pub looked_up_words : Result Match Refusal → List ℕ
looked_up_words r = looked_up_slot r ∷ looked_up_out r ∷ looked_up_examined r ∷ []

abbrev pub slot_words : Result (Entry × ℕ) Refusal → List ℕ
slot_words r = entry_words (slot_entry_read r) (slot_out r)

-- execute: how many slots were dropped, and the number of a trap; run: how many were dropped, and the step
abbrev pub executed_words : Result ℕ Refusal → List ℕ
executed_words r = value_of r ∷ trap_of r ∷ []

abbrev pub ran_words : Result ℕ Refusal → List ℕ
ran_words r = value_of r ∷ ran_step r ∷ []

-- judge: the surviving entry, and the step
abbrev pub judged_words : Result ⊤ Objection → List ℕ
judged_words r = entry_words (judged_entry r) (judged_step r)

-- an operation by its numbers, with the names in the order of 01's first sentence, and "local, IS and OS"
abbrev pub name_number : Name → ℕ
name_number RVAE1 = 0
name_number RVAAE1 = 1
name_number RVALE1 = 2
name_number RVAALE1 = 3
name_number RVAE2 = 4
name_number RVALE2 = 5
name_number RVAE3 = 6
name_number RVALE3 = 7
name_number RIPAS2E1 = 8
name_number RIPAS2LE1 = 9

abbrev pub share_number : Share → ℕ
share_number Local = 0
share_number Inner = 1
share_number Outer = 2

unfoldable pub operation_words : Operation → List ℕ
operation_words op = name_number op.name ∷ share_number op.share ∷ flag op.nxs ∷ flag op.tlbip ∷ op.rt ∷ []

abbrev pub decoded_words : Option Operation → List ℕ
decoded_words (Some op) = operation_words op
decoded_words None = 0 ∷ 0 ∷ 0 ∷ 0 ∷ 0 ∷ []

abbrev pub built_words : Option ℕ → List ℕ
built_words (Some w) = w ∷ []
built_words None = 0 ∷ []

-- an operand by its fields, and as its two words
unfoldable pub fields_words : Operand → List ℕ
fields_words o = o.asid ∷ o.ns ∷ o.tg ∷ o.scale ∷ o.num ∷ o.ttl ∷ o.base ∷ []

abbrev pub read_words : Result Operand Refusal → List ℕ
read_words r = fields_words (read_fields r)

abbrev pub written_words : Result (ℕ × ℕ) Refusal → List ℕ
written_words r = written_xt r ∷ written_xt2 r ∷ []
