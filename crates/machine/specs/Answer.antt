-- 01, "Answer numbers": the number and the values of an answer. "Numbers not named are 0."
use Rattle.std.specs.Prelude.{ℕ, false, pos, ⊤, Option, Some, None, Result, Ok, Err}
use Rattle.machine.specs.declared.entry.Company.{Company}
use Rattle.machine.specs.declared.entry.Entry.{Entry}
use Rattle.machine.specs.declared.judge.Objection.{Objection}
use Rattle.machine.specs.declared.judge.Objection.TheVariants as objection
use Rattle.machine.specs.declared.operand.Operand.{Operand}
use Rattle.machine.specs.declared.operation.Operation.{Operation}
use Rattle.machine.specs.declared.refusal.Refusal.{Refusal}
use Rattle.machine.specs.declared.refusal.Refusal.TheVariants as refusal
use Rattle.machine.specs.declared.scope.Regime.TheVariants.{EL10}
use Rattle.machine.specs.declared.scope.Security.TheVariants.{Secure}
use Rattle.machine.specs.declared.table.Match.{Match}

-- "1 word isn't one of the operations", "2 bad processor state", "3 UNDEFINED", "4 trapped to EL2", "5 ends without effect", "6 TG is 00",
-- "7 range is UNPREDICTABLE", "8" a field that does not fit or breaks a rule, and a slot that the table has not; 9 no slot reads as empty,
-- 10 "a list's step doesn't answer 0", 13 bad shape; 14 no slot matches, and a slot that reads as empty
abbrev pub refusal_number : Refusal → ℕ
refusal_number refusal.Unknown = 1
refusal_number refusal.BadState = 2
refusal_number refusal.Undefined = 3
refusal_number (refusal.Trapped v) = 4
refusal_number refusal.NoEffect = 5
refusal_number refusal.NoGranule = 6
refusal_number refusal.Unpredictable = 7
refusal_number refusal.Illegal = 8
refusal_number refusal.NoSlot = 8
refusal_number refusal.Full = 9
refusal_number (refusal.StepRefused k) = 10
refusal_number refusal.BadShape = 13
refusal_number (refusal.NotFound n) = 14
refusal_number refusal.Empty = 14

abbrev pub number_of : {A : Type 0} → Result A Refusal → ℕ
number_of (Ok a) = 0
number_of (Err r) = refusal_number r

-- "1 word isn't one of the operations"; an Rt without a place in a word is a "field" that "breaks a rule"
abbrev pub decoded_number : Option Operation → ℕ
decoded_number (Some op) = 0
decoded_number None = 1

abbrev pub built_number : Option ℕ → ℕ
built_number (Some w) = 0
built_number None = 8

-- "Also returns": "0x18 (TLBI) or 0x14 (TLBIP)"
abbrev pub refusal_trap : Refusal → ℕ
refusal_trap (refusal.Trapped v) = v
refusal_trap _ = 0

abbrev pub trap_of : {A : Type 0} → Result A Refusal → ℕ
trap_of (Ok a) = 0
trap_of (Err r) = refusal_trap r

-- what the operand's reader and writer give besides: the fields, and the two words
abbrev pub no_fields : Operand
no_fields = record { asid = 0; ns = 0; tg = 0; scale = 0; num = 0; ttl = 0; base = 0 }

abbrev pub read_fields : Result Operand Refusal → Operand
read_fields (Ok o) = o
read_fields (Err r) = no_fields

abbrev pub written_xt : Result (ℕ × ℕ) Refusal → ℕ
written_xt (Ok w) = w.0
written_xt (Err r) = 0

abbrev pub written_xt2 : Result (ℕ × ℕ) Refusal → ℕ
written_xt2 (Ok w) = w.1
written_xt2 (Err r) = 0

-- the slot that insert took; how many slots execute dropped; "the sum of dropped slots" of a run
abbrev pub value_of : Result ℕ Refusal → ℕ
value_of (Ok n) = n
value_of (Err r) = 0

-- "Look up": slot, output word and slots examined
abbrev pub looked_up_slot : Result Match Refusal → ℕ
looked_up_slot (Ok m) = m.slot
looked_up_slot (Err r) = 0

abbrev pub looked_up_out : Result Match Refusal → ℕ
looked_up_out (Ok m) = m.out
looked_up_out (Err r) = 0

abbrev pub refusal_examined : Refusal → ℕ
refusal_examined (refusal.NotFound n) = n
refusal_examined _ = 0

abbrev pub looked_up_examined : Result Match Refusal → ℕ
looked_up_examined (Ok m) = m.examined
looked_up_examined (Err r) = refusal_examined r

-- "Run": the first step that does not answer 0
abbrev pub refusal_step : Refusal → ℕ
refusal_step (refusal.StepRefused k) = k
refusal_step _ = 0

abbrev pub ran_step : Result ℕ Refusal → ℕ
ran_step (Ok n) = 0
ran_step (Err r) = refusal_step r

-- "Judge: 13, 2, 8, 10 over all steps, 11 over all steps, 12.", the first such step, and the surviving entry
abbrev pub objection_number : Objection → ℕ
objection_number objection.BadShape = 13
objection_number objection.BadState = 2
objection_number objection.BadTarget = 8
objection_number (objection.Refused k) = 10
objection_number (objection.Outside k) = 11
objection_number (objection.Gap e) = 12

abbrev pub judged_number : Result ⊤ Objection → ℕ
judged_number (Ok done) = 0
judged_number (Err o) = objection_number o

abbrev pub objection_step : Objection → ℕ
objection_step (objection.Refused k) = k
objection_step (objection.Outside k) = k
objection_step _ = 0

abbrev pub judged_step : Result ⊤ Objection → ℕ
judged_step (Ok done) = 0
judged_step (Err o) = objection_step o

abbrev pub no_company : Company
no_company = record { regime = EL10; security = Secure; vmid = 0; stage2 = false; ns = false }

abbrev pub no_entry : Entry
no_entry = record {
  processor = 0;
  company = no_company;
  asid = 0;
  global = false;
  wide = false;
  granule = 0;
  level = pos 0;
  leaf = false;
  xs = false;
  base = 0;
}

abbrev pub objection_entry : Objection → Entry
objection_entry (objection.Gap e) = e
objection_entry _ = no_entry

abbrev pub judged_entry : Result ⊤ Objection → Entry
judged_entry (Ok done) = no_entry
judged_entry (Err o) = objection_entry o

-- a slot read back: the entry and the output word
abbrev pub slot_entry_read : Result (Entry × ℕ) Refusal → Entry
slot_entry_read (Ok p) = p.0
slot_entry_read (Err r) = no_entry

abbrev pub slot_out : Result (Entry × ℕ) Refusal → ℕ
slot_out (Ok p) = p.1
slot_out (Err r) = 0
