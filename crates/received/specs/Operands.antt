-- What an operand's reader and writer are told, and the fields, that C's records stand for.
use Rattle.std.specs.Prelude.{ℕ, Bool, cond, ◌&&◌, eqb, ltb, Result, Ok, Err}
use Rattle.machine.specs.declared.operand.Form.{Form}
use Rattle.machine.specs.declared.operand.Form.TheVariants.{TwoRangesAsid, TwoRanges, OneRange, Stage2Ns, Stage2NoNs}
use Rattle.machine.specs.declared.operand.Operand.{Operand}
use Rattle.machine.specs.declared.operand.Told.{Told}
use Rattle.received.specs.Numbers.{is_flag, flag_in}
use Rattle.received.specs.declared.operand.FieldsRecord.{FieldsRecord}
use Rattle.received.specs.declared.operand.ToldRecord.{ToldRecord}
use Rattle.machine.specs.declared.refusal.Refusal.{Refusal}
use Rattle.machine.specs.declared.refusal.Refusal.TheVariants.{Illegal}

-- "two ranges with ASID, two without, one range, stage 2 with NS (Secure), or stage 2 without"
unfoldable pub form_at : ℕ → Form
form_at x = cond (eqb x 0) TwoRangesAsid (cond (eqb x 1) TwoRanges (cond (eqb x 2) OneRange (cond (eqb x 3) Stage2Ns Stage2NoNs)))

-- the values that the fields can have
unfoldable pub told_fits : ToldRecord → Bool
told_fits t = is_flag t.tlbip && ltb t.form 5 && is_flag t.lpa2 && is_flag t.unit64k

unfoldable pub told_in : ToldRecord → Told
told_in t = record { tlbip = flag_in t.tlbip; form = form_at t.form; lpa2 = flag_in t.lpa2; unit64k = flag_in t.unit64k }

-- what they are told, where each field fits
abbrev pub told_from : ToldRecord → Result Told Refusal
told_from t = cond (told_fits t) (Ok (told_in t)) (Err Illegal)

-- an operand's fields are numbers already, which the writer judges
unfoldable pub fields_in : FieldsRecord → Operand
fields_in f = record { asid = f.asid; ns = f.ns; tg = f.tg; scale = f.scale; num = f.num; ttl = f.ttl; base = f.base }
