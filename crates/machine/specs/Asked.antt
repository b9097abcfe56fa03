-- 01, "Instruction words" and "Operands": what an operation that runs asks for by its register's words.
use Rattle.std.specs.Prelude.{ℕ, Bool, true, false, cond, eqb, leb, Result}
use Rattle.machine.specs.declared.operand.Form.{Form}
use Rattle.machine.specs.declared.operand.Form.TheVariants.{TwoRangesAsid, TwoRanges, OneRange, Stage2Ns, Stage2NoNs}
use Rattle.machine.specs.declared.operand.Told.{Told}
use Rattle.machine.specs.declared.operation.Operation.{Operation}
use Rattle.machine.specs.declared.processor.State.{State}
use Rattle.machine.specs.declared.scope.Regime.{Regime}
use Rattle.machine.specs.declared.scope.Regime.TheVariants.{EL10, EL20, EL2, EL3}
use Rattle.machine.specs.declared.scope.Scope.{Scope}
use Rattle.machine.specs.State.{is_secure}
use Rattle.machine.specs.Access.{is_unit_64k}
use Rattle.machine.specs.Range.{ranged_of}
use Rattle.machine.specs.declared.refusal.Refusal.{Refusal}
use Rattle.machine.specs.declared.operand.Operand.{Operand}
use Rattle.machine.specs.declared.operand.Range.{Range}

-- "Rt 31 means a zero operand, whatever was passed; under SYSP with Rt 30, Xt2 counts as zero."
abbrev pub xt_used : Operation → ℕ → ℕ
xt_used op xt = cond (eqb op.rt 31) 0 xt

abbrev pub xt2_used : Operation → ℕ → ℕ
xt2_used op xt2 = cond (leb 30 op.rt) 0 xt2

-- "EL1&0 and EL2&0 stage 1" have two ranges
abbrev pub is_two_ranges : Regime → Bool
is_two_ranges EL10 = true
is_two_ranges EL20 = true
is_two_ranges EL2 = false
is_two_ranges EL3 = false

-- "two ranges with ASID, two without, one range, stage 2 with NS (Secure), or stage 2 without"
unfoldable pub form_of : Scope → Form
form_of s =
    cond s.stage2 (cond (is_secure s.security) Stage2Ns Stage2NoNs)
    (cond (is_two_ranges s.regime) (cond s.asid TwoRangesAsid TwoRanges) OneRange)

-- "Reader and writer are told: TLBI or TLBIP; ...; LPA2; the 64 KiB unit or not."
unfoldable pub told_of : State → Operation → Scope → Told
told_of st op s = record {
  tlbip = op.tlbip;
  form = form_of s;
  lpa2 = st.features.lpa2;
  unit64k = is_unit_64k st s.regime s.stage2;
}

unfoldable pub asked_of : State → Operation → Scope → ℕ → ℕ → Result (Operand × Range) Refusal
asked_of st op s xt xt2 = ranged_of (told_of st op s) (xt_used op xt) (xt2_used op xt2)
