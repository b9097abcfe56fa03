-- The works of a list's steps.
use Rattle.std.specs.Prelude.{ℕ, ◌+◌, ◌*◌, ◌^◌, ◌<◌, Bool, true, false, cond, not, eqb, List, ◌≡◌, ltb, get_or, Option, Some, None, Result, Ok, Err}
use Rattle.std.specs.Option.{option_or}
use Rattle.std.specs.Int.Bits.{bit_and, bit_or}
use Rattle.laws.specs.Every.{every, any}
use Rattle.laws.specs.Mask.{bit_of}
use Rattle.laws.specs.Slots.{slots}
use Rattle.machine.specs.Answer.{no_company}
use Rattle.machine.specs.Execute.{resolved_of}
use Rattle.machine.specs.Goes.{goes}
use Rattle.machine.specs.Judge.{holds_asid}
use Rattle.machine.specs.Table.{same_company}
use Rattle.machine.specs.declared.entry.Company.{Company}
use Rattle.machine.specs.declared.entry.Entry.{Entry}
use Rattle.machine.specs.declared.processor.State.{State}
use Rattle.machine.specs.declared.refusal.Refusal.{Refusal}
use Rattle.machine.specs.declared.work.Work.{Work}
use Rattle.steps.specs.declared.checks.Checked.{Checked}

-- no work at all: it reaches nobody
abbrev pub no_work : Work
no_work = record {
  company = no_company;
  reached = 0;
  granule = 0;
  first = 0;
  last = 0;
  level = None;
  wide = false;
  d128 = false;
  leaves = false;
  asid = None;
  nxs = false;
}

abbrev pub work_in : Result Work Refusal → Work
work_in (Ok w) = w
work_in (Err r) = no_work

-- the work of step i
abbrev pub work_at : List Work → ℕ → Work
work_at works i = get_or works i no_work

abbrev pub step_at : State → List ℕ → ℕ → Result Work Refusal
step_at st steps i = resolved_of st (get_or steps (3 * i) 0) (get_or steps (3 * i + 1) 0) (get_or steps (3 * i + 2) 0)

-- the first works are those of the steps
pub record AreSteps (st : State) (steps : List ℕ) (works : List Work) : Type 0 where
  pub each : (i : ℕ) → i < slots steps → work_at works i ≡ work_in (step_at st steps i)

-- the first of n works that is of another company, if there is one
abbrev pub FirstOther : Company → List Work → ℕ → Option ℕ → Type 0
FirstOther c works n None = (i : ℕ) → i < n → same_company (work_at works i).company c ≡ true
FirstOther c works n (Some k) =
    (k < n) × ((i : ℕ) → i < k → same_company (work_at works i).company c ≡ true) × (same_company (work_at works k).company c ≡ false)

-- the first of n works that is none, if there is one
abbrev pub FirstNone : List Work → ℕ → Option ℕ → Type 0
FirstNone works n None = (i : ℕ) → i < n → (work_at works i).granule ≡ 0 → ⊥
FirstNone works n (Some k) = (k < n) × ((i : ℕ) → i < k → (work_at works i).granule ≡ 0 → ⊥) × ((work_at works k).granule ≡ 0)

-- what the works of n steps say together
pub record Checks (c : Company) (works : List Work) (n : ℕ) (r : Checked) : Type 0 where
  pub refused : FirstNone works n r.refused
  pub outside : FirstOther c works n r.outside
  -- the processors that every one of them reaches
  pub common : (p : ℕ) → p < 8 → bit_of r.common p ≡ every (λ (i : ℕ). bit_of (work_at works i).reached p) n
  -- the ASIDs that one of them uses
  pub used : (a : ℕ) → a < 16 → bit_of r.used a ≡ any (λ (i : ℕ). holds_asid a (work_at works i)) n

-- that of no work yet, and that with work w as number i
abbrev pub unchecked : Checked
unchecked = record { refused = None; outside = None; common = 255; used = 0 }

abbrev pub asid_bit : Option ℕ → ℕ
asid_bit None = 0
asid_bit (Some a) = cond (ltb a 16) (2 ^ a) 0

abbrev pub with_step : Checked → Company → ℕ → Work → Checked
with_step r c i w = record {
  refused = option_or r.refused (cond (not (eqb w.granule 0)) None (Some i));
  outside = option_or r.outside (cond (same_company w.company c) None (Some i));
  common = bit_and w.reached r.common;
  used = bit_or r.used (asid_bit w.asid);
}

-- one of n works drops an entry; the used ASID field of one holds a number
abbrev pub taken_by : List Work → ℕ → Entry → Bool
taken_by works n e = any (λ (i : ℕ). goes (work_at works i) e) n

abbrev pub used_by : List Work → ℕ → ℕ → Bool
used_by works n a = any (λ (i : ℕ). holds_asid a (work_at works i)) n
