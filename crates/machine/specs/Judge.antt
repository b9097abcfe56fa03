-- 01, "Judging a list": what judge answers.
use Rattle.std.specs.Prelude.{ℕ, ◌-◌, ◌^◌, ◌<◌, Bool, true, false, cond, not, ◌&&◌, ◌||◌, List, [], ◌∷◌, ◌≡◌, eqb, ltb, leb, ℤ, pos, ◌-ℤ◌, get_or, Option, Some, None, Result, Ok, Err, ⊤}
use Rattle.laws.specs.Slots.{slots, holds_at, first, some}
use Rattle.machine.specs.declared.entry.Company.{Company}
use Rattle.machine.specs.declared.entry.Entry.{Entry}
use Rattle.machine.specs.declared.judge.Target.{Target}
use Rattle.machine.specs.declared.processor.State.{State}
use Rattle.machine.specs.declared.work.Work.{Work}
use Rattle.machine.specs.State.{bad_state}
use Rattle.machine.specs.Span.{height_of}
use Rattle.machine.specs.Entry.{has_asids, is_legal}
use Rattle.machine.specs.Tag.{Sized}
use Rattle.machine.specs.Table.{is_table, slot_reads, slot_entry, Kept, same_company, insert_table}
use Rattle.machine.specs.Answer.{number_of}
use Rattle.machine.specs.Execute.{resolved_of, is_list, on_work, refuses, ran_of, run_table}
use Rattle.machine.specs.Target.{is_target, aims}
use Rattle.machine.specs.declared.judge.Objection.{Objection}
use Rattle.machine.specs.declared.judge.Objection.TheVariants as objection

-- a table's words have 64 bits
abbrev pub AreWords : List ℕ → Type 0
AreWords l = (i : ℕ) → get_or l i 0 < 2 ^ 64

-- Demand 3: "A list of invalidations is accepted exactly when, from every table of legal shape, it does its work and harms no other company."
pub record Does (st : State) (t : Target) (steps : List ℕ) : Type 0 where
  -- each step ends as done
  pub done : (l : List ℕ) → is_table l ≡ true → AreWords l → number_of (ran_of st steps l) ≡ 0
  -- no entry that the target asks for is left
  pub clears : (l : List ℕ) → is_table l ≡ true → AreWords l → (k : ℕ) → k < slots l → holds_at slot_reads (run_table st steps l) k ≡ true →
      aims t (slot_entry (run_table st steps l) k) ≡ false
  -- every entry of another regime, security state, guest, stage or IPA space keeps its contents
  pub spares : (l : List ℕ) → is_table l ≡ true → AreWords l → (k : ℕ) → k < slots l → holds_at slot_reads l k ≡ true →
      same_company (slot_entry l k).company t.company ≡ false → Kept l (run_table st steps l) k

-- "a step is outside the target's company"
abbrev pub is_outside : State → Company → ℕ → ℕ → ℕ → Bool
is_outside st c word xt xt2 = on_work (λ w. not (same_company w.company c)) (resolved_of st word xt xt2)

-- a "step's used ASID field holds" a number
abbrev pub holds_number : ℕ → Option ℕ → Bool
holds_number n None = false
holds_number n (Some a) = eqb a n

abbrev pub holds_asid : ℕ → Work → Bool
holds_asid n w = holds_number n w.asid

abbrev pub is_held : State → ℕ → ℕ → ℕ → ℕ → Bool
is_held st n word xt xt2 = on_work (holds_asid n) (resolved_of st word xt xt2)

-- "non-leaf levels rising, then leaf levels rising": -1 to 2 are kinds 0 to 3, and 1 to 3 are kinds 4 to 6; and back
unfoldable pub kind_of : Bool → ℤ → ℕ
kind_of leaf l = cond leaf 6 4 - height_of l

unfoldable pub leaf_at : ℕ → Bool
leaf_at j = leb 4 j

unfoldable pub level_at : ℕ → ℤ
level_at j = pos j -ℤ pos (cond (leaf_at j) 3 1)

-- "by lowest processor, then non-leaf levels rising, then leaf levels rising, then lowest base"
unfoldable pub is_before : Entry → Entry → Bool
is_before d e =
    ltb d.processor e.processor
    || (eqb d.processor e.processor
    && (ltb (kind_of d.leaf d.level) (kind_of e.leaf e.level)
    || (eqb (kind_of d.leaf d.level) (kind_of e.leaf e.level) && ltb d.base e.base)))

-- the table of one slot that insert makes of an entry and "output word 0", and that the entry is left in it
abbrev pub alone : Entry → List ℕ
alone e = insert_table e 0 (0 ∷ 0 ∷ 0 ∷ [])

abbrev pub Survives : State → List ℕ → Entry → Type 0
Survives st steps e = run_table st steps (alone e) ≡ alone e

-- an entry that the target asks for
pub record Aimed (t : Target) (e : Entry) : Type 0 where
  pub sized : Sized e
  pub word : e.base < 2 ^ 64
  pub legal : is_legal e ≡ true
  pub aimed : aims t e ≡ true

-- "the surviving entry" that answer 12 names
pub record Survivor (st : State) (t : Target) (steps : List ℕ) (e : Entry) : Type 0 where
  pub asked : Aimed t e
  pub survives : Survives st steps e
  -- "by lowest processor, ..."
  pub lowest : (d : Entry) → Aimed t d → Survives st steps d → is_before d e ≡ false
  -- "XS 1, not global"
  pub xs : e.xs ≡ true
  pub global : e.global ≡ false
  -- "the target's ASID or the lowest that no step's used ASID field holds (0 without ASIDs)"
  pub own_asid : (n : ℕ) → t.asid ≡ Some n → e.asid ≡ n
  pub asid_free : t.asid ≡ None → has_asids t.company ≡ true → some (is_held st e.asid) steps ≡ false
  pub lowest_asid : t.asid ≡ None → (n : ℕ) → n < e.asid → some (is_held st n) steps ≡ true
  pub no_asid : has_asids t.company ≡ false → e.asid ≡ 0

-- shape, state and target are sound
pub record Sound (st : State) (t : Target) (steps : List ℕ) : Type 0 where
  pub list : is_list steps ≡ true
  pub state : bad_state st ≡ false
  pub target : is_target st t ≡ true

-- "Judge: 13, 2, 8, 10 over all steps, 11 over all steps, 12.", "first such step", and accepted as demand 3 has it
abbrev pub Verdict : State → Target → List ℕ → Result ⊤ Objection → Type 0
Verdict st t steps (Err objection.BadShape) = is_list steps ≡ false
Verdict st t steps (Err objection.BadState) = (is_list steps ≡ true) × (bad_state st ≡ true)
Verdict st t steps (Err objection.BadTarget) = (is_list steps ≡ true) × (bad_state st ≡ false) × (is_target st t ≡ false)
Verdict st t steps (Err (objection.Refused k)) = Sound st t steps × (some (refuses st) steps ≡ true) × (k ≡ first (refuses st) steps)
Verdict st t steps (Err (objection.Outside k)) =
    Sound st t steps
    × (some (refuses st) steps ≡ false)
    × (some (is_outside st t.company) steps ≡ true)
    × (k ≡ first (is_outside st t.company) steps)
Verdict st t steps (Err (objection.Gap e)) =
    Sound st t steps × (some (refuses st) steps ≡ false) × (some (is_outside st t.company) steps ≡ false) × Survivor st t steps e
Verdict st t steps (Ok done) = Sound st t steps × Does st t steps
