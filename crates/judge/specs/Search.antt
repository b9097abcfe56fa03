-- What the search says: the places that a target asks for, one after the other, and the first with an entry that no step drops.
use Rattle.std.specs.Prelude.{ℕ, ◌*◌, ◌/◌, ◌^◌, ◌<◌, ◌≤◌, true, false, List, ◌⊎◌, ◌≡◌, ⊤, Option, Some, None, Result, Ok, Err}
use Rattle.coverage.specs.Places.{is_asked, exponent_in, placed}
use Rattle.laws.specs.Mask.{bit_of}
use Rattle.machine.specs.Entry.{is_legal}
use Rattle.machine.specs.Judge.{leaf_at, level_at}
use Rattle.machine.specs.Table.{same_company}
use Rattle.machine.specs.declared.entry.Entry.{Entry}
use Rattle.machine.specs.declared.judge.Objection.{Objection}
use Rattle.machine.specs.declared.judge.Objection.TheVariants.{Gap}
use Rattle.machine.specs.declared.judge.Target.{Target}
use Rattle.machine.specs.declared.work.Work.{Work}
use Rattle.steps.specs.Steps.{work_at, taken_by}

-- the entry at a place, by the numbers of the place
unfoldable pub entry_in : Target → ℕ → ℕ → ℕ → ℕ → Entry
entry_in t asid p j q = placed t asid p (leaf_at j) (level_at j) (q * 2 ^ exponent_in t (level_at j))

-- the target asks for the place
pub record Candidate (t : Target) (p j q : ℕ) : Type 0 where
  pub processor : p < 8
  pub named : bit_of t.processors p ≡ true
  pub kind : j < 7
  pub asked : is_asked t (leaf_at j) (level_at j) ≡ true
  pub low : t.first / 2 ^ exponent_in t (level_at j) ≤ q
  pub high : q ≤ t.last / 2 ^ exponent_in t (level_at j)

-- one place is before another
abbrev pub Earlier : ℕ → ℕ → ℕ → ℕ → ℕ → ℕ → Type 0
Earlier x i y p j q = (x < p) ⊎ ((x ≡ p) × ((i < j) ⊎ ((i ≡ j) × (y < q))))

-- the first place with an entry that no step drops
pub record First (t : Target) (works : List Work) (n asid : ℕ) (e : Entry) : Type 0 where
  pub processor : ℕ
  pub kind : ℕ
  pub number : ℕ
  pub candidate : Candidate t processor kind number
  pub entry : entry_in t asid processor kind number ≡ e
  pub stays : taken_by works n e ≡ false
  pub passed : (x i y : ℕ) → Candidate t x i y → Earlier x i y processor kind number → taken_by works n (entry_in t asid x i y) ≡ true

-- what the search says
abbrev pub Searched : Target → List Work → ℕ → ℕ → Option Entry → Type 0
Searched t works n asid None = (x i y : ℕ) → Candidate t x i y → taken_by works n (entry_in t asid x i y) ≡ true
Searched t works n asid (Some e) = First t works n asid e

-- and what judge answers by it
abbrev pub verdict_by : Option Entry → Result ⊤ Objection
verdict_by None = Ok tt
verdict_by (Some e) = Err (Gap e)

-- what the search may count on: each step is of the target's company, and every candidate's entry is legal
pub record Searches (t : Target) (works : List Work) (n asid : ℕ) : Type 0 where
  pub most : n ≤ 16
  pub granule : t.granule ≤ 3
  pub last : t.last < 2 ^ 64
  pub owned : (i : ℕ) → i < n → same_company t.company (work_at works i).company ≡ true
  pub legal : (p j q : ℕ) → Candidate t p j q → is_legal (entry_in t asid p j q) ≡ true

-- the target on other processors
abbrev pub on_processors : Target → ℕ → Target
on_processors t processors = record t { processors = processors }
