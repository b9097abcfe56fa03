-- The ASID of the entry that a search looks for.
use Rattle.std.specs.Prelude.{ℕ, ◌<◌, ◌≤◌, true, false, List, ◌≡◌, Some, None}
use Rattle.laws.specs.Mask.{bit_of}
use Rattle.machine.specs.Entry.{has_asids}
use Rattle.machine.specs.declared.judge.Target.{Target}
use Rattle.machine.specs.declared.work.Work.{Work}
use Rattle.steps.specs.Steps.{used_by}

-- the lowest number below 16 that is not in a set, or 16
pub record LowestOut (used a : ℕ) : Type 0 where
  pub most : a ≤ 16
  pub lower : (b : ℕ) → b < a → bit_of used b ≡ true
  pub here : a < 16 → bit_of used a ≡ false

-- the lowest that no step uses
pub record Free (works : List Work) (n a : ℕ) : Type 0 where
  pub free : used_by works n a ≡ false
  pub lowest : (b : ℕ) → b < a → used_by works n b ≡ true

-- the target's, or one that is free, or 0 without ASIDs
pub record NamedWith (t : Target) (IsFree : ℕ → Type 0) (a : ℕ) : Type 0 where
  pub own : (n : ℕ) → t.asid ≡ Some n → a ≡ n
  pub free : t.asid ≡ None → has_asids t.company ≡ true → IsFree a
  pub none : t.asid ≡ None → has_asids t.company ≡ false → a ≡ 0

-- by the steps, and by the set of those below 16 that they use
abbrev pub Named : Target → List Work → ℕ → ℕ → Type 0
Named t works n = NamedWith t (Free works n)

abbrev pub NamedBy : Target → ℕ → ℕ → Type 0
NamedBy t used = NamedWith t (LowestOut used)
