-- What the library says of an answer, in the book's words.
use Rattle.std.specs.Prelude.{◌≡◌, ℕ, ◌<◌, ◌≤◌, Bool, true, false, cond, not, List, is_err, Option, Some, None, Result, Ok, Err}
use Rattle.std.specs.Result.{result_unwrap_or}
use Rattle.std.proofs.Common.{refl, sym, ap, subst, unwrap_or}
use borrow.Author.Tests.{ltb-true, ltb-false}
use Rattle.laws.specs.Slots.{slots, first, some, first_slot}
use Rattle.machine.specs.Answer.{value_of}
use Rattle.machine.specs.Execute.{is_work}
use Rattle.machine.specs.declared.refusal.Refusal.{Refusal}
use Rattle.machine.specs.declared.work.Work.{Work}

pub err-refused : (r : Result Work Refusal) → is_err r ≡ not (is_work r)
err-refused (Ok w) = refl
err-refused (Err r) = refl

pub unwrap-value : (r : Result ℕ Refusal) → result_unwrap_or r 0 ≡ value_of r
unwrap-value (Ok n) = refl
unwrap-value (Err r) = refl

-- the first slot that a test holds at, told as an Option
pub first_slot-some : (p : ℕ → ℕ → ℕ → Bool) (l : List ℕ) (k : ℕ) → first_slot p l ≡ Some k → (k ≡ first p l) × (k < slots l)
first_slot-some p l k h = go (some p l) refl h
  where
    go : (b : Bool) → some p l ≡ b → cond b (Some (first p l)) None ≡ Some k → (k ≡ first p l) × (k < slots l)
    go true e h =
        let f : first p l ≡ k = ap (λ (o : Option ℕ). unwrap_or o 0) h in
        (sym f, subst (λ (n : ℕ). n < slots l) f (ltb-true (first p l) (slots l) e))
    go false e h = cc h

pub first_slot-none : (p : ℕ → ℕ → ℕ → Bool) (l : List ℕ) → first_slot p l ≡ None → slots l ≤ first p l
first_slot-none p l h = go (some p l) refl h
  where
    go : (b : Bool) → some p l ≡ b → cond b (Some (first p l)) None ≡ None → slots l ≤ first p l
    go true e h = cc h
    go false e h = ltb-false (first p l) (slots l) e
