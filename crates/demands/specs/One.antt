-- "For each public call and every input, refusals too, the contract leaves one possible answer and one possible content of lent memory".
use Rattle.std.specs.Prelude.{◌≡◌}

-- there is an answer that keeps the promise, and no other
pub record OneAnswer {A : Type 0} (promise : A → Type 0) : Type 0 where
  pub answer : A
  pub kept : promise answer
  pub only : (r : A) → promise r → r ≡ answer

-- and with the lent memory: an answer and a content that keep the promise, and no others
pub record One {A B : Type 0} (promise : A → B → Type 0) : Type 0 where
  pub answer : A
  pub memory : B
  pub kept : promise answer memory
  pub only : (r : A) (m : B) → promise r m → (r ≡ answer) × (m ≡ memory)
