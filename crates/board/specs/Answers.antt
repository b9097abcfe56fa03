-- What each function of the C interface promises: that it answers as its call does.
use Rattle.std.specs.Prelude.{ℕ, List, [], ◌∷◌, ◌≡◌}
use Rattle.listing.specs.declared.code.Listed.{Listed}

-- there is an answer that keeps the call's promise, and a number and words are its number and its words
pub record Answers {A : Type 0} (number : A → ℕ) (words : A → List ℕ) (promise : A → Type 0) (r : ℕ) (out : List ℕ) : Type 0 where
  pub answer : A
  pub kept : promise answer
  pub numbered : r ≡ number answer
  pub told : out ≡ words answer

-- a listing and a tail line are always done; how much of the code was used, and how many bytes were written
abbrev pub done : {A : Type 0} → A → ℕ
done a = 0

abbrev pub listed_words : Listed → List ℕ
listed_words l = l.used ∷ l.written ∷ []

abbrev pub tailed_words : ℕ → List ℕ
tailed_words n = n ∷ []
