-- The words of no entry.
use Rattle.std.proofs.Common.{◌≡◌, ℕ, [], ◌∷◌, refl}
use Rattle.machine.specs.Answer.{no_entry}
use Rattle.machine.specs.Span.{is_level, height_of}
use Rattle.returned.specs.Words.{level_word, entry_words}

-- "Numbers not named are 0."
pub no_words : (behind : ℕ) → entry_words no_entry behind ≡ 0 ∷ 0 ∷ 0 ∷ 0 ∷ 0 ∷ 0 ∷ 0 ∷ 0 ∷ 0 ∷ 0 ∷ 0 ∷ 0 ∷ 0 ∷ 0 ∷ behind ∷ []
unfolding entry_words level_word is_level height_of
no_words behind = refl
