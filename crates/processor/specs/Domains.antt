-- Domains that are one, and domains as one number.
use Rattle.std.specs.Prelude.{ℕ, ◌+◌, ◌*◌, Bool, List, [], ◌∷◌, eqb, get_or}

-- processor p is in the domain of the first
abbrev pub is_first : List ℕ → ℕ → Bool
is_first domains p = eqb (get_or domains p 0) (get_or domains 0 0)

-- bytes as a number, the first lowest
unfoldable pub number_of : List ℕ → ℕ
number_of [] = 0
number_of (b ∷ bs) = b + 256 * number_of bs
