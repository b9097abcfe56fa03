-- A list of numbers as slots of three, and a test of a slot's three numbers.
use Rattle.std.specs.Prelude.{ℕ, suc, ◌+◌, ◌*◌, ◌/◌, Bool, cond, ◌&&◌, List, [], ◌∷◌, eqb, ltb, length, get_or, set, Option, Some, None}

abbrev pub slots : List ℕ → ℕ
slots l = length l / 3

-- the test at slot k
abbrev pub holds_at : (ℕ → ℕ → ℕ → Bool) → List ℕ → ℕ → Bool
holds_at p l k = p (get_or l (3 * k) 0) (get_or l (3 * k + 1) 0) (get_or l (3 * k + 2) 0)

-- how many slots the test holds at
unfoldable pub count : (ℕ → ℕ → ℕ → Bool) → List ℕ → ℕ
count p [] = 0
count p (a ∷ []) = 0
count p (a ∷ b ∷ []) = 0
count p (a ∷ b ∷ c ∷ l) = cond (p a b c) 1 0 + count p l

-- the place of the first such slot, or the number of slots
unfoldable pub first : (ℕ → ℕ → ℕ → Bool) → List ℕ → ℕ
first p [] = 0
first p (a ∷ []) = 0
first p (a ∷ b ∷ []) = 0
first p (a ∷ b ∷ c ∷ l) = cond (p a b c) 0 (suc (first p l))

-- there is one
abbrev pub some : (ℕ → ℕ → ℕ → Bool) → List ℕ → Bool
some p l = ltb (first p l) (slots l)

-- its place, if there is one
abbrev pub first_slot : (ℕ → ℕ → ℕ → Bool) → List ℕ → Option ℕ
first_slot p l = cond (some p l) (Some (first p l)) None

-- the list with three zeros for each such slot
unfoldable pub cleared : (ℕ → ℕ → ℕ → Bool) → List ℕ → List ℕ
cleared p [] = []
cleared p (a ∷ []) = a ∷ []
cleared p (a ∷ b ∷ []) = a ∷ b ∷ []
cleared p (a ∷ b ∷ c ∷ l) = cond (p a b c) (0 ∷ 0 ∷ 0 ∷ cleared p l) (a ∷ b ∷ c ∷ cleared p l)

-- how many slots that the test held at in one list are three zeros in another
unfoldable pub emptied : (ℕ → ℕ → ℕ → Bool) → List ℕ → List ℕ → ℕ
emptied p [] m = 0
emptied p (a ∷ []) m = 0
emptied p (a ∷ b ∷ []) m = 0
emptied p (a ∷ b ∷ c ∷ l) [] = 0
emptied p (a ∷ b ∷ c ∷ l) (x ∷ []) = 0
emptied p (a ∷ b ∷ c ∷ l) (x ∷ y ∷ []) = 0
emptied p (a ∷ b ∷ c ∷ l) (x ∷ y ∷ z ∷ m) = cond (p a b c && eqb x 0 && eqb y 0 && eqb z 0) 1 0 + emptied p l m

-- the list with three numbers for those of slot k
abbrev pub put : ℕ → ℕ → ℕ → ℕ → List ℕ → List ℕ
put k a b c l = set (set (set l (3 * k) a) (3 * k + 1) b) (3 * k + 2) c
