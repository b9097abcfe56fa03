-- The definitions of slots by computation, with the test that the second number is 7; and parts of a number.
use Prim.Native.Nat.{ℕ}
use mathlib.Core.Bool.{Bool, true, false}
use mathlib.Core.List.{List, [], ◌∷◌}
use mathlib.Core.Path.{◌≡◌, refl}
use lib.Dec.{eqb}
use Rattle.laws.specs.Bits.{bits, down}
use Rattle.laws.specs.Slots.{slots, holds_at, count, first, some, cleared, emptied, put}

abbrev seven : ℕ → ℕ → ℕ → Bool
seven a b c = eqb b 7

abbrev list : List ℕ
list = 1 ∷ 2 ∷ 3 ∷ 4 ∷ 7 ∷ 5 ∷ 7 ∷ 6 ∷ 7 ∷ 8 ∷ 7 ∷ 9 ∷ []

pub sevens :
    (slots list ≡ 4)
    × (first seven list ≡ 1)
    × (count seven list ≡ 2)
    × (some seven list ≡ true)
    × (cleared seven list ≡ 1 ∷ 2 ∷ 3 ∷ 0 ∷ 0 ∷ 0 ∷ 7 ∷ 6 ∷ 7 ∷ 0 ∷ 0 ∷ 0 ∷ [])
    × (put 2 7 7 8 list ≡ 1 ∷ 2 ∷ 3 ∷ 4 ∷ 7 ∷ 5 ∷ 7 ∷ 7 ∷ 8 ∷ 8 ∷ 7 ∷ 9 ∷ [])
    × (holds_at seven list 0 ∷ holds_at seven list 1 ∷ holds_at seven list 2 ∷ holds_at seven list 3 ∷ [] ≡ false ∷ true ∷ false ∷ true ∷ [])
unfolding count first cleared
sevens = (refl, refl, refl, refl, refl, refl, refl)

-- where there is none, and where words are left over
pub none :
    (first seven [] ≡ 0)
    × (some seven [] ≡ false)
    × (first seven (7 ∷ 7 ∷ []) ≡ 0)
    × (some seven (7 ∷ 7 ∷ []) ≡ false)
    × (count seven (7 ∷ 7 ∷ []) ≡ 0)
    × (cleared seven (7 ∷ 7 ∷ []) ≡ 7 ∷ 7 ∷ [])
    × (first seven (1 ∷ 2 ∷ 3 ∷ 7 ∷ []) ≡ 1)
    × (some seven (1 ∷ 2 ∷ 3 ∷ 7 ∷ []) ≡ false)
    × (count seven (7 ∷ []) ≡ 0)
    × (cleared seven (1 ∷ 7 ∷ 3 ∷ 7 ∷ []) ≡ 0 ∷ 0 ∷ 0 ∷ 7 ∷ [])
unfolding count first cleared
none = (refl, refl, refl, refl, refl, refl, refl, refl, refl, refl)

-- slots emptied: one that held 7 and is zeros, one that did not hold it, one that is not all zeros, and one that stays
pub zeros :
    (emptied seven list (0 ∷ 0 ∷ 0 ∷ 0 ∷ 0 ∷ 0 ∷ 0 ∷ 0 ∷ 0 ∷ 0 ∷ 0 ∷ 1 ∷ []) ≡ 1)
    × (emptied seven list list ≡ 0)
    × (emptied seven list (cleared seven list) ≡ 2)
    × (emptied seven list (0 ∷ 0 ∷ 0 ∷ 0 ∷ 0 ∷ 0 ∷ []) ≡ 1)
    × (emptied seven (7 ∷ 7 ∷ []) (0 ∷ 0 ∷ 0 ∷ []) ≡ 0)
    × (emptied seven (4 ∷ 7 ∷ 5 ∷ []) (0 ∷ 0 ∷ []) ≡ 0)
    × (emptied seven (4 ∷ 7 ∷ 5 ∷ []) (1 ∷ 0 ∷ 0 ∷ []) ≡ 0)
    × (emptied seven (4 ∷ 7 ∷ 5 ∷ []) (0 ∷ 1 ∷ 0 ∷ []) ≡ 0)
unfolding cleared emptied
zeros = (refl, refl, refl, refl, refl, refl, refl, refl)

-- bits 11:8, 7:0 and 63:60, and a number without its low 12 bits
pub parts : (bits 11 8 0xABCDE ≡ 0xC) × (bits 7 0 0xABCDE ≡ 0xDE) × (bits 63 60 0xF123456789ABCDE7 ≡ 0xF) × (down 12 0xABCDE ≡ 0xAB000)
parts = (refl, refl, refl, refl)
