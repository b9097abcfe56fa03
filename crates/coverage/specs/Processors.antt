-- The processors that a search looks at: of those that every step reaches, one stands for all.
use Rattle.std.specs.Prelude.{ℕ, ◌<◌, Bool, true, false, not, ◌&&◌, ◌≡◌, ltb, Option, Some, None}
use Rattle.laws.specs.Every.{any}
use Rattle.laws.specs.Mask.{bit_of, mask_from}

-- the target names it, and every step reaches it
abbrev pub is_shared : ℕ → ℕ → ℕ → Bool
is_shared processors common p = bit_of processors p && bit_of common p

-- the target names it, and it is not one that every step reaches and that comes after another such
abbrev pub is_searched : ℕ → ℕ → ℕ → Bool
is_searched processors common p = bit_of processors p && not (bit_of common p && any (is_shared processors common) p)

unfoldable pub searched_of : ℕ → ℕ → ℕ
searched_of processors common = mask_from (is_searched processors common) 0 8

-- a processor comes after that one, where there is one
abbrev pub is_after : ℕ → Option ℕ → Bool
is_after p None = false
is_after p (Some r) = ltb r p

-- the lowest that the target names and every step reaches, if there is one
abbrev pub Leads : ℕ → ℕ → Option ℕ → Type 0
Leads processors common None = (p : ℕ) → p < 8 → is_shared processors common p ≡ false
Leads processors common (Some r) = ((p : ℕ) → p < r → is_shared processors common p ≡ false) × (r < 8) × (is_shared processors common r ≡ true)
