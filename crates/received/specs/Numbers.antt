-- Flags, regimes and levels, as the numbers that C gives for them.
use Rattle.std.specs.Prelude.{ℕ, Bool, cond, eqb, ltb, ℤ, pos, ◌-ℤ◌, Option, Some, None}
use Rattle.machine.specs.Span.{is_level}

-- a flag is 0 or 1
abbrev pub is_flag : ℕ → Bool
is_flag x = ltb x 2

abbrev pub flag_in : ℕ → Bool
flag_in x = eqb x 1

-- a regime is 0 EL1&0, 1 EL2&0, 2 EL2, 3 EL3, as in a tag; a security state 0 Secure, 1 Non-secure, 2 Realm, 3 Root
abbrev pub is_regime : ℕ → Bool
is_regime x = ltb x 4

-- "Levels run from -1 to 3 as signed numbers": the word of -1 is 2^64 - 1; any other word stands for 4, which is no level
unfoldable pub level_in : ℕ → ℤ
level_in x =
    cond (eqb x 0) (pos 0)
    (cond (eqb x 1) (pos 1)
    (cond (eqb x 2) (pos 2)
    (cond (eqb x 3) (pos 3)
    (cond (eqb x 18446744073709551615) (pos 0 -ℤ pos 1) (pos 4)))))

-- the level, where it is one
abbrev pub level_from : ℕ → Option ℤ
level_from x = cond (is_level (level_in x)) (Some (level_in x)) None
