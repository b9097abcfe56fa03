-- The numbers that CRm has in some row.
use Rattle.std.specs.Prelude.{ℕ, Bool, ◌||◌, eqb}

unfoldable pub has_crm : ℕ → Bool
has_crm m = eqb m 0 || eqb m 2 || eqb m 4 || eqb m 5 || eqb m 6
