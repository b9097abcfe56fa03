-- A word with a CRm that no row has is no operation.
use Prim.Native.Nat.{ℕ}
use mathlib.Core.Bool.{false}
use mathlib.Core.Path.{◌≡◌}
use native.Mathlib.Omega.{arith}
use Rattle.std.specs.Prelude.{None}
use Rattle.machine.specs.Word.{op1_in, crm_in, op2_in, row_of, read_of}
use Rattle.words.specs.Crm.{has_crm}

no_row : (o m n : ℕ) → has_crm m ≡ false → row_of o m n ≡ None
unfolding has_crm row_of
no_row o m n h = grind arith

pub no-crm : (w : ℕ) → has_crm (crm_in w) ≡ false → read_of w ≡ None
unfolding read_of
no-crm w h = let none = no_row (op1_in w) (crm_in w) (op2_in w) h in grind (arith, none)
