-- The processors that an operation reaches, number by number.
use Prim.Native.Nat.{ℕ, ◌+◌, ◌<◌, ◌≤◌}
use mathlib.Core.Bool.{false}
use mathlib.Core.Path.{◌≡◌, ap, ◌∙◌}
use native.Mathlib.Omega.{arith}
use Rattle.laws.proofs.Mask.{mask-bit, mask-above}
use Rattle.laws.specs.Mask.{bit_of}
use Rattle.machine.specs.Access.{reaches, reached_of}
use Rattle.machine.specs.declared.operation.Operation.{Operation}
use Rattle.machine.specs.declared.processor.State.{State}

-- a processor's bit says whether it is reached
pub reached-bit : (st : State) (op : Operation) (p : ℕ) → p < 8 → bit_of (reached_of st op) p ≡ reaches st op p
unfolding reached_of
reached-bit st op p h = let e : 0 + p ≡ p = omega arith in mask-bit (reaches st op) 0 8 p h ∙ ap (reaches st op) e

pub reached-none : (st : State) (op : Operation) (p : ℕ) → 8 ≤ p → bit_of (reached_of st op) p ≡ false
unfolding reached_of
reached-none st op p h = mask-above (reaches st op) 0 8 p h
