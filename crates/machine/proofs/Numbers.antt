-- What the numbers of answers tell.
use Rattle.std.specs.Prelude.{◌≤◌, ◌≡◌}
use native.Mathlib.Omega.{arith}
use Rattle.machine.specs.Answer.{refusal_number}
use Rattle.machine.specs.declared.refusal.Refusal.{Refusal}
use Rattle.machine.specs.declared.refusal.Refusal.TheVariants as refusal

-- every refusal has a number of its own, which is not that of an answer that is done
pub refusal-some : (r : Refusal) → 1 ≤ refusal_number r
refusal-some refusal.Unknown = omega arith
refusal-some refusal.BadState = omega arith
refusal-some refusal.Undefined = omega arith
refusal-some (refusal.Trapped v) = omega arith
refusal-some refusal.NoEffect = omega arith
refusal-some refusal.NoGranule = omega arith
refusal-some refusal.Unpredictable = omega arith
refusal-some refusal.Illegal = omega arith
refusal-some refusal.NoSlot = omega arith
refusal-some refusal.Full = omega arith
refusal-some (refusal.StepRefused k) = omega arith
refusal-some refusal.BadShape = omega arith
refusal-some (refusal.NotFound n) = omega arith
refusal-some refusal.Empty = omega arith

pub not-done : (r : Refusal) → refusal_number r ≡ 0 → ⊥
not-done r h = let s = refusal-some r in omega (arith, s, h)
