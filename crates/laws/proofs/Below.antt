-- What holds at each number below a bound, as a loop over numbers gathers it: at its start, and at a turn.
use Prim.Native.Nat.{ℕ, ◌+◌, ◌<◌}
use mathlib.Core.Path.{◌≡◌, sym, subst}
use native.Mathlib.Decide.{ℕ_discrete}
use native.Mathlib.Omega.{arith}

abbrev pub Below : (ℕ → Type 0) → ℕ → Type 0
Below P n = (x : ℕ) → x < n → P x

pub below-start : (P : ℕ → Type 0) → Below P 0
below-start P x l = absurd (let z : ⊥ = omega arith in z)

pub below_more : (P : ℕ → Type 0) (n : ℕ) → Below P n → P n → Below P (n + 1)
below_more P n h e x l = go (ℕ_discrete x n)
  where
    go : Dec (x ≡ n) → P x
    go (yes p) = subst P (sym p) e
    go (no d) = h x (omega arith)
