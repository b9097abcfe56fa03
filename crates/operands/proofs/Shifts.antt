-- Shifts of numbers below 2^64.
use Rattle.std.proofs.Common.{ℕ, ◌+◌, ◌*◌, ◌-◌, ◌%◌, ◌^◌, ◌≤◌, ◌<◌, ◌≡◌, ap, ◌∙◌, arith}
use Rattle.std.proofs.lemmas.Nat.{mod-mul-add, pow_pos}
use Rattle.std.proofs.Math.Pow.{pow_mono}

-- the 64 ones, shifted: those above place m stay
pub ones_above : (m : ℕ) → m < 64 → (2 ^ 64 - 1) * 2 ^ m % 2 ^ 64 ≡ 2 ^ 64 - 2 ^ m
ones_above m h =
    let some : 0 < 2 ^ m = pow_pos m in
    let below : m ≤ 63 = omega arith in
    let most : 2 ^ m ≤ 2 ^ 63 = pow_mono below in
    let parts : (2 ^ 64 - 1) * 2 ^ m ≡ (2 ^ m - 1) * 2 ^ 64 + (2 ^ 64 - 2 ^ m) = omega arith in
    let rest : 2 ^ 64 - 2 ^ m < 2 ^ 64 = omega arith in
    ap (λ (n : ℕ). n % 2 ^ 64) parts ∙ mod-mul-add (2 ^ m - 1) (2 ^ 64) (2 ^ 64 - 2 ^ m) rest
