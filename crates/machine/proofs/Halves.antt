-- A span that meets addresses of one half of the address space starts in that half.
use Prim.Native.Nat.{ℕ, ◌*◌, ◌-◌, ◌/◌, ◌%◌, ◌^◌, ◌<◌, ◌≤◌}
use mathlib.Core.Bool.{Bool, true, false, cond, not, ◌||◌}
use mathlib.Core.Path.{◌≡◌, sym, ap, ◌∙◌}
use native.Mathlib.Omega.{arith}
use lib.Dec.{eqb, ltb}
use borrow.Author.Tests.{eqb-true, ltb-true, lt-ltb}
use Rattle.laws.proofs.Aligned.{between}
use Rattle.laws.specs.Bits.{bits}
use Rattle.machine.specs.Entry.{has_asids, in_reach}
use Rattle.machine.specs.declared.entry.Company.{Company}

-- the span of number q, of 2^54 bytes at most, between two addresses
pub reach-between : (c : Company) (k q a b : ℕ) → k ≤ 54 → a / 2 ^ k ≤ q → q * 2 ^ k ≤ b → a < 2 ^ 64 → b < 2 ^ 64 → in_reach c a ≡ true → in_reach c b ≡ true →
    (not (has_asids c) || eqb (bits 63 55 a) (bits 63 55 b)) ≡ true → in_reach c (q * 2 ^ k) ≡ true
unfolding in_reach
reach-between c k q a b most low below fa fb = go (has_asids c)
  where
    top : (x : ℕ) → x < 2 ^ 64 → bits 63 55 x ≡ x / 2 ^ 55
    top x l = omega arith

    go : (h : Bool) → cond h (eqb (bits 63 55 a) 0 || eqb (bits 63 55 a) (2 ^ 9 - 1)) (ltb a (2 ^ 56)) ≡ true →
        cond h (eqb (bits 63 55 b) 0 || eqb (bits 63 55 b) (2 ^ 9 - 1)) (ltb b (2 ^ 56)) ≡ true → (not h || eqb (bits 63 55 a) (bits 63 55 b)) ≡ true →
        cond h (eqb (bits 63 55 (q * 2 ^ k)) 0 || eqb (bits 63 55 (q * 2 ^ k)) (2 ^ 9 - 1)) (ltb (q * 2 ^ k) (2 ^ 56)) ≡ true
    go true ha hb e =
        let one : a / 2 ^ 55 ≡ b / 2 ^ 55 = sym (top a fa) ∙ eqb-true (bits 63 55 a) (bits 63 55 b) e ∙ top b fb in
        let same : q * 2 ^ k / 2 ^ 55 ≡ a / 2 ^ 55 = between 55 k q a b (omega arith) low below one in
        ap (λ (n : ℕ). eqb (n % 2 ^ 9) 0 || eqb (n % 2 ^ 9) (2 ^ 9 - 1)) same ∙ ha
    go false ha hb e = lt-ltb (q * 2 ^ k) (2 ^ 56) (omega (arith, below, ltb-true b (2 ^ 56) hb))
