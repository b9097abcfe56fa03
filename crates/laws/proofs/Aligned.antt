-- Multiples of 2^k, and the spans of 2^k numbers that start at them, once for every k.
use Prim.Native.Nat.{ℕ, ◌+◌, ◌*◌, ◌-◌, ◌/◌, ◌%◌, ◌^◌, ◌<◌, ◌≤◌}
use mathlib.Core.Path.{◌≡◌, ap, sym, ◌∙◌}
use native.Mathlib.Nat.{add-mul, one-mul, mul_assoc, mul-le-mul_right, lt_of_mul-lt-mul_right, div-eq_of_lt-le, le-div_iff_mul-le}
use native.Mathlib.Omega.{arith}
use lib.Pow.{pow-add, pow_pos, split}

-- a multiple of 2^k is its quotient times 2^k
pub whole : (b k : ℕ) → b % 2 ^ k ≡ 0 → b ≡ b / 2 ^ k * 2 ^ k
whole b k e = omega (arith, split b k)

-- two multiples of m that differ do so by m at least
pub apart : (m p q : ℕ) → p * m < q * m → p * m + m ≤ q * m
apart m p q h =
    let l : p + 1 ≤ q = omega (arith, lt_of_mul-lt-mul_right m h) in
    omega (arith, mul-le-mul_right m l, add-mul p 1 m, one-mul m)

-- a span of numbers below 2^64 ends at 2^64 at most
pub ends : (b k : ℕ) → k ≤ 64 → b < 2 ^ 64 → b % 2 ^ k ≡ 0 → b + 2 ^ k ≤ 2 ^ 64
ends b k h l e =
    let n : 64 ≡ 64 - k + k = omega arith in
    let top : 2 ^ 64 ≡ 2 ^ (64 - k) * 2 ^ k = ap (λ (m : ℕ). 2 ^ m) n ∙ pow-add 2 (64 - k) k in
    let below : b / 2 ^ k * 2 ^ k < 2 ^ (64 - k) * 2 ^ k = omega (arith, whole b k e) in
    omega (arith, whole b k e, apart (2 ^ k) (b / 2 ^ k) (2 ^ (64 - k)) below)

-- the span that a number is in starts at the number with its k lowest bits zero
pub inside : (b a k : ℕ) → b % 2 ^ k ≡ 0 → b ≤ a → a < b + 2 ^ k → a / 2 ^ k * 2 ^ k ≡ b
inside b a k e l u =
    let low : b / 2 ^ k * 2 ^ k ≤ a = omega (arith, whole b k e) in
    let high : a < (b / 2 ^ k + 1) * 2 ^ k = omega (arith, whole b k e, add-mul (b / 2 ^ k) 1 (2 ^ k), one-mul (2 ^ k)) in
    ap (λ (q : ℕ). q * 2 ^ k) (div-eq_of_lt-le (2 ^ k) low high) ∙ sym (whole b k e)

-- a multiple of 2^k that is not below the span that a is in, and not above b, is in the same span of 2^h as a and b, where these are in one
pub between : (h k q a b : ℕ) → k ≤ h → a / 2 ^ k ≤ q → q * 2 ^ k ≤ b → a / 2 ^ h ≡ b / 2 ^ h → q * 2 ^ k / 2 ^ h ≡ a / 2 ^ h
between h k q a b l low high same =
    let n : h ≡ h - k + k = omega arith in
    let size : 2 ^ h ≡ 2 ^ (h - k) * 2 ^ k = ap (λ (m : ℕ). 2 ^ m) n ∙ pow-add 2 (h - k) k in
    let x : ℕ = a / 2 ^ h in
    let y : ℕ = q * 2 ^ k / 2 ^ h in
    let up : x * 2 ^ h ≡ x * 2 ^ (h - k) * 2 ^ k = ap (λ (m : ℕ). x * m) size ∙ sym (mul_assoc x (2 ^ (h - k)) (2 ^ k)) in
    let part : x * 2 ^ (h - k) ≤ a / 2 ^ k = (le-div_iff_mul-le (pow_pos k)).1 (omega (arith, up, split a h)) in
    let whole : x * 2 ^ (h - k) * 2 ^ k ≤ q * 2 ^ k = mul-le-mul_right (2 ^ k) (omega (arith, part)) in
    let least : x ≤ y = (le-div_iff_mul-le (pow_pos h)).1 (omega (arith, up, whole)) in
    let most : y ≤ b / 2 ^ h = (le-div_iff_mul-le (pow_pos h)).1 (omega (arith, split (q * 2 ^ k) h)) in
    omega (arith, least, most)
