-- A test at every number below a bound: what it says, and a rule over every number proved by one test that is computed.
use Prim.Native.Nat.{ℕ, zero, suc, ◌+◌, ◌<◌, ◌≤◌}
use mathlib.Core.Bool.{Bool, true, false, ◌&&◌}
use mathlib.Core.Path.{◌≡◌, refl, subst, sym, ap, ◌∙◌}
use native.Mathlib.Decide.{ℕ_discrete}
use native.Mathlib.Nat.{not-suc-le-zero}
use native.Mathlib.Numerals.{add-one}
use native.Mathlib.Omega.{arith}
use lib.Dec.{ltb}
use borrow.Author.Tests.{ltb-true, ltb-false}
use Rattle.laws.proofs.Truth.{alike, and_0, and-1}
use Rattle.laws.specs.Every.{every}

-- where the test holds at every number below n, it holds at each of them
pub at : (f : ℕ → Bool) (n : ℕ) → every f n ≡ true → (k : ℕ) → k < n → f k ≡ true
unfolding every
at f zero h k l = absurd (not-suc-le-zero l)
at f (suc n) h k l = go (at f n (and-1 (f n) (every f n) h) k) (ℕ_discrete k n)
  where
    go : (k < n → f k ≡ true) → Dec (k ≡ n) → f k ≡ true
    go below (yes e) = subst (λ (m : ℕ). f m ≡ true) (sym e) (and_0 (f n) (every f n) h)
    go below (no d) = below (omega arith)

-- and where it holds at each, it holds at every one
pub each : (f : ℕ → Bool) (n : ℕ) → ((k : ℕ) → k < n → f k ≡ true) → every f n ≡ true
unfolding every
each f zero h = refl
each f (suc n) h = simp (h n (omega arith), each f n (λ (k : ℕ) (l : k < n). h k (omega arith)))

-- tests that agree at each number below n agree at every one
pub every-same : (f g : ℕ → Bool) (n : ℕ) → ((k : ℕ) → k < n → f k ≡ g k) → every f n ≡ every g n
unfolding every
every-same f g zero h = refl
every-same f g (suc n) h = simp (h n (omega arith), every-same f g n (λ (k : ℕ) (l : k < n). h k (omega arith)))

-- A loop that tests one number after the other: at its start, at a turn and at its end.
pub every-none : (f : ℕ → Bool) → true ≡ every f 0
unfolding every
every-none f = refl

pub every_more : (f : ℕ → Bool) (n : ℕ) (r b : Bool) → r ≡ f n → b ≡ every f n → (r && b) ≡ every f (n + 1)
unfolding every
every_more f n r b p q = simp (add-one, p, q)

pub every-end : (f : ℕ → Bool) (j n : ℕ) (b : Bool) → b ≡ every f j → j ≤ n → n ≤ j → b ≡ every f n
every-end f j n b p h k = let e : j ≡ n = omega arith in p ∙ ap (every f) e

-- a test of two numbers that holds of one and itself, and both ways or neither: each number against those below it is enough
pub every-half : (f : ℕ → ℕ → Bool) → ((p : ℕ) → f p p ≡ true) → ((p q : ℕ) → f p q ≡ true → f q p ≡ true) → (n : ℕ) →
    every (λ p. every (f p) p) n ≡ every (λ p. every (f p) n) n
every-half f own turned n = alike (every (λ p. every (f p) p) n) (every (λ p. every (f p) n) n) full part
  where
    below : every (λ p. every (f p) p) n ≡ true → (p q : ℕ) → p < n → q < p → f p q ≡ true
    below h p q hp hq = at (f p) p (at (λ (m : ℕ). every (f m) m) n h p hp) q hq

    either : every (λ p. every (f p) p) n ≡ true → (p q : ℕ) → p < n → q < n → Dec (p ≡ q) → (b : Bool) → ltb q p ≡ b → f p q ≡ true
    either h p q hp hq (yes e) b x = subst (λ (m : ℕ). f p m ≡ true) e (own p)
    either h p q hp hq (no d) true x = below h p q hp (ltb-true q p x)
    either h p q hp hq (no d) false x = turned q p (below h q p hq (omega (arith, ltb-false q p x)))

    full : every (λ p. every (f p) p) n ≡ true → every (λ p. every (f p) n) n ≡ true
    full h = each (λ (p : ℕ). every (f p) n) n (λ (p : ℕ) (hp : p < n). each (f p) n (λ (q : ℕ) (hq : q < n). either h p q hp hq (ℕ_discrete p q) (ltb q p) refl))

    part : every (λ p. every (f p) n) n ≡ true → every (λ p. every (f p) p) n ≡ true
    part h = each (λ (p : ℕ). every (f p) p) n (λ (p : ℕ) (hp : p < n). each (f p) p (λ (q : ℕ) (hq : q < p). at (f p) n (at (λ (m : ℕ). every (f m) n) n h p hp) q (omega arith)))
