-- The bits of a mask are the set it was made of.
use Prim.Native.Nat.{ℕ, zero, suc, ◌+◌, ◌*◌, ◌-◌, ◌/◌, ◌%◌, ◌^◌, ◌<◌, ◌≤◌}
use mathlib.Core.Bool.{Bool, true, false, cond}
use mathlib.Core.Path.{◌≡◌, refl, sym, ap, ◌∙◌}
use native.Mathlib.Nat.{pow-succ', div-div-eq-div-mul, div-eq_of_lt}
use native.Mathlib.Omega.{arith}
use lib.Dec.{eqb}
use lib.Pow.{pow_mono, pow_pos}
use Rattle.laws.specs.Mask.{bit_of, mask_from}

-- a mask of n numbers fits n bits
pub mask_below : (f : ℕ → Bool) (p n : ℕ) → mask_from f p n < 2 ^ n
unfolding mask_from
mask_below f p zero = omega arith
mask_below f p (suc n) = go (f p) (mask_from f (suc p) n) (mask_below f (suc p) n)
  where
    go : (b : Bool) (m : ℕ) → m < 2 ^ n → cond b 1 0 + 2 * m < 2 ^ suc n
    go true m h = omega (arith, pow-succ' 2 n)
    go false m h = omega (arith, pow-succ' 2 n)

-- the lowest bit, and the bits above it
bit-first : (b : Bool) (m : ℕ) → bit_of (cond b 1 0 + 2 * m) 0 ≡ b
bit-first true m = let e : (1 + 2 * m) / 1 % 2 ≡ 1 = omega arith in simp e
bit-first false m = let e : (0 + 2 * m) / 1 % 2 ≡ 0 = omega arith in simp e

bit-next : (b : Bool) (m k : ℕ) → bit_of (cond b 1 0 + 2 * m) (suc k) ≡ bit_of m k
bit-next b m k =
    let x : ℕ = cond b 1 0 + 2 * m in
    ap (λ (y : ℕ). eqb (y % 2) 1)
    (ap (λ (y : ℕ). x / y) (pow-succ' 2 k) ∙ sym (div-div-eq-div-mul x 2 (2 ^ k)) ∙ ap (λ (y : ℕ). y / 2 ^ k) (half b))
  where
    half : (b : Bool) → (cond b 1 0 + 2 * m) / 2 ≡ m
    half true = omega arith
    half false = omega arith

-- a bit of the mask is its number's
pub mask-bit : (f : ℕ → Bool) (p n k : ℕ) → k < n → bit_of (mask_from f p n) k ≡ f (p + k)
unfolding mask_from
mask-bit f p zero k h = absurd (omega arith)
mask-bit f p (suc n) zero h = let e : p ≡ p + 0 = omega arith in bit-first (f p) (mask_from f (suc p) n) ∙ ap f e
mask-bit f p (suc n) (suc k) h =
    let e : suc p + k ≡ p + suc k = omega arith in
    bit-next (f p) (mask_from f (suc p) n) k ∙ mask-bit f (suc p) n k (omega arith) ∙ ap f e

-- and none stands above its last
pub mask-above : (f : ℕ → Bool) (p n k : ℕ) → n ≤ k → bit_of (mask_from f p n) k ≡ false
mask-above f p n k h =
    let l : mask_from f p n < 2 ^ k = omega (arith, mask_below f p n, pow_mono {i = n} {j = k} h) in
    let e : mask_from f p n / 2 ^ k ≡ 0 = div-eq_of_lt l in
    ap (λ (y : ℕ). eqb (y % 2) 1) e

-- sets that agree have one mask
pub mask-same : (f g : ℕ → Bool) (p n : ℕ) → ((k : ℕ) → f k ≡ g k) → mask_from f p n ≡ mask_from g p n
unfolding mask_from
mask-same f g p zero h = refl
mask-same f g p (suc n) h = simp (h p, mask-same f g (suc p) n h)

-- all of n numbers in a row are n ones
pub mask-all : (f : ℕ → Bool) (p n : ℕ) → ((k : ℕ) → p ≤ k → k < p + n → f k ≡ true) → mask_from f p n ≡ 2 ^ n - 1
unfolding mask_from
mask-all f p zero h = refl
mask-all f p (suc n) h =
    let first : ◌≡◌ {A = ℕ} (cond (f p) 1 0) 1 = ap (λ (b : Bool). cond b 1 0) (h p (omega arith) (omega arith)) in
    let rest : mask_from f (suc p) n ≡ 2 ^ n - 1 =
    mask-all f (suc p) n (λ (k : ℕ) (l : suc p ≤ k) (u : k < suc p + n). h k (omega arith) (omega arith)) in
    omega (arith, first, rest, pow-succ' 2 n, pow_pos n)

-- one number more, before the others
pub mask-more : (f : ℕ → Bool) (p n m : ℕ) (b : Bool) → b ≡ f p → m ≡ mask_from f (suc p) n → cond b 1 0 + 2 * m ≡ mask_from f p (suc n)
unfolding mask_from
mask-more f p n m b h e = simp (h, e)

-- A loop that goes down from a top: at its start, at a turn and at its end.
pub mask-none : (f : ℕ → Bool) (top : ℕ) → 0 ≡ mask_from f top (top - top)
unfolding mask_from
mask-none f top = let e : top - top ≡ 0 = omega arith in rw e refl

pub mask-down : (f : ℕ → Bool) (p top m : ℕ) (b : Bool) → 0 < p → p ≤ top → b ≡ f (p - 1) → m ≡ mask_from f p (top - p) →
    cond b 1 0 + 2 * m ≡ mask_from f (p - 1) (top - (p - 1))
mask-down f p top m b pos h e i =
    let up : p ≡ suc (p - 1) = omega arith in
    let n : suc (top - p) ≡ top - (p - 1) = omega arith in
    mask-more f (p - 1) (top - p) m b e (i ∙ ap (λ (q : ℕ). mask_from f q (top - p)) up) ∙ ap (mask_from f (p - 1)) n

pub mask_end : (f : ℕ → Bool) (p top m : ℕ) → m ≡ mask_from f p (top - p) → p ≤ 0 → m ≡ mask_from f 0 top
mask_end f p top m e h =
    let z : p ≡ 0 = omega arith in
    let t : top - p ≡ top = omega arith in
    e ∙ ap (mask_from f p) t ∙ ap (λ (q : ℕ). mask_from f q top) z

-- a mask of at most k numbers fits k bits
pub mask_fits : (f : ℕ → Bool) (p n k m : ℕ) → m ≡ mask_from f p n → n ≤ k → m < 2 ^ k
mask_fits f p n k m e h = omega (arith, e, mask_below f p n, pow_mono {i = n} {j = k} h)
