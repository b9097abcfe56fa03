-- A word by its bits, in parts, and masks of them.
use Prim.Native.Nat.{ℕ, zero, suc, ◌+◌, ◌*◌, ◌-◌, ◌/◌, ◌%◌, ◌^◌, ◌<◌, ◌≤◌, min, max}
use mathlib.Core.Bool.{Bool, true, false, cond, ◌&&◌, ◌||◌}
use mathlib.Core.Path.{◌≡◌, refl, sym, ap, ap₂, ◌∙◌}
use native.Mathlib.Decide.{ℕ_discrete, dec_lt}
use native.Mathlib.Nat.{pow-succ', mul_assoc, mul_comm, mul-zero, mod-lt, mod-eq_of_lt, zero-min, div-eq_of_lt, div-one}
use native.Mathlib.Omega.{arith}
use lib.Bits.{bit_and, bit_or, and_step, and_shr, or_step, or_shr}
use lib.Dec.{eqb, ltb}
use lib.Pow.{mod-pow-add, shr-shr, shl-shr, pow-add, pow-lt, split, low}
use borrow.Author.Tests.{eq-eqb, ne_eqb, lt-ltb, le-ltb}
use Rattle.laws.proofs.Mask.{mask_below}
use Rattle.laws.specs.Mask.{bit_of, mask_from}

-- the bits from l on are the next m, and those above them
pub digit : (x l m : ℕ) → x / 2 ^ l ≡ x / 2 ^ (l + m) * 2 ^ m + x / 2 ^ l % 2 ^ m
digit x l m = sym (split (x / 2 ^ l) m) ∙ ap (λ (y : ℕ). y * 2 ^ m + x / 2 ^ l % 2 ^ m) (shr-shr x l m)

-- a mask of n and then m numbers
pub mask-cut : (f : ℕ → Bool) (p n m : ℕ) → mask_from f p (n + m) ≡ mask_from f p n + 2 ^ n * mask_from f (p + n) m
unfolding mask_from
mask-cut f p zero m =
    let z : zero + m ≡ m = omega arith in
    let e : p ≡ p + zero = omega arith in
    ap (mask_from f p) z ∙ ap (λ (q : ℕ). mask_from f q m) e ∙ one (mask_from f (p + zero) m)
  where
    one : (x : ℕ) → x ≡ 0 + 1 * x
    one x = omega arith
mask-cut f p (suc n) m =
    let e : suc n + m ≡ suc (n + m) = omega arith in
    let i : suc p + n ≡ p + suc n = omega arith in
    ap (mask_from f p) e
    ∙ ap (λ (x : ℕ). cond (f p) 1 0 + 2 * x) (mask-cut f (suc p) n m ∙ ap (λ (q : ℕ). mask_from f (suc p) n + 2 ^ n * mask_from f q m) i)
    ∙ more (cond (f p) 1 0) (mask_from f (suc p) n) (mask_from f (p + suc n) m)
  where
    more : (a x y : ℕ) → a + 2 * (x + 2 ^ n * y) ≡ a + 2 * x + 2 ^ suc n * y
    more a x y = let h : 2 ^ suc n * y ≡ 2 * (2 ^ n * y) = ap (λ (k : ℕ). k * y) (pow-succ' 2 n) ∙ mul_assoc 2 (2 ^ n) y in omega arith

-- tests that agree at the numbers of a mask give one mask
pub mask-within : (f g : ℕ → Bool) (p n : ℕ) → ((k : ℕ) → p ≤ k → k < p + n → f k ≡ g k) → mask_from f p n ≡ mask_from g p n
unfolding mask_from
mask-within f g p zero h = refl
mask-within f g p (suc n) h =
    let first : f p ≡ g p = h p (omega arith) (omega arith) in
    let rest : mask_from f (suc p) n ≡ mask_from g (suc p) n =
    mask-within f g (suc p) n (λ (k : ℕ) (l : suc p ≤ k) (u : k < suc p + n). h k (omega arith) (omega arith)) in
    ap₂ (λ (b : Bool) (m : ℕ). cond b 1 0 + 2 * m) first rest

-- a test that holds at none of them gives 0
pub mask-nowhere : (f : ℕ → Bool) (p n : ℕ) → ((k : ℕ) → p ≤ k → k < p + n → f k ≡ false) → mask_from f p n ≡ 0
unfolding mask_from
mask-nowhere f p n h = mask-within f (λ (i : ℕ). false) p n h ∙ zeros p n
  where
    zeros : (p n : ℕ) → mask_from (λ i. false) p n ≡ 0
    zeros p zero = refl
    zeros p (suc n) = ap (λ (m : ℕ). 0 + 2 * m) (zeros (suc p) n)

-- the bits of x from p on, n of them, are their own mask
pub mask-bits : (x p n : ℕ) → mask_from (bit_of x) p n ≡ x / 2 ^ p % 2 ^ n
unfolding mask_from
mask-bits x p zero = let h : x / 2 ^ p % 1 < 1 = mod-lt (x / 2 ^ p) (omega arith) in omega arith
mask-bits x p (suc n) =
    let y : ℕ = x / 2 ^ p in
    let e : suc n ≡ n + 1 = omega arith in
    let s : x / 2 ^ (p + 1) ≡ y / 2 ^ 1 = sym (shr-shr x p 1) in
    let i : suc p ≡ p + 1 = omega arith in
    let r : mask_from (bit_of x) (suc p) n ≡ y / 2 ^ 1 % 2 ^ n = mask-bits x (suc p) n ∙ ap (λ (k : ℕ). x / 2 ^ k % 2 ^ n) i ∙ ap (λ (k : ℕ). k % 2 ^ n) s in
    ap₂ (λ (a b : ℕ). a + 2 * b) (lowest y) r
    ∙ swap (y % 2 ^ 1) (y / 2 ^ 1 % 2 ^ n)
    ∙ sym (mod-pow-add y n 1)
    ∙ ap (λ (k : ℕ). y % 2 ^ k) (sym e)
  where
    lowest : (z : ℕ) → cond (eqb (z % 2) 1) 1 0 ≡ z % 2 ^ 1
    lowest z = go (z % 2) (mod-lt z (omega arith))
      where
        go : (m : ℕ) → m < 2 → cond (eqb m 1) 1 0 ≡ m
        go zero h = refl
        go (suc zero) h = refl
        go (suc (suc m)) h = absurd (omega arith)

    swap : (a b : ℕ) → a + 2 * b ≡ b * 2 ^ 1 + a
    swap a b = omega arith

-- they stay or are cleared together
pub mask-if : (x p n : ℕ) (b : Bool) → mask_from (λ i. bit_of x i && b) p n ≡ cond b (x / 2 ^ p % 2 ^ n) 0
unfolding mask_from
mask-if x p n true = mask-within (λ (i : ℕ). bit_of x i && true) (bit_of x) p n (λ (k : ℕ) (l : p ≤ k) (u : k < p + n). stay (bit_of x k)) ∙ mask-bits x p n
  where
    stay : (c : Bool) → (c && true) ≡ c
    stay true = refl
    stay false = refl
mask-if x p n false = mask-nowhere (λ (i : ℕ). bit_of x i && false) p n (λ (k : ℕ) (l : p ≤ k) (u : k < p + n). go (bit_of x k))
  where
    go : (c : Bool) → (c && false) ≡ false
    go true = refl
    go false = refl

-- the numbers below c of a mask of at least as many are its remainder
mask-part : (f : ℕ → Bool) (c n : ℕ) → c ≤ n → mask_from (λ (p : ℕ). ltb p c && f p) 0 n ≡ mask_from f 0 n % 2 ^ c
mask-part f c n h =
    let e : n ≡ c + (n - c) = omega arith in
    let g : ℕ → Bool = λ (p : ℕ). ltb p c && f p in
    let low_part : mask_from g 0 c ≡ mask_from f 0 c =
    mask-within g f 0 c (λ (k : ℕ) (l : 0 ≤ k) (u : k < 0 + c). ap (λ (b : Bool). b && f k) (lt-ltb k c (omega arith))) in
    let high_part : mask_from g (0 + c) (n - c) ≡ 0 =
    mask-nowhere g (0 + c) (n - c) (λ (k : ℕ) (l : 0 + c ≤ k) (u : k < 0 + c + (n - c)). ap (λ (b : Bool). b && f k) (le-ltb k c (omega arith))) in
    ap (mask_from g 0) e
    ∙ mask-cut g 0 c (n - c)
    ∙ ap₂ (λ (a b : ℕ). a + 2 ^ c * b) low_part high_part
    ∙ none (mask_from f 0 c)
    ∙ sym (low (mask_from f (0 + c) (n - c)) c (mask_below f 0 c))
    ∙ ap (λ (x : ℕ). x % 2 ^ c) (turn (mask_from f 0 c) (mask_from f (0 + c) (n - c)) ∙ sym (mask-cut f 0 c (n - c)) ∙ ap (mask_from f 0) (sym e))
  where
    none : (a : ℕ) → a + 2 ^ c * 0 ≡ a
    none a = let z : 2 ^ c * 0 ≡ 0 = mul-zero (2 ^ c) in omega arith

    turn : (a b : ℕ) → b * 2 ^ c + a ≡ a + 2 ^ c * b
    turn a b = let z : b * 2 ^ c ≡ 2 ^ c * b = mul_comm b (2 ^ c) in omega arith

-- and so of any mask
pub mask-under : (f : ℕ → Bool) (c n : ℕ) → mask_from (λ (p : ℕ). ltb p c && f p) 0 n ≡ mask_from f 0 n % 2 ^ c
mask-under f c n = go (dec_lt n c)
  where
    all : n < c → mask_from (λ (p : ℕ). ltb p c && f p) 0 n ≡ mask_from f 0 n % 2 ^ c
    all h =
        let l : mask_from f 0 n < 2 ^ c = omega (arith, mask_below f 0 n, pow-lt {i = n} {j = c} h) in
        mask-within (λ (p : ℕ). ltb p c && f p) f 0 n (λ (k : ℕ) (l : 0 ≤ k) (u : k < 0 + n). ap (λ (b : Bool). b && f k) (lt-ltb k c (omega arith)))
        ∙ sym (mod-eq_of_lt l)

    go : Dec (n < c) → mask_from (λ (p : ℕ). ltb p c && f p) 0 n ≡ mask_from f 0 n % 2 ^ c
    go (yes h) = all h
    go (no h) = mask-part f c n (omega arith)

-- a bit that two numbers have in common
pub and-bit : (a b p : ℕ) → bit_of (bit_and a b) p ≡ (bit_of a p && bit_of b p)
and-bit a b p =
    let x = a / 2 ^ p in
    let y = b / 2 ^ p in
    ap (λ (m : ℕ). eqb (m % 2) 1) (and_shr a b p ∙ and_step x y)
    ∙ last (bit_and (x / 2) (y / 2)) (x % 2) (y % 2) (mod-lt x (omega arith)) (mod-lt y (omega arith))
  where
    last : (m u v : ℕ) → u < 2 → v < 2 → eqb ((m * 2 + min u v) % 2) 1 ≡ (eqb u 1 && eqb v 1)
    last m zero v l k = let e : (m * 2 + 0) % 2 ≡ 0 = omega arith in simp (zero-min v, e)
    last m (suc zero) zero l k = let e : (m * 2 + 0) % 2 ≡ 0 = omega arith in simp e
    last m (suc zero) (suc zero) l k = let e : (m * 2 + 1) % 2 ≡ 1 = omega arith in simp e
    last m (suc zero) (suc (suc v)) l k = absurd (omega arith)
    last m (suc (suc u)) v l k = absurd (omega arith)

-- a bit that one of two numbers has
pub or-bit : (a b p : ℕ) → bit_of (bit_or a b) p ≡ (bit_of a p || bit_of b p)
or-bit a b p =
    let x = a / 2 ^ p in
    let y = b / 2 ^ p in
    ap (λ (m : ℕ). eqb (m % 2) 1) (or_shr a b p ∙ or_step x y)
    ∙ last (bit_or (x / 2) (y / 2)) (x % 2) (y % 2) (mod-lt x (omega arith)) (mod-lt y (omega arith))
  where
    last : (m u v : ℕ) → u < 2 → v < 2 → eqb ((m * 2 + max u v) % 2) 1 ≡ (eqb u 1 || eqb v 1)
    last m zero zero l k = let e : (m * 2 + 0) % 2 ≡ 0 = omega arith in simp e
    last m zero (suc zero) l k = let e : (m * 2 + 1) % 2 ≡ 1 = omega arith in simp e
    last m (suc zero) zero l k = let e : (m * 2 + 1) % 2 ≡ 1 = omega arith in simp e
    last m (suc zero) (suc zero) l k = let e : (m * 2 + 1) % 2 ≡ 1 = omega arith in simp e
    last m zero (suc (suc v)) l k = absurd (omega arith)
    last m (suc zero) (suc (suc v)) l k = absurd (omega arith)
    last m (suc (suc u)) v l k = absurd (omega arith)

-- a power of 2 has one bit
pub power-bit : (k p : ℕ) → bit_of (2 ^ k) p ≡ eqb k p
power-bit k p = go (ℕ_discrete k p)
  where
    own : bit_of (2 ^ p) p ≡ true
    own =
        let e : 2 ^ p ≡ 1 * 2 ^ p = omega arith in
        ap (λ (m : ℕ). eqb (m % 2) 1) (ap (λ (y : ℕ). y / 2 ^ p) e ∙ shl-shr 1 p)

    above : k < p → bit_of (2 ^ k) p ≡ false
    above l = ap (λ (m : ℕ). eqb (m % 2) 1) (div-eq_of_lt (pow-lt l))

    under : p < k → bit_of (2 ^ k) p ≡ false
    under l =
        let j = k - p - 1 in
        let e : k ≡ (j + 1) + p = omega arith in
        let f : 2 ^ k ≡ 2 ^ (j + 1) * 2 ^ p = ap (λ (y : ℕ). 2 ^ y) e ∙ pow-add 2 (j + 1) p in
        let g : 2 ^ k / 2 ^ p ≡ 2 ^ j * 2 = ap (λ (y : ℕ). y / 2 ^ p) f ∙ shl-shr (2 ^ (j + 1)) p ∙ pow-add 2 j 1 in
        let h : 2 ^ j * 2 % 2 ≡ 0 = omega arith in
        ap (λ (m : ℕ). eqb (m % 2) 1) g ∙ ap (λ (m : ℕ). eqb m 1) h

    side : (k ≡ p → ⊥) → Dec (k < p) → bit_of (2 ^ k) p ≡ false
    side d (yes l) = above l
    side d (no l) = under (omega arith)

    go : Dec (k ≡ p) → bit_of (2 ^ k) p ≡ eqb k p
    go (yes e) = ap (λ (y : ℕ). bit_of (2 ^ y) p) e ∙ own ∙ sym (eq-eqb k p e)
    go (no d) = side d (dec_lt k p) ∙ sym (ne_eqb k p d)

-- the mask of one number below n
pub mask_one : (k n : ℕ) → k < n → mask_from (λ (p : ℕ). eqb p k) 0 n ≡ 2 ^ k
mask_one k n h =
    mask-within (λ (p : ℕ). eqb p k) (bit_of (2 ^ k)) 0 n (λ (p : ℕ) (l : 0 ≤ p) (u : p < 0 + n). turned (ℕ_discrete p k) ∙ sym (power-bit k p))
    ∙ mask-bits (2 ^ k) 0 n
    ∙ ap (λ (x : ℕ). x % 2 ^ n) (div-one (2 ^ k))
    ∙ mod-eq_of_lt (pow-lt h)
  where
    turned : {p : ℕ} → Dec (p ≡ k) → eqb p k ≡ eqb k p
    turned {p} (yes e) = eq-eqb p k e ∙ sym (eq-eqb k p (sym e))
    turned {p} (no d) = ne_eqb p k d ∙ sym (ne_eqb k p (λ (e : k ≡ p). d (sym e)))
