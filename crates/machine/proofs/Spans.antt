-- Spans: 01's thirty cells, and size, alignment, end and meeting, once over granule and width.
use Prim.Native.Nat.{ℕ, zero, suc, ◌+◌, ◌*◌, ◌-◌, ◌/◌, ◌%◌, ◌^◌, ◌<◌, ◌≤◌, max}
use mathlib.Core.Bool.{Bool, true, false, cond, ◌&&◌}
use mathlib.Core.List.{List, [], ◌∷◌}
use mathlib.Core.Path.{◌≡◌, refl, sym, ap, ◌∙◌}
use native.Mathlib.Nat.{mod-lt, mul-le-mul, mul-mod_left, add-mul, one-mul, div-lt_iff_lt-mul, le-div_iff_mul-le}
use native.Mathlib.Omega.{arith}
use lib.Dec.{leb}
use lib.IntN.{ℤ, pos, negsuc}
use lib.Pow.{pow_pos, split}
use mir.Syntax.{w8}
use mir.Val.{to_z}
use borrow.Author.Tests.{leb-true, le-leb, lt-leb}
use Rattle.laws.proofs.Aligned.{ends, inside}
use Rattle.laws.proofs.Truth.{and_0, and-1}
use Rattle.laws.specs.Bits.{down}
use Rattle.machine.specs.Operand.{is_granule, granule_exponent}
use Rattle.machine.specs.Span.{is_level, same_level, height_of, exponent_at, exponent_of, has_span, in_span, meets_range}

-- A level is one of five: what holds at each of them, -1 first, holds at every level.
abbrev pub AtEach {ℓ} : (ℤ → Type ℓ) → Type ℓ
AtEach P = P (negsuc 0) × P (pos 0) × P (pos 1) × P (pos 2) × P (pos 3)

pub by_level {ℓ} : (P : ℤ → Type ℓ) → AtEach P → (l : ℤ) → is_level l ≡ true → P l
unfolding is_level
by_level P each (negsuc zero) h = each.0
by_level P each (negsuc (suc n)) h = absurd (omega (arith, leb-true (suc n) 0 (and_0 (leb (suc n) 0) true h)))
by_level P each (pos zero) h = each.1
by_level P each (pos (suc zero)) h = each.2
by_level P each (pos (suc (suc zero))) h = each.3
by_level P each (pos (suc (suc (suc zero)))) h = each.4
by_level P each (pos (suc (suc (suc (suc n))))) h = absurd (omega (arith, leb-true (suc (suc (suc (suc n)))) 3 h))

-- the height of a level that a TTL gives
pub height-low : (n : ℕ) → n ≤ 3 → height_of (pos n) ≡ 3 - n
unfolding height_of
height-low zero h = refl
height-low (suc zero) h = refl
height-low (suc (suc zero)) h = refl
height-low (suc (suc (suc zero))) h = refl
height-low (suc (suc (suc (suc n)))) h = absurd (omega arith)

pub level-low : (n : ℕ) → n ≤ 3 → is_level (pos n) ≡ true
unfolding is_level
level-low n h = simp (le-leb n 3 h)

-- neither level is below the other exactly if they are one
pub same-level : (a b : ℤ) → same_level a b ≡ true → a ≡ b
same-level (pos m) (pos n) h =
    let e : m ≡ n = omega (arith, leb-true m n (and_0 (leb m n) (leb n m) h), leb-true n m (and-1 (leb m n) (leb n m) h)) in ap pos e
same-level (pos m) (negsuc n) h = absurd (let z : ◌≡◌ {A = ℕ} 0 1 = cc in omega arith)
same-level (negsuc m) (pos n) h = absurd (let z : ◌≡◌ {A = ℕ} 0 1 = cc in omega arith)
same-level (negsuc m) (negsuc n) h =
    let e : m ≡ n = omega (arith, leb-true n m (and_0 (leb n m) (leb m n) h), leb-true m n (and-1 (leb n m) (leb m n) h)) in ap negsuc e

pub level-self : (a : ℤ) → same_level a a ≡ true
level-self (pos m) = simp (le-leb m m (omega arith))
level-self (negsuc m) = simp (le-leb m m (omega arith))

-- a TTL is a level as it is
pub ttl-level : (n : ℕ) → n < 4 → to_z w8 n ≡ pos n
ttl-level zero h = refl
ttl-level (suc zero) h = refl
ttl-level (suc (suc zero)) h = refl
ttl-level (suc (suc (suc zero))) h = refl
ttl-level (suc (suc (suc (suc n)))) h = absurd (omega arith)

pub exponent-low : (wide : Bool) (tg n : ℕ) → tg ≤ 3 → n ≤ 3 → exponent_of wide tg (pos n) ≤ 55
unfolding exponent_of exponent_at
exponent-low wide tg n t h =
    let less : granule_exponent tg - cond wide 4 3 ≤ 13 = bits wide in
    let low : 3 - n ≤ 3 = omega arith in
    let e : height_of (pos n) ≡ 3 - n = height-low n h in
    rw e (omega (arith, mul-le-mul less low))
  where
    bits : (w : Bool) → granule_exponent tg - cond w 4 3 ≤ 13
    bits true = omega arith
    bits false = omega arith

-- a cell of 01's table: an exponent, or none
abbrev none : ℕ
none = 0

abbrev cell : Bool → ℕ → ℤ → ℕ
cell wide tg l = cond (has_span wide tg l) (exponent_of wide tg l) none

-- level -1 to 3
abbrev row : Bool → ℕ → List ℕ
row wide tg = cell wide tg (negsuc 0) ∷ cell wide tg (pos 0) ∷ cell wide tg (pos 1) ∷ cell wide tg (pos 2) ∷ cell wide tg (pos 3) ∷ []

-- "Span exponents, level -1 to 3": 64-bit, then 128-bit, each 4K, 16K, 64K
pub table :
    (row false 1 ∷ row false 2 ∷ row false 3 ∷ row true 1 ∷ row true 2 ∷ row true 3 ∷ [])
    ≡ ((48 ∷ 39 ∷ 30 ∷ 21 ∷ 12 ∷ [])
    ∷ (none ∷ 47 ∷ 36 ∷ 25 ∷ 14 ∷ [])
    ∷ (none ∷ none ∷ 42 ∷ 29 ∷ 16 ∷ [])
    ∷ (44 ∷ 36 ∷ 28 ∷ 20 ∷ 12 ∷ [])
    ∷ (54 ∷ 44 ∷ 34 ∷ 24 ∷ 14 ∷ [])
    ∷ (none ∷ 52 ∷ 40 ∷ 28 ∷ 16 ∷ [])
    ∷ [])
unfolding has_span exponent_of exponent_at is_level height_of
table = refl

-- and it has no other row, column or cell
pub no-level : (wide : Bool) (tg n : ℕ) → (has_span wide tg (negsuc (suc n)) ≡ false) × (has_span wide tg (pos (n + 4)) ≡ false)
unfolding has_span is_level
no-level wide tg n =
    let low : leb (suc n) 0 ≡ false = lt-leb (suc n) 0 (omega arith) in
    let high : leb (n + 4) 3 ≡ false = lt-leb (n + 4) 3 (omega arith) in
    let below : is_level (negsuc (suc n)) ≡ false = simp low in
    let above : is_level (pos (n + 4)) ≡ false = simp high in
    (never (is_granule tg) (is_level (negsuc (suc n))) _ below, never (is_granule tg) (is_level (pos (n + 4))) _ above)
  where
    never : (a b c : Bool) → b ≡ false → (a && b && c) ≡ false
    never true b c h = simp h
    never false b c h = refl

pub no-granule : (wide : Bool) (l : ℤ) (n : ℕ) → (has_span wide 0 l ≡ false) × (has_span wide (n + 4) l ≡ false)
unfolding has_span
no-granule wide l n =
    let high : leb (n + 4) 3 ≡ false = lt-leb (n + 4) 3 (omega arith) in
    let low : leb 1 (n + 4) ≡ true = le-leb 1 (n + 4) (omega arith) in
    (refl, simp (low, high))

-- a level with a span is a level of a granule, and its span is at least a granule and at most 2^54 bytes
pub span-tg : (wide : Bool) (tg : ℕ) (l : ℤ) → has_span wide tg l ≡ true → is_granule tg ≡ true
unfolding has_span
span-tg wide tg l h = and_0 (is_granule tg) (is_level l) (and_0 (is_granule tg && is_level l) _ h)

pub span-tg-most : (wide : Bool) (tg : ℕ) (l : ℤ) → has_span wide tg l ≡ true → tg ≤ 3
span-tg-most wide tg l h = leb-true tg 3 (and-1 (leb 1 tg) (leb tg 3) (span-tg wide tg l h))

pub span-level : (wide : Bool) (tg : ℕ) (l : ℤ) → has_span wide tg l ≡ true → is_level l ≡ true
unfolding has_span
span-level wide tg l h = and-1 (is_granule tg) (is_level l) (and_0 (is_granule tg && is_level l) _ h)

pub span-most : (wide : Bool) (tg : ℕ) (l : ℤ) → has_span wide tg l ≡ true → exponent_of wide tg l ≤ 54
unfolding has_span
span-most wide tg l h = leb-true _ _ (and-1 (is_granule tg && is_level l) (leb (exponent_of wide tg l) 54) h)

pub span-granule : (wide : Bool) (tg : ℕ) (l : ℤ) → granule_exponent tg ≤ exponent_of wide tg l
unfolding exponent_of exponent_at
span-granule wide tg l = omega arith

-- a span at a multiple of its size ends at 2^64 at most
pub span-ends : (wide : Bool) (tg : ℕ) (l : ℤ) (base : ℕ) → has_span wide tg l ≡ true → base < 2 ^ 64 → base % 2 ^ exponent_of wide tg l ≡ 0 →
    base + 2 ^ exponent_of wide tg l ≤ 2 ^ 64
span-ends wide tg l base h lt e = ends base (exponent_of wide tg l) (omega (arith, span-most wide tg l h)) lt e

-- an address that is in a span lies from its base on and below its end
pub in-span : (base k a : ℕ) → in_span base k a ≡ true → (base ≤ a) × (a < base + 2 ^ k)
in-span base k a h =
    let l : base ≤ a = leb-true base a (and_0 (leb base a) _ h) in
    let u : a ≤ base + (2 ^ k - 1) = leb-true a (base + (2 ^ k - 1)) (and-1 (leb base a) (leb a (base + (2 ^ k - 1))) h) in
    let p : 1 ≤ 2 ^ k = pow_pos k in
    (l, omega arith)

pub in-span-holds : (base k a : ℕ) → base ≤ a → a < base + 2 ^ k → in_span base k a ≡ true
in-span-holds base k a l u = let m : a ≤ base + (2 ^ k - 1) = omega arith in simp (le-leb _ _ l, le-leb _ _ m)

-- every address is in a span of each size: the one at the address with its lowest bits zero
pub span-some : (k a : ℕ) → (down k a % 2 ^ k ≡ 0) × (in_span (down k a) k a ≡ true)
span-some k a =
    let r : a % 2 ^ k < 2 ^ k = mod-lt a (pow_pos k) in
    let s : a / 2 ^ k * 2 ^ k + a % 2 ^ k ≡ a = split a k in
    (mul-mod_left (a / 2 ^ k) (2 ^ k), in-span-holds (down k a) k a (omega arith) (omega arith))

-- two spans of one size that have an address in common are one span
pub span-one : (k a b x : ℕ) → a % 2 ^ k ≡ 0 → b % 2 ^ k ≡ 0 → in_span a k x ≡ true → in_span b k x ≡ true → a ≡ b
span-one k a b x ea eb ha hb =
    let (la, ua) = in-span a k x ha in
    let (lb, ub) = in-span b k x hb in
    sym (inside a x k ea la ua) ∙ inside b x k eb lb ub

-- "its span meets the range": the two have an address in common, the later of their first ones
pub meets_at : (base k first last : ℕ) → first ≤ last → meets_range base k first last ≡ true →
    (in_span base k (max base first) ≡ true) × (first ≤ max base first) × (max base first ≤ last)
meets_at base k first last o h =
    let a : first ≤ base + (2 ^ k - 1) = leb-true first (base + (2 ^ k - 1)) (and_0 (leb first (base + (2 ^ k - 1))) _ h) in
    let b : base ≤ last = leb-true base last (and-1 (leb first (base + (2 ^ k - 1))) (leb base last) h) in
    let p : 1 ≤ 2 ^ k = pow_pos k in
    let i : base ≤ max base first = omega arith in
    let j : max base first < base + 2 ^ k = omega arith in
    (in-span-holds base k (max base first) i j, omega arith, omega arith)

pub meets-by : (base k first last a : ℕ) → in_span base k a ≡ true → first ≤ a → a ≤ last → meets_range base k first last ≡ true
meets-by base k first last a h l u =
    let (i, j) = in-span base k a h in
    let x : first ≤ base + (2 ^ k - 1) = omega arith in
    let y : base ≤ last = omega arith in
    simp (le-leb _ _ x, le-leb _ _ y)

-- the span of number y of its size meets a range exactly if y is not below the number of the span that holds the first address, and not above
-- that of the last
pub meets-number : (k y first last : ℕ) → first / 2 ^ k ≤ y → y ≤ last / 2 ^ k → meets_range (y * 2 ^ k) k first last ≡ true
meets-number k y first last l u =
    let p : 1 ≤ 2 ^ k = pow_pos k in
    let e : (y + 1) * 2 ^ k ≡ y * 2 ^ k + 2 ^ k = add-mul y 1 (2 ^ k) ∙ ap (λ (m : ℕ). y * 2 ^ k + m) (one-mul (2 ^ k)) in
    let s : first / 2 ^ k < y + 1 = omega arith in
    let a : first < (y + 1) * 2 ^ k = (div-lt_iff_lt-mul {x = first} {y = y + 1} (pow_pos k)).0 s in
    let i : first ≤ y * 2 ^ k + (2 ^ k - 1) = omega (arith, a, e) in
    let j : y * 2 ^ k ≤ last = (le-div_iff_mul-le (pow_pos k)).0 u in
    simp (le-leb _ _ i, le-leb _ _ j)

pub number-meets : (k y first last : ℕ) → meets_range (y * 2 ^ k) k first last ≡ true → (first / 2 ^ k ≤ y) × (y ≤ last / 2 ^ k)
number-meets k y first last h =
    let p : 1 ≤ 2 ^ k = pow_pos k in
    let i : first ≤ y * 2 ^ k + (2 ^ k - 1) = leb-true first (y * 2 ^ k + (2 ^ k - 1)) (and_0 (leb first (y * 2 ^ k + (2 ^ k - 1))) _ h) in
    let j : y * 2 ^ k ≤ last = leb-true (y * 2 ^ k) last (and-1 (leb first (y * 2 ^ k + (2 ^ k - 1))) (leb (y * 2 ^ k) last) h) in
    let e : (y + 1) * 2 ^ k ≡ y * 2 ^ k + 2 ^ k = add-mul y 1 (2 ^ k) ∙ ap (λ (m : ℕ). y * 2 ^ k + m) (one-mul (2 ^ k)) in
    let a : first < (y + 1) * 2 ^ k = omega (arith, e) in
    let s : first / 2 ^ k < y + 1 = (div-lt_iff_lt-mul {x = first} {y = y + 1} (pow_pos k)).1 a in
    (omega (arith, s), (le-div_iff_mul-le (pow_pos k)).1 j)
