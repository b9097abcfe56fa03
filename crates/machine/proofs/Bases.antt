-- A base as a field of an operand and as an address: either gives the other back.
use Prim.Native.Nat.{ℕ, ◌+◌, ◌*◌, ◌-◌, ◌/◌, ◌%◌, ◌^◌, ◌<◌, ◌≤◌}
use mathlib.Core.Bool.{Bool, true, false, cond, ◌&&◌, ◌||◌}
use mathlib.Core.Path.{◌≡◌, refl, sym, ap, subst, ◌∙◌}
use native.Mathlib.Nat.{mod-eq_of_lt, mod-lt, add-mul, mul_assoc, mul-le-mul_right, add-mul-mod_self_right}
use native.Mathlib.Omega.{arith}
use lib.Dec.{eqb, ltb, leb}
use lib.Pow.{shl-shr, shl_lt, high_ones, pow-add, pow_pos, pow_mono, split}
use borrow.Author.Tests.{leb-true, leb-false, lt-ltb, eq-eqb}
use Rattle.laws.proofs.Truth.{or_left, or_right}
use Rattle.laws.specs.Bits.{bits, down}
use Rattle.machine.specs.Operand.{copies_top, granule_exponent, unit_exponent, extend, address_of, field_of}
use Rattle.machine.specs.declared.operand.Told.{Told}

-- an extended number is its unit times the number, with some multiple of 2^n above it
copies : (n k : ℕ) (s : Bool) (b : ℕ) → n + k ≤ 64 →
    extend n k s b ≡ (b + cond (s && leb (2 ^ (n - 1)) b) (2 ^ (64 - (n + k)) - 1) 0 * 2 ^ n) * 2 ^ k
copies n k s b h = go (s && leb (2 ^ (n - 1)) b)
  where
    above : 2 ^ 64 - 2 ^ (n + k) ≡ (2 ^ (64 - (n + k)) - 1) * 2 ^ n * 2 ^ k
    above =
        let sum : 64 ≡ 64 - (n + k) + (n + k) = omega arith in
        let c : ℕ = 2 ^ (64 - (n + k)) - 1 in
        ap (λ (m : ℕ). 2 ^ m - 2 ^ (n + k)) sum
        ∙ high_ones (64 - (n + k)) (n + k)
        ∙ ap (λ (m : ℕ). c * m) (pow-add 2 n k)
        ∙ sym (mul_assoc c (2 ^ n) (2 ^ k))

    go : (c : Bool) → cond c (b * 2 ^ k + (2 ^ 64 - 2 ^ (n + k))) (b * 2 ^ k) ≡ (b + cond c (2 ^ (64 - (n + k)) - 1) 0 * 2 ^ n) * 2 ^ k
    go true = ap (λ (m : ℕ). b * 2 ^ k + m) above ∙ sym (add-mul b ((2 ^ (64 - (n + k)) - 1) * 2 ^ n) (2 ^ k))
    go false = let z : b ≡ b + 0 * 2 ^ n = omega arith in ap (λ (m : ℕ). m * 2 ^ k) z

-- the field of an n-bit number's address is the number, for every width n and unit 2^k
pub field_back : (n k : ℕ) (s : Bool) (b : ℕ) → n + k ≤ 64 → b < 2 ^ n → extend n k s b / 2 ^ k % 2 ^ n ≡ b
field_back n k s b h u =
    let c : ℕ = cond (s && leb (2 ^ (n - 1)) b) (2 ^ (64 - (n + k)) - 1) 0 in
    ap (λ (a : ℕ). a / 2 ^ k % 2 ^ n) (copies n k s b h)
    ∙ ap (λ (m : ℕ). m % 2 ^ n) (shl-shr (b + c * 2 ^ n) k)
    ∙ add-mul-mod_self_right b c (2 ^ n)
    ∙ mod-eq_of_lt u

-- an n-bit number in units of 2^k is an address, extended or not
pub extend_fits : (n k : ℕ) (s : Bool) (b : ℕ) → n + k ≤ 64 → b < 2 ^ n → extend n k s b < 2 ^ 64
extend_fits n k s b h u = go (s && leb (2 ^ (n - 1)) b)
  where
    go : (c : Bool) → cond c (b * 2 ^ k + (2 ^ 64 - 2 ^ (n + k))) (b * 2 ^ k) < 2 ^ 64
    go true = omega (arith, shl_lt n k u, pow_mono {i = n + k} {j = 64} h)
    go false = omega (arith, shl_lt n k u, pow_mono {i = n + k} {j = 64} h)

-- TG 1, 2 or 3
abbrev pub SomeGranule : ℕ → Type 0
SomeGranule tg = (1 ≤ tg) × (tg < 4)

-- Of a base field: its bits, the exponent of its unit, and the field without what is ignored.
abbrev pub width_of : Bool → ℕ
width_of tlbip = cond tlbip 44 37

abbrev pub unit_at : Told → ℕ → ℕ
unit_at t tg = cond t.tlbip 12 (unit_exponent t.unit64k tg)

abbrev pub kept_of : Bool → ℕ → ℕ → ℕ
kept_of tlbip tg b = cond tlbip (down (granule_exponent tg - 12) b) b

-- so an address is one extension, and a field one part of an address, for TLBI and TLBIP alike
address_is : (t : Told) (tg b : ℕ) →
    address_of t tg b ≡ extend (width_of t.tlbip) (unit_at t tg) (copies_top t.form) (kept_of t.tlbip tg b)
unfolding address_of
address_is t tg b = go t.tlbip
  where
    go : (p : Bool) →
        cond p
        (extend 44 12 (copies_top t.form) (down (granule_exponent tg - 12) b))
        (extend 37 (unit_exponent t.unit64k tg) (copies_top t.form) b)
        ≡ extend (width_of p) (cond p 12 (unit_exponent t.unit64k tg)) (copies_top t.form) (kept_of p tg b)
    go true = refl
    go false = refl

field_is : (t : Told) (tg a : ℕ) → field_of t tg a ≡ a / 2 ^ unit_at t tg % 2 ^ width_of t.tlbip
unfolding field_of
field_is t tg a = go t.tlbip
  where
    go : (p : Bool) →
        cond p (a / 2 ^ 12 % 2 ^ 44) (a / 2 ^ unit_exponent t.unit64k tg % 2 ^ 37)
        ≡ a / 2 ^ cond p 12 (unit_exponent t.unit64k tg) % 2 ^ width_of p
    go true = refl
    go false = refl

room : (t : Told) (tg : ℕ) → SomeGranule tg → width_of t.tlbip + unit_at t tg ≤ 64
room t tg (some, most) = go t.tlbip t.unit64k
  where
    go : (p u : Bool) → width_of p + cond p 12 (unit_exponent u tg) ≤ 64
    go true u = omega arith
    go false true = omega arith
    go false false = omega arith

kept-most : (p : Bool) (tg b : ℕ) → b < 2 ^ width_of p → kept_of p tg b < 2 ^ width_of p
kept-most true tg b h = omega (arith, split b (granule_exponent tg - 12))
kept-most false tg b h = h

kept-twice : (p : Bool) (tg b : ℕ) → kept_of p tg (kept_of p tg b) ≡ kept_of p tg b
kept-twice true tg b =
    let k : ℕ = granule_exponent tg - 12 in
    ap (λ (m : ℕ). m * 2 ^ k) (shl-shr (b / 2 ^ k) k)
kept-twice false tg b = refl

pub field-most : (t : Told) (tg a : ℕ) → field_of t tg a < 2 ^ width_of t.tlbip
field-most t tg a =
    subst (λ (n : ℕ). n < 2 ^ width_of t.tlbip) (sym (field_is t tg a)) (mod-lt (a / 2 ^ unit_at t tg) (pow_pos (width_of t.tlbip)))

-- a base that was read has its field's bits, but for those that are ignored
pub field-read : (t : Told) (tg b : ℕ) → SomeGranule tg → b < 2 ^ width_of t.tlbip → field_of t tg (address_of t tg b) ≡ kept_of t.tlbip tg b
field-read t tg b g h =
    let n : ℕ = width_of t.tlbip in
    let k : ℕ = unit_at t tg in
    let b' : ℕ = kept_of t.tlbip tg b in
    field_is t tg (address_of t tg b)
    ∙ ap (λ (a : ℕ). a / 2 ^ k % 2 ^ n) (address_is t tg b)
    ∙ field_back n k (copies_top t.form) b' (room t tg g) (kept-most t.tlbip tg b h)

-- and can be shown
pub shown_read : (t : Told) (tg b : ℕ) → SomeGranule tg → b < 2 ^ width_of t.tlbip → address_of t tg (field_of t tg (address_of t tg b)) ≡ address_of t tg b
shown_read t tg b g h =
    ap (address_of t tg) (field-read t tg b g h)
    ∙ address_is t tg (kept_of t.tlbip tg b)
    ∙ ap (extend (width_of t.tlbip) (unit_at t tg) (copies_top t.form)) (kept-twice t.tlbip tg b)
    ∙ sym (address_is t tg b)

pub address-fits : (t : Told) (tg b : ℕ) → SomeGranule tg → b < 2 ^ width_of t.tlbip → address_of t tg b < 2 ^ 64
address-fits t tg b g h =
    let n : ℕ = width_of t.tlbip in
    let fit : extend n (unit_at t tg) (copies_top t.form) (kept_of t.tlbip tg b) < 2 ^ 64 =
    extend_fits n (unit_at t tg) (copies_top t.form) (kept_of t.tlbip tg b) (room t tg g) (kept-most t.tlbip tg b h) in
    subst (λ (a : ℕ). a < 2 ^ 64) (sym (address_is t tg b)) fit

-- an address of up to 56 bits whose top bit is copied upward has bits 63:55 equal, and one whose is not is below 2^56
extend-two : (n k b : ℕ) → n + 1 + k ≤ 56 → b < 2 ^ (n + 1) →
    (eqb (bits 63 55 (extend (n + 1) k true b)) 0 || eqb (bits 63 55 (extend (n + 1) k true b)) (2 ^ 9 - 1)) ≡ true
extend-two n k b h u = go (leb (2 ^ (n + 1 - 1)) b) refl
  where
    less : n + 1 - 1 ≡ n
    less = omega arith

    half : 2 ^ (n + k) ≤ 2 ^ 55
    half = pow_mono {i = n + k} {j = 55} (omega arith)

    double : 2 ^ (n + 1 + k) ≡ 2 * 2 ^ (n + k)
    double = let e : n + 1 + k ≡ 1 + (n + k) = omega arith in ap (λ (m : ℕ). 2 ^ m) e ∙ pow-add 2 1 (n + k)

    go : (c : Bool) → leb (2 ^ (n + 1 - 1)) b ≡ c →
        (eqb (bits 63 55 (cond c (b * 2 ^ k + (2 ^ 64 - 2 ^ (n + 1 + k))) (b * 2 ^ k))) 0
        || eqb (bits 63 55 (cond c (b * 2 ^ k + (2 ^ 64 - 2 ^ (n + 1 + k))) (b * 2 ^ k))) (2 ^ 9 - 1))
        ≡ true
    go true e =
        let least : 2 ^ n ≤ b = subst (λ (m : ℕ). 2 ^ m ≤ b) less (leb-true (2 ^ (n + 1 - 1)) b e) in
        let low : 2 ^ (n + k) ≤ b * 2 ^ k = subst (λ (m : ℕ). m ≤ b * 2 ^ k) (sym (pow-add 2 n k)) (mul-le-mul_right (2 ^ k) least) in
        let high : b * 2 ^ k < 2 ^ (n + 1 + k) = shl_lt (n + 1) k u in
        let x : ℕ = b * 2 ^ k + (2 ^ 64 - 2 ^ (n + 1 + k)) in
        let ones : bits 63 55 x ≡ 2 ^ 9 - 1 = top x (omega (arith, low, half, double)) (omega (arith, high, half, double)) in
        or_right (eqb (bits 63 55 x) 0) (eqb (bits 63 55 x) (2 ^ 9 - 1)) (eq-eqb (bits 63 55 x) (2 ^ 9 - 1) ones)
      where
        top : (x : ℕ) → 2 ^ 64 - 2 ^ 55 ≤ x → x < 2 ^ 64 → bits 63 55 x ≡ 2 ^ 9 - 1
        top x l m = omega arith
    go false e =
        let most : b < 2 ^ n = subst (λ (m : ℕ). b < 2 ^ m) less (leb-false (2 ^ (n + 1 - 1)) b e) in
        let high : b * 2 ^ k < 2 ^ 55 = omega (arith, shl_lt n k most, half) in
        let none : bits 63 55 (b * 2 ^ k) ≡ 0 = top (b * 2 ^ k) high in
        or_left (eqb (bits 63 55 (b * 2 ^ k)) 0) (eqb (bits 63 55 (b * 2 ^ k)) (2 ^ 9 - 1)) (eq-eqb (bits 63 55 (b * 2 ^ k)) 0 none)
      where
        top : (x : ℕ) → x < 2 ^ 55 → bits 63 55 x ≡ 0
        top x l = omega arith

pub address-reach : (t : Told) (tg b : ℕ) → SomeGranule tg → b < 2 ^ width_of t.tlbip →
    cond (copies_top t.form) (eqb (bits 63 55 (address_of t tg b)) 0 || eqb (bits 63 55 (address_of t tg b)) (2 ^ 9 - 1)) (ltb (address_of t tg b) (2 ^ 56))
    ≡ true
address-reach t tg b (some, most) h =
    subst (λ (a : ℕ). cond (copies_top t.form) (eqb (bits 63 55 a) 0 || eqb (bits 63 55 a) (2 ^ 9 - 1)) (ltb a (2 ^ 56)) ≡ true) (sym (address_is t tg b))
    (go t.tlbip t.unit64k (copies_top t.form) (kept-most t.tlbip tg b h))
  where
    one : (n k x : ℕ) → n + k ≤ 56 → x < 2 ^ n → ltb (x * 2 ^ k) (2 ^ 56) ≡ true
    one n k x r u = lt-ltb (x * 2 ^ k) (2 ^ 56) (omega (arith, shl_lt n k u, pow_mono {i = n + k} {j = 56} r))

    go : (p u s : Bool) → kept_of p tg b < 2 ^ width_of p →
        cond s
        (eqb (bits 63 55 (extend (width_of p) (cond p 12 (unit_exponent u tg)) s (kept_of p tg b))) 0
        || eqb (bits 63 55 (extend (width_of p) (cond p 12 (unit_exponent u tg)) s (kept_of p tg b))) (2 ^ 9 - 1))
        (ltb (extend (width_of p) (cond p 12 (unit_exponent u tg)) s (kept_of p tg b)) (2 ^ 56))
        ≡ true
    go true u true l = extend-two 43 12 (kept_of true tg b) (omega arith) l
    go true u false l = one 44 12 (kept_of true tg b) (omega arith) l
    go false true true l = extend-two 36 16 (kept_of false tg b) (omega arith) l
    go false true false l = one 37 16 (kept_of false tg b) (omega arith) l
    go false false true l = extend-two 36 (granule_exponent tg) (kept_of false tg b) (omega arith) l
    go false false false l = one 37 (granule_exponent tg) (kept_of false tg b) (omega arith) l
