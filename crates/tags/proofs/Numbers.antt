-- Whose a slot is and what is in its reach, by the numbers of its tag.
use Prim.Native.Nat.{ℕ, zero, suc, ◌+◌, ◌*◌, ◌/◌, ◌%◌, ◌^◌, ◌<◌, ◌≤◌}
use mathlib.Core.Bool.{Bool, true, false, not, ◌&&◌, ◌||◌}
use mathlib.Core.Path.{◌≡◌, refl, ap, ap₂, ◌∙◌}
use native.Mathlib.Nat.{mod-lt, div-div-eq-div-mul}
use native.Mathlib.Omega.{arith}
use lib.Dec.{eqb, ltb}
use lib.IntN.{pos, ◌-ℤ◌}
use borrow.Author.Tests.{eqb-true, eqb-false, eq-eqb, ne_eqb}
use Rattle.laws.proofs.Mask.{mask-bit}
use Rattle.laws.proofs.Truth.{or_right}
use Rattle.laws.specs.Bits.{bits}
use Rattle.laws.specs.Mask.{bit_of, mask_from}
use Rattle.machine.specs.Asked.{is_two_ranges}
use Rattle.machine.specs.Entry.{is_el10, is_root, is_state_of, is_company, has_asids, is_placed, in_reach}
use Rattle.machine.specs.State.{is_secure}
use Rattle.machine.specs.Tag.{regime_at, security_at, company_at}
use Rattle.machine.specs.declared.scope.Regime.{Regime}
use Rattle.machine.specs.declared.scope.Regime.TheVariants.{EL10, EL20, EL2, EL3}
use Rattle.machine.specs.declared.scope.Security.{Security}
use Rattle.machine.specs.declared.scope.Security.TheVariants.{Secure, NonSecure, Realm, Root}

-- what holds of each number of two bits holds of all
by_two : (P : ℕ → Type 0) → P 0 × P 1 × P 2 × P 3 → (n : ℕ) → n < 4 → P n
by_two P each zero h = each.0
by_two P each (suc zero) h = each.1
by_two P each (suc (suc zero)) h = each.2
by_two P each (suc (suc (suc zero))) h = each.3
by_two P each (suc (suc (suc (suc n)))) h = absurd (omega arith)

-- a test of a regime or of a security state is one of its number
el10-number : (r : ℕ) → r < 4 → is_el10 (regime_at r) ≡ eqb r 0
el10-number = by_two (λ (n : ℕ). is_el10 (regime_at n) ≡ eqb n 0) (refl, refl, refl, refl)

two-number : (r : ℕ) → r < 4 → is_two_ranges (regime_at r) ≡ eqb (r / 2) 0
two-number = by_two (λ (n : ℕ). is_two_ranges (regime_at n) ≡ eqb (n / 2) 0) (refl, refl, refl, refl)

secure-number : (s : ℕ) → s < 4 → is_secure (security_at s) ≡ eqb s 0
secure-number = by_two (λ (n : ℕ). is_secure (security_at n) ≡ eqb n 0) (refl, refl, refl, refl)

root-number : (s : ℕ) → s < 4 → is_root (security_at s) ≡ eqb s 3
root-number = by_two (λ (n : ℕ). is_root (security_at n) ≡ eqb n 3) (refl, refl, refl, refl)

-- a flag is off where it is not on
off : (g : ℕ) → g < 2 → not (eqb g 1) ≡ eqb g 0
off zero h = refl
off (suc zero) h = refl
off (suc (suc g)) h = absurd (omega arith)

-- two numbers side by side, the lower of at most 16 bits, are 0 exactly if each is
both : (w a b : ℕ) → a + b ≤ w → w ≤ a + b * 2 ^ 16 → eqb w 0 ≡ (eqb a 0 && eqb b 0)
both w a b least most = go (eqb a 0) refl (eqb b 0) refl
  where
    go : (p : Bool) → eqb a 0 ≡ p → (q : Bool) → eqb b 0 ≡ q → eqb w 0 ≡ (p && q)
    go true hp true hq = eq-eqb w 0 (omega (arith, eqb-true a 0 hp, eqb-true b 0 hq))
    go true hp false hq = ne_eqb w 0 (λ (e : w ≡ 0). eqb-false b 0 hq (omega arith))
    go false hp q hq = ne_eqb w 0 (λ (e : w ≡ 0). eqb-false a 0 hp (omega arith))

-- the IPA space is that of Secure stage 2 of EL1&0
pub company-space : (tag : ℕ) → bits 25 25 tag ≡ 1 → is_company (company_at tag) ≡ (eqb (bits 7 4 tag) 0 && bit_of tag 24)
unfolding is_company company_at
company-space tag h =
    let r = bits 5 4 tag in
    let s = bits 7 6 tag in
    let z = eqb (bits 23 8 tag) 0 in
    let e : is_el10 (regime_at r) ≡ eqb r 0 = el10-number r (mod-lt (tag / 2 ^ 4) (omega arith)) in
    let c : is_secure (security_at s) ≡ eqb s 0 = secure-number s (mod-lt (tag / 2 ^ 6) (omega arith)) in
    let u : bits 7 4 tag ≡ r + s * 4 = omega arith in
    let w : eqb (bits 7 4 tag) 0 ≡ (eqb r 0 && eqb s 0) = both (bits 7 4 tag) r s (omega arith) (omega arith) in
    simp (eq-eqb (bits 25 25 tag) 1 h, w, ← e, ← c) (only (regime_at r) (security_at s) z (bit_of tag 24))
  where
    other : (z c g o : Bool) → (z && (c && g) && (not g || false) && o) ≡ false
    other true true true o = refl
    other true true false o = refl
    other true false g o = refl
    other false c g o = refl

    only : (r : Regime) (s : Security) (z g : Bool) →
        ((is_el10 r || z) && (is_secure s && g) && (not g || is_el10 r) && is_state_of r s) ≡ (is_el10 r && is_secure s && g)
    only EL10 Secure z true = refl
    only EL10 Secure z false = refl
    only EL10 NonSecure z g = refl
    only EL10 Realm z g = refl
    only EL10 Root z g = refl
    only EL20 s z g = other z (is_secure s) g (is_state_of EL20 s)
    only EL2 s z g = other z (is_secure s) g (is_state_of EL2 s)
    only EL3 s z g = other z (is_secure s) g (is_state_of EL3 s)

-- any other of EL1&0 is never Root
pub company-el10 : (tag : ℕ) → (bits 25 25 tag ≡ 1 → ⊥) → bits 5 4 tag ≡ 0 → is_company (company_at tag) ≡ not (eqb (bits 7 6 tag) 3)
unfolding is_company company_at
company-el10 tag n h =
    let s : bits 7 6 tag < 4 = mod-lt (tag / 2 ^ 6) (omega arith) in
    simp (ne_eqb (bits 25 25 tag) 1 n, h, or_right (not (bit_of tag 24)) true refl, root-number (bits 7 6 tag) s)

-- and of another regime has neither VMID nor stage 2
pub company-elsewhere : (tag : ℕ) → (bits 25 25 tag ≡ 1 → ⊥) → (bits 5 4 tag ≡ 0 → ⊥) →
    is_company (company_at tag) ≡ (eqb (bits 24 8 tag) 0 && is_state_of (regime_at (bits 5 4 tag)) (security_at (bits 7 6 tag)))
unfolding is_company company_at
company-elsewhere tag n m =
    let r = bits 5 4 tag in
    let v = bits 23 8 tag in
    let g = bits 24 24 tag in
    let e : is_el10 (regime_at r) ≡ eqb r 0 = el10-number r (mod-lt (tag / 2 ^ 4) (omega arith)) in
    let u : bits 24 8 tag ≡ v + g * 2 ^ 16 = omega arith in
    let w : eqb (bits 24 8 tag) 0 ≡ (eqb v 0 && eqb g 0) = both (bits 24 8 tag) v g (omega arith) (omega arith) in
    let f : not (eqb g 1) ≡ eqb g 0 = off g (mod-lt (tag / 2 ^ 24) (omega arith)) in
    simp (ne_eqb (bits 25 25 tag) 1 n, e, ne_eqb r 0 m, w, ← f) (less (eqb v 0) (eqb g 1) (is_state_of (regime_at r) (security_at (bits 7 6 tag))))
  where
    less : (z g o : Bool) → (z && true && (not g || false) && o) ≡ (z && not g && o)
    less true true o = refl
    less true false o = refl
    less false g o = refl

-- "EL3's state is Root or Secure; other regimes are never Root."
pub state-el3 : (r s : ℕ) → r ≡ 3 → s < 4 → is_state_of (regime_at r) (security_at s) ≡ (eqb s 3 || eqb s 0)
state-el3 r s h b = simp (h, root-number s b, secure-number s b)

pub state-other : (r s : ℕ) → r < 4 → (r ≡ 3 → ⊥) → s < 4 → is_state_of (regime_at r) (security_at s) ≡ not (eqb s 3)
state-other r s h n b = simp (← root-number s b) (go r h n)
  where
    go : (m : ℕ) → m < 4 → (m ≡ 3 → ⊥) → is_state_of (regime_at m) (security_at s) ≡ not (is_root (security_at s))
    go zero h n = refl
    go (suc zero) h n = refl
    go (suc (suc zero)) h n = refl
    go (suc (suc (suc m))) h n = absurd (n (omega arith))

-- stage 1 of regimes 0 and 1 has ASIDs
pub asids-number : (tag : ℕ) → has_asids (company_at tag) ≡ (eqb (bits 5 5 tag) 0 && eqb (bits 24 24 tag) 0)
unfolding has_asids company_at
asids-number tag =
    let h : bits 5 4 tag / 2 ≡ bits 5 5 tag = omega arith in
    simp (two-number (bits 5 4 tag) (mod-lt (tag / 2 ^ 4) (omega arith)), off (bits 24 24 tag) (mod-lt (tag / 2 ^ 24) (omega arith)), h)

-- there an address of either half is in reach, and any ASID
pub reach-two : (base tag : ℕ) → base < 2 ^ 64 → has_asids (company_at tag) ≡ true →
    ((has_asids (company_at tag) || (eqb (bits 43 28 tag) 0 && not (bit_of tag 44))) && in_reach (company_at tag) base)
    ≡ (eqb (base / 2 ^ 55) 0 || eqb (base / 2 ^ 55) 511)
unfolding in_reach
reach-two base tag b h = let t : bits 63 55 base ≡ base / 2 ^ 55 = omega arith in simp (h, t)

-- elsewhere one below 2^56, and neither ASID nor global flag
pub reach-one : (base tag : ℕ) → has_asids (company_at tag) ≡ false →
    ((has_asids (company_at tag) || (eqb (bits 43 28 tag) 0 && not (bit_of tag 44))) && in_reach (company_at tag) base)
    ≡ (eqb (bits 44 28 tag) 0 && ltb base (2 ^ 56))
unfolding in_reach
reach-one base tag h =
    let u : bits 44 28 tag ≡ bits 43 28 tag + bits 44 44 tag * 2 ^ 16 = omega arith in
    let w = both (bits 44 28 tag) (bits 43 28 tag) (bits 44 44 tag) (omega arith) (omega arith) in
    simp (h, w, off (bits 44 44 tag) (mod-lt (tag / 2 ^ 44) (omega arith)))

-- how an entry can stand, by global flag, width, height and leaf bit as one number
abbrev placed_in : ℕ → Bool
placed_in p = is_placed (bit_of p 5) (pos 3 -ℤ pos (bits 4 2 p)) (bit_of p 0)

pub placed-mask : 0xFFF00055550 ≡ mask_from placed_in 0 64
unfolding mask_from
placed-mask = refl

pub placed-number : (tag : ℕ) → bit_of (mask_from placed_in 0 64) (bits 49 44 tag) ≡ is_placed (bit_of tag 49) (pos 3 -ℤ pos (bits 48 46 tag)) (bit_of tag 44)
placed-number tag =
    let p : ℕ = bits 49 44 tag in
    let t : ℕ = tag / 2 ^ 44 in
    let leaf : p / 2 ^ 5 % 2 ≡ tag / 2 ^ 49 % 2 = top t ∙ ap (λ (q : ℕ). q % 2) (div-div-eq-div-mul tag (2 ^ 44) 32) in
    let height : bits 4 2 p ≡ bits 48 46 tag = middle t ∙ ap (λ (q : ℕ). q % 8) (div-div-eq-div-mul tag (2 ^ 44) 4) in
    let global : p / 2 ^ 0 % 2 ≡ tag / 2 ^ 44 % 2 = lowest t in
    let same : 0 + p ≡ p = omega arith in
    mask-bit placed_in 0 64 p (mod-lt t (omega arith))
    ∙ ap placed_in same
    ∙ ap (λ (b : ℕ). is_placed (eqb b 1) (pos 3 -ℤ pos (bits 4 2 p)) (bit_of p 0)) leaf
    ∙ ap₂ (λ (h b : ℕ). is_placed (bit_of tag 49) (pos 3 -ℤ pos h) (eqb b 1)) height global
  where
    top : (t : ℕ) → t % 64 / 32 % 2 ≡ t / 32 % 2
    top t = omega arith

    middle : (t : ℕ) → t % 64 / 4 % 8 ≡ t / 4 % 8
    middle t = omega arith

    lowest : (t : ℕ) → t % 64 / 1 % 2 ≡ t % 2
    lowest t = omega arith

pub ruleset numbers = (asids-number, reach-two, reach-one, placed-mask, placed-number)
