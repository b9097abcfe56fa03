-- What the mask of a look-up leaves of a tag.
use Prim.Native.Nat.{ℕ, ◌+◌, ◌*◌, ◌/◌, ◌%◌, ◌^◌, ◌<◌}
use mathlib.Core.Path.{◌≡◌, sym, ap, ap₂, ◌∙◌}
use native.Mathlib.Nat.{mod-lt}
use native.Mathlib.Omega.{arith}
use lib.Bits.{bit_and, and_mask, and_block}
use lib.Pow.{pow_pos, split, shr-shr, mod-mod-pow}

-- bits 63:51, which are the processor and all above it, bit 49, the leaf's, and bits 25:0, the company
abbrev pub masked : ℕ → ℕ
masked tag = bit_and tag 0xFFFA000003FFFFFF

pub masked-is : (tag : ℕ) → masked tag ≡ tag / 2 ^ 51 % 2 ^ 13 * 2 ^ 51 + tag / 2 ^ 49 % 2 * 2 ^ 49 + tag % 2 ^ 26
masked-is tag =
    let high = upper (tag / 2 ^ 49) ∙ ap (λ (x : ℕ). x % 2 ^ 13 * 2 ^ 2 + tag / 2 ^ 49 % 2) (shr-shr tag 49 2) in
    let low = and_mask (tag % 2 ^ 49) 26 ∙ mod-mod-pow tag 23 26 in
    ap masked (sym (split tag 49)) ∙ and_block 49 (tag / 2 ^ 49) 0x7FFD (tag % 2 ^ 49) 0x3FFFFFF (mod-lt tag (pow_pos 49)) (omega arith)
    ∙ ap₂ (λ (x y : ℕ). x * 2 ^ 49 + y) high low ∙ sum (tag / 2 ^ 51 % 2 ^ 13) (tag / 2 ^ 49 % 2) (tag % 2 ^ 26)
  where
    upper : (n : ℕ) → bit_and n 0x7FFD ≡ n / 2 ^ 2 % 2 ^ 13 * 2 ^ 2 + n % 2
    upper n =
        ap (λ (x : ℕ). bit_and x 0x7FFD) (sym (split n 2)) ∙ and_block 2 (n / 2 ^ 2) 0x1FFF (n % 2 ^ 2) 1 (mod-lt n (pow_pos 2)) (omega arith)
        ∙ ap₂ (λ (x y : ℕ). x * 2 ^ 2 + y) (and_mask (n / 2 ^ 2) 13) (and_mask (n % 2 ^ 2) 1 ∙ mod-mod-pow n 1 1)

    sum : (p l c : ℕ) → (p * 2 ^ 2 + l) * 2 ^ 49 + c ≡ p * 2 ^ 51 + l * 2 ^ 49 + c
    sum p l c = omega arith

-- what it leaves of a leaf of the company and the processor
abbrev pub wanted : ℕ → ℕ → ℕ
wanted key own = key + 2 ^ 49 + own * 2 ^ 51

-- a tag with that is the company's, and a leaf of both has it
pub wanted-key : (key own tag : ℕ) → key < 2 ^ 26 → masked tag ≡ wanted key own → tag % 2 ^ 26 ≡ key
wanted-key key own tag h e = omega (arith, masked-is tag)

pub leaf-wanted : (key own tag : ℕ) → tag < 2 ^ 54 → tag % 2 ^ 26 ≡ key → tag / 2 ^ 49 % 2 ≡ 1 → tag / 2 ^ 51 ≡ own → masked tag ≡ wanted key own
leaf-wanted key own tag h c l p =
    let top : tag / 2 ^ 51 % 2 ^ 13 ≡ own = omega arith in omega (arith, masked-is tag, top, l, c)
