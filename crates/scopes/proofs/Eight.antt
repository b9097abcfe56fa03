-- Bytes of one number, all at once: which are 0, which are a given byte, and a bit of each side by side.
use Prim.Native.Nat.{ℕ, zero, suc, ◌+◌, ◌*◌, ◌/◌, ◌%◌, ◌^◌, ◌<◌}
use mathlib.Core.Bool.{Bool, true, false, cond}
use mathlib.Core.List.{List}
use mathlib.Core.Path.{◌≡◌, refl, sym, ap, ap₂, ◌∙◌}
use native.Mathlib.Nat.{mod-lt}
use native.Mathlib.Omega.{arith}
use lib.Bits.{bit_and, bit_or, bit_xor, and_block, or_block, xor_block, and_le_l, and_le_r, and_zero_r, or_lt, xor_lt, xor_add_and, xor_self}
use lib.Dec.{eqb, lit<}
use lib.ListN.{length, get_or, drop}
use lib.Seq.{drop-cons}
use borrow.Author.Tests.{eqb-true, eq-eqb}
use Rattle.laws.proofs.Every.{at}
use Rattle.laws.proofs.Mask.{mask_below}
use Rattle.laws.proofs.Truth.{alike}
use Rattle.laws.specs.Every.{every}
use Rattle.laws.specs.Mask.{mask_from}
use Rattle.processor.proofs.Number.{Bytes}
use Rattle.processor.specs.Domains.{number_of}
use Rattle.scopes.specs.Bytes.{gathered_of, zero_bytes}

-- n bytes that are all c
unfoldable pub all_of : ℕ → ℕ → ℕ
all_of c zero = 0
all_of c (suc n) = all_of c n * 2 ^ 8 + c

-- the top bit of each of the lowest n bytes that is not 0
abbrev some_bytes : ℕ → ℕ → ℕ
some_bytes x n = bit_and (bit_or (bit_and x (all_of 127 n) + all_of 127 n) x) (all_of 128 n)

-- of one byte, by all there are
abbrev is_told : ℕ → Bool
is_told r = eqb (bit_and (bit_or (bit_and r 127 + 127) r) 128 + 128 * cond (eqb r 0) 1 0) 128

told : every is_told 256 ≡ true
unfolding every
told = refl

-- so in each of n bytes: either its top bit is told, or it is 0
some_bytes_lem : (n x : ℕ) → some_bytes x n + 128 * zero_bytes x n ≡ all_of 128 n
unfolding all_of zero_bytes
some_bytes_lem zero x = omega (arith, and_zero_r (bit_or (bit_and x 0 + 0) x))
some_bytes_lem (suc n) x =
    let h : ℕ = x / 256 in
    let r : ℕ = x % 256 in
    let a : ℕ = all_of 127 n in
    let low : r < 2 ^ 8 = mod-lt x (omega arith) in
    let whole : x ≡ h * 2 ^ 8 + r = omega arith in
    let bound : bit_and r 127 + 127 < 2 ^ 8 = omega (arith, and_le_r r 127) in
    let lower : bit_and x (a * 2 ^ 8 + 127) ≡ bit_and h a * 2 ^ 8 + bit_and r 127 = ap (λ (y : ℕ). bit_and y (a * 2 ^ 8 + 127)) whole ∙ and_block 8 h a r 127 low (lit< tt) in
    let carried : bit_and x (a * 2 ^ 8 + 127) + (a * 2 ^ 8 + 127) ≡ (bit_and h a + a) * 2 ^ 8 + (bit_and r 127 + 127) = omega (arith, lower) in
    let joined : bit_or (bit_and x (a * 2 ^ 8 + 127) + (a * 2 ^ 8 + 127)) x ≡ bit_or (bit_and h a + a) h * 2 ^ 8 + bit_or (bit_and r 127 + 127) r =
    ap₂ bit_or carried whole ∙ or_block 8 (bit_and h a + a) h (bit_and r 127 + 127) r bound low in
    let tops : some_bytes x (suc n) ≡ some_bytes h n * 2 ^ 8 + bit_and (bit_or (bit_and r 127 + 127) r) 128 =
    ap (λ (y : ℕ). bit_and y (all_of 128 n * 2 ^ 8 + 128)) joined
    ∙ and_block 8 (bit_or (bit_and h a + a) h) (all_of 128 n) (bit_or (bit_and r 127 + 127) r) 128 (or_lt 8 (bit_and r 127 + 127) r bound low) (lit< tt) in
    let byte : bit_and (bit_or (bit_and r 127 + 127) r) 128 + 128 * cond (eqb r 0) 1 0 ≡ 128 = eqb-true (bit_and (bit_or (bit_and r 127 + 127) r) 128 + 128 * cond (eqb r 0) 1 0) 128 (at is_told 256 told r low) in
    omega (arith, tops, byte, some_bytes_lem n h)

-- two numbers have no difference exactly if they are one
xor-none : (a b : ℕ) → eqb (bit_xor a b) 0 ≡ eqb a b
xor-none a b =
    alike (eqb (bit_xor a b) 0) (eqb a b)
    (λ (e : eqb (bit_xor a b) 0 ≡ true). eq-eqb a b (omega (arith, eqb-true (bit_xor a b) 0 e, xor_add_and a b, and_le_l a b, and_le_r a b)))
    (λ (e : eqb a b ≡ true). eq-eqb (bit_xor a b) 0 (ap (bit_xor a) (sym (eqb-true a b e)) ∙ xor_self a))

-- f at p and at the n - 1 numbers after it, each in a byte of its own
unfoldable spread_from : (ℕ → Bool) → ℕ → ℕ → ℕ
spread_from f p zero = 0
spread_from f p (suc n) = cond (f p) 1 0 + 256 * spread_from f (suc p) n

-- the bytes from p on that are d
equal-bytes : (l : List ℕ) (d : ℕ) → Bytes l → d < 2 ^ 8 → (n p : ℕ) → p + n ≡ length l →
    zero_bytes (bit_xor (number_of (drop p l)) (all_of d n)) n ≡ spread_from (λ (q : ℕ). eqb (get_or l q 0) d) p n
unfolding all_of zero_bytes number_of spread_from
equal-bytes l d h s zero p e = refl
equal-bytes l d h s (suc n) p e =
    let b : ℕ = get_or l p 0 in
    let N : ℕ = number_of (drop (suc p) l) in
    let X : ℕ = bit_xor N (all_of d n) in
    let low : p < length l = omega arith in
    let number : number_of (drop p l) ≡ N * 2 ^ 8 + b = (let turn : number_of (drop p l) ≡ b + 256 * N = ap number_of (drop-cons l p 0 low) in omega (arith, turn)) in
    let difference : bit_xor (number_of (drop p l)) (all_of d n * 2 ^ 8 + d) ≡ X * 2 ^ 8 + bit_xor b d =
    ap (λ (y : ℕ). bit_xor y (all_of d n * 2 ^ 8 + d)) number ∙ xor_block 8 N (all_of d n) b d (h p) s in
    let small : bit_xor b d < 2 ^ 8 = xor_lt 8 b d (h p) s in
    let first : bit_xor (number_of (drop p l)) (all_of d n * 2 ^ 8 + d) % 256 ≡ bit_xor b d = omega (arith, difference, small) in
    let others : bit_xor (number_of (drop p l)) (all_of d n * 2 ^ 8 + d) / 256 ≡ X = omega (arith, difference, small) in
    ap₂ (λ (t : Bool) (z : ℕ). cond t 1 0 + 256 * z)
    (ap (λ (y : ℕ). eqb y 0) first ∙ xor-none b d)
    (ap (λ (y : ℕ). zero_bytes y n) others ∙ equal-bytes l d h s n (suc p) (omega arith))

-- the n lowest bits of m, each in a byte of its own
unfoldable spread_bits : ℕ → ℕ → ℕ
spread_bits m zero = 0
spread_bits m (suc n) = m % 2 + 256 * spread_bits (m / 2) n

spread-mask : (f : ℕ → Bool) (n p : ℕ) → spread_bits (mask_from f p n) n ≡ spread_from f p n
unfolding mask_from spread_from spread_bits
spread-mask f zero p = refl
spread-mask f (suc n) p =
    let m : ℕ = mask_from f (suc p) n in
    ap₂ (λ (b z : ℕ). b + 256 * z) (lowest (f p) m) (ap (λ (y : ℕ). spread_bits y n) (halved (f p) m) ∙ spread-mask f n (suc p))
  where
    lowest : (b : Bool) (m : ℕ) → (cond b 1 0 + 2 * m) % 2 ≡ cond b 1 0
    lowest true m = omega arith
    lowest false m = omega arith

    halved : (b : Bool) (m : ℕ) → (cond b 1 0 + 2 * m) / 2 ≡ m
    halved true m = omega arith
    halved false m = omega arith

-- eight bits that were spread are gathered again, by all there are
abbrev is_gathered : ℕ → Bool
is_gathered m = eqb (gathered_of (spread_bits m 8)) m

gathered-all : every is_gathered 256 ≡ true
unfolding every spread_bits
gathered-all = refl

all-eight : (d : ℕ) → all_of d 8 ≡ d * 0x0101010101010101
unfolding all_of
all-eight d = omega arith

-- which of eight bytes are d
pub bytes-told : (l : List ℕ) (d : ℕ) → length l ≡ 8 → Bytes l → d < 2 ^ 8 →
    gathered_of (zero_bytes (bit_xor (number_of l) (d * 0x0101010101010101)) 8) ≡ mask_from (λ (p : ℕ). eqb (get_or l p 0) d) 0 8
bytes-told l d n h s =
    let f : ℕ → Bool = λ (p : ℕ). eqb (get_or l p 0) d in
    let e : 0 + 8 ≡ length l = omega arith in
    ap (λ (y : ℕ). gathered_of (zero_bytes (bit_xor (number_of l) y) 8)) (sym (all-eight d))
    ∙ ap gathered_of (equal-bytes l d h s 8 0 e ∙ sym (spread-mask f 8 0))
    ∙ eqb-true (gathered_of (spread_bits (mask_from f 0 8) 8)) (mask_from f 0 8) (at is_gathered 256 gathered-all (mask_from f 0 8) (mask_below f 0 8))

-- and which are 0
pub zero_told : (x : ℕ) →
    bit_and (bit_or (bit_and x 0x7F7F7F7F7F7F7F7F + 0x7F7F7F7F7F7F7F7F) x) 0x8080808080808080 + 128 * zero_bytes x 8 ≡ 0x8080808080808080
unfolding all_of
zero_told x = some_bytes_lem 8 x
