-- Bytes as one number: how large it is, that no others have it, and when they are all one byte.
use Prim.Native.Nat.{ℕ, zero, suc, ◌+◌, ◌*◌, ◌^◌, ◌<◌, ◌≤◌}
use mathlib.Core.Bool.{true}
use mathlib.Core.List.{List, [], ◌∷◌}
use mathlib.Core.Path.{◌≡◌, refl, sym, ap, ap₂, ◌∙◌}
use native.Mathlib.Nat.{pow-succ'}
use native.Mathlib.Omega.{arith}
use lib.Dec.{eqb}
use lib.ListN.{length, get_or, drop, replicate, length-drop, get_or-replicate}
use lib.Seq.{get_or-drop, ext_get_or}
use borrow.Author.Tests.{eqb-true, eq-eqb}
use Rattle.laws.proofs.Every.{at, each}
use Rattle.laws.proofs.Truth.{alike}
use Rattle.laws.specs.Every.{every}
use Rattle.processor.specs.Domains.{is_first, number_of}
use Rattle.std.specs.Int.{w64, from_le_bytes}

-- each is below 256, as is the 0 that stands for those past the last
abbrev pub Bytes : List ℕ → Type 0
Bytes l = (k : ℕ) → get_or l k 0 < 256

-- at most n bytes are a number below 256 ^ n
number-below : (l : List ℕ) (n : ℕ) → Bytes l → length l ≤ n → number_of l < 256 ^ n
unfolding number_of
number-below [] zero h m = omega arith
number-below [] (suc n) h m = omega (arith, pow-succ' 256 n, number-below [] n h (omega arith))
number-below (b ∷ bs) zero h m = absurd (omega arith)
number-below (b ∷ bs) (suc n) h m = omega (arith, pow-succ' 256 n, h 0, number-below bs n (λ (k : ℕ). h (suc k)) (omega arith))

-- and what is left of them always fits n bytes too
pub number_fits : (l : List ℕ) (p n m : ℕ) → Bytes l → length l ≤ n → m ≡ number_of (drop p l) → m < 256 ^ n
number_fits l p n m h s e =
    let left : length (drop p l) ≤ n = omega (arith, length-drop p l) in
    omega (arith, e, number-below (drop p l) n (λ (k : ℕ). omega (arith, get_or-drop p l k 0, h (p + k))) left)

-- eight bytes as the library's number of them
pub eight_bytes : (l : List ℕ) → length l ≡ 8 → from_le_bytes w64 l ≡ number_of l
unfolding number_of
eight_bytes [] n = absurd (omega arith)
eight_bytes (a ∷ []) n = absurd (omega arith)
eight_bytes (a ∷ b ∷ []) n = absurd (omega arith)
eight_bytes (a ∷ b ∷ c ∷ []) n = absurd (omega arith)
eight_bytes (a ∷ b ∷ c ∷ d ∷ []) n = absurd (omega arith)
eight_bytes (a ∷ b ∷ c ∷ d ∷ e ∷ []) n = absurd (omega arith)
eight_bytes (a ∷ b ∷ c ∷ d ∷ e ∷ f ∷ []) n = absurd (omega arith)
eight_bytes (a ∷ b ∷ c ∷ d ∷ e ∷ f ∷ g ∷ []) n = absurd (omega arith)
eight_bytes (a ∷ b ∷ c ∷ d ∷ e ∷ f ∷ g ∷ h ∷ []) n = omega arith
eight_bytes (a ∷ b ∷ c ∷ d ∷ e ∷ f ∷ g ∷ h ∷ i ∷ l) n = absurd (omega arith)

-- as many bytes with the same number are the same
pub number_same : (l m : List ℕ) → length l ≡ length m → Bytes l → Bytes m → number_of l ≡ number_of m → l ≡ m
unfolding number_of
number_same [] [] n h k e = refl
number_same [] (b ∷ bs) n h k e = absurd (omega arith)
number_same (a ∷ rs) [] n h k e = absurd (omega arith)
number_same (a ∷ rs) (b ∷ bs) n h k e =
    let first : a ≡ b = omega (arith, h 0, k 0, e) in
    let rest : number_of rs ≡ number_of bs = omega (arith, h 0, k 0, e) in
    ap₂ (λ (y : ℕ) (ys : List ℕ). y ∷ ys) first (number_same rs bs (omega arith) (λ (i : ℕ). h (suc i)) (λ (i : ℕ). k (suc i)) rest)

bytes-all : (n x : ℕ) → x < 256 → Bytes (replicate n x)
bytes-all zero x h k = omega arith
bytes-all (suc n) x h zero = h
bytes-all (suc n) x h (suc k) = bytes-all n x h k

-- eight that are all x: x times the number of eight ones
number-eight : (x : ℕ) → number_of (replicate 8 x) ≡ x * 0x0101010101010101
unfolding number_of
number-eight x = omega arith

-- eight bytes are all the first exactly if their number is the first times that of eight ones
pub number-first : (l : List ℕ) → length l ≡ 8 → Bytes l → eqb (number_of l) (get_or l 0 0 * 0x0101010101010101) ≡ every (is_first l) 8
number-first l n h = alike (eqb (number_of l) (x * 0x0101010101010101)) (every (is_first l) 8) there back
  where
    x : ℕ
    x = get_or l 0 0

    all : number_of l ≡ x * 0x0101010101010101 → l ≡ replicate 8 x
    all e = number_same l (replicate 8 x) n h (bytes-all 8 x (h 0)) (e ∙ sym (number-eight x))

    there : eqb (number_of l) (x * 0x0101010101010101) ≡ true → every (is_first l) 8 ≡ true
    there e =
        let same : l ≡ replicate 8 x = all (eqb-true (number_of l) (x * 0x0101010101010101) e) in
        each (is_first l) 8 (λ (k : ℕ) (m : k < 8). eq-eqb (get_or l k 0) x (ap (λ (y : List ℕ). get_or y k 0) same ∙ get_or-replicate 8 k x 0 m))

    back : every (is_first l) 8 ≡ true → eqb (number_of l) (x * 0x0101010101010101) ≡ true
    back e =
        let one : (k : ℕ) → k < length l → get_or l k 0 ≡ get_or (replicate 8 x) k 0 =
        λ (k : ℕ) (m : k < length l).
        let u : k < 8 = omega arith in
        eqb-true (get_or l k 0) x (at (is_first l) 8 e k u) ∙ sym (get_or-replicate 8 k x 0 u) in
        eq-eqb (number_of l) (x * 0x0101010101010101) (ap number_of (ext_get_or 0 l (replicate 8 x) n one) ∙ number-eight x)
