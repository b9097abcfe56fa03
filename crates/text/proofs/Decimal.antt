-- A number in decimal: its last digit, two or four, the digits before them, and how many there are at most.
use Prim.Native.Nat.{ℕ, zero, suc, ◌+◌, ◌/◌, ◌%◌, ◌^◌, ◌≤◌, ◌<◌}
use mathlib.Core.Path.{◌≡◌, refl, sym, ap}
use mathlib.Core.Bool.{Bool, true, false, cond}
use mathlib.Core.List.{List, [], ◌∷◌, ◌++◌, append_assoc}
use native.Mathlib.Nat.{pow-suc, le_refl}
use native.Mathlib.Decide.{dec_lt}
use native.Mathlib.Omega.{arith}
use lib.Dec.{ltb, lit≤}
use lib.ListN.{length, length-append}
use borrow.Author.Tests.{lt-ltb, le-ltb}
use Rattle.machine.specs.Text.{digits, decimal_of}
use Rattle.text.specs.Put.{Put}
use Rattle.text.proofs.Put.{and_then, put_as, put_most}

-- room for more digits than a number has changes nothing
spare : (k x : ℕ) → x < 10 ^ suc k → digits (suc (suc k)) x ≡ digits (suc k) x
unfolding digits
spare zero x l = simp (lt-ltb x 10 l)
spare (suc k) x l =
    let less : x / 10 < 10 ^ suc k = omega (arith, pow-suc 10 (suc k)) in
    go (ltb x 10) refl (spare k (x / 10) less)
  where
    go : (b : Bool) → ltb x 10 ≡ b → digits (suc (suc k)) (x / 10) ≡ digits (suc k) (x / 10) →
        digits (suc (suc (suc k))) x ≡ digits (suc (suc k)) x
    go true t rest = simp t
    go false t rest = rw t (ap (λ (d : List ℕ). d ++ ((48 + x % 10) ∷ [])) rest)

-- a number below 10 is its digit
pub decimal-last : (x : ℕ) → x < 10 → decimal_of x ≡ (48 + x) ∷ []
unfolding digits decimal_of
decimal-last x h = simp (lt-ltb x 10 h)

-- any other is the digits of its tenth, and then its last digit
pub decimal-more : (x : ℕ) → 10 ≤ x → x < 2 ^ 64 → decimal_of x ≡ decimal_of (x / 10) ++ ((48 + x % 10) ∷ [])
unfolding digits decimal_of
decimal-more x h l =
    let less : x / 10 < 10 ^ 19 = omega arith in
    simp (le-ltb x 10 h) (ap (λ (d : List ℕ). d ++ ((48 + x % 10) ∷ [])) (sym (spare 18 (x / 10) less)))

-- a number of two digits is those
pub decimal-pair : (x : ℕ) → 10 ≤ x → x < 100 → decimal_of x ≡ (48 + x / 10) ∷ (48 + x % 10) ∷ []
decimal-pair x h l =
    let f : x < 2 ^ 64 = omega arith in
    let t : x / 10 < 10 = omega arith in
    rw (decimal-more x h f, decimal-last (x / 10) t) refl

-- a larger one is the digits of its hundredth, and then the two of the rest, of which the first may be 0
pub decimal-hundreds : (x : ℕ) → 100 ≤ x → x < 2 ^ 64 → decimal_of x ≡ decimal_of (x / 100) ++ ((48 + x % 100 / 10) ∷ (48 + x % 100 % 10) ∷ [])
decimal-hundreds x h l =
    let m : 10 ≤ x = omega arith in
    let t : 10 ≤ x / 10 = omega arith in
    let f : x / 10 < 2 ^ 64 = omega arith in
    let hundredth : x / 10 / 10 ≡ x / 100 = omega arith in
    let tens : x / 10 % 10 ≡ x % 100 / 10 = omega arith in
    let ones : x % 10 ≡ x % 100 % 10 = omega arith in
    rw (decimal-more x m l, decimal-more (x / 10) t f, hundredth, tens, ones)
    (append_assoc (decimal_of (x / 100)) ((48 + x % 100 / 10) ∷ []) ((48 + x % 100 % 10) ∷ []))

-- and so by four digits
pub decimal-myriads : (x : ℕ) → 10000 ≤ x → x < 2 ^ 64 → decimal_of x ≡
    decimal_of (x / 10000) ++ ((48 + x % 10000 / 100 / 10) ∷ (48 + x % 10000 / 100 % 10) ∷ (48 + x % 10000 % 100 / 10) ∷ (48 + x % 10000 % 100 % 10) ∷ [])
decimal-myriads x h l =
    let m : 100 ≤ x = omega arith in
    let t : 100 ≤ x / 100 = omega arith in
    let f : x / 100 < 2 ^ 64 = omega arith in
    let part : x / 100 / 100 ≡ x / 10000 = omega arith in
    let high : x / 100 % 100 ≡ x % 10000 / 100 = omega arith in
    let low : x % 100 ≡ x % 10000 % 100 = omega arith in
    rw (decimal-hundreds x m l, decimal-hundreds (x / 100) t f, part, high, low)
    (append_assoc
    (decimal_of (x / 10000))
    ((48 + x % 10000 / 100 / 10) ∷ (48 + x % 10000 / 100 % 10) ∷ [])
    ((48 + x % 10000 % 100 / 10) ∷ (48 + x % 10000 % 100 % 10) ∷ []))

-- how many digits these are
pub length-hundreds : (x : ℕ) → 100 ≤ x → x < 2 ^ 64 → length (decimal_of x) ≡ length (decimal_of (x / 100)) + 2
length-hundreds x h l = omega (arith, simp length-append at (ap length (decimal-hundreds x h l)))

pub length-myriads : (x : ℕ) → 10000 ≤ x → x < 2 ^ 64 → length (decimal_of x) ≡ length (decimal_of (x / 10000)) + 4
length-myriads x h l = omega (arith, simp length-append at (ap length (decimal-myriads x h l)))

few : (k x : ℕ) → length (digits k x) ≤ k
unfolding digits
few zero x = omega arith
few (suc k) x = go (ltb x 10) (few k (x / 10))
  where
    go : (b : Bool) → length (digits k (x / 10)) ≤ k →
        length (cond b ((48 + x) ∷ []) (digits k (x / 10) ++ ((48 + x % 10) ∷ []))) ≤ suc k
    go true h = omega arith
    go false h = simp length-append (omega arith)

-- a number below 100 has at most two digits
pub decimal-two : (x : ℕ) → x < 100 → length (decimal_of x) ≤ 2
decimal-two x h = go (dec_lt x 10)
  where
    go : Dec (x < 10) → length (decimal_of x) ≤ 2
    go (yes l) = rw (decimal-last x l) (lit≤ tt)
    go (no l) =
        let m : 10 ≤ x = omega arith in
        rw (decimal-pair x m h) (lit≤ tt)

-- a number has at most 20 digits
pub decimal-few : (x : ℕ) → length (decimal_of x) ≤ 20
unfolding decimal_of
decimal-few x = few 20 x

pub put_last : {b a : List ℕ} {n r : ℕ} (x : ℕ) → x < 10 → Put b n a r ((48 + x) ∷ []) 1 → Put b n a r (decimal_of x) 20
put_last x h p = put_as p (lit≤ tt) (sym (decimal-last x h))

pub put-pair : {b a : List ℕ} {n r : ℕ} (x : ℕ) → 10 ≤ x → x < 100 → Put b n a r ((48 + x / 10) ∷ (48 + x % 10) ∷ []) 2 → Put b n a r (decimal_of x) 20
put-pair x h l p = put_as p (lit≤ tt) (sym (decimal-pair x h l))

pub put-hundreds : {b m a : List ℕ} {n r q : ℕ} (x : ℕ) → 100 ≤ x → x < 2 ^ 64 →
    Put b n m r (decimal_of (x / 100)) 20 → Put m r a q ((48 + x % 100 / 10) ∷ (48 + x % 100 % 10) ∷ []) 2 → Put b n a q (decimal_of x) 20
put-hundreds x h l p d = put_most 20 (put_as (and_then 20 2 p d) (le_refl 22) (sym (decimal-hundreds x h l))) (decimal-few x)

pub put-myriads : {b m a : List ℕ} {n r q : ℕ} (x : ℕ) → 10000 ≤ x → x < 2 ^ 64 → Put b n m r (decimal_of (x / 10000)) 20 →
    Put m r a q ((48 + x % 10000 / 100 / 10) ∷ (48 + x % 10000 / 100 % 10) ∷ (48 + x % 10000 % 100 / 10) ∷ (48 + x % 10000 % 100 % 10) ∷ []) 4 →
    Put b n a q (decimal_of x) 20
put-myriads x h l p d = put_most 20 (put_as (and_then 20 4 p d) (le_refl 24) (sym (decimal-myriads x h l))) (decimal-few x)
