-- A test at any number below a bound: what it says, the laws of a loop that looks for such a number, and how many numbers a few can hold.
use Prim.Native.Nat.{ℕ, zero, suc, ◌+◌, ◌<◌, ◌≤◌}
use mathlib.Core.Bool.{Bool, true, false, cond, ◌||◌}
use mathlib.Core.List.{List}
use mathlib.Core.Path.{◌≡◌, refl, ap, ap₂, ◌∙◌}
use native.Mathlib.Decide.{ℕ_discrete}
use native.Mathlib.Nat.{not-suc-le-zero}
use native.Mathlib.Numerals.{add-one}
use native.Mathlib.Omega.{arith}
use borrow.Author.Tests.{ltb-true}
use Rattle.laws.proofs.Slots.{first_holds, some-none}
use Rattle.laws.proofs.Truth.{or-0, or-1, not_so, clash}
use Rattle.laws.specs.Every.{any}
use Rattle.laws.specs.Slots.{slots, holds_at, first, some}

-- where it holds at none, it holds at no number below n
pub any_none : (f : ℕ → Bool) (n : ℕ) → any f n ≡ false → (k : ℕ) → k < n → f k ≡ false
unfolding any
any_none f zero h k l = absurd (not-suc-le-zero l)
any_none f (suc n) h k l = go (any_none f n (or-1 (f n) (any f n) h) k) (ℕ_discrete k n)
  where
    go : (k < n → f k ≡ false) → Dec (k ≡ n) → f k ≡ false
    go below (yes e) = ap f e ∙ or-0 (f n) (any f n) h
    go below (no d) = below (omega arith)

pub none_any : (f : ℕ → Bool) (n : ℕ) → ((k : ℕ) → k < n → f k ≡ false) → any f n ≡ false
unfolding any
none_any f zero h = refl
none_any f (suc n) h = simp (h n (omega arith), none_any f n (λ (k : ℕ) (l : k < n). h k (omega arith)))

-- where it holds at any, there is one
pub record Some (f : ℕ → Bool) (n : ℕ) : Type 0 where
  pub place : ℕ
  pub within : place < n
  pub holds : f place ≡ true

pub any_some : (f : ℕ → Bool) (n : ℕ) → any f n ≡ true → Some f n
unfolding any
any_some f zero h = absurd (let z : ◌≡◌ {A = ℕ} 0 1 = cc in omega arith)
any_some f (suc n) h = go (f n) refl (any_some f n) h
  where
    go : (b : Bool) → f n ≡ b → (any f n ≡ true → Some f n) → (b || any f n) ≡ true → Some f (suc n)
    go true e rest i = record { place = n; within = omega arith; holds = e }
    go false e rest i = let s = rest i in record { place = s.place; within = omega (arith, s.within); holds = s.holds }

pub some-any : (f : ℕ → Bool) (n k : ℕ) → k < n → f k ≡ true → any f n ≡ true
some-any f n k l h = go (any f n) refl
  where
    go : (b : Bool) → any f n ≡ b → any f n ≡ true
    go true e = e
    go false e = clash h (any_none f n e k l)

-- of the slots of a list, it is some slot's
pub any-slots : (f : ℕ → Bool) (p : ℕ → ℕ → ℕ → Bool) (l : List ℕ) → ((i : ℕ) → i < slots l → f i ≡ holds_at p l i) → any f (slots l) ≡ some p l
any-slots f p l same = go (some p l) refl
  where
    go : (b : Bool) → some p l ≡ b → any f (slots l) ≡ b
    go true e = let n = ltb-true (first p l) (slots l) e in some-any f (slots l) (first p l) n (same (first p l) n ∙ first_holds p l n)
    go false e = none_any f (slots l) (λ (i : ℕ) (n : i < slots l). same i n ∙ some-none p l e i n)

-- A loop that has met none: at its start and at a turn.
pub any-start : (f : ℕ → Bool) → any f 0 ≡ false
unfolding any
any-start f = refl

pub any-more : (f : ℕ → Bool) (n : ℕ) → f n ≡ false → any f n ≡ false → any f (n + 1) ≡ false
unfolding any
any-more f n p q = simp (add-one, p, q)

-- A loop that keeps whether it has met one: at a turn and at its end.
pub any-turn : (f : ℕ → Bool) (n : ℕ) (r b : Bool) → r ≡ f n → b ≡ any f n → (r || b) ≡ any f (n + 1)
unfolding any
any-turn f n r b p q = simp (add-one, p, q)

pub any-end : (f : ℕ → Bool) (j n : ℕ) (b : Bool) → b ≡ any f j → j ≤ n → n ≤ j → b ≡ any f n
any-end f j n b e k l = let i : j ≡ n = omega arith in e ∙ ap (any f) i

-- tests that agree at each number below n
pub any_same : (f g : ℕ → Bool) (n : ℕ) → ((k : ℕ) → k < n → f k ≡ g k) → any f n ≡ any g n
unfolding any
any_same f g zero h = refl
any_same f g (suc n) h = ap₂ ◌||◌ (h n (omega arith)) (any_same f g n (λ (k : ℕ) (l : k < n). h k (omega arith)))

-- how many numbers below n the test holds at
unfoldable many : (ℕ → Bool) → ℕ → ℕ
many f zero = 0
many f (suc n) = cond (f n) 1 0 + many f n

many-none : (n : ℕ) → many (λ (b : ℕ). false) n ≡ 0
unfolding many
many-none zero = refl
many-none (suc n) = omega (arith, many-none n)

many-or : (f g : ℕ → Bool) (n : ℕ) → many (λ (b : ℕ). f b || g b) n ≤ many f n + many g n
unfolding many
many-or f g zero = omega arith
many-or f g (suc n) = go (f n) (g n) (many-or f g n)
  where
    go : (a b : Bool) → many (λ (x : ℕ). f x || g x) n ≤ many f n + many g n →
        cond (a || b) 1 0 + many (λ (x : ℕ). f x || g x) n ≤ (cond a 1 0 + many f n) + (cond b 1 0 + many g n)
    go true true h = omega arith
    go true false h = omega arith
    go false true h = omega arith
    go false false h = omega arith

many-all : (f : ℕ → Bool) (n : ℕ) → ((b : ℕ) → b < n → f b ≡ true) → many f n ≡ n
unfolding many
many-all f zero h = refl
many-all f (suc n) h =
    let rest : many f n ≡ n = many-all f n (λ (b : ℕ) (l : b < n). h b (omega arith)) in
    let here : ◌≡◌ {A = ℕ} (cond (f n) 1 0) 1 = ap (λ (b : Bool). cond b 1 0) (h n (omega arith)) in
    omega (arith, rest, here)

-- no test that holds at one number at most holds at two
many-one : (f : ℕ → Bool) (n : ℕ) → ((a b : ℕ) → f a ≡ true → f b ≡ true → a ≡ b) → many f n ≤ 1
unfolding many
many-one f zero h = omega arith
many-one f (suc n) h = go (f n) refl (many-one f n h)
  where
    below : f n ≡ true → (m : ℕ) → m ≤ n → many f m ≡ 0
    below e zero l = refl
    below e (suc m) l =
        let not : f m ≡ false = not_so (f m) (λ (t : f m ≡ true). let x : m ≡ n = h m n t e in omega arith) in
        let rest : many f m ≡ 0 = below e m (omega arith) in
        let here : ◌≡◌ {A = ℕ} (cond (f m) 1 0) 0 = ap (λ (b : Bool). cond b 1 0) not in
        omega (arith, rest, here)

    go : (b : Bool) → f n ≡ b → many f n ≤ 1 → cond b 1 0 + many f n ≤ 1
    go true e rest = let z : many f n ≡ 0 = below e n (omega arith) in omega (arith, z)
    go false e rest = omega arith

bound : (f : ℕ → ℕ → Bool) (n a : ℕ) → ((k x y : ℕ) → f k x ≡ true → f k y ≡ true → x ≡ y) → many (λ (b : ℕ). any (λ (k : ℕ). f k b) n) a ≤ n
unfolding any
bound f zero a one = omega (arith, many-none a)
bound f (suc n) a one = omega (arith, many-or (f n) (λ (b : ℕ). any (λ (k : ℕ). f k b) n) a, many-one (f n) a (one n), bound f n a one)

-- if n tests that hold at one number each at most reach every number below a, then a is not above n
pub few : (f : ℕ → ℕ → Bool) (n a : ℕ) → ((k x y : ℕ) → f k x ≡ true → f k y ≡ true → x ≡ y) →
    ((b : ℕ) → b < a → any (λ (k : ℕ). f k b) n ≡ true) → a ≤ n
few f n a one all = let e : many (λ (b : ℕ). any (λ (k : ℕ). f k b) n) a ≡ a = many-all (λ (b : ℕ). any (λ (k : ℕ). f k b) n) a all in omega (arith, e, bound f n a one)
