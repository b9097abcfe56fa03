-- What a test of two parts says of each part.
use Prim.Native.Nat.{ℕ}
use mathlib.Core.Bool.{Bool, true, false, cond, not, ◌&&◌, ◌||◌}
use mathlib.Core.Path.{◌≡◌, refl, sym, ap, ◌∙◌}
use native.Mathlib.Omega.{arith}

pub and_0 : (a b : Bool) → (a && b) ≡ true → a ≡ true
and_0 true b h = refl
and_0 false b h = h

pub and-1 : (a b : Bool) → (a && b) ≡ true → b ≡ true
and-1 true b h = h
and-1 false b h = absurd (let z : ◌≡◌ {A = ℕ} 0 1 = cc in omega arith)

-- what cannot hold does not
pub not_so : (b : Bool) → (b ≡ true → ⊥) → b ≡ false
not_so true n = absurd (n refl)
not_so false n = refl

pub or-0 : (a b : Bool) → (a || b) ≡ false → a ≡ false
or-0 true b h = h
or-0 false b h = refl

pub or-1 : (a b : Bool) → (a || b) ≡ false → b ≡ false
or-1 true b h = absurd (let z : ◌≡◌ {A = ℕ} 0 1 = cc in omega arith)
or-1 false b h = h

-- nothing is both
pub clash : {A : Type 0} {b : Bool} → b ≡ true → b ≡ false → A
clash t f = absurd (let h : true ≡ false = sym t ∙ f in let z : ◌≡◌ {A = ℕ} 0 1 = cc in omega arith)

-- two of which each holds where the other does are one
pub alike : (a b : Bool) → (a ≡ true → b ≡ true) → (b ≡ true → a ≡ true) → a ≡ b
alike true b there back = sym (there refl)
alike false true there back = back refl
alike false false there back = refl

-- a part that holds is enough
pub or_left : (a b : Bool) → a ≡ true → (a || b) ≡ true
or_left a b h = ap (λ (x : Bool). x || b) h

pub or_right : (a b : Bool) → b ≡ true → (a || b) ≡ true
or_right true b h = refl
or_right false b h = h

-- a flag is the one that it is
pub cond-self : (b : Bool) → cond b b (not b) ≡ true
cond-self true = refl
cond-self false = refl
