-- The row of a name's numbers is that name, and the numbers of a row's name are the row's.
use Rattle.std.specs.Prelude.{Option, Some, None}
use Prim.Native.Nat.{ℕ, ◌+◌, ◌*◌, ◌/◌, ◌%◌, ◌<◌}
use mathlib.Core.Bool.{Bool, true, ◌&&◌}
use mathlib.Core.Path.{◌≡◌, refl}
use native.Mathlib.Omega.{arith}
use lib.Dec.{eqb, ltb}
use borrow.Author.Tests.{eqb-true, ltb-true}
use Rattle.laws.proofs.Every.{at}
use Rattle.laws.proofs.Truth.{and_0, and-1}
use Rattle.laws.specs.Every.{every}
use Rattle.machine.specs.Word.{family_of, op1_of, crm_of, op2_of, row_of}
use Rattle.machine.specs.declared.operation.Name.TheVariants.{RVAE1, RVAAE1, RVALE1, RVAALE1, RVAE2, RVALE2, RVAE3, RVALE3, RIPAS2E1, RIPAS2LE1}
use Rattle.machine.specs.declared.operation.Name.{Name}
use Rattle.machine.specs.declared.operation.Share.TheVariants.{Local, Inner, Outer}
use Rattle.machine.specs.declared.operation.Share.{Share}

-- what holds of each shareability holds of all
by-share : (P : Share → Type 0) → P Local → P Inner → P Outer → (s : Share) → P s
by-share P l i o Local = l
by-share P l i o Inner = i
by-share P l i o Outer = o

-- op1, CRm and op2 of a name and a shareability fit their places, and their row is that name
abbrev Placed : Name → Share → Type 0
Placed n s =
    (row_of (op1_of (family_of n)) (crm_of (family_of n) s) (op2_of n s) ≡ Some (n, s))
    × (ltb (op1_of (family_of n)) 8 ≡ true)
    × (ltb (crm_of (family_of n) s) 16 ≡ true)
    × (ltb (op2_of n s) 8 ≡ true)

placed : (n : Name) (s : Share) → Placed n s
unfolding row_of
placed RVAE1 = by-share (Placed RVAE1) (refl, refl, refl, refl) (refl, refl, refl, refl) (refl, refl, refl, refl)
placed RVAAE1 = by-share (Placed RVAAE1) (refl, refl, refl, refl) (refl, refl, refl, refl) (refl, refl, refl, refl)
placed RVALE1 = by-share (Placed RVALE1) (refl, refl, refl, refl) (refl, refl, refl, refl) (refl, refl, refl, refl)
placed RVAALE1 = by-share (Placed RVAALE1) (refl, refl, refl, refl) (refl, refl, refl, refl) (refl, refl, refl, refl)
placed RVAE2 = by-share (Placed RVAE2) (refl, refl, refl, refl) (refl, refl, refl, refl) (refl, refl, refl, refl)
placed RVALE2 = by-share (Placed RVALE2) (refl, refl, refl, refl) (refl, refl, refl, refl) (refl, refl, refl, refl)
placed RVAE3 = by-share (Placed RVAE3) (refl, refl, refl, refl) (refl, refl, refl, refl) (refl, refl, refl, refl)
placed RVALE3 = by-share (Placed RVALE3) (refl, refl, refl, refl) (refl, refl, refl, refl) (refl, refl, refl, refl)
placed RIPAS2E1 = by-share (Placed RIPAS2E1) (refl, refl, refl, refl) (refl, refl, refl, refl) (refl, refl, refl, refl)
placed RIPAS2LE1 = by-share (Placed RIPAS2LE1) (refl, refl, refl, refl) (refl, refl, refl, refl) (refl, refl, refl, refl)

pub row-of-numbers : (n : Name) (s : Share) → row_of (op1_of (family_of n)) (crm_of (family_of n) s) (op2_of n s) ≡ Some (n, s)
row-of-numbers n s = (placed n s).0

pub op1-below : (n : Name) (s : Share) → op1_of (family_of n) < 8
op1-below n s = ltb-true _ _ (placed n s).1

pub crm-below : (n : Name) (s : Share) → crm_of (family_of n) s < 16
crm-below n s = ltb-true _ _ (placed n s).2

pub op2-below : (n : Name) (s : Share) → op2_of n s < 8
op2-below n s = ltb-true _ _ (placed n s).3

-- a row that is named has the numbers of its name
abbrev agrees : Option (Name × Share) → ℕ → ℕ → ℕ → Bool
agrees (Some (n, s)) o m p = eqb (op1_of (family_of n)) o && (eqb (crm_of (family_of n) s) m && eqb (op2_of n s) p)
agrees None o m p = true

-- the test at op1, CRm and op2 joined into one number below 1,024
test : ℕ → Bool
test k = agrees (row_of (k / 128) (k / 8 % 16) (k % 8)) (k / 128) (k / 8 % 16) (k % 8)

all-agree : every test 1024 ≡ true
unfolding row_of test every
all-agree = refl

agrees_at : (o m p : ℕ) → o < 8 → m < 16 → p < 8 → agrees (row_of o m p) o m p ≡ true
unfolding test
agrees_at o m p ho hm hp =
    let k : ℕ = o * 128 + m * 8 + p in
    let l : k < 1024 = omega arith in
    let a : k / 128 ≡ o = omega arith in
    let b : k / 8 % 16 ≡ m = omega arith in
    let c : k % 8 ≡ p = omega arith in
    simp (a, b, c) at (at test 1024 all-agree k l)

-- the numbers of a name are those of its row
pub record Numbers (o m p : ℕ) (n : Name) (s : Share) : Type 0 where
  pub op1 : op1_of (family_of n) ≡ o
  pub crm : crm_of (family_of n) s ≡ m
  pub op2 : op2_of n s ≡ p

pub numbers-of-row : (o m p : ℕ) → o < 8 → m < 16 → p < 8 → (n : Name) (s : Share) → row_of o m p ≡ Some (n, s) → Numbers o m p n s
numbers-of-row o m p ho hm hp n s h =
    let one : Bool = eqb (op1_of (family_of n)) o in
    let two : Bool = eqb (crm_of (family_of n) s) m in
    let three : Bool = eqb (op2_of n s) p in
    let t : (one && (two && three)) ≡ true = rw h at (agrees_at o m p ho hm hp) in
    let u : (two && three) ≡ true = and-1 one (two && three) t in
    record {
      op1 = eqb-true _ _ (and_0 one (two && three) t);
      crm = eqb-true _ _ (and_0 two three u);
      op2 = eqb-true _ _ (and-1 two three u);
    }
