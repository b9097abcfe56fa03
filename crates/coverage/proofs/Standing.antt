-- The lowest processor that the target names and every step reaches: which processors come after it.
use Prim.Native.Nat.{ℕ, ◌<◌, ◌≤◌}
use mathlib.Core.Bool.{Bool, true, false}
use mathlib.Core.Path.{◌≡◌, refl, sym}
use native.Mathlib.Omega.{arith}
use lib.Dec.{ltb}
use borrow.Author.Tests.{ltb-true, ltb-false}
use Rattle.std.specs.Prelude.{Option, Some, None}
use Rattle.laws.proofs.Any.{none_any, some-any}
use Rattle.laws.specs.Every.{any}
use Rattle.coverage.specs.Processors.{is_shared, is_after, Leads}

-- a processor comes after it exactly if it comes after one that the target names and every step reaches
pub lead_any : (processors common : ℕ) (o : Option ℕ) (p : ℕ) → Leads processors common o → p ≤ 8 → is_after p o ≡ any (is_shared processors common) p
lead_any processors common None p h l = sym (none_any (is_shared processors common) p (λ (x : ℕ) (k : x < p). h x (omega arith)))
lead_any processors common (Some r) p (h, m, e) l = go (ltb r p) refl
  where
    go : (b : Bool) → ltb r p ≡ b → b ≡ any (is_shared processors common) p
    go true i = sym (some-any (is_shared processors common) p r (ltb-true r p i) e)
    go false i =
        let n : p ≤ r = ltb-false r p i in sym (none_any (is_shared processors common) p (λ (x : ℕ) (k : x < p). h x (omega arith)))
