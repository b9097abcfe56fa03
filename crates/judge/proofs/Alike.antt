-- What an operation asks of an entry's level and ASID, of entries that have them alike.
use Prim.Native.Nat.{ℕ}
use mathlib.Core.Bool.{Bool, cond}
use mathlib.Core.Path.{◌≡◌, refl, ap, ap₂}
use lib.Dec.{eqb}
use lib.IntN.{ℤ}
use lib.Signed.{lt_z}
use Rattle.std.specs.Prelude.{Option, Some, None}
use Rattle.machine.specs.Entry.{is_same_asid}
use Rattle.machine.specs.Goes.{is_at_level}
use Rattle.machine.specs.Span.{same_level}
use Rattle.machine.specs.declared.entry.Entry.{Entry}

pub level-alike : (o : Option ℤ) (d e : Entry) → d.leaf ≡ e.leaf → d.level ≡ e.level → is_at_level o d ≡ is_at_level o e
level-alike None d e f l = refl
level-alike (Some x) d e f l = ap₂ (λ (b : Bool) (z : ℤ). cond b (same_level z x) (lt_z z x)) f l

pub asid-alike : (o : Option ℕ) (d e : Entry) → d.asid ≡ e.asid → is_same_asid o d ≡ is_same_asid o e
asid-alike None d e i = refl
asid-alike (Some n) d e i = ap (λ (x : ℕ). eqb x n) i
