-- What an entry and an operation that fit say of their fields.
use Prim.Native.Nat.{ℕ, ◌%◌, ◌<◌}
use mathlib.Core.Bool.{Bool, true, false, cond, ◌&&◌}
use mathlib.Core.Path.{◌≡◌, refl, ap}
use native.Mathlib.Nat.{mod-eq_of_lt}
use lib.Dec.{eqb, ltb}
use lib.IntN.{ℤ}
use borrow.Author.Tests.{ltb-true}
use Rattle.std.specs.Prelude.{Some, None}
use Rattle.laws.proofs.Truth.{and_0, and-1}
use Rattle.machine.specs.Span.{is_level}
use Rattle.received.specs.Entries.{company_fits, entry_fits}
use Rattle.received.specs.Numbers.{is_flag, flag_in, is_regime, level_in, level_from}
use Rattle.received.specs.Operations.{operation_fits}
use Rattle.received.specs.declared.entry.EntryRecord.{EntryRecord}
use Rattle.received.specs.declared.operation.OperationRecord.{OperationRecord}

-- a flag that fits is its lowest bit
abbrev Lowest : ℕ → Type 0
Lowest x = eqb (x % 2) 1 ≡ flag_in x

lowest : (x : ℕ) → is_flag x ≡ true → Lowest x
lowest x h = ap (λ (y : ℕ). eqb y 1) (mod-eq_of_lt (ltb-true x 2 h))

-- a level that there is fits
pub level-fit : (x : ℕ) (l : ℤ) → level_from x ≡ Some l → (is_level (level_in x) ≡ true) × (level_in x ≡ l)
level-fit x l = go (is_level (level_in x)) refl
  where
    go : (b : Bool) → is_level (level_in x) ≡ b → cond b (Some (level_in x)) None ≡ Some l → (is_level (level_in x) ≡ true) × (level_in x ≡ l)
    go true e h = (e, cc)
    go false e h = absurd cc

pub record EntryFit (e : EntryRecord) : Type 0 where
  pub stage2 : Lowest e.company.stage2
  pub ns : Lowest e.company.ns
  pub global : Lowest e.global
  pub wide : Lowest e.wide
  pub leaf : Lowest e.leaf
  pub xs : Lowest e.xs

pub entry-fit : (e : EntryRecord) → entry_fits e ≡ true → EntryFit e
unfolding entry_fits
entry-fit e whole =
    let c = company_fits e.company in
    let numbers = ltb e.processor 8 && ltb e.asid 65536 && ltb e.granule 4 in
    let g = is_flag e.global in
    let w = is_flag e.wide in
    let l = is_flag e.leaf in
    let x = is_flag e.xs in
    let h = and_0 (c && numbers && (g && w && l && x)) (is_level (level_in e.level)) whole in
    let flags = and-1 (c && numbers) (g && w && l && x) h in
    let three = and_0 (g && w && l) x flags in
    let two = and_0 (g && w) l three in
    let numbered = is_regime e.company.regime && ltb e.company.security 4 && ltb e.company.vmid 65536 in
    let s = is_flag e.company.stage2 in
    let n = is_flag e.company.ns in
    let company = and_0 c numbers (and_0 (c && numbers) (g && w && l && x) h) in
    record {
      stage2 = lowest e.company.stage2 (and-1 numbered s (and_0 (numbered && s) n company));
      ns = lowest e.company.ns (and-1 (numbered && s) n company);
      global = lowest e.global (and_0 g w two);
      wide = lowest e.wide (and-1 g w two);
      leaf = lowest e.leaf (and-1 (g && w) l three);
      xs = lowest e.xs (and-1 (g && w && l) x flags);
    }

pub record OperationFit (o : OperationRecord) : Type 0 where
  pub share : o.share < 3
  pub nxs : Lowest o.nxs
  pub tlbip : Lowest o.tlbip

pub operation-fit : (o : OperationRecord) → operation_fits o ≡ true → OperationFit o
unfolding operation_fits
operation-fit o h5 =
    let n = ltb o.name 10 in
    let s = ltb o.share 3 in
    let x = is_flag o.nxs in
    let t = is_flag o.tlbip in
    let h4 = and_0 (n && s && x && t) (ltb o.rt 32) h5 in
    let h3 = and_0 (n && s && x) t h4 in
    let h2 = and_0 (n && s) x h3 in
    record {
      share = ltb-true o.share 3 (and-1 n s h2);
      nxs = lowest o.nxs (and-1 (n && s) x h3);
      tlbip = lowest o.tlbip (and-1 (n && s && x) t h4);
    }
