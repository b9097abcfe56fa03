-- Which entries a target asks for, and which targets are legal, by computation: each part alone.
use Rattle.std.specs.Prelude.{Some, None}
use Prim.Native.Nat.{ℕ, ◌^◌, ◌-◌}
use mathlib.Core.Bool.{Bool, true, false}
use mathlib.Core.List.{[], ◌∷◌}
use mathlib.Core.Path.{◌≡◌, refl}
use lib.IntN.{pos}
use Rattle.std.specs.Prelude.{Option, Some, None}
use Rattle.machine.proofs.Sample.{at, stage1, stage2, guest, page_of, placed_of}
use Rattle.machine.specs.Answer.{decoded_number, built_number}
use Rattle.machine.specs.Entry.{is_company, has_asids, in_reach}
use Rattle.machine.specs.Span.{exponent_of, exponent_at, height_of}
use Rattle.machine.specs.Table.{same_company}
use Rattle.machine.specs.Target.{are_addresses, is_target, aims}
use Rattle.machine.specs.declared.entry.Company.{Company}
use Rattle.machine.specs.declared.judge.Target.{Target}
use Rattle.machine.specs.declared.scope.Regime.TheVariants.{EL10, EL2}
use Rattle.machine.specs.declared.scope.Security.TheVariants.{NonSecure, Root}

-- 4K entries on processor 1 from 0x40000000 to 0x40003FFF: of one ASID or all, of leaves or all, of a width
abbrev asks : Option ℕ → Bool → Bool → Target
asks asid leaves wide =
    record { company = guest; wide = wide; granule = 1; asid = asid; leaves = leaves; processors = 2; first = 0x40000000; last = 0x40003FFF }

-- all, or one ASID: the page is of ASID 5
pub asids :
    (aims (asks None false false) (page_of guest 1 5 false 0x40000000) ≡ true)
    × (aims (asks (Some 5) false false) (page_of guest 1 5 false 0x40000000) ≡ true)
    × (aims (asks (Some 6) false false) (page_of guest 1 5 false 0x40000000) ≡ false)
    × (aims (asks (Some 6) false false) (page_of guest 1 5 true 0x40000000) ≡ true)
    × (aims (asks None false false) (page_of guest 1 6 false 0x40000000) ≡ true)
unfolding aims same_company exponent_of exponent_at height_of
asids = (refl, refl, refl, refl, refl)

-- processor, company, and addresses before, at both ends of and behind the target's
pub places :
    (aims (asks None false false) (page_of guest 0 5 false 0x40000000) ≡ false)
    × (aims (asks None false false) (page_of (stage1 EL10 NonSecure 8) 1 5 false 0x40000000) ≡ false)
    × (aims (asks None false false) (page_of guest 1 5 false 0x3FFFF000) ≡ false)
    × (aims (asks None false false) (page_of guest 1 5 false 0x40003000) ≡ true)
    × (aims (asks None false false) (page_of guest 1 5 false 0x40004000) ≡ false)
unfolding aims same_company exponent_of exponent_at height_of
places = (refl, refl, refl, refl, refl)

-- leaves only or not, width, granule; a non-leaf whose span holds the target's addresses
pub kinds :
    (aims (asks None false false) (placed_of false 1 (pos 2) false false 0x40000000) ≡ true)
    × (aims (asks None true false) (placed_of false 1 (pos 2) false false 0x40000000) ≡ false)
    × (aims (asks None true false) (placed_of false 1 (pos 2) true false 0x40000000) ≡ true)
    × (aims (asks None false true) (placed_of false 1 (pos 2) true false 0x40000000) ≡ false)
    × (aims (asks None false true) (placed_of true 1 (pos 2) true false 0x40000000) ≡ true)
    × (aims (asks None false false) (placed_of false 2 (pos 2) true false 0x40000000) ≡ false)
unfolding aims same_company exponent_of exponent_at height_of
kinds = (refl, refl, refl, refl, refl, refl)

-- a target of leaves and tables on a board of three processors
abbrev over : Company → ℕ → Option ℕ → ℕ → ℕ → ℕ → Target
over c granule asid set first last =
    record { company = c; wide = false; granule = granule; asid = asid; leaves = false; processors = set; first = first; last = last }

abbrev legal : Target → Bool
legal t = is_target (at 1 []) t

-- processors: all, one, none, one that is not there; granules 0 and 4; one ASID where there are none; companies that no entry can have
pub rules :
    (legal (over guest 1 (Some 0) 7 0 0)
    ∷ legal (over guest 1 (Some 0) 1 0 0)
    ∷ legal (over guest 1 (Some 0) 0 0 0)
    ∷ legal (over guest 1 (Some 0) 8 0 0)
    ∷ legal (over guest 0 (Some 0) 7 0 0)
    ∷ legal (over guest 3 (Some 0) 7 0 0)
    ∷ legal (over guest 4 (Some 0) 7 0 0)
    ∷ legal (over (stage1 EL2 NonSecure 0) 1 None 7 0 0)
    ∷ legal (over (stage1 EL2 NonSecure 0) 1 (Some 0) 7 0 0)
    ∷ legal (over (stage2 EL10 NonSecure 7 false) 1 None 7 0 0)
    ∷ legal (over (stage2 EL10 NonSecure 7 false) 1 (Some 0) 7 0 0)
    ∷ legal (over (stage1 EL2 NonSecure 7) 1 None 7 0 0)
    ∷ legal (over (stage1 EL10 Root 7) 1 (Some 0) 7 0 0)
    ∷ []
    ≡ true ∷ true ∷ false ∷ false ∷ false ∷ true ∷ false ∷ true ∷ false ∷ true ∷ false ∷ false ∷ false ∷ [])
unfolding is_target are_addresses is_company has_asids in_reach
rules = refl

-- addresses: in falling order; the halves' ends; one in each half, which in_reach alone would let pass; below 2^56 and beyond
pub addresses :
    (legal (over guest 1 (Some 0) 7 5 4)
    ∷ legal (over guest 1 (Some 0) 7 0 (2 ^ 55 - 1))
    ∷ legal (over guest 1 (Some 0) 7 0 (2 ^ 55))
    ∷ legal (over guest 1 (Some 0) 7 (2 ^ 64 - 2 ^ 55) (2 ^ 64 - 1))
    ∷ legal (over guest 1 (Some 0) 7 (2 ^ 64 - 2 ^ 55 - 1) (2 ^ 64 - 1))
    ∷ legal (over guest 1 (Some 0) 7 0 (2 ^ 64 - 1))
    ∷ legal (over (stage1 EL2 NonSecure 0) 1 None 7 (2 ^ 55) (2 ^ 56 - 1))
    ∷ legal (over (stage1 EL2 NonSecure 0) 1 None 7 0 (2 ^ 56))
    ∷ []
    ≡ false ∷ true ∷ false ∷ true ∷ false ∷ false ∷ true ∷ false ∷ [])
unfolding is_target are_addresses is_company has_asids in_reach
addresses = refl

-- the numbers of decode and build
pub numbers : (decoded_number None ≡ 1) × (built_number (Some 5) ≡ 0) × (built_number None ≡ 8)
numbers = (refl, refl, refl)
