-- Entries, tags, insert and look up by computation: each rule of 01 at its edges.
use Prim.Native.Nat.{ℕ, ◌+◌, ◌*◌, ◌-◌, ◌^◌}
use mathlib.Core.Bool.{Bool, true, false}
use mathlib.Core.List.{List, [], ◌∷◌, ◌++◌, map}
use mathlib.Core.Path.{◌≡◌, refl}
use lib.IntN.{ℤ, pos, negsuc}
use lib.ListN.{replicate}
use Rattle.laws.specs.Every.{every}
use Rattle.laws.specs.Slots.{first}
use Rattle.machine.proofs.Sample.{two, three, NS, NSE, EEL2, E2H, TGE, RME, SEL2, at, boarded, stage1, stage2, guest, page_of, page, placed_of, slot, zeros, junk}
use Rattle.machine.specs.Answer.{number_of, value_of, looked_up_slot, looked_up_out, looked_up_examined}
use Rattle.machine.specs.Entry.{is_company, has_asids, in_reach, is_legal}
use Rattle.machine.specs.Span.{is_level, height_of, exponent_at, exponent_of, has_span}
use Rattle.machine.specs.State.{security_of, security_in, el2_enabled, vmid_in, domains_agree, bad_board, bad_fields, bad_state}
use Rattle.machine.specs.Table.{inserted_of, insert_table, same_company, stage1_of, holds_address, translates, matches, looked_up_of}
use Rattle.machine.specs.Tag.{company_tag, tag_of, company_at, entry_at, is_entry}
use Rattle.machine.specs.declared.entry.Company.{Company}
use Rattle.machine.specs.declared.entry.Entry.{Entry}
use Rattle.machine.specs.declared.processor.State.{State}
use Rattle.machine.specs.declared.scope.Regime.{Regime}
use Rattle.machine.specs.declared.scope.Regime.TheVariants.{EL10, EL20, EL2, EL3}
use Rattle.machine.specs.declared.scope.Security.TheVariants.{Secure, NonSecure, Realm, Root}

-- which of them are legal
abbrev legality : List Entry → List Bool
legality l = map is_legal l

-- "processor (0 to 7)", "VMID (0 outside EL1&0)", "ASID and global flag (both 0 in EL2, EL3 and stage 2)"
pub numbers :
    (legality
    (page_of guest 0 9 false 0
    ∷ page_of guest 7 9 false 0
    ∷ page_of (stage1 EL10 NonSecure (2 ^ 16 - 1)) 1 (2 ^ 16 - 1) true 0
    ∷ page_of (stage1 EL20 NonSecure 0) 1 9 true 0
    ∷ page (stage1 EL2 NonSecure 0) 0
    ∷ page (stage1 EL3 Root 0) 0
    ∷ page (stage2 EL10 NonSecure 7 false) 0
    ∷ [])
    ≡ replicate 7 true)
    × (legality
    (page_of guest 8 9 false 0
    ∷ page_of guest 255 9 false 0
    ∷ page (stage1 EL20 NonSecure 7) 0
    ∷ page (stage1 EL2 NonSecure 7) 0
    ∷ page (stage1 EL3 Root 7) 0
    ∷ page_of (stage1 EL2 NonSecure 0) 1 9 false 0
    ∷ page_of (stage1 EL2 NonSecure 0) 1 0 true 0
    ∷ page_of (stage1 EL3 Root 0) 1 9 false 0
    ∷ page_of (stage1 EL3 Root 0) 1 0 true 0
    ∷ page_of (stage2 EL10 NonSecure 7 false) 1 9 false 0
    ∷ page_of (stage2 EL10 NonSecure 7 false) 1 0 true 0
    ∷ [])
    ≡ replicate 11 false)
unfolding is_legal is_company has_asids in_reach has_span is_level exponent_of exponent_at height_of
numbers = (refl, refl)

-- "IPA space (as NS; Secure stage 2 only, else 0)", "Stage 2 is EL1&0.", "EL3's state is Root or Secure; other regimes are never Root."
pub companies :
    (legality
    (page (stage2 EL10 Secure 7 false) 0
    ∷ page (stage2 EL10 Secure 7 true) 0
    ∷ page (stage2 EL10 Realm 7 false) 0
    ∷ page (stage1 EL10 Secure 7) 0
    ∷ page (stage1 EL10 Realm 7) 0
    ∷ page (stage1 EL20 Realm 0) 0
    ∷ page (stage1 EL2 Secure 0) 0
    ∷ page (stage1 EL3 Secure 0) 0
    ∷ [])
    ≡ replicate 8 true)
    × (legality
    (page (stage2 EL10 NonSecure 7 true) 0
    ∷ page (stage2 EL10 Realm 7 true) 0
    ∷ page (record { regime = EL10; security = Secure; vmid = 7; stage2 = false; ns = true }) 0
    ∷ page (stage2 EL20 NonSecure 0 false) 0
    ∷ page (stage2 EL2 NonSecure 0 false) 0
    ∷ page (stage2 EL3 Secure 0 false) 0
    ∷ page (stage1 EL3 NonSecure 0) 0
    ∷ page (stage1 EL3 Realm 0) 0
    ∷ page (stage1 EL10 Root 7) 0
    ∷ page (stage1 EL20 Root 0) 0
    ∷ page (stage1 EL2 Root 0) 0
    ∷ page (stage2 EL10 Root 7 false) 0
    ∷ [])
    ≡ replicate 12 false)
unfolding is_legal is_company has_asids in_reach has_span is_level exponent_of exponent_at height_of
companies = (refl, refl)

-- "Non-leaf is level -1 to 2 and never global, leaf 1 to 3.", "A level without a span is illegal."
pub levels :
    (legality
    (placed_of false 1 (negsuc 0) false false 0
    ∷ placed_of false 1 (pos 0) false false 0
    ∷ placed_of false 1 (pos 2) false false 0
    ∷ placed_of false 1 (pos 1) false false 0
    ∷ placed_of false 1 (pos 1) true true 0
    ∷ placed_of false 1 (pos 2) true false 0
    ∷ placed_of false 2 (pos 3) true true 0
    ∷ placed_of true 2 (negsuc 0) false false 0
    ∷ placed_of true 3 (pos 0) false false 0
    ∷ [])
    ≡ replicate 9 true)
    × (legality
    (placed_of false 1 (pos 3) false false 0
    ∷ placed_of false 1 (pos 2) false true 0
    ∷ placed_of false 1 (pos 0) true false 0
    ∷ placed_of false 1 (negsuc 0) true false 0
    ∷ placed_of false 1 (pos 4) true false 0
    ∷ placed_of false 1 (negsuc 1) false false 0
    ∷ placed_of false 2 (negsuc 0) false false 0
    ∷ placed_of false 3 (negsuc 0) false false 0
    ∷ placed_of false 3 (pos 0) false false 0
    ∷ placed_of true 3 (negsuc 0) false false 0
    ∷ placed_of false 0 (pos 3) true false 0
    ∷ placed_of false 4 (pos 3) true false 0
    ∷ [])
    ≡ replicate 12 false)
unfolding is_legal is_company has_asids in_reach has_span is_level exponent_of exponent_at height_of
levels = (refl, refl)

-- "The base is a multiple of the span; bits 63:55 are equal (stage 1 of EL1&0 and EL2&0), or it is below 2^56 (all else)."
pub addresses :
    (legality
    (placed_of false 1 (pos 2) true false (2 ^ 21)
    ∷ placed_of true 1 (pos 2) true false (2 ^ 20)
    ∷ placed_of false 2 (pos 3) true false (2 ^ 14)
    ∷ placed_of false 3 (pos 2) true false (2 ^ 29)
    ∷ page guest (2 ^ 55 - 2 ^ 12)
    ∷ page guest (2 ^ 64 - 2 ^ 55)
    ∷ page guest (2 ^ 64 - 2 ^ 12)
    ∷ page (stage1 EL20 NonSecure 0) (2 ^ 64 - 2 ^ 55)
    ∷ page (stage1 EL2 NonSecure 0) (2 ^ 56 - 2 ^ 12)
    ∷ page (stage1 EL3 Root 0) (2 ^ 55)
    ∷ page (stage2 EL10 NonSecure 7 false) (2 ^ 56 - 2 ^ 12)
    ∷ [])
    ≡ replicate 11 true)
    × (legality
    (placed_of false 1 (pos 2) true false (2 ^ 20)
    ∷ placed_of false 2 (pos 3) true false (2 ^ 12)
    ∷ placed_of false 3 (pos 2) true false (2 ^ 28)
    ∷ page guest (2 ^ 11)
    ∷ page guest (2 ^ 55)
    ∷ page guest (2 ^ 56)
    ∷ page guest (2 ^ 62)
    ∷ page guest (2 ^ 64 - 2 ^ 62)
    ∷ page guest (2 ^ 64 - 2 ^ 55 - 2 ^ 12)
    ∷ page guest (2 ^ 63)
    ∷ page (stage1 EL20 NonSecure 0) (2 ^ 55)
    ∷ page (stage1 EL2 NonSecure 0) (2 ^ 56)
    ∷ page (stage1 EL3 Root 0) (2 ^ 64 - 2 ^ 12)
    ∷ page (stage2 EL10 NonSecure 7 false) (2 ^ 56)
    ∷ [])
    ≡ replicate 14 false)
unfolding is_legal is_company has_asids in_reach has_span is_level exponent_of exponent_at height_of
addresses = (refl, refl)

-- The tag as docs/TAG.md places it: each field alone, over the tag of a page of processor 0 in EL1&0, Secure, with VMID 0 and ASID 0.
abbrev plain : Entry
plain = page_of (stage1 EL10 Secure 0) 0 0 false 0

abbrev of : Company → Entry
of c = page_of c 0 0 false 0

abbrev plain_of : Bool → ℕ → ℤ → Bool → Bool → Entry
plain_of wide tg l leaf xs = record {
  processor = 0;
  company = stage1 EL10 Secure 0;
  asid = 0;
  global = false;
  wide = wide;
  granule = tg;
  level = l;
  leaf = leaf;
  xs = xs;
  base = 0;
}

abbrev t : ℕ
t = 1 + 2 ^ 26 + 2 ^ 49

pub placing :
    map tag_of
    (plain
    ∷ of (stage1 EL20 Secure 0)
    ∷ of (stage1 EL2 Secure 0)
    ∷ of (stage1 EL3 Secure 0)
    ∷ of (stage1 EL10 NonSecure 0)
    ∷ of (stage1 EL10 Realm 0)
    ∷ of (stage1 EL3 Root 0)
    ∷ of (stage1 EL10 Secure 1)
    ∷ of (stage2 EL10 Secure 0 false)
    ∷ of (stage2 EL10 Secure 0 true)
    ∷ page_of (stage1 EL10 Secure 0) 0 1 false 0
    ∷ page_of (stage1 EL10 Secure 0) 0 0 true 0
    ∷ page_of (stage1 EL10 Secure 0) 1 0 false 0
    ∷ plain_of true 1 (pos 3) true false
    ∷ plain_of false 2 (pos 3) true false
    ∷ plain_of false 1 (pos 2) true false
    ∷ plain_of false 1 (pos 2) false false
    ∷ plain_of false 1 (pos 3) true true
    ∷ placed_of true 2 (negsuc 0) false false 0
    ∷ [])
    ≡ (t
    ∷ (t + 2 ^ 4)
    ∷ (t + 2 * 2 ^ 4)
    ∷ (t + 3 * 2 ^ 4)
    ∷ (t + 2 ^ 6)
    ∷ (t + 2 * 2 ^ 6)
    ∷ (t + 3 * 2 ^ 4 + 3 * 2 ^ 6)
    ∷ (t + 2 ^ 8)
    ∷ (t + 2 ^ 24)
    ∷ (t + 2 ^ 24 + 2 ^ 25)
    ∷ (t + 2 ^ 28)
    ∷ (t + 2 ^ 44)
    ∷ (t + 2 ^ 51)
    ∷ (t + 2 ^ 45)
    ∷ (t + 2 ^ 26)
    ∷ (t + 2 ^ 46)
    ∷ (t + 2 ^ 46 - 2 ^ 49)
    ∷ (t + 2 ^ 50)
    ∷ (1 + 2 ^ 6 + 7 * 2 ^ 8 + 2 * 2 ^ 26 + 9 * 2 ^ 28 + 2 ^ 45 + 4 * 2 ^ 46 + 2 ^ 50 + 2 ^ 51)
    ∷ [])
unfolding tag_of company_tag height_of
placing = refl

-- Slots that make sense, and slots that do not: all zeros, a base alone, another layout number, a bit above the
-- places, a height of 5, a granule of 0, a base off the span, and fields that break a rule.
abbrev tagged : ℕ
tagged = tag_of (page_of guest 1 9 false (2 ^ 12))

pub senses :
    (is_entry (2 ^ 12) tagged ∷ is_entry 0 tagged ∷ is_entry (2 ^ 64 - 2 ^ 12) tagged ∷ []) ≡ replicate 3 true
unfolding is_entry is_legal is_company has_asids in_reach has_span is_level exponent_of exponent_at height_of tag_of company_tag company_at entry_at
senses = refl

pub senseless :
    (is_entry 0 0
    ∷ is_entry (2 ^ 12) 0
    ∷ is_entry (2 ^ 12) (tagged - 1)
    ∷ is_entry (2 ^ 12) (tagged + 1)
    ∷ is_entry (2 ^ 12) (tagged + 2 ^ 54)
    ∷ is_entry (2 ^ 12) (tagged + 2 ^ 63)
    ∷ is_entry 0 (tagged + 5 * 2 ^ 46)
    ∷ is_entry 0 (tagged - 2 ^ 26)
    ∷ is_entry (2 ^ 12 + 1) tagged
    ∷ is_entry (2 ^ 55) tagged
    ∷ is_entry (2 ^ 12) (tagged + 2 ^ 4)
    ∷ is_entry (2 ^ 12) (tagged + 2 ^ 25)
    ∷ is_entry (2 ^ 12) (tagged - 2 ^ 49)
    ∷ [])
    ≡ replicate 13 false
unfolding is_entry is_legal is_company has_asids in_reach has_span is_level exponent_of exponent_at height_of tag_of company_tag company_at entry_at
senseless = refl

-- number, slot and table
abbrev inserting : Entry → ℕ → List ℕ → ℕ × ℕ × List ℕ
inserting e out l = (number_of (inserted_of e l), value_of (inserted_of e l), insert_table e out l)

abbrev mine : Entry
mine = page_of guest 1 9 false (2 ^ 12)

abbrev broken : Entry
broken = page_of guest 8 9 false (2 ^ 12)

-- the lowest slot that reads as empty, zeros or senseless, and every other word stays
pub inserts :
    (inserting mine 33 (slot mine 1 ++ junk ++ zeros) ≡ (0, 1, slot mine 1 ++ slot mine 33 ++ zeros))
    × (inserting mine 33 (slot mine 1 ++ zeros ++ junk) ≡ (0, 1, slot mine 1 ++ slot mine 33 ++ junk))
    × (inserting mine 0 (junk ++ slot mine 1) ≡ (0, 0, slot mine 0 ++ slot mine 1))
    × (inserting mine 33 (slot mine 1 ++ slot mine 1 ++ junk) ≡ (0, 2, slot mine 1 ++ slot mine 1 ++ slot mine 33))
unfolding inserted_of insert_table first is_entry is_legal is_company has_asids in_reach has_span is_level exponent_of exponent_at height_of tag_of company_tag company_at entry_at
inserts = (refl, refl, refl, refl)

-- 13 before 8 before 9; no slots at all; and the table stays
pub refusals :
    (inserting broken 33 (zeros ++ (1 ∷ [])) ≡ (13, 0, zeros ++ (1 ∷ [])))
    × (inserting broken 33 (1 ∷ 2 ∷ []) ≡ (13, 0, 1 ∷ 2 ∷ []))
    × (number_of (inserted_of broken (replicate 6147 0)) ≡ 13)
    × (number_of (inserted_of mine (replicate 6144 0)) ≡ 0)
    × (inserting broken 33 (slot mine 1) ≡ (8, 0, slot mine 1))
    × (inserting broken 33 [] ≡ (8, 0, []))
    × (inserting mine 33 (slot mine 1) ≡ (9, 0, slot mine 1))
    × (inserting mine 33 [] ≡ (9, 0, []))
unfolding inserted_of insert_table first is_entry is_legal is_company has_asids in_reach has_span is_level exponent_of exponent_at height_of tag_of company_tag company_at entry_at
refusals = (refl, refl, refl, refl, refl, refl, refl, refl)

-- number, slot, output word and slots examined
abbrev looking : State → Regime → ℕ → ℕ → List ℕ → ℕ × ℕ × ℕ × ℕ
looking st r asid a l =
    let f = looked_up_of st r asid a l in
    (number_of f, looked_up_slot f, looked_up_out f, looked_up_examined f)

-- at EL1 with EL2, Non-secure, VMID 7
abbrev running : State
running = at 1 (two ∷ [])

-- the lowest match, whatever else stands in the table, and how many slots were examined
pub finds :
    (looking running EL10 9 (2 ^ 12) (slot mine 33) ≡ (0, 0, 33, 1))
    × (looking running EL10 9 (2 ^ 12) (junk ++ zeros ++ slot mine 5 ++ slot mine 6) ≡ (0, 2, 5, 3))
    × (looking running EL10 9 (2 ^ 13) (junk ++ zeros ++ slot mine 5 ++ slot mine 6) ≡ (14, 0, 0, 4))
    × (looking running EL10 9 (2 ^ 12) (slot mine 0) ≡ (0, 0, 0, 1))
    × (looking running EL10 9 (2 ^ 12) [] ≡ (14, 0, 0, 0))
    × (looking (at 0 (two ∷ [])) EL10 9 (2 ^ 12) (slot mine 33) ≡ (0, 0, 33, 1))
unfolding looked_up_of first matches translates holds_address stage1_of same_company bad_state bad_fields bad_board domains_agree every security_in security_of el2_enabled vmid_in is_entry is_legal is_company has_asids in_reach has_span is_level exponent_of exponent_at height_of tag_of company_tag company_at entry_at
finds = (refl, refl, refl, refl, refl, refl)

-- "Look up: 13, 2, 14."
pub lookup-refusals :
    (looking (at 2 []) EL10 9 (2 ^ 12) (1 ∷ 2 ∷ []) ≡ (13, 0, 0, 0))
    × (looking running EL10 9 (2 ^ 12) (slot mine 1 ++ (1 ∷ [])) ≡ (13, 0, 0, 0))
    × (looking running EL10 9 (2 ^ 12) (replicate 6147 0) ≡ (13, 0, 0, 0))
    × (looking running EL10 9 (2 ^ 12) (replicate 6144 0) ≡ (14, 0, 0, 2048))
    × (looking (at 2 []) EL10 9 (2 ^ 12) (slot mine 1) ≡ (2, 0, 0, 0))
    × (looking (at 2 []) EL10 9 (2 ^ 13) [] ≡ (2, 0, 0, 0))
unfolding looked_up_of first matches translates holds_address stage1_of same_company bad_state bad_fields bad_board domains_agree every security_in security_of el2_enabled vmid_in is_entry is_legal is_company has_asids in_reach has_span is_level exponent_of exponent_at height_of tag_of company_tag company_at entry_at
lookup-refusals = (refl, refl, refl, refl, refl, refl)

-- whether an entry alone in a table is found
abbrev is_found : State → Regime → ℕ → ℕ → Entry → ℕ
is_found st r asid a e = number_of (looked_up_of st r asid a (slot e 33))

-- "whose span holds the address": its first and its last, not those beside it; blocks of either width; the last page of all
pub spans :
    (is_found running EL10 9 (2 ^ 12) mine
    ∷ is_found running EL10 9 (2 ^ 13 - 1) mine
    ∷ is_found running EL10 9 (2 ^ 12 - 1) mine
    ∷ is_found running EL10 9 (2 ^ 13) mine
    ∷ is_found running EL10 9 (2 ^ 22 - 1) (placed_of false 1 (pos 2) true false (2 ^ 21))
    ∷ is_found running EL10 9 (2 ^ 22) (placed_of false 1 (pos 2) true false (2 ^ 21))
    ∷ is_found running EL10 9 (2 ^ 21 - 1) (placed_of true 1 (pos 2) true false (2 ^ 20))
    ∷ is_found running EL10 9 (2 ^ 21) (placed_of true 1 (pos 2) true false (2 ^ 20))
    ∷ is_found running EL10 9 (2 ^ 15 - 1) (placed_of false 2 (pos 3) true false (2 ^ 14))
    ∷ is_found running EL10 9 (2 ^ 15) (placed_of false 2 (pos 3) true false (2 ^ 14))
    ∷ is_found running EL10 9 (2 ^ 64 - 1) (page_of guest 1 9 false (2 ^ 64 - 2 ^ 12))
    ∷ is_found running EL10 9 0 (page_of guest 1 9 false (2 ^ 64 - 2 ^ 12))
    ∷ [])
    ≡ (0 ∷ 0 ∷ 14 ∷ 14 ∷ 0 ∷ 14 ∷ 0 ∷ 14 ∷ 0 ∷ 14 ∷ 0 ∷ 14 ∷ [])
unfolding looked_up_of first matches translates holds_address stage1_of same_company bad_state bad_fields bad_board domains_agree every security_in security_of el2_enabled vmid_in is_entry is_legal is_company has_asids in_reach has_span is_level exponent_of exponent_at height_of tag_of company_tag company_at entry_at
spans = refl

-- "a stage 1 leaf of the own processor and that regime", "whose ASID agrees (or it is global, or the regime has none)"
pub whose :
    (is_found running EL10 10 0 (page_of guest 1 9 false 0)
    ∷ is_found running EL10 265 0 (page_of guest 1 9 false 0)
    ∷ is_found (at 1 (two ∷ E2H ∷ TGE ∷ [])) EL10 9 0 (page_of guest 1 9 false 0)
    ∷ is_found running EL10 9 0 (page_of guest 5 9 false 0)
    ∷ is_found (boarded 8 5 (9 ∷ 9 ∷ 9 ∷ []) (9 ∷ 9 ∷ 9 ∷ [])) EL10 9 0 (page_of (stage1 EL10 NonSecure 0) 5 9 false 0)
    ∷ is_found (boarded 8 5 (9 ∷ 9 ∷ 9 ∷ []) (9 ∷ 9 ∷ 9 ∷ [])) EL10 9 0 (page_of (stage1 EL10 NonSecure 0) 1 9 false 0)
    ∷ is_found running EL20 10 0 (page_of (stage1 EL20 NonSecure 0) 1 9 true 0)
    ∷ is_found running EL10 10 0 (page_of guest 1 9 true 0)
    ∷ is_found running EL10 9 0 (page_of guest 0 9 false 0)
    ∷ is_found running EL10 9 0 (page_of guest 2 9 false 0)
    ∷ is_found running EL10 9 0 (placed_of false 1 (pos 2) false false 0)
    ∷ is_found running EL10 0 0 (page (stage2 EL10 NonSecure 7 false) 0)
    ∷ is_found running EL20 9 0 (page_of (stage1 EL20 NonSecure 0) 1 9 false 0)
    ∷ is_found running EL20 10 0 (page_of (stage1 EL20 NonSecure 0) 1 9 false 0)
    ∷ is_found running EL20 9 0 (page_of guest 1 9 false 0)
    ∷ is_found running EL10 9 0 (page_of (stage1 EL20 NonSecure 0) 1 9 false 0)
    ∷ is_found running EL2 9 0 (page (stage1 EL2 NonSecure 0) 0)
    ∷ is_found running EL3 9 0 (page (stage1 EL3 Secure 0) 0)
    ∷ is_found running EL2 9 0 (page (stage1 EL3 Secure 0) 0)
    ∷ [])
    ≡ (14 ∷ 14 ∷ 0 ∷ 14 ∷ 0 ∷ 14 ∷ 0 ∷ 0 ∷ 14 ∷ 14 ∷ 14 ∷ 14 ∷ 0 ∷ 14 ∷ 14 ∷ 14 ∷ 0 ∷ 0 ∷ 14 ∷ [])
unfolding looked_up_of first matches translates holds_address stage1_of same_company bad_state bad_fields bad_board domains_agree every security_in security_of el2_enabled vmid_in is_entry is_legal is_company has_asids in_reach has_span is_level exponent_of exponent_at height_of tag_of company_tag company_at entry_at
whose = refl

-- "VMID and security state as for an operation": VMID 0 while EL2 is disabled; Secure, Realm; EL3's own, Root with RME
pub as-for-an-operation :
    (is_found running EL10 9 0 (page_of (stage1 EL10 NonSecure 8) 1 9 false 0)
    ∷ is_found (at 1 []) EL10 9 0 (page_of guest 1 9 false 0)
    ∷ is_found (at 1 []) EL10 9 0 (page_of (stage1 EL10 NonSecure 0) 1 9 false 0)
    ∷ is_found (at 1 []) EL2 9 0 (page (stage1 EL2 NonSecure 0) 0)
    ∷ is_found (at 1 []) EL20 0 0 (page (stage1 EL20 NonSecure 0) 0)
    ∷ is_found (at 1 (two ∷ three ∷ [])) EL10 9 0 (page_of (stage1 EL10 Secure 0) 1 9 false 0)
    ∷ is_found (at 1 (two ∷ three ∷ [])) EL10 9 0 (page_of (stage1 EL10 Secure 7) 1 9 false 0)
    ∷ is_found (at 1 (two ∷ three ∷ SEL2 ∷ EEL2 ∷ [])) EL10 9 0 (page_of (stage1 EL10 Secure 7) 1 9 false 0)
    ∷ is_found (at 1 (two ∷ three ∷ NS ∷ [])) EL10 9 0 (page_of guest 1 9 false 0)
    ∷ is_found (at 1 (two ∷ three ∷ NS ∷ [])) EL10 9 0 (page_of (stage1 EL10 Secure 7) 1 9 false 0)
    ∷ is_found (at 1 (two ∷ three ∷ RME ∷ NSE ∷ NS ∷ [])) EL10 9 0 (page_of (stage1 EL10 Realm 7) 1 9 false 0)
    ∷ is_found (at 3 (two ∷ three ∷ RME ∷ NS ∷ [])) EL3 9 0 (page (stage1 EL3 Root 0) 0)
    ∷ is_found (at 3 (two ∷ three ∷ RME ∷ NS ∷ [])) EL3 9 0 (page (stage1 EL3 Secure 0) 0)
    ∷ is_found (at 3 (two ∷ three ∷ NS ∷ [])) EL3 9 0 (page (stage1 EL3 Secure 0) 0)
    ∷ [])
    ≡ (14 ∷ 14 ∷ 0 ∷ 0 ∷ 0 ∷ 0 ∷ 14 ∷ 0 ∷ 0 ∷ 14 ∷ 0 ∷ 0 ∷ 14 ∷ 0 ∷ [])
unfolding looked_up_of first matches translates holds_address stage1_of same_company bad_state bad_fields bad_board domains_agree every security_in security_of el2_enabled vmid_in is_entry is_legal is_company has_asids in_reach has_span is_level exponent_of exponent_at height_of tag_of company_tag company_at entry_at
as-for-an-operation = refl
