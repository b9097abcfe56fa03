-- Judge by computation: each answer in its order, the entry that is named, and targets at the ends of the address space.
use Prim.Native.Nat.{ℕ, ◌+◌, ◌*◌, ◌-◌, ◌^◌}
use mathlib.Core.Bool.{Bool, true, false}
use mathlib.Core.List.{List, [], ◌∷◌, ◌++◌}
use mathlib.Core.Path.{◌≡◌, refl}
use lib.IntN.{ℤ, pos, negsuc}
use lib.ListN.{replicate}
use Rattle.std.specs.Prelude.{⊤, Some, None, Result, Ok, Err}
use Rattle.laws.specs.Every.{every, any}
use Rattle.laws.specs.Mask.{mask_from}
use Rattle.laws.specs.Slots.{first}
use Rattle.machine.proofs.Sample.{two, FnXS, no_d128, no_lpa2, at, stage1, stage2, guest}
use Rattle.machine.specs.Access.{is_barred, is_trapped, reaches, reached_of, scope_of, access_e1, access_e2, access_stage2, access_e3, access_of, is_unit_64k}
use Rattle.machine.specs.Asked.{form_of, told_of, asked_of}
use Rattle.machine.specs.Entry.{is_company, has_asids, in_reach}
use Rattle.machine.specs.Execute.{resolved_of}
use Rattle.machine.specs.Goes.{work_of, goes}
use Rattle.machine.specs.Judge.{leaf_at, level_at}
use Rattle.machine.specs.Operand.{address_of, hint_of, operand_of}
use Rattle.machine.specs.Range.{length_of, range_of, tlbi_exponent, tlbip_exponent, is_unpredictable, ranged_of}
use Rattle.machine.specs.Span.{is_level, height_of, exponent_at, exponent_of, has_span}
use Rattle.machine.specs.State.{security_of, security_in, el2_enabled, vmid_in, hcrx_live, domains_agree, bad_board, bad_fields, bad_state}
use Rattle.machine.specs.Table.{same_company}
use Rattle.machine.specs.Target.{are_addresses, is_target}
use Rattle.machine.specs.Word.{row_of, read_of}
use Rattle.machine.specs.declared.entry.Company.{Company}
use Rattle.machine.specs.declared.judge.Objection.{Objection}
use Rattle.machine.specs.declared.judge.Objection.TheVariants.{BadShape, BadState, BadTarget, Refused, Outside, Gap}
use Rattle.machine.specs.declared.judge.Target.{Target}
use Rattle.machine.specs.declared.processor.State.{State}
use Rattle.machine.specs.declared.scope.Regime.TheVariants.{EL10, EL2, EL3}
use Rattle.machine.specs.declared.scope.Security.TheVariants.{NonSecure, Realm, Root}
use Rattle.judge.proofs.Computed.{works_of, free_asid, named_asid, cover_at, gap_base, gap_kind, gap_processor, judged_of}
use Rattle.coverage.specs.Places.{is_asked}
use Rattle.judge.specs.Search.{entry_in}

-- at EL1 with EL2, Non-secure, VMID 7, number 1 of three, of which 0 and 1 are in one inner domain, without LPA2
abbrev guesting : State
guesting = at 1 (two ∷ no_lpa2 ∷ [])

-- all ASIDs and levels of 64-bit 4K entries, on some processors, between two addresses
abbrev all : Company → ℕ → ℕ → ℕ → Target
all c set first last = record { company = c; wide = false; granule = 1; asid = None; leaves = false; processors = set; first = first; last = last }

-- one ASID of the guest; its leaves; and its 128-bit entries
abbrev one_of : ℕ → Target
one_of asid = record { company = guest; wide = false; granule = 1; asid = Some asid; leaves = false; processors = 3; first = 0x40000000; last = 0x40003FFF }

abbrev leaves_of : ℕ → ℕ → Target
leaves_of first last = record { company = guest; wide = false; granule = 1; asid = None; leaves = true; processors = 3; first = first; last = last }

abbrev wide_of : Target
wide_of = record { company = guest; wide = true; granule = 1; asid = None; leaves = false; processors = 3; first = 0x40000000; last = 0x40003FFF }

abbrev sixteen : Bool → ℕ → ℕ → Target
sixteen wide first last = record { company = guest; wide = wide; granule = 2; asid = None; leaves = false; processors = 3; first = first; last = last }

abbrev marked : Target
marked = all guest 3 0x40000000 0x40003FFF

-- the 64-bit 4K entry that is named: its company, processor, ASID, leaf or not, level and base
abbrev names : Company → ℕ → ℕ → Bool → ℤ → ℕ → Result ⊤ Objection
names c p asid leaf l base =
    Err (Gap (record { processor = p; company = c; asid = asid; global = false; wide = false; granule = 1; level = l; leaf = leaf; xs = true; base = base }))

abbrev named : ℕ → ℕ → Bool → ℤ → ℕ → Result ⊤ Objection
named p asid leaf l base = names guest p asid leaf l base

abbrev named_of : Bool → ℕ → ℤ → ℕ → Result ⊤ Objection
named_of wide tg l base =
    Err (Gap (record { processor = 0; company = guest; asid = 0; global = false; wide = wide; granule = tg; level = l; leaf = false; xs = true; base = base }))

-- RVAAE1IS and RVAE1IS, with ASID, TTL and NUM, from 0x40000000 on: NUM 0 is two pages, NUM 1 four
abbrev any_asid : ℕ → ℕ → ℕ → List ℕ
any_asid asid ttl num = 0xD5088260 ∷ (asid * 2 ^ 48 + 2 ^ 46 + num * 2 ^ 39 + ttl * 2 ^ 37 + 0x40000) ∷ 0 ∷ []

abbrev by_asid : ℕ → List ℕ
by_asid asid = 0xD5088220 ∷ (asid * 2 ^ 48 + 2 ^ 46 + 2 ^ 39 + 0x40000) ∷ 0 ∷ []

-- "Judge: 13, 2, 8, 10 over all steps, 11 over all steps, 12.", each before those after it: a list of 2 words and of 51; EL2 without it; the target
-- before the steps; a step that is refused after one outside, and one outside alone
pub answers :
    (judged_of (at 2 []) (all guest 0 0 0) (1 ∷ 2 ∷ []) ≡ Err BadShape)
    × (judged_of guesting marked (replicate 51 0) ≡ Err BadShape)
    × (judged_of (at 2 []) (all guest 0 0 0) (0 ∷ 0 ∷ 0 ∷ []) ≡ Err BadState)
    × (judged_of guesting (all guest 0 0 0) (0 ∷ 0 ∷ 0 ∷ []) ≡ Err BadTarget)
    × (judged_of (at 2 (two ∷ no_lpa2 ∷ [])) marked ((0xD50C8220 ∷ 2 ^ 46 ∷ 0 ∷ []) ++ any_asid 0 0 1 ++ (0xD5088260 ∷ 0 ∷ 0 ∷ [])) ≡ Err (Refused 2))
    × (judged_of (at 2 (two ∷ no_lpa2 ∷ [])) marked (any_asid 0 0 0 ++ (0xD50C8220 ∷ 2 ^ 46 ∷ 0 ∷ []) ++ (0xD50C8220 ∷ 2 ^ 46 ∷ 0 ∷ [])) ≡ Err (Outside 1))
    × (judged_of guesting marked (any_asid 0 0 1 ++ (2 ^ 32 ∷ 0 ∷ 0 ∷ [])) ≡ Err (Refused 1))
    × (judged_of guesting marked [] ≡ named 0 0 false (negsuc 0) 0)
unfolding judged_of gap_processor gap_kind gap_base cover_at named_asid free_asid works_of any entry_in leaf_at level_at is_asked is_target are_addresses first goes same_company resolved_of work_of read_of row_of
    access_of is_barred is_trapped access_e1 access_e2 access_e3 access_stage2 scope_of reached_of reaches mask_from el2_enabled security_of security_in vmid_in hcrx_live bad_state bad_fields bad_board
    domains_agree every is_unit_64k asked_of form_of told_of ranged_of operand_of address_of hint_of range_of length_of is_unpredictable tlbi_exponent tlbip_exponent is_company has_asids in_reach has_span is_level
    exponent_of exponent_at height_of
answers = (refl, refl, refl, refl, refl, refl, refl, refl)

-- "both in one legal half (or both below 2^56)"; "one ASID or all ("all" in EL2, EL3 and stage 2)"; "a non-empty set of existing processors"; granules;
-- "Its company must be one an entry can have."
pub targets :
    (judged_of guesting (all guest 3 0 (2 ^ 55 - 1)) [] ≡ named 0 0 false (negsuc 0) 0)
    × (judged_of guesting (all guest 3 0 (2 ^ 55)) [] ≡ Err BadTarget)
    × (judged_of guesting (all guest 3 0 (2 ^ 64 - 1)) [] ≡ Err BadTarget)
    × (judged_of guesting (all guest 3 (2 ^ 64 - 2 ^ 55 - 1) (2 ^ 64 - 1)) [] ≡ Err BadTarget)
    × (judged_of guesting (all guest 3 5 4) [] ≡ Err BadTarget)
    × (judged_of guesting (all (stage1 EL2 NonSecure 0) 3 (2 ^ 55) (2 ^ 56 - 1)) [] ≡ names (stage1 EL2 NonSecure 0) 0 0 false (negsuc 0) (2 ^ 55))
    × (judged_of guesting (all (stage1 EL2 NonSecure 0) 3 0 (2 ^ 56)) [] ≡ Err BadTarget)
    × (judged_of guesting (all (stage2 EL10 NonSecure 7 false) 3 0 (2 ^ 56 - 1)) [] ≡ names (stage2 EL10 NonSecure 7 false) 0 0 false (negsuc 0) 0)
    × (judged_of guesting (record { company = stage1 EL2 NonSecure 0; wide = false; granule = 1; asid = Some 0; leaves = false; processors = 3; first = 0; last = 0 }) [] ≡ Err BadTarget)
    × (judged_of guesting (record { company = stage2 EL10 NonSecure 7 false; wide = false; granule = 1; asid = Some 0; leaves = false; processors = 3; first = 0; last = 0 }) [] ≡ Err BadTarget)
    × (judged_of guesting (record { company = guest; wide = false; granule = 0; asid = None; leaves = false; processors = 3; first = 0; last = 0 }) [] ≡ Err BadTarget)
    × (judged_of guesting (record { company = guest; wide = false; granule = 4; asid = None; leaves = false; processors = 3; first = 0; last = 0 }) [] ≡ Err BadTarget)
    × (judged_of guesting (all guest 0 0 0) [] ≡ Err BadTarget)
    × (judged_of guesting (all guest 7 0 0) [] ≡ named 0 0 false (negsuc 0) 0)
    × (judged_of guesting (all guest 9 0 0) [] ≡ Err BadTarget)
    × (judged_of guesting (all (stage1 EL2 NonSecure 7) 3 0 0) [] ≡ Err BadTarget)
    × (judged_of guesting (all (stage2 EL2 NonSecure 0 false) 3 0 0) [] ≡ Err BadTarget)
    × (judged_of guesting (all (stage2 EL10 NonSecure 7 true) 3 0 0) [] ≡ Err BadTarget)
    × (judged_of guesting (all (stage1 EL3 NonSecure 0) 3 0 0) [] ≡ Err BadTarget)
    × (judged_of guesting (all (stage1 EL10 Root 7) 3 0 0) [] ≡ Err BadTarget)
unfolding judged_of gap_processor gap_kind gap_base cover_at named_asid free_asid works_of any entry_in leaf_at level_at is_asked is_target are_addresses first goes same_company resolved_of work_of read_of row_of
    access_of is_barred is_trapped access_e1 access_e2 access_e3 access_stage2 scope_of reached_of reaches mask_from el2_enabled security_of security_in vmid_in hcrx_live bad_state bad_fields bad_board
    domains_agree every is_unit_64k asked_of form_of told_of ranged_of operand_of address_of hint_of range_of length_of is_unpredictable tlbi_exponent tlbip_exponent is_company has_asids in_reach has_span is_level
    exponent_of exponent_at height_of
targets = (refl, refl, refl, refl, refl, refl, refl, refl, refl, refl, refl, refl, refl, refl, refl, refl, refl, refl, refl, refl)

-- "a step is outside the target's company": another VMID, the VMID while EL2 is disabled, another security state, another stage; a company that the
-- state can't make is no bad target
pub companies :
    (judged_of guesting (all (stage1 EL10 NonSecure 8) 3 0x40000000 0x40003FFF) (any_asid 0 0 1) ≡ Err (Outside 0))
    × (judged_of (at 1 (no_lpa2 ∷ [])) marked (any_asid 0 0 1) ≡ Err (Outside 0))
    × (judged_of (at 1 (no_lpa2 ∷ [])) (all (stage1 EL10 NonSecure 0) 3 0x40000000 0x40003FFF) (any_asid 0 0 1) ≡ Ok tt)
    × (judged_of guesting (all (stage1 EL10 Realm 7) 3 0x40000000 0x40003FFF) (any_asid 0 0 1) ≡ Err (Outside 0))
    × (judged_of guesting (all (stage1 EL10 Realm 7) 3 0x40000000 0x40003FFF) [] ≡ names (stage1 EL10 Realm 7) 0 0 false (negsuc 0) 0)
    × (judged_of (at 2 (two ∷ no_lpa2 ∷ [])) (all (stage2 EL10 NonSecure 7 false) 3 0x40000000 0x40003FFF) (any_asid 0 0 1) ≡ Err (Outside 0))
    × (judged_of (at 2 (two ∷ no_lpa2 ∷ [])) (all (stage2 EL10 NonSecure 7 false) 3 0x40000000 0x40003FFF) (0xD50C8040 ∷ (2 ^ 46 + 2 ^ 39 + 0x40000) ∷ 0 ∷ []) ≡ Ok tt)
unfolding judged_of gap_processor gap_kind gap_base cover_at named_asid free_asid works_of any entry_in leaf_at level_at is_asked is_target are_addresses first goes same_company resolved_of work_of read_of row_of
    access_of is_barred is_trapped access_e1 access_e2 access_e3 access_stage2 scope_of reached_of reaches mask_from el2_enabled security_of security_in vmid_in hcrx_live bad_state bad_fields bad_board
    domains_agree every is_unit_64k asked_of form_of told_of ranged_of operand_of address_of hint_of range_of length_of is_unpredictable tlbi_exponent tlbip_exponent is_company has_asids in_reach has_span is_level
    exponent_of exponent_at height_of
companies = (refl, refl, refl, refl, refl, refl, refl)

-- "the target's ASID or the lowest that no step's used ASID field holds (0 without ASIDs)"; "A one-ASID target includes global leaves"
pub asids :
    (judged_of guesting marked (by_asid 0) ≡ named 0 1 false (negsuc 0) 0)
    × (judged_of guesting marked (by_asid 0 ++ by_asid 1 ++ (0xD50882A0 ∷ (3 * 2 ^ 48 + 2 ^ 46) ∷ 0 ∷ [])) ≡ named 0 2 false (negsuc 0) 0)
    × (judged_of guesting marked (0xD5088220 ∷ (0 * 2 ^ 48 + 2 * 2 ^ 46) ∷ 0 ∷ []) ≡ named 0 1 false (negsuc 0) 0)
    × (judged_of guesting marked (any_asid 0 0 0) ≡ named 0 0 true (pos 3) 0x40002000)
    × (judged_of guesting marked (any_asid 9 0 1) ≡ Ok tt)
    × (judged_of guesting (one_of 9) (by_asid 9) ≡ Ok tt)
    × (judged_of guesting (one_of 9) (by_asid 8) ≡ named 0 9 false (negsuc 0) 0)
    × (judged_of guesting (one_of 9) (any_asid 8 0 1) ≡ Ok tt)
    × (judged_of guesting (one_of 9) (any_asid 9 0 0) ≡ named 0 9 true (pos 3) 0x40002000)
    × (judged_of guesting (one_of 0) (by_asid 0) ≡ Ok tt)
unfolding judged_of gap_processor gap_kind gap_base cover_at named_asid free_asid works_of any entry_in leaf_at level_at is_asked is_target are_addresses first goes same_company resolved_of work_of read_of row_of
    access_of is_barred is_trapped access_e1 access_e2 access_e3 access_stage2 scope_of reached_of reaches mask_from el2_enabled security_of security_in vmid_in hcrx_live bad_state bad_fields bad_board
    domains_agree every is_unit_64k asked_of form_of told_of ranged_of operand_of address_of hint_of range_of length_of is_unpredictable tlbi_exponent tlbip_exponent is_company has_asids in_reach has_span is_level
    exponent_of exponent_at height_of
asids = (refl, refl, refl, refl, refl, refl, refl, refl, refl, refl)

-- "XS is free": NXS steps, and plain ones under FnXS, clear nothing; hints level by level; leaves only; widths
pub kinds :
    (judged_of guesting marked (0xD5089260 ∷ 0x0000408000040000 ∷ 0 ∷ []) ≡ named 0 0 false (negsuc 0) 0)
    × (judged_of (at 1 (two ∷ no_lpa2 ∷ FnXS ∷ [])) marked (any_asid 0 0 1) ≡ named 0 0 false (negsuc 0) 0)
    × (judged_of guesting marked (any_asid 0 1 1) ≡ named 0 0 false (pos 1) 0x40000000)
    × (judged_of guesting marked (any_asid 0 2 1) ≡ named 0 0 false (pos 2) 0x40000000)
    × (judged_of guesting marked (any_asid 0 3 1) ≡ named 0 0 true (pos 1) 0x40000000)
    × (judged_of guesting marked (any_asid 0 3 1 ++ any_asid 0 1 1) ≡ named 0 0 true (pos 2) 0x40000000)
    × (judged_of guesting marked (any_asid 0 1 1 ++ any_asid 0 2 1 ++ any_asid 0 3 1) ≡ Ok tt)
    × (judged_of guesting (leaves_of 0x40000000 0x40003FFF) (0xD50882E0 ∷ 0x0000408000040000 ∷ 0 ∷ []) ≡ Ok tt)
    × (judged_of guesting marked (0xD50882E0 ∷ 0x0000408000040000 ∷ 0 ∷ []) ≡ named 0 0 false (negsuc 0) 0)
    × (judged_of guesting (leaves_of 0x40000000 0x40003FFF) (any_asid 0 3 1) ≡ named 0 0 true (pos 1) 0x40000000)
    × (judged_of guesting wide_of (any_asid 0 0 1) ≡ Ok tt)
    × (judged_of (at 1 (two ∷ no_lpa2 ∷ no_d128 ∷ [])) wide_of (any_asid 0 0 1) ≡ named_of true 1 (negsuc 0) 0)
    × (judged_of guesting (sixteen false 0x40000000 0x40003FFF) (any_asid 0 0 1) ≡ named_of false 2 (pos 0) 0)
    × (judged_of guesting (sixteen true 0x40000000 0x40003FFF) [] ≡ named_of true 2 (negsuc 0) 0)
unfolding judged_of gap_processor gap_kind gap_base cover_at named_asid free_asid works_of any entry_in leaf_at level_at is_asked is_target are_addresses first goes same_company resolved_of work_of read_of row_of
    access_of is_barred is_trapped access_e1 access_e2 access_e3 access_stage2 scope_of reached_of reaches mask_from el2_enabled security_of security_in vmid_in hcrx_live bad_state bad_fields bad_board
    domains_agree every is_unit_64k asked_of form_of told_of ranged_of operand_of address_of hint_of range_of length_of is_unpredictable tlbi_exponent tlbip_exponent is_company has_asids in_reach has_span is_level
    exponent_of exponent_at height_of
kinds = (refl, refl, refl, refl, refl, refl, refl, refl, refl, refl, refl, refl, refl, refl)

-- "by lowest processor, then non-leaf levels rising, then leaf levels rising, then lowest base": a processor that a local step does not reach, one that
-- no step reaches, a lower one's page before a higher one's table; and a hole of one page
pub places :
    (judged_of guesting marked (0xD5088660 ∷ 0x0000408000040000 ∷ 0 ∷ []) ≡ named 0 0 false (negsuc 0) 0)
    × (judged_of guesting (all guest 2 0x40000000 0x40003FFF) (0xD5088660 ∷ 0x0000408000040000 ∷ 0 ∷ []) ≡ Ok tt)
    × (judged_of guesting (all guest 4 0x40000000 0x40003FFF) (any_asid 0 0 1) ≡ named 2 0 false (negsuc 0) 0)
    × (judged_of guesting (all guest 5 0x40000000 0x40003FFF) (any_asid 0 0 0) ≡ named 0 0 true (pos 3) 0x40002000)
    × (judged_of guesting (all guest 7 0x40000000 0x40003FFF) (any_asid 0 0 1) ≡ named 2 0 false (negsuc 0) 0)
    × (judged_of guesting (all guest 7 0x40000000 0x40003FFF) (0xD5088560 ∷ 0x0000408000040000 ∷ 0 ∷ []) ≡ Ok tt)
    × (judged_of guesting (all guest 3 0x40000000 0x40005FFF) (any_asid 0 0 0 ++ (0xD5088260 ∷ (2 ^ 46 + 0x40003) ∷ 0 ∷ [])) ≡ named 0 0 true (pos 3) 0x40002000)
    × (judged_of guesting (all guest 3 0x40000000 0x40004FFF) ((0xD5088260 ∷ (2 ^ 46 + 0x40003) ∷ 0 ∷ []) ++ any_asid 0 0 0 ++ (0xD5088260 ∷ (2 ^ 46 + 0x40001) ∷ 0 ∷ [])) ≡ Ok tt)
    × (judged_of guesting (all guest 3 0x40000FFF 0x40001000) (any_asid 0 0 0) ≡ Ok tt)
    × (judged_of guesting (all guest 3 0x3FFFFFFF 0x40001000) (any_asid 0 0 0) ≡ named 0 0 false (pos 1) 0)
unfolding judged_of gap_processor gap_kind gap_base cover_at named_asid free_asid works_of any entry_in leaf_at level_at is_asked is_target are_addresses first goes same_company resolved_of work_of read_of row_of
    access_of is_barred is_trapped access_e1 access_e2 access_e3 access_stage2 scope_of reached_of reaches mask_from el2_enabled security_of security_in vmid_in hcrx_live bad_state bad_fields bad_board
    domains_agree every is_unit_64k asked_of form_of told_of ranged_of operand_of address_of hint_of range_of length_of is_unpredictable tlbi_exponent tlbip_exponent is_company has_asids in_reach has_span is_level
    exponent_of exponent_at height_of
places = (refl, refl, refl, refl, refl, refl, refl, refl, refl, refl)

-- the ends of the address space: the last page below 2^64; the bottom of the upper half, at level -1; and 2^55 bytes, of which one step covers 2^33
pub ends :
    (judged_of guesting (all guest 3 (2 ^ 64 - 2 ^ 12) (2 ^ 64 - 1)) (0xD5088260 ∷ 0x0000401FFFFFFFFF ∷ 0 ∷ []) ≡ Ok tt)
    × (judged_of guesting (all guest 3 (2 ^ 64 - 2 ^ 13) (2 ^ 64 - 1)) (0xD5088260 ∷ 0x0000401FFFFFFFFF ∷ 0 ∷ []) ≡ named 0 0 true (pos 3) (2 ^ 64 - 2 ^ 13))
    × (judged_of guesting (all guest 3 (2 ^ 64 - 1) (2 ^ 64 - 1)) [] ≡ named 0 0 false (negsuc 0) (2 ^ 64 - 2 ^ 48))
    × (judged_of guesting (all guest 3 (2 ^ 64 - 2 ^ 55) (2 ^ 64 - 1)) [] ≡ named 0 0 false (negsuc 0) (2 ^ 64 - 2 ^ 55))
    × (judged_of guesting (sixteen true (2 ^ 64 - 2 ^ 55) (2 ^ 64 - 1)) [] ≡ named_of true 2 (negsuc 0) (2 ^ 64 - 2 ^ 55))
    × (judged_of guesting (all guest 3 (2 ^ 64 - 2 ^ 55) (2 ^ 64 - 1)) (0xD5088260 ∷ 0x0000401FFFFFFFFF ∷ 0 ∷ []) ≡ named 0 0 false (negsuc 0) (2 ^ 64 - 2 ^ 55))
    × (judged_of guesting (all guest 3 0 (2 ^ 55 - 1)) (0xD5088260 ∷ 0x00007F8000000000 ∷ 0 ∷ []) ≡ named 0 0 false (negsuc 0) (2 ^ 48))
    × (judged_of guesting (all guest 3 0 (2 ^ 37 - 1)) (0xD5088260 ∷ 0x00007F8000000000 ∷ 0 ∷ []) ≡ named 0 0 false (pos 1) 0x200000000)
    × (judged_of guesting (all guest 3 0 0x1FFFFFFFF) (0xD5088260 ∷ 0x00007F8000000000 ∷ 0 ∷ []) ≡ Ok tt)
    × (judged_of guesting (leaves_of 0 (2 ^ 37 - 1)) (0xD50882E0 ∷ (2 ^ 46 + 3 * 2 ^ 44 + 31 * 2 ^ 39) ∷ 0 ∷ []) ≡ named 0 0 true (pos 1) 0x200000000)
unfolding judged_of gap_processor gap_kind gap_base cover_at named_asid free_asid works_of any entry_in leaf_at level_at is_asked is_target are_addresses first goes same_company resolved_of work_of read_of row_of
    access_of is_barred is_trapped access_e1 access_e2 access_e3 access_stage2 scope_of reached_of reaches mask_from el2_enabled security_of security_in vmid_in hcrx_live bad_state bad_fields bad_board
    domains_agree every is_unit_64k asked_of form_of told_of ranged_of operand_of address_of hint_of range_of length_of is_unpredictable tlbi_exponent tlbip_exponent is_company has_asids in_reach has_span is_level
    exponent_of exponent_at height_of
ends = (refl, refl, refl, refl, refl, refl, refl, refl, refl, refl)
