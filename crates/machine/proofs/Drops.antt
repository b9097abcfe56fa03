-- Execute and run by computation: each part of "An entry goes exactly when" at its edges, every answer, and tables whole.
use Prim.Native.Nat.{ℕ, ◌+◌, ◌*◌, ◌-◌, ◌^◌}
use mathlib.Core.Bool.{Bool, true, false}
use mathlib.Core.List.{List, [], ◌∷◌, ◌++◌, map}
use mathlib.Core.Path.{◌≡◌, refl}
use lib.IntN.{ℤ, pos, negsuc}
use lib.ListN.{replicate}
use Rattle.laws.specs.Every.{every}
use Rattle.laws.specs.Mask.{mask_from}
use Rattle.laws.specs.Slots.{count, first, cleared}
use Rattle.machine.proofs.Sample.{two, three, NS, NSE, EEL2, E2H, TGE, NV, FnXS, RME, SEL2, no_d128, no_lpa2, no_range, no_xs, at, boarded, host_with_ds, stage1, stage2, guest, page_of, page, slot, zeros, junk}
use Rattle.machine.specs.Access.{is_barred, is_trapped, reaches, reached_of, scope_of, access_e1, access_e2, access_stage2, access_e3, access_of, is_unit_64k}
use Rattle.machine.specs.Answer.{number_of, trap_of, value_of, ran_step}
use Rattle.machine.specs.Asked.{form_of, told_of, asked_of}
use Rattle.machine.specs.Entry.{is_company, has_asids, in_reach, is_legal}
use Rattle.machine.specs.Execute.{resolved_of, executed_of, execute_table, steps_table, steps_dropped, ran_of, run_table}
use Rattle.machine.specs.Goes.{work_of, goes, drops}
use Rattle.machine.specs.Operand.{address_of, hint_of, operand_of}
use Rattle.machine.specs.Range.{length_of, range_of, tlbi_exponent, tlbip_exponent, is_unpredictable, ranged_of}
use Rattle.machine.specs.Span.{is_level, height_of, exponent_at, exponent_of, has_span}
use Rattle.machine.specs.State.{security_of, security_in, el2_enabled, vmid_in, hcrx_live, domains_agree, bad_board, bad_fields, bad_state}
use Rattle.machine.specs.Table.{same_company}
use Rattle.machine.specs.Tag.{company_tag, tag_of, company_at, entry_at, is_entry}
use Rattle.machine.specs.Word.{row_of, read_of}
use Rattle.machine.specs.declared.entry.Entry.{Entry}
use Rattle.machine.specs.declared.processor.State.{State}
use Rattle.machine.specs.declared.scope.Regime.TheVariants.{EL10, EL20, EL2, EL3}
use Rattle.machine.specs.declared.scope.Security.TheVariants.{Secure, NonSecure, Realm, Root}

-- answer, number of a trap, slots dropped, and the table after it
abbrev executing : State → ℕ → ℕ → ℕ → List ℕ → ℕ × ℕ × ℕ × List ℕ
executing st word xt xt2 l =
    let r = executed_of st word xt xt2 l in
    (number_of r, trap_of r, value_of r, execute_table st word xt xt2 l)

-- how many of some entries, each alone in a table, go: one each, or none
abbrev gone : State → ℕ → ℕ → ℕ → List Entry → List ℕ
gone st word xt xt2 es = map (λ e. value_of (executed_of st word xt xt2 (slot e 33))) es

-- at EL1 with EL2, Non-secure, VMID 7, number 1 of three, without LPA2; an operand by ASID, TG, NUM, TTL and the rest
abbrev guesting : State
guesting = at 1 (two ∷ no_lpa2 ∷ [])

abbrev operand : ℕ → ℕ → ℕ → ℕ → ℕ → ℕ
operand asid tg num ttl low = asid * 2 ^ 48 + tg * 2 ^ 46 + num * 2 ^ 39 + ttl * 2 ^ 37 + low

-- an entry of the guest, ASID 9, processor 1, XS 0
abbrev standing : Bool → ℕ → ℤ → Bool → ℕ → Entry
standing wide tg l leaf base =
    record { processor = 1; company = guest; asid = 9; global = false; wide = wide; granule = tg; level = l; leaf = leaf; xs = false; base = base }

-- leaves of levels 1 to 3, and non-leaf entries of levels -1 to 2, of 4K at address 0
abbrev ladder : Bool → List Entry
ladder wide =
    standing wide 1 (pos 1) true 0
    ∷ standing wide 1 (pos 2) true 0
    ∷ standing wide 1 (pos 3) true 0
    ∷ standing wide 1 (negsuc 0) false 0
    ∷ standing wide 1 (pos 0) false 0
    ∷ standing wide 1 (pos 1) false 0
    ∷ standing wide 1 (pos 2) false 0
    ∷ []

-- "TTL 00, or its width is the operation's and it is non-leaf above the TTL level or a leaf at it; another width needs TTL 00 and D128", by TLBI
-- and TLBIP, on 64-bit and 128-bit entries
pub hints :
    (gone guesting 0xD5088260 (operand 0 1 0 0 0) 0 (ladder false) ≡ (1 ∷ 1 ∷ 1 ∷ 1 ∷ 1 ∷ 1 ∷ 1 ∷ []))
    × (gone guesting 0xD5088260 (operand 0 1 0 1 0) 0 (ladder false) ≡ (1 ∷ 0 ∷ 0 ∷ 1 ∷ 1 ∷ 0 ∷ 0 ∷ []))
    × (gone guesting 0xD5088260 (operand 0 1 0 2 0) 0 (ladder false) ≡ (0 ∷ 1 ∷ 0 ∷ 1 ∷ 1 ∷ 1 ∷ 0 ∷ []))
    × (gone guesting 0xD5088260 (operand 0 1 0 3 0) 0 (ladder false) ≡ (0 ∷ 0 ∷ 1 ∷ 1 ∷ 1 ∷ 1 ∷ 1 ∷ []))
    × (gone guesting 0xD5088260 (operand 0 1 0 0 0) 0 (ladder true) ≡ (1 ∷ 1 ∷ 1 ∷ 1 ∷ 1 ∷ 1 ∷ 1 ∷ []))
    × (gone guesting 0xD5088260 (operand 0 1 0 2 0) 0 (ladder true) ≡ replicate 7 0)
    × (gone (at 1 (two ∷ no_lpa2 ∷ no_d128 ∷ [])) 0xD5088260 (operand 0 1 0 0 0) 0 (ladder true) ≡ replicate 7 0)
    × (gone (at 1 (two ∷ no_lpa2 ∷ no_d128 ∷ [])) 0xD5088260 (operand 0 1 0 0 0) 0 (ladder false) ≡ replicate 7 1)
    × (gone guesting 0xD5488260 (operand 0 1 0 0 0) 0 (ladder false) ≡ replicate 7 1)
    × (gone guesting 0xD5488260 (operand 0 1 0 1 0) 0 (ladder false) ≡ replicate 7 0)
    × (gone guesting 0xD5488260 (operand 0 1 0 1 0) 0 (ladder true) ≡ (1 ∷ 0 ∷ 0 ∷ 1 ∷ 1 ∷ 0 ∷ 0 ∷ []))
    × (gone guesting 0xD5488260 (operand 0 1 0 3 0) 0 (ladder true) ≡ (0 ∷ 0 ∷ 1 ∷ 1 ∷ 1 ∷ 1 ∷ 1 ∷ []))
    × (gone guesting 0xD5088260 (operand 0 2 0 1 0) 0 (standing false 2 (pos 1) true 0 ∷ standing false 2 (pos 3) true 0 ∷ []) ≡ (1 ∷ 1 ∷ []))
    × (gone (at 1 (two ∷ [])) 0xD5088260 (operand 0 2 0 1 1) 0 (standing false 2 (pos 1) true 0 ∷ standing false 2 (pos 3) true 0x4000 ∷ standing false 2 (pos 0) false 0 ∷ standing false 2 (pos 1) false 0 ∷ []) ≡ (1 ∷ 0 ∷ 1 ∷ 0 ∷ []))
    × (gone guesting 0xD5088260 (operand 0 3 0 2 0) 0 (standing false 3 (pos 2) true 0 ∷ standing false 3 (pos 3) true 0 ∷ standing false 3 (pos 1) false 0 ∷ standing false 3 (pos 2) false 0 ∷ []) ≡ (1 ∷ 0 ∷ 1 ∷ 0 ∷ []))
unfolding executed_of execute_table resolved_of count cleared drops goes work_of same_company read_of row_of access_of is_barred is_trapped access_e1 access_e2 access_e3 access_stage2 scope_of reached_of
    reaches mask_from el2_enabled security_of security_in vmid_in hcrx_live bad_state bad_fields bad_board domains_agree every is_unit_64k asked_of form_of told_of ranged_of operand_of address_of hint_of range_of
    length_of is_unpredictable tlbi_exponent tlbip_exponent is_entry is_legal is_company has_asids in_reach has_span is_level exponent_of exponent_at height_of tag_of company_tag company_at entry_at
hints = (refl, refl, refl, refl, refl, refl, refl, refl, refl, refl, refl, refl, refl, refl, refl)

-- "granule is TG; its span meets the range": the pages beside and within 0x4000 to 0xBFFF of 16K and of 4K, blocks over it, another granule, m2, and
-- the last page of all
pub meeting :
    (gone guesting 0xD5088260 0x00007F8000000000 0 (standing false 1 (pos 3) true 0x1FFFFF000 ∷ standing false 1 (pos 3) true 0x200000000 ∷ []) ≡ (1 ∷ 0 ∷ []))
    × (gone guesting 0xD5088260 0x0000800000000001 0 (standing false 2 (pos 3) true 0 ∷ standing false 2 (pos 3) true 0x4000 ∷ standing false 2 (pos 3) true 0x8000 ∷ standing false 2 (pos 3) true 0xC000 ∷ standing false 2 (pos 2) true 0 ∷ standing false 2 (pos 2) true (2 ^ 25) ∷ standing false 1 (pos 3) true 0x4000 ∷ standing false 3 (pos 3) true 0 ∷ []) ≡ (0 ∷ 1 ∷ 1 ∷ 0 ∷ 1 ∷ 0 ∷ 0 ∷ 0 ∷ []))
    × (gone guesting 0xD5088260 (operand 0 1 0 0 0x40000) 0 (standing false 1 (pos 3) true (0x40000000 - 4096) ∷ standing false 1 (pos 3) true 0x40000000 ∷ standing false 1 (pos 3) true 0x40001000 ∷ standing false 1 (pos 3) true 0x40002000 ∷ standing false 1 (pos 2) true (0x40000000 - 2 ^ 21) ∷ standing false 1 (pos 2) true 0x40000000 ∷ standing true 1 (pos 2) true 0x40000000 ∷ standing true 1 (pos 2) true 0x40100000 ∷ []) ≡ (0 ∷ 1 ∷ 1 ∷ 0 ∷ 0 ∷ 1 ∷ 1 ∷ 0 ∷ []))
    × (gone guesting 0xD5088260 0x0000401FFFFFFFFF 0 (standing false 1 (pos 3) true (2 ^ 64 - 2 ^ 12) ∷ standing false 1 (pos 3) true (2 ^ 64 - 2 ^ 13) ∷ standing false 1 (pos 3) true 0 ∷ standing false 1 (pos 2) true (2 ^ 64 - 2 ^ 21) ∷ []) ≡ (1 ∷ 0 ∷ 0 ∷ 1 ∷ []))
unfolding executed_of execute_table resolved_of count cleared drops goes work_of same_company read_of row_of access_of is_barred is_trapped access_e1 access_e2 access_e3 access_stage2 scope_of reached_of
    reaches mask_from el2_enabled security_of security_in vmid_in hcrx_live bad_state bad_fields bad_board domains_agree every is_unit_64k asked_of form_of told_of ranged_of operand_of address_of hint_of range_of
    length_of is_unpredictable tlbi_exponent tlbip_exponent is_entry is_legal is_company has_asids in_reach has_span is_level exponent_of exponent_at height_of tag_of company_tag company_at entry_at
meeting = (refl, refl, refl, refl)

-- "its processor is below the count and reached (own number; same inner; same outer domain)": local, IS and OS on processors 0 to 3 and 7; and
-- IS and OS of number 2 of 3, whose domains are its own
pub reaching :
    (gone guesting 0xD5088660 (operand 0 1 0 0 0) 0 (map (λ p. page_of guest p 9 false 0) (0 ∷ 1 ∷ 2 ∷ 3 ∷ 7 ∷ [])) ≡ (0 ∷ 1 ∷ 0 ∷ 0 ∷ 0 ∷ []))
    × (gone guesting 0xD5088260 (operand 0 1 0 0 0) 0 (map (λ p. page_of guest p 9 false 0) (0 ∷ 1 ∷ 2 ∷ 3 ∷ 7 ∷ [])) ≡ (1 ∷ 1 ∷ 0 ∷ 0 ∷ 0 ∷ []))
    × (gone guesting 0xD5088560 (operand 0 1 0 0 0) 0 (map (λ p. page_of guest p 9 false 0) (0 ∷ 1 ∷ 2 ∷ 3 ∷ 7 ∷ [])) ≡ (1 ∷ 1 ∷ 1 ∷ 0 ∷ 0 ∷ []))
    × (gone (boarded 3 2 (4 ∷ 4 ∷ 5 ∷ []) (9 ∷ 9 ∷ 8 ∷ [])) 0xD5088260 (operand 0 1 0 0 0) 0 (map (λ p. page_of (stage1 EL10 NonSecure 0) p 9 false 0) (0 ∷ 1 ∷ 2 ∷ 3 ∷ [])) ≡ (0 ∷ 0 ∷ 1 ∷ 0 ∷ []))
    × (gone (boarded 3 2 (4 ∷ 4 ∷ 5 ∷ []) (9 ∷ 9 ∷ 8 ∷ [])) 0xD5088560 (operand 0 1 0 0 0) 0 (map (λ p. page_of (stage1 EL10 NonSecure 0) p 9 false 0) (0 ∷ 1 ∷ 2 ∷ 3 ∷ [])) ≡ (0 ∷ 0 ∷ 1 ∷ 0 ∷ []))
unfolding executed_of execute_table resolved_of count cleared drops goes work_of same_company read_of row_of access_of is_barred is_trapped access_e1 access_e2 access_e3 access_stage2 scope_of reached_of
    reaches mask_from el2_enabled security_of security_in vmid_in hcrx_live bad_state bad_fields bad_board domains_agree every is_unit_64k asked_of form_of told_of ranged_of operand_of address_of hint_of range_of
    length_of is_unpredictable tlbi_exponent tlbip_exponent is_entry is_legal is_company has_asids in_reach has_span is_level exponent_of exponent_at height_of tag_of company_tag company_at entry_at
reaching = (refl, refl, refl, refl, refl)

-- pages of eleven companies at address 0
abbrev companies : List Entry
companies =
    page (stage1 EL10 NonSecure 7) 0
    ∷ page (stage1 EL10 NonSecure 8) 0
    ∷ page (stage1 EL10 NonSecure 0) 0
    ∷ page (stage1 EL10 Secure 7) 0
    ∷ page (stage1 EL10 Secure 0) 0
    ∷ page (stage1 EL20 NonSecure 0) 0
    ∷ page (stage1 EL2 NonSecure 0) 0
    ∷ page (stage1 EL3 Secure 0) 0
    ∷ page (stage2 EL10 NonSecure 7 false) 0
    ∷ page (stage2 EL10 Secure 7 false) 0
    ∷ page (stage2 EL10 Secure 7 true) 0
    ∷ []

-- "regime, security state, VMID, stage and IPA space agree": at EL1; with EL2 absent; at EL2 as a host; RIPAS2 in the Non-secure and in the
-- Secure state, with NS 0 and 1; E2 names without and with E2H; E3 names
pub companies-apart :
    (gone guesting 0xD5088260 (operand 0 1 0 0 0) 0 companies ≡ (1 ∷ 0 ∷ 0 ∷ 0 ∷ 0 ∷ 0 ∷ 0 ∷ 0 ∷ 0 ∷ 0 ∷ 0 ∷ []))
    × (gone (at 1 []) 0xD5088260 (operand 0 1 0 0 0) 0 companies ≡ (0 ∷ 0 ∷ 1 ∷ 0 ∷ 0 ∷ 0 ∷ 0 ∷ 0 ∷ 0 ∷ 0 ∷ 0 ∷ []))
    × (gone (at 1 (two ∷ three ∷ [])) 0xD5088260 (operand 0 1 0 0 0) 0 companies ≡ (0 ∷ 0 ∷ 0 ∷ 0 ∷ 1 ∷ 0 ∷ 0 ∷ 0 ∷ 0 ∷ 0 ∷ 0 ∷ []))
    × (gone (at 2 (two ∷ E2H ∷ TGE ∷ [])) 0xD5088260 (operand 0 1 0 0 0) 0 companies ≡ (0 ∷ 0 ∷ 0 ∷ 0 ∷ 0 ∷ 1 ∷ 0 ∷ 0 ∷ 0 ∷ 0 ∷ 0 ∷ []))
    × (gone (at 2 (two ∷ [])) 0xD50C8040 (operand 0 1 0 0 0) 0 companies ≡ (0 ∷ 0 ∷ 0 ∷ 0 ∷ 0 ∷ 0 ∷ 0 ∷ 0 ∷ 1 ∷ 0 ∷ 0 ∷ []))
    × (gone (at 2 (two ∷ [])) 0xD50C8040 (operand 0x8000 1 0 0 0) 0 companies ≡ (0 ∷ 0 ∷ 0 ∷ 0 ∷ 0 ∷ 0 ∷ 0 ∷ 0 ∷ 1 ∷ 0 ∷ 0 ∷ []))
    × (gone (at 2 (two ∷ three ∷ SEL2 ∷ EEL2 ∷ [])) 0xD50C8040 (operand 0 1 0 0 0) 0 companies ≡ (0 ∷ 0 ∷ 0 ∷ 0 ∷ 0 ∷ 0 ∷ 0 ∷ 0 ∷ 0 ∷ 1 ∷ 0 ∷ []))
    × (gone (at 2 (two ∷ three ∷ SEL2 ∷ EEL2 ∷ [])) 0xD50C8040 (operand 0x8000 1 0 0 0) 0 companies ≡ (0 ∷ 0 ∷ 0 ∷ 0 ∷ 0 ∷ 0 ∷ 0 ∷ 0 ∷ 0 ∷ 0 ∷ 1 ∷ []))
    × (gone (at 2 (two ∷ [])) 0xD50C8220 (operand 0 1 0 0 0) 0 companies ≡ (0 ∷ 0 ∷ 0 ∷ 0 ∷ 0 ∷ 0 ∷ 1 ∷ 0 ∷ 0 ∷ 0 ∷ 0 ∷ []))
    × (gone (at 2 (two ∷ E2H ∷ [])) 0xD50C8220 (operand 0 1 0 0 0) 0 companies ≡ (0 ∷ 0 ∷ 0 ∷ 0 ∷ 0 ∷ 1 ∷ 0 ∷ 0 ∷ 0 ∷ 0 ∷ 0 ∷ []))
    × (gone (at 3 (two ∷ three ∷ NS ∷ [])) 0xD50E8220 (operand 0 1 0 0 0) 0 companies ≡ (0 ∷ 0 ∷ 0 ∷ 0 ∷ 0 ∷ 0 ∷ 0 ∷ 1 ∷ 0 ∷ 0 ∷ 0 ∷ []))
    × (gone (at 3 (two ∷ three ∷ E2H ∷ TGE ∷ [])) 0xD5088260 (operand 0 1 0 0 0) 0 companies ≡ (0 ∷ 0 ∷ 0 ∷ 0 ∷ 1 ∷ 0 ∷ 0 ∷ 0 ∷ 0 ∷ 0 ∷ 0 ∷ []))
    × (gone (at 3 (two ∷ three ∷ RME ∷ NS ∷ [])) 0xD50E8220 (operand 0 1 0 0 0) 0 (page (stage1 EL3 Root 0) 0 ∷ page (stage1 EL3 Secure 0) 0 ∷ []) ≡ (1 ∷ 0 ∷ []))
    × (gone (at 1 (two ∷ three ∷ RME ∷ NSE ∷ NS ∷ [])) 0xD5088260 (operand 0 1 0 0 0) 0 (page (stage1 EL10 Realm 7) 0 ∷ page (stage1 EL10 NonSecure 7) 0 ∷ []) ≡ (1 ∷ 0 ∷ []))
unfolding executed_of execute_table resolved_of count cleared drops goes work_of same_company read_of row_of access_of is_barred is_trapped access_e1 access_e2 access_e3 access_stage2 scope_of reached_of
    reaches mask_from el2_enabled security_of security_in vmid_in hcrx_live bad_state bad_fields bad_board domains_agree every is_unit_64k asked_of form_of told_of ranged_of operand_of address_of hint_of range_of
    length_of is_unpredictable tlbi_exponent tlbip_exponent is_entry is_legal is_company has_asids in_reach has_span is_level exponent_of exponent_at height_of tag_of company_tag company_at entry_at
companies-apart = (refl, refl, refl, refl, refl, refl, refl, refl, refl, refl, refl, refl, refl, refl)

-- where an ASID applies: RVAE1 and RVAE2 on EL2&0, not RVAE2 on EL2; and whose DS is read for the unit: EL2's on EL2&0, not EL1's
pub host-asids :
    (gone (at 2 (two ∷ E2H ∷ TGE ∷ [])) 0xD5088220 (operand 9 1 0 0 0) 0 (page_of (stage1 EL20 NonSecure 0) 1 9 false 0 ∷ page_of (stage1 EL20 NonSecure 0) 1 8 false 0 ∷ page_of (stage1 EL20 NonSecure 0) 1 8 true 0 ∷ []) ≡ (1 ∷ 0 ∷ 1 ∷ []))
    × (gone (at 2 (two ∷ E2H ∷ [])) 0xD50C8220 (operand 9 1 0 0 0) 0 (page_of (stage1 EL20 NonSecure 0) 1 9 false 0 ∷ page_of (stage1 EL20 NonSecure 0) 1 8 false 0 ∷ page_of (stage1 EL20 NonSecure 0) 1 8 true 0 ∷ []) ≡ (1 ∷ 0 ∷ 1 ∷ []))
    × (gone (at 2 (two ∷ [])) 0xD50C8220 (operand 9 1 0 0 0) 0 (page (stage1 EL2 NonSecure 0) 0 ∷ []) ≡ (1 ∷ []))
    × (gone (host_with_ds 1 []) 0xD5088260 (operand 0 1 0 0 0x4000) 0 (page (stage1 EL20 NonSecure 0) 0x40000000 ∷ page (stage1 EL20 NonSecure 0) 0x4000000 ∷ []) ≡ (1 ∷ 0 ∷ []))
    × (gone (host_with_ds 0 []) 0xD5088260 (operand 0 1 0 0 0x4000) 0 (page (stage1 EL20 NonSecure 0) 0x40000000 ∷ page (stage1 EL20 NonSecure 0) 0x4000000 ∷ []) ≡ (0 ∷ 1 ∷ []))
unfolding executed_of execute_table resolved_of count cleared drops goes work_of same_company read_of row_of access_of is_barred is_trapped access_e1 access_e2 access_e3 access_stage2 scope_of reached_of
    reaches mask_from el2_enabled security_of security_in vmid_in hcrx_live bad_state bad_fields bad_board domains_agree every is_unit_64k asked_of form_of told_of ranged_of operand_of address_of hint_of range_of
    length_of is_unpredictable tlbi_exponent tlbip_exponent is_entry is_legal is_company has_asids in_reach has_span is_level exponent_of exponent_at height_of tag_of company_tag company_at entry_at
host-asids = (refl, refl, refl, refl, refl)

-- an ASID of its own and of another, global and not, leaf and non-leaf, XS 0 and 1, at address 0
abbrev with-asid : ℕ → Bool → Bool → Bool → Entry
with-asid asid global leaf xs =
    record { processor = 1; company = guest; asid = asid; global = global; wide = false; granule = 1; level = pos 2; leaf = leaf; xs = xs; base = 0 }

abbrev asids : List Entry
asids =
    with-asid 9 false true false
    ∷ with-asid 8 false true false
    ∷ with-asid 8 true true false
    ∷ with-asid 9 false false false
    ∷ with-asid 8 false false false
    ∷ with-asid 265 false true false
    ∷ with-asid 9 false true true
    ∷ with-asid 9 false false true
    ∷ []

-- "it is a leaf if the name has L; where an ASID applies, it agrees or the leaf is global; it has XS 0 if the operation is NXS": RVAE1, RVAAE1,
-- RVALE1, RVAALE1, and RVAE1 and RVAAE1 as NXS; a plain name under FnXS at EL1, at EL2, without XS, and with EL2 absent
pub asids-and-leaves :
    (gone guesting 0xD5088220 (operand 9 1 0 0 0) 0 asids ≡ (1 ∷ 0 ∷ 1 ∷ 1 ∷ 0 ∷ 0 ∷ 1 ∷ 1 ∷ []))
    × (gone guesting 0xD5088260 (operand 9 1 0 0 0) 0 asids ≡ replicate 8 1)
    × (gone guesting 0xD50882A0 (operand 9 1 0 0 0) 0 asids ≡ (1 ∷ 0 ∷ 1 ∷ 0 ∷ 0 ∷ 0 ∷ 1 ∷ 0 ∷ []))
    × (gone guesting 0xD50882E0 (operand 9 1 0 0 0) 0 asids ≡ (1 ∷ 1 ∷ 1 ∷ 0 ∷ 0 ∷ 1 ∷ 1 ∷ 0 ∷ []))
    × (gone guesting 0xD5089220 (operand 9 1 0 0 0) 0 asids ≡ (1 ∷ 0 ∷ 1 ∷ 1 ∷ 0 ∷ 0 ∷ 0 ∷ 0 ∷ []))
    × (gone guesting 0xD5089260 (operand 9 1 0 0 0) 0 asids ≡ (1 ∷ 1 ∷ 1 ∷ 1 ∷ 1 ∷ 1 ∷ 0 ∷ 0 ∷ []))
    × (gone (at 1 (two ∷ FnXS ∷ [])) 0xD5088260 (operand 9 1 0 0 0) 0 asids ≡ (1 ∷ 1 ∷ 1 ∷ 1 ∷ 1 ∷ 1 ∷ 0 ∷ 0 ∷ []))
    × (gone (at 2 (two ∷ FnXS ∷ [])) 0xD5088260 (operand 9 1 0 0 0) 0 asids ≡ replicate 8 1)
    × (gone (at 1 (two ∷ FnXS ∷ no_xs ∷ [])) 0xD5088260 (operand 9 1 0 0 0) 0 asids ≡ replicate 8 1)
    × (gone (at 1 (FnXS ∷ [])) 0xD5088260 (operand 9 1 0 0 0) 0 (record { processor = 1; company = stage1 EL10 NonSecure 0; asid = 9; global = false; wide = false; granule = 1; level = pos 3; leaf = true; xs = true; base = 0 } ∷ []) ≡ (1 ∷ []))
unfolding executed_of execute_table resolved_of count cleared drops goes work_of same_company read_of row_of access_of is_barred is_trapped access_e1 access_e2 access_e3 access_stage2 scope_of reached_of
    reaches mask_from el2_enabled security_of security_in vmid_in hcrx_live bad_state bad_fields bad_board domains_agree every is_unit_64k asked_of form_of told_of ranged_of operand_of address_of hint_of range_of
    length_of is_unpredictable tlbi_exponent tlbip_exponent is_entry is_legal is_company has_asids in_reach has_span is_level exponent_of exponent_at height_of tag_of company_tag company_at entry_at
asids-and-leaves = (refl, refl, refl, refl, refl, refl, refl, refl, refl, refl)

-- "13, 2, 1, 3 to 5 by the access rules ..., 6, 7", each with the table as it was; m4, m6, m9 and m10; Rt 31; a word of 2^32 and more
pub answers :
    (executing (at 2 []) 0 0 0 (1 ∷ 2 ∷ []) ≡ (13, 0, 0, 1 ∷ 2 ∷ []))
    × (number_of (executed_of guesting 0xD5088260 (operand 0 1 0 0 0) 0 (replicate 6147 0)) ≡ 13)
    × (executing (at 2 []) 0 0 0 junk ≡ (2, 0, 0, junk))
    × (executing guesting 0xD503201F (operand 0 1 0 0 0) 0 (slot (page guest 0) 5) ≡ (1, 0, 0, slot (page guest 0) 5))
    × (executing guesting (0xD5088260 + 2 ^ 32) (operand 0 1 0 0 0) 0 (slot (page guest 0) 5) ≡ (1, 0, 0, slot (page guest 0) 5))
    × (executing (at 0 (two ∷ [])) 0xD5088260 (operand 0 1 0 0 0) 0 (slot (page guest 0) 5) ≡ (3, 0, 0, slot (page guest 0) 5))
    × (executing (at 1 (two ∷ no_range ∷ [])) 0xD5088260 (operand 0 1 0 0 0) 0 (slot (page guest 0) 5) ≡ (3, 0, 0, slot (page guest 0) 5))
    × (executing (at 1 (two ∷ NV ∷ [])) 0xD54C80C0 (operand 0 1 0 0 0) 0 (slot (page guest 0) 5) ≡ (4, 0x14, 0, slot (page guest 0) 5))
    × (executing (at 1 (two ∷ NV ∷ [])) 0xD50C8220 (operand 0 0 0 0 0) 0 (slot (page guest 0) 5) ≡ (4, 0x18, 0, slot (page guest 0) 5))
    × (executing (at 1 (two ∷ NV ∷ [])) 0xD54C80C1 (operand 0 1 0 0 0) 0 (slot (page guest 0) 5) ≡ (3, 0, 0, slot (page guest 0) 5))
    × (executing (at 3 (two ∷ three ∷ [])) 0xD54C80C0 (operand 0 0 0 0 0) 0 (slot (page guest 0) 5) ≡ (5, 0, 0, slot (page guest 0) 5))
    × (executing guesting 0xD5088260 0x0000000000040000 0 (slot (page guest 0) 5) ≡ (6, 0, 0, slot (page guest 0) 5))
    × (executing guesting 0xD508827F (operand 0 1 0 0 0) 0 (slot (page guest 0) 5) ≡ (6, 0, 0, slot (page guest 0) 5))
    × (executing guesting 0xD5088260 0x0000404000040001 0 (slot (page guest 0) 5) ≡ (7, 0, 0, slot (page guest 0) 5))
    × (executing (at 3 (two ∷ three ∷ RME ∷ NSE ∷ [])) 0xD50E8220 (operand 0 1 0 0 0) 0 (slot (page guest 0) 5) ≡ (2, 0, 0, slot (page guest 0) 5))
    × (executing guesting 0xD548827F (operand 0 1 0 0 0) 0 (slot (page guest 0) 5) ≡ (6, 0, 0, slot (page guest 0) 5))
    × (executing (at 1 (two ∷ NV ∷ [])) 0xD50C823F (operand 0 1 0 0 0) 0 (slot (page guest 0) 5) ≡ (4, 0x18, 0, slot (page guest 0) 5))
    × (executing (at 1 (two ∷ [])) 0xD5488260 (operand 0 2 0 1 0) 4 (slot (page guest 0) 5) ≡ (7, 0, 0, slot (page guest 0) 5))
    × (executing guesting 0xD5488260 (operand 0 2 0 1 0) 4 (slot (page guest 0) 5) ≡ (0, 0, 0, slot (page guest 0) 5))
    × (executing guesting 0xD5088260 (operand 0 1 0 0 0) 0 [] ≡ (0, 0, 0, []))
unfolding executed_of execute_table resolved_of count cleared drops goes work_of same_company read_of row_of access_of is_barred is_trapped access_e1 access_e2 access_e3 access_stage2 scope_of reached_of
    reaches mask_from el2_enabled security_of security_in vmid_in hcrx_live bad_state bad_fields bad_board domains_agree every is_unit_64k asked_of form_of told_of ranged_of operand_of address_of hint_of range_of
    length_of is_unpredictable tlbi_exponent tlbip_exponent is_entry is_legal is_company has_asids in_reach has_span is_level exponent_of exponent_at height_of tag_of company_tag company_at entry_at
answers = (refl, refl, refl, refl, refl, refl, refl, refl, refl, refl, refl, refl, refl, refl, refl, refl, refl, refl, refl, refl)

-- a dropped slot is three zeros, its output word too; slots that make no sense, that are empty, of others and beside the range stay; and the number;
-- under SYSP with Rt 30, Xt2 counts as zero, with Rt 28 it does not
pub tables :
    (executing guesting 0xD5088260 (operand 0 1 0 0 0) 0 (junk ++ slot (page guest 0) 5 ++ zeros ++ slot (page guest 0x2000) 6 ++ slot (page guest 0x1000) 7 ++ slot (page (stage1 EL10 NonSecure 8) 0) 8) ≡ (0, 0, 2, junk ++ zeros ++ zeros ++ slot (page guest 0x2000) 6 ++ zeros ++ slot (page (stage1 EL10 NonSecure 8) 0) 8))
    × (executing guesting 0xD5088260 (operand 0 1 0 0 0) 0 (slot (page guest 0x2000) 6) ≡ (0, 0, 0, slot (page guest 0x2000) 6))
    × (executing guesting 0xD5088260 (operand 0 1 0 0 0) 7 (slot (page guest 0) 6) ≡ (0, 0, 1, zeros))
    × (executing guesting 0xD548827E (operand 0 1 0 0 0) 2 (slot (page guest 0x2000) 6) ≡ (0, 0, 0, slot (page guest 0x2000) 6))
    × (executing guesting 0xD548827C (operand 0 1 0 0 0) 2 (slot (page guest 0x2000) 6) ≡ (0, 0, 1, zeros))
    × (executing guesting 0xD548827E (operand 0 1 0 0 0) 2 (slot (page guest 0) 6) ≡ (0, 0, 1, zeros))
    × (executing guesting 0xD5088260 (operand 0 1 0 0 0) 0 ((0 ∷ (tag_of (page guest 0) + 2 ^ 54) ∷ 6 ∷ []) ++ (1 ∷ tag_of (page guest 0) ∷ 6 ∷ [])) ≡ (0, 0, 0, (0 ∷ (tag_of (page guest 0) + 2 ^ 54) ∷ 6 ∷ []) ++ (1 ∷ tag_of (page guest 0) ∷ 6 ∷ [])))
unfolding executed_of execute_table resolved_of count cleared drops goes work_of same_company read_of row_of access_of is_barred is_trapped access_e1 access_e2 access_e3 access_stage2 scope_of reached_of
    reaches mask_from el2_enabled security_of security_in vmid_in hcrx_live bad_state bad_fields bad_board domains_agree every is_unit_64k asked_of form_of told_of ranged_of operand_of address_of hint_of range_of
    length_of is_unpredictable tlbi_exponent tlbip_exponent is_entry is_legal is_company has_asids in_reach has_span is_level exponent_of exponent_at height_of tag_of company_tag company_at entry_at
tables = (refl, refl, refl, refl, refl, refl, refl)

-- answer, step, slots dropped, and the table after it; a step of RVAAE1IS over two pages from page n
abbrev running : State → List ℕ → List ℕ → ℕ × ℕ × ℕ × List ℕ
running st steps l =
    let r = ran_of st steps l in
    (number_of r, ran_step r, value_of r, run_table st steps l)

abbrev step : ℕ → List ℕ
step n = 0xD5088260 ∷ operand 0 1 0 0 n ∷ 0 ∷ []

-- a step that is no operation, one that is UNDEFINED, and one with TG 00
abbrev unknown : List ℕ
unknown = 2 ^ 32 ∷ operand 0 1 0 0 0 ∷ 0 ∷ []

abbrev undefined : List ℕ
undefined = 0xD50E8220 ∷ operand 0 1 0 0 0 ∷ 0 ∷ []

abbrev no-granule : List ℕ
no-granule = 0xD5088260 ∷ 0 ∷ 0 ∷ []

abbrev pages : List ℕ
pages = slot (page guest 0) 5 ++ slot (page guest 0x2000) 6 ++ slot (page guest 0x4000) 7

-- "all steps in order and the sum of dropped slots": none, one, two, two that overlap, the same twice
pub runs :
    (running guesting [] pages ≡ (0, 0, 0, pages))
    × (running guesting (step 0) pages ≡ (0, 0, 1, zeros ++ slot (page guest 0x2000) 6 ++ slot (page guest 0x4000) 7))
    × (running guesting (step 0 ++ step 4) pages ≡ (0, 0, 2, zeros ++ slot (page guest 0x2000) 6 ++ zeros))
    × (running guesting (step 1 ++ step 2 ++ step 3) pages ≡ (0, 0, 2, slot (page guest 0) 5 ++ zeros ++ zeros))
    × (running guesting (step 0 ++ step 0) pages ≡ (0, 0, 1, zeros ++ slot (page guest 0x2000) 6 ++ slot (page guest 0x4000) 7))
    × (running guesting (step 0) [] ≡ (0, 0, 0, []))
unfolding ran_of run_table steps_table steps_dropped first executed_of execute_table resolved_of count cleared drops goes work_of same_company read_of row_of access_of is_barred is_trapped access_e1 access_e2 access_e3 access_stage2 scope_of reached_of
    reaches mask_from el2_enabled security_of security_in vmid_in hcrx_live bad_state bad_fields bad_board domains_agree every is_unit_64k asked_of form_of told_of ranged_of operand_of address_of hint_of range_of
    length_of is_unpredictable tlbi_exponent tlbip_exponent is_entry is_legal is_company has_asids in_reach has_span is_level exponent_of exponent_at height_of tag_of company_tag company_at entry_at
runs = (refl, refl, refl, refl, refl, refl)

-- "Run: 13, 2, 10": the first step that does not answer 0, and nothing done; 13 of table or list before 2; 16 steps and 17
pub run-answers :
    (running guesting (step 0 ++ unknown ++ no-granule) pages ≡ (10, 1, 0, pages))
    × (running guesting (step 0 ++ step 2 ++ undefined) pages ≡ (10, 2, 0, pages))
    × (running guesting (no-granule ++ step 0) pages ≡ (10, 0, 0, pages))
    × (running (at 1 (two ∷ NV ∷ [])) (step 0 ++ (0xD50C8220 ∷ operand 0 1 0 0 0 ∷ 0 ∷ [])) pages ≡ (10, 1, 0, pages))
    × (running (at 3 (two ∷ three ∷ [])) (0xD50C8040 ∷ operand 0 1 0 0 0 ∷ 0 ∷ []) pages ≡ (10, 0, 0, pages))
    × (running guesting (0xD5088260 ∷ 0x0000404000040001 ∷ 0 ∷ []) pages ≡ (10, 0, 0, pages))
    × (running (at 2 []) (unknown ++ (1 ∷ [])) pages ≡ (13, 0, 0, pages))
    × (running (at 2 []) unknown (pages ++ (1 ∷ [])) ≡ (13, 0, 0, pages ++ (1 ∷ [])))
    × (running (at 2 []) unknown pages ≡ (2, 0, 0, pages))
    × (running guesting (replicate 51 0) pages ≡ (13, 0, 0, pages))
    × (running guesting (replicate 48 0) pages ≡ (10, 0, 0, pages))
    × (number_of (ran_of guesting (step 0) (replicate 6147 0)) ≡ 13)
unfolding ran_of run_table steps_table steps_dropped first executed_of execute_table resolved_of count cleared drops goes work_of same_company read_of row_of access_of is_barred is_trapped access_e1 access_e2 access_e3 access_stage2 scope_of reached_of
    reaches mask_from el2_enabled security_of security_in vmid_in hcrx_live bad_state bad_fields bad_board domains_agree every is_unit_64k asked_of form_of told_of ranged_of operand_of address_of hint_of range_of
    length_of is_unpredictable tlbi_exponent tlbip_exponent is_entry is_legal is_company has_asids in_reach has_span is_level exponent_of exponent_at height_of tag_of company_tag company_at entry_at
run-answers = (refl, refl, refl, refl, refl, refl, refl, refl, refl, refl, refl, refl)
