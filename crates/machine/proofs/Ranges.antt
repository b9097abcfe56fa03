-- Operands computed: the ranges of m1 to m8, and corners of fields, bases, units, hints, lengths and answers 6 and 7.
use Rattle.std.specs.Prelude.{Option, Some, None, Result, Ok, Err}
use Prim.Native.Nat.{ℕ, ◌+◌, ◌*◌, ◌-◌, ◌^◌}
use mathlib.Core.Bool.{true, false}
use mathlib.Core.List.{List, [], ◌∷◌}
use mathlib.Core.Path.{◌≡◌, refl}
use lib.ListN.{take, drop}
use Rattle.machine.proofs.Sample.{two, three, NS, NSE, EEL2, RME, SEL2, E2H, TGE, no_lpa2, at, state_on, three-processors, host_with_ds}
use Rattle.machine.specs.Access.{is_barred, is_trapped, scope_of, access_e1, access_e2, access_stage2, access_e3, access_of, is_unit_64k}
use Rattle.machine.specs.Answer.{refusal_number, number_of, read_fields, written_xt, written_xt2}
use Rattle.machine.specs.Asked.{form_of, told_of, asked_of}
use Rattle.machine.specs.Operand.{address_of, hint_of, operand_of, field_of, is_shown, is_writable, xt_of, xt2_of, words_of}
use Rattle.machine.specs.Range.{length_of, range_of, tlbi_exponent, tlbip_exponent, is_unpredictable, ranged_of}
use Rattle.machine.specs.Span.{height_of, exponent_at, exponent_of}
use Rattle.machine.specs.State.{security_of, security_in, el2_enabled, vmid_in, hcrx_live}
use Rattle.machine.specs.Word.{row_of, read_of}
use Rattle.machine.specs.declared.operand.Form.{Form}
use Rattle.machine.specs.declared.operand.Form.TheVariants.{TwoRangesAsid, TwoRanges, OneRange, Stage2Ns, Stage2NoNs}
use Rattle.machine.specs.declared.operand.Told.{Told}
use Rattle.machine.specs.declared.operation.Operation.{Operation}
use Rattle.machine.specs.declared.processor.State.{State}
use Rattle.machine.specs.declared.refusal.Refusal.{Refusal}
use Rattle.machine.specs.declared.operand.Operand.{Operand}
use Rattle.machine.specs.declared.operand.Range.{Range}
use Rattle.machine.specs.declared.scope.Scope.{Scope}

-- a range, as answer 0, first and last address, TTL, ASID and NS; or an answer
abbrev shown : Result (Operand × Range) Refusal → List ℕ
shown (Ok (o, r)) = 0 ∷ r.first ∷ r.last ∷ o.ttl ∷ o.asid ∷ o.ns ∷ []
shown (Err r) = refusal_number r ∷ []

abbrev asked_by : State → Operation → Result Scope Refusal → ℕ → ℕ → List ℕ
asked_by st op (Ok s) xt xt2 = shown (asked_of st op s xt xt2)
asked_by st op (Err r) xt xt2 = refusal_number r ∷ []

abbrev asked : State → Option Operation → ℕ → ℕ → List ℕ
asked st (Some op) xt xt2 = asked_by st op (access_of st op) xt xt2
asked st None xt xt2 = 1 ∷ []

-- RVAAE1IS run from EL1, without LPA2, and with LPA2 and DS of EL1
abbrev plain : ℕ → List ℕ
plain xt = asked (at 1 (no_lpa2 ∷ [])) (read_of 0xD5088260) xt 0

abbrev with_ds : ℕ → List ℕ
with_ds xt =
    asked (state_on three-processors (record { el1 = true; el2 = false; el3 = false; stage2 = false }) 1 []) (read_of 0xD5088260) xt 0

-- "m1 0x0000400000040000: 0x40000000 to 0x40001FFF." ... "m8 0x0000802000000001: 0x4000 to 0xBFFF, any level."
pub marked :
    (plain 0x0000400000040000 ≡ (0 ∷ 0x40000000 ∷ 0x40001FFF ∷ 0 ∷ 0 ∷ 0 ∷ []))
    × (plain 0x00007F8000000000 ≡ (0 ∷ 0 ∷ 0x1FFFFFFFF ∷ 0 ∷ 0 ∷ 0 ∷ []))
    × (plain 0x0000401FFFFFFFFF ≡ (0 ∷ (2 ^ 64 - 4096) ∷ (2 ^ 64 - 1) ∷ 0 ∷ 0 ∷ 0 ∷ []))
    × (plain 0x0000404000040001 ≡ (7 ∷ []))
    × (plain 0x0000404000040000 ≡ (0 ∷ 0x40000000 ∷ 0x40001FFF ∷ 2 ∷ 0 ∷ 0 ∷ []))
    × (plain 0x0000000000040000 ≡ (6 ∷ []))
    × (with_ds 0x0000400000004000 ≡ plain 0x0000400000040000)
    × (plain 0x0000802000000001 ≡ (0 ∷ 0x4000 ∷ 0xBFFF ∷ 0 ∷ 0 ∷ 0 ∷ []))
unfolding read_of row_of access_of is_barred is_trapped access_e1 scope_of el2_enabled security_of security_in vmid_in hcrx_live is_unit_64k
    asked_of form_of told_of ranged_of operand_of address_of hint_of range_of length_of is_unpredictable tlbi_exponent
marked = (refl, refl, refl, refl, refl, refl, refl, refl)

-- Operands by their told, the kind and the form: TLBI or TLBIP, LPA2, the unit.
abbrev tlbi : Form → Told
tlbi f = record { tlbip = false; form = f; lpa2 = false; unit64k = false }

abbrev tlbip : Form → Told
tlbip f = record { tlbip = true; form = f; lpa2 = false; unit64k = false }

abbrev lpa2 : Told → Told
lpa2 t = record { tlbip = t.tlbip; form = t.form; lpa2 = true; unit64k = t.unit64k }

abbrev unit : Told → Told
unit t = record { tlbip = t.tlbip; form = t.form; lpa2 = t.lpa2; unit64k = true }

-- a word by its upper 16 bits, TG, SCALE, NUM, TTL and the rest
abbrev xt : ℕ → ℕ → ℕ → ℕ → ℕ → ℕ → ℕ
xt top tg scale num ttl low = ((((top * 4 + tg) * 4 + scale) * 32 + num) * 4 + ttl) * 2 ^ 37 + low

-- what the reader gives: its answer and the fields
abbrev read : Result Operand Refusal → List ℕ
read r =
    number_of r
    ∷ (read_fields r).asid
    ∷ (read_fields r).ns
    ∷ (read_fields r).tg
    ∷ (read_fields r).scale
    ∷ (read_fields r).num
    ∷ (read_fields r).ttl
    ∷ (read_fields r).base
    ∷ []

-- ASID and NS in each form, of TLBI and of TLBIP; every other field, and the bits that TLBIP does not use; TG 00; Xt2 of a TLBI
pub fields :
    (read (operand_of (tlbi TwoRangesAsid) (xt 0xFEDC 1 2 19 3 5) 0) ≡ (0 ∷ 0xFEDC ∷ 0 ∷ 1 ∷ 2 ∷ 19 ∷ 3 ∷ 0x5000 ∷ []))
    × (read (operand_of (tlbi TwoRanges) (xt 0xFEDC 1 2 19 3 5) 0) ≡ (0 ∷ 0 ∷ 0 ∷ 1 ∷ 2 ∷ 19 ∷ 3 ∷ 0x5000 ∷ []))
    × (read (operand_of (tlbi OneRange) (xt 0xFEDC 2 3 31 2 5) 0) ≡ (0 ∷ 0 ∷ 0 ∷ 2 ∷ 3 ∷ 31 ∷ 2 ∷ 0x14000 ∷ []))
    × (read (operand_of (tlbi Stage2Ns) (xt 0xFEDC 3 0 0 1 5) 0) ≡ (0 ∷ 0 ∷ 1 ∷ 3 ∷ 0 ∷ 0 ∷ 1 ∷ 0x50000 ∷ []))
    × (read (operand_of (tlbi Stage2Ns) (xt 0x7EDC 3 0 0 1 5) 0) ≡ (0 ∷ 0 ∷ 0 ∷ 3 ∷ 0 ∷ 0 ∷ 1 ∷ 0x50000 ∷ []))
    × (read (operand_of (tlbi Stage2NoNs) (xt 0xFEDC 3 0 0 1 5) 0) ≡ (0 ∷ 0 ∷ 0 ∷ 3 ∷ 0 ∷ 0 ∷ 1 ∷ 0x50000 ∷ []))
    × (read (operand_of (tlbi TwoRangesAsid) (xt 0xFEDC 0 2 19 3 5) 0) ≡ (6 ∷ 0 ∷ 0 ∷ 0 ∷ 0 ∷ 0 ∷ 0 ∷ 0 ∷ []))
    × (read (operand_of (tlbip TwoRangesAsid) (xt 0xFEDC 1 2 19 3 0x1FFFFFFFFF) 0xFFFFF00000000005) ≡ (0 ∷ 0xFEDC ∷ 0 ∷ 1 ∷ 2 ∷ 19 ∷ 3 ∷ 0x5000 ∷ []))
    × (read (operand_of (tlbip TwoRangesAsid) (xt 0xFEDC 0 2 19 3 5) 0xFFF) ≡ (6 ∷ 0 ∷ 0 ∷ 0 ∷ 0 ∷ 0 ∷ 0 ∷ 0 ∷ []))
    × (read (operand_of (tlbip TwoRanges) (xt 0xFEDC 2 1 7 2 0) 8) ≡ (0 ∷ 0 ∷ 0 ∷ 2 ∷ 1 ∷ 7 ∷ 2 ∷ 0x8000 ∷ []))
    × (read (operand_of (tlbip OneRange) (xt 0xFEDC 3 3 0 0 0) 16) ≡ (0 ∷ 0 ∷ 0 ∷ 3 ∷ 3 ∷ 0 ∷ 0 ∷ 0x10000 ∷ []))
    × (read (operand_of (tlbip Stage2Ns) (xt 0xFEDC 1 0 0 1 0) 5) ≡ (0 ∷ 0 ∷ 1 ∷ 1 ∷ 0 ∷ 0 ∷ 1 ∷ 0x5000 ∷ []))
    × (read (operand_of (tlbip Stage2NoNs) (xt 0xFEDC 1 0 0 1 0) 5) ≡ (0 ∷ 0 ∷ 0 ∷ 1 ∷ 0 ∷ 0 ∷ 1 ∷ 0x5000 ∷ []))
    × (read (operand_of (tlbi TwoRanges) (xt 0 1 0 0 0 5) 0x1234) ≡ (0 ∷ 0 ∷ 0 ∷ 1 ∷ 0 ∷ 0 ∷ 0 ∷ 0x5000 ∷ []))
unfolding operand_of address_of hint_of
fields = (refl, refl, refl, refl, refl, refl, refl, refl, refl, refl, refl, refl, refl, refl)

-- the base in an operand of fields that are 0
abbrev base : Told → ℕ → ℕ → ℕ → List ℕ
base t tg low xt2 = drop 7 (read (operand_of t (xt 0 tg 0 0 0 low) xt2))

-- the bit that is copied: 48, 50 and 52, 52 in units of 64 KiB, 55 of a TLBIP; below it nothing; one range and stage 2; bits below the granule;
-- the unit goes by its flag alone, and not under TLBIP
pub bases :
    (base (tlbi TwoRanges) 1 (2 ^ 36) 0 ≡ (0xFFFF000000000000 ∷ []))
    × (base (tlbi TwoRanges) 2 (2 ^ 36) 0 ≡ (0xFFFC000000000000 ∷ []))
    × (base (tlbi TwoRanges) 3 (2 ^ 36) 0 ≡ (0xFFF0000000000000 ∷ []))
    × (base (lpa2 (unit (tlbi TwoRanges))) 1 (2 ^ 36) 0 ≡ (0xFFF0000000000000 ∷ []))
    × (base (lpa2 (unit (tlbi TwoRangesAsid))) 2 (2 ^ 36) 0 ≡ (0xFFF0000000000000 ∷ []))
    × (base (lpa2 (unit (tlbi TwoRanges))) 1 (2 ^ 35) 0 ≡ (0x0008000000000000 ∷ []))
    × (base (unit (tlbi TwoRanges)) 1 1 0 ≡ (0x10000 ∷ []))
    × (base (lpa2 (tlbi TwoRanges)) 1 1 0 ≡ (0x1000 ∷ []))
    × (base (tlbi OneRange) 1 (2 ^ 36) 0 ≡ (0x0001000000000000 ∷ []))
    × (base (tlbi Stage2Ns) 3 (2 ^ 36) 0 ≡ (0x0010000000000000 ∷ []))
    × (base (tlbi Stage2NoNs) 3 (2 ^ 36) 0 ≡ (0x0010000000000000 ∷ []))
    × (base (tlbip TwoRanges) 1 0 (2 ^ 43) ≡ (0xFF80000000000000 ∷ []))
    × (base (tlbip TwoRangesAsid) 3 0 (2 ^ 43 + 31) ≡ (0xFF80000000010000 ∷ []))
    × (base (tlbip TwoRanges) 2 0 (2 ^ 42 + 31) ≡ (0x004000000001C000 ∷ []))
    × (base (unit (tlbip TwoRanges)) 1 0 31 ≡ (0x1F000 ∷ []))
    × (base (tlbip OneRange) 1 0 (2 ^ 43) ≡ (0x0080000000000000 ∷ []))
    × (base (tlbip Stage2Ns) 1 0 (2 ^ 44) ≡ (0 ∷ []))
    × (base (unit (tlbi OneRange)) 1 1 0 ≡ (0x10000 ∷ []))
    × (base (unit (tlbi Stage2Ns)) 2 1 0 ≡ (0x10000 ∷ []))
    × (base (unit (tlbi Stage2NoNs)) 1 1 0 ≡ (0x10000 ∷ []))
    × (base (unit (tlbi OneRange)) 1 (2 ^ 36) 0 ≡ (0x0010000000000000 ∷ []))
    × (base (tlbip Stage2NoNs) 1 0 (2 ^ 43) ≡ (0x0080000000000000 ∷ []))
unfolding operand_of address_of hint_of
bases = (refl, refl, refl, refl, refl, refl, refl, refl, refl, refl, refl, refl, refl, refl, refl, refl, refl, refl, refl, refl, refl, refl)

-- the TTL that TG and TTL read as
abbrev hint : Told → ℕ → ℕ → List ℕ
hint t tg ttl = take 1 (drop 6 (read (operand_of t (xt 0 tg 0 0 ttl 0) 0)))

-- "TTL 01 with 16K and no LPA2 reads as 00.", for TLBI and TLBIP, and nothing else does
pub hints :
    (hint (tlbi TwoRanges) 2 1 ≡ (0 ∷ []))
    × (hint (tlbip OneRange) 2 1 ≡ (0 ∷ []))
    × (hint (unit (tlbi TwoRanges)) 2 1 ≡ (0 ∷ []))
    × (hint (lpa2 (tlbi TwoRanges)) 2 1 ≡ (1 ∷ []))
    × (hint (lpa2 (tlbip TwoRanges)) 2 1 ≡ (1 ∷ []))
    × (hint (tlbi TwoRanges) 1 1 ≡ (1 ∷ []))
    × (hint (tlbi TwoRanges) 3 1 ≡ (1 ∷ []))
    × (hint (tlbi TwoRanges) 2 2 ≡ (2 ∷ []))
    × (hint (tlbi TwoRanges) 2 3 ≡ (3 ∷ []))
unfolding operand_of address_of hint_of
hints = (refl, refl, refl, refl, refl, refl, refl, refl, refl)

-- the answer and the range of an operand
abbrev range : Told → ℕ → ℕ → List ℕ
range t w w2 = take 3 (shown (ranged_of t w w2))

-- lengths in granules also where the unit is 64 KiB; the longest; over the end of a half; the cut at 2^64, for TLBI and TLBIP
pub lengths :
    (range (tlbi TwoRanges) (xt 0 1 1 0 0 0) 0 ≡ (0 ∷ 0 ∷ 0x3FFFF ∷ []))
    × (range (tlbi TwoRanges) (xt 0 2 2 1 0 0) 0 ≡ (0 ∷ 0 ∷ 0x3FFFFFF ∷ []))
    × (range (unit (tlbi TwoRanges)) (xt 0 1 0 0 0 1) 0 ≡ (0 ∷ 0x10000 ∷ 0x11FFF ∷ []))
    × (range (tlbi TwoRanges) (xt 0 3 3 31 0 0) 0 ≡ (0 ∷ 0 ∷ (2 ^ 37 - 1) ∷ []))
    × (range (tlbi TwoRanges) (xt 0 1 0 0 0 (2 ^ 36 - 1)) 0 ≡ (0 ∷ 0x0000FFFFFFFFF000 ∷ 0x0001000000000FFF ∷ []))
    × (range (tlbip TwoRanges) (xt 0 1 0 0 0 0) (2 ^ 43 - 1) ≡ (0 ∷ 0x007FFFFFFFFFF000 ∷ 0x0080000000000FFF ∷ []))
    × (range (tlbip TwoRanges) (xt 0 3 3 31 0 0) (2 ^ 44 - 1) ≡ (0 ∷ (2 ^ 64 - 2 ^ 16) ∷ (2 ^ 64 - 1) ∷ []))
    × (range (tlbi TwoRanges) (xt 0 1 0 0 0 (2 ^ 37 - 2)) 0 ≡ (0 ∷ (2 ^ 64 - 2 ^ 13) ∷ (2 ^ 64 - 1) ∷ []))
    × (range (tlbi OneRange) (xt 0 3 3 31 0 (2 ^ 37 - 1)) 0 ≡ (0 ∷ (2 ^ 53 - 2 ^ 16) ∷ (2 ^ 53 - 2 ^ 16 + 2 ^ 37 - 1) ∷ []))
    × (range (tlbip OneRange) (xt 0 1 0 0 0 0) (2 ^ 44 - 1) ≡ (0 ∷ 0x00FFFFFFFFFFF000 ∷ 0x0100000000000FFF ∷ []))
unfolding ranged_of operand_of address_of hint_of range_of length_of is_unpredictable tlbi_exponent tlbip_exponent
lengths = (refl, refl, refl, refl, refl, refl, refl, refl, refl, refl)

-- the answers at a multiple of 2^k, and at half of it, of an operand with TG and TTL: base fields, in units of the granule or of 4 KiB
abbrev tlbi_at : Told → ℕ → ℕ → ℕ → ℕ × ℕ
tlbi_at t tg ttl k = (
  number_of (ranged_of t (xt 0 tg 0 0 ttl (2 ^ (k - (10 + 2 * tg)))) 0),
  number_of (ranged_of t (xt 0 tg 0 0 ttl (2 ^ (k - (11 + 2 * tg)))) 0),
)

abbrev tlbip_at : Told → ℕ → ℕ → ℕ → ℕ × ℕ
tlbip_at t tg ttl k =
    (number_of (ranged_of t (xt 0 tg 0 0 ttl 0) (2 ^ (k - 12))), number_of (ranged_of t (xt 0 tg 0 0 ttl 0) (2 ^ (k - 13))))

-- "2^30 (4K, TTL 01), 2^21 (4K, 10), 2^25 (16K, 10), 2^42 (64K, 01), 2^29 (64K, 10)", and no other; the 128-bit spans, where TTL 11 is never 7;
-- 16K with TTL 01
pub multiples :
    (tlbi_at (tlbi TwoRanges) 1 1 30 ≡ (0, 7))
    × (tlbi_at (tlbi TwoRanges) 1 2 21 ≡ (0, 7))
    × (tlbi_at (tlbi TwoRanges) 2 2 25 ≡ (0, 7))
    × (tlbi_at (tlbi TwoRanges) 3 1 42 ≡ (0, 7))
    × (tlbi_at (tlbi TwoRanges) 3 2 29 ≡ (0, 7))
    × (tlbi_at (tlbi TwoRanges) 1 3 13 ≡ (0, 0))
    × (tlbi_at (tlbi TwoRanges) 2 3 15 ≡ (0, 0))
    × (tlbi_at (tlbi TwoRanges) 3 3 17 ≡ (0, 0))
    × (tlbi_at (tlbi TwoRanges) 1 0 13 ≡ (0, 0))
    × (tlbi_at (tlbi TwoRanges) 2 1 15 ≡ (0, 0))
    × (tlbi_at (lpa2 (tlbi TwoRanges)) 2 1 15 ≡ (0, 0))
    × (tlbip_at (tlbip TwoRanges) 1 1 28 ≡ (0, 7))
    × (tlbip_at (tlbip TwoRanges) 1 2 20 ≡ (0, 7))
    × (tlbip_at (lpa2 (tlbip TwoRanges)) 2 1 34 ≡ (0, 7))
    × (tlbip_at (tlbip TwoRanges) 2 2 24 ≡ (0, 7))
    × (tlbip_at (tlbip TwoRanges) 3 1 40 ≡ (0, 7))
    × (tlbip_at (tlbip TwoRanges) 3 2 28 ≡ (0, 7))
    × (tlbip_at (tlbip TwoRanges) 1 3 13 ≡ (0, 0))
    × (tlbip_at (tlbip TwoRanges) 2 3 15 ≡ (0, 0))
    × (tlbip_at (tlbip TwoRanges) 3 3 13 ≡ (0, 0))
    × (tlbip_at (tlbip TwoRanges) 2 1 15 ≡ (0, 0))
    × (tlbip_at (tlbip TwoRanges) 1 0 13 ≡ (0, 0))
    × (number_of (ranged_of (unit (tlbi TwoRanges)) (xt 0 1 0 0 2 (2 ^ 5)) 0) ≡ 0)
    × (number_of (ranged_of (unit (tlbi TwoRanges)) (xt 0 1 0 0 2 (2 ^ 4)) 0) ≡ 7)
    × (number_of (ranged_of (tlbi Stage2NoNs) (xt 0 1 0 0 2 1) 0) ≡ 7)
    × (number_of (ranged_of (tlbip OneRange) (xt 0 1 0 0 2 0) 1) ≡ 7)
unfolding ranged_of operand_of address_of hint_of range_of length_of is_unpredictable tlbi_exponent tlbip_exponent exponent_of exponent_at height_of
multiples = (refl, refl, refl, refl, refl, refl, refl, refl, refl, refl, refl, refl, refl, refl, refl, refl, refl, refl, refl, refl, refl, refl, refl, refl, refl, refl)

-- what the writer gives: its answer, Xt and Xt2
abbrev written : Result (ℕ × ℕ) Refusal → List ℕ
written w = number_of w ∷ written_xt w ∷ written_xt2 w ∷ []

abbrev write : Told → ℕ → ℕ → ℕ → ℕ → ℕ → ℕ → ℕ → List ℕ
write t asid ns tg scale num ttl base =
    written (words_of t (record { asid = asid; ns = ns; tg = tg; scale = scale; num = num; ttl = ttl; base = base }))

-- words of fields, TLBI and TLBIP, in each form; a range that would be 7 is written
pub writes :
    (write (tlbi TwoRangesAsid) 0xFEDC 0 1 2 19 3 0x5000 ≡ (0 ∷ xt 0xFEDC 1 2 19 3 5 ∷ 0 ∷ []))
    × (write (tlbi TwoRanges) 0 0 1 0 0 2 0x1000 ≡ (0 ∷ xt 0 1 0 0 2 1 ∷ 0 ∷ []))
    × (write (tlbi OneRange) 0 0 2 3 31 2 0x14000 ≡ (0 ∷ xt 0 2 3 31 2 5 ∷ 0 ∷ []))
    × (write (tlbi Stage2Ns) 0 1 3 0 0 1 0x50000 ≡ (0 ∷ xt 0x8000 3 0 0 1 5 ∷ 0 ∷ []))
    × (write (tlbi Stage2NoNs) 0 0 3 0 0 1 0x50000 ≡ (0 ∷ xt 0 3 0 0 1 5 ∷ 0 ∷ []))
    × (write (unit (tlbi TwoRanges)) 0 0 1 0 0 0 0xFFFFFFFFFFFF0000 ≡ (0 ∷ xt 0 1 0 0 0 (2 ^ 37 - 1) ∷ 0 ∷ []))
    × (write (tlbip TwoRangesAsid) 7 0 3 0 0 0 0xFF80000000010000 ≡ (0 ∷ xt 7 3 0 0 0 0 ∷ (2 ^ 43 + 16) ∷ []))
    × (write (tlbip OneRange) 0 0 1 0 0 0 0x00FFFFFFFFFFF000 ≡ (0 ∷ xt 0 1 0 0 0 0 ∷ (2 ^ 44 - 1) ∷ []))
    × (write (lpa2 (tlbi TwoRanges)) 0 0 2 0 0 1 0 ≡ (0 ∷ xt 0 2 0 0 1 0 ∷ 0 ∷ []))
    × (write (tlbip TwoRanges) 0 0 2 1 7 2 0x8000 ≡ (0 ∷ xt 0 2 1 7 2 0 ∷ 8 ∷ []))
    × (write (tlbip Stage2Ns) 0 1 1 0 0 1 0x5000 ≡ (0 ∷ xt 0x8000 1 0 0 1 0 ∷ 5 ∷ []))
    × (write (tlbip Stage2NoNs) 0 0 1 0 0 1 0x5000 ≡ (0 ∷ xt 0 1 0 0 1 0 ∷ 5 ∷ []))
    × (write (unit (tlbi OneRange)) 0 0 1 0 0 0 0x10000 ≡ (0 ∷ xt 0 1 0 0 0 1 ∷ 0 ∷ []))
unfolding words_of is_writable is_shown xt_of xt2_of field_of address_of
writes = (refl, refl, refl, refl, refl, refl, refl, refl, refl, refl, refl, refl, refl)

-- "it gives 8 if a field doesn't fit, TG is 00, a field the form lacks isn't 0, TTL is 01 where that reads as 00, or the base can't be shown"
pub refusals :
    (write (tlbi TwoRangesAsid) 0x10000 0 1 0 0 0 0 ≡ (8 ∷ 0 ∷ 0 ∷ []))
    × (write (tlbi Stage2Ns) 0 2 1 0 0 0 0 ≡ (8 ∷ 0 ∷ 0 ∷ []))
    × (write (tlbi TwoRanges) 0 0 4 0 0 0 0 ≡ (8 ∷ 0 ∷ 0 ∷ []))
    × (write (tlbi TwoRanges) 0 0 1 4 0 0 0 ≡ (8 ∷ 0 ∷ 0 ∷ []))
    × (write (tlbi TwoRanges) 0 0 1 0 32 0 0 ≡ (8 ∷ 0 ∷ 0 ∷ []))
    × (write (tlbi TwoRanges) 0 0 1 0 0 4 0 ≡ (8 ∷ 0 ∷ 0 ∷ []))
    × (write (tlbi TwoRanges) 0 0 0 0 0 0 0 ≡ (8 ∷ 0 ∷ 0 ∷ []))
    × (write (tlbi TwoRanges) 1 0 1 0 0 0 0 ≡ (8 ∷ 0 ∷ 0 ∷ []))
    × (write (tlbi OneRange) 1 0 1 0 0 0 0 ≡ (8 ∷ 0 ∷ 0 ∷ []))
    × (write (tlbi Stage2Ns) 1 0 1 0 0 0 0 ≡ (8 ∷ 0 ∷ 0 ∷ []))
    × (write (tlbi Stage2NoNs) 0 1 1 0 0 0 0 ≡ (8 ∷ 0 ∷ 0 ∷ []))
    × (write (tlbi TwoRangesAsid) 0 1 1 0 0 0 0 ≡ (8 ∷ 0 ∷ 0 ∷ []))
    × (write (tlbi TwoRanges) 0 0 2 0 0 1 0 ≡ (8 ∷ 0 ∷ 0 ∷ []))
    × (write (tlbip TwoRanges) 0 0 2 0 0 1 0 ≡ (8 ∷ 0 ∷ 0 ∷ []))
    × (write (tlbi TwoRanges) 0 0 1 0 0 0 0x800 ≡ (8 ∷ 0 ∷ 0 ∷ []))
    × (write (tlbi TwoRanges) 0 0 1 0 0 0 0x0001000000000000 ≡ (8 ∷ 0 ∷ 0 ∷ []))
    × (write (tlbi OneRange) 0 0 1 0 0 0 0xFFFFFFFFFFFFF000 ≡ (8 ∷ 0 ∷ 0 ∷ []))
    × (write (unit (tlbi TwoRanges)) 0 0 1 0 0 0 0x1000 ≡ (8 ∷ 0 ∷ 0 ∷ []))
    × (write (tlbip TwoRanges) 0 0 3 0 0 0 0x1000 ≡ (8 ∷ 0 ∷ 0 ∷ []))
    × (write (tlbip TwoRanges) 0 0 1 0 0 0 0x0080000000000000 ≡ (8 ∷ 0 ∷ 0 ∷ []))
    × (write (tlbip OneRange) 0 0 1 0 0 0 0x0100000000000000 ≡ (8 ∷ 0 ∷ 0 ∷ []))
unfolding words_of is_writable is_shown field_of address_of
refusals = (refl, refl, refl, refl, refl, refl, refl, refl, refl, refl, refl, refl, refl, refl, refl, refl, refl, refl, refl, refl, refl)

-- an operand of 4K with bits 63, 48 and 36 set
abbrev top : ℕ
top = xt 0x8001 1 0 0 0 (2 ^ 36)

-- which form each name has: RVAE1 on EL1&0 and EL2&0, RVAAE1, RVAE2 on EL2&0 and EL2, RVAE3, RIPAS2E1 in Non-secure, Secure and Realm state;
-- RVAE1 and RIPAS2E1 as TLBIP
pub forms :
    (asked (at 1 []) (read_of 0xD5088220) top 0 ≡ (0 ∷ 0xFFFF000000000000 ∷ 0xFFFF000000001FFF ∷ 0 ∷ 0x8001 ∷ 0 ∷ []))
    × (asked (at 2 (two ∷ E2H ∷ TGE ∷ [])) (read_of 0xD5088220) top 0 ≡ (0 ∷ 0xFFFF000000000000 ∷ 0xFFFF000000001FFF ∷ 0 ∷ 0x8001 ∷ 0 ∷ []))
    × (asked (at 1 []) (read_of 0xD5088260) top 0 ≡ (0 ∷ 0xFFFF000000000000 ∷ 0xFFFF000000001FFF ∷ 0 ∷ 0 ∷ 0 ∷ []))
    × (asked (at 2 (two ∷ E2H ∷ [])) (read_of 0xD50C8620) top 0 ≡ (0 ∷ 0xFFFF000000000000 ∷ 0xFFFF000000001FFF ∷ 0 ∷ 0x8001 ∷ 0 ∷ []))
    × (asked (at 2 (two ∷ [])) (read_of 0xD50C8620) top 0 ≡ (0 ∷ 0x0001000000000000 ∷ 0x0001000000001FFF ∷ 0 ∷ 0 ∷ 0 ∷ []))
    × (asked (at 3 (three ∷ [])) (read_of 0xD50E8620) top 0 ≡ (0 ∷ 0x0001000000000000 ∷ 0x0001000000001FFF ∷ 0 ∷ 0 ∷ 0 ∷ []))
    × (asked (at 2 (two ∷ [])) (read_of 0xD50C8040) top 0 ≡ (0 ∷ 0x0001000000000000 ∷ 0x0001000000001FFF ∷ 0 ∷ 0 ∷ 0 ∷ []))
    × (asked (at 2 (two ∷ three ∷ EEL2 ∷ SEL2 ∷ [])) (read_of 0xD50C8040) top 0 ≡ (0 ∷ 0x0001000000000000 ∷ 0x0001000000001FFF ∷ 0 ∷ 0 ∷ 1 ∷ []))
    × (asked (at 2 (two ∷ three ∷ NS ∷ NSE ∷ RME ∷ [])) (read_of 0xD50C8040) top 0 ≡ (0 ∷ 0x0001000000000000 ∷ 0x0001000000001FFF ∷ 0 ∷ 0 ∷ 0 ∷ []))
    × (asked (at 1 []) (read_of 0xD5488220) (xt 0x8001 1 0 0 0 0) (2 ^ 43) ≡ (0 ∷ 0xFF80000000000000 ∷ 0xFF80000000001FFF ∷ 0 ∷ 0x8001 ∷ 0 ∷ []))
    × (asked (at 2 (two ∷ three ∷ EEL2 ∷ SEL2 ∷ [])) (read_of 0xD54C8040) (xt 0x8001 1 0 0 0 0) (2 ^ 43) ≡ (0 ∷ 0x0080000000000000 ∷ 0x0080000000001FFF ∷ 0 ∷ 0 ∷ 1 ∷ []))
unfolding read_of row_of access_of is_barred is_trapped access_e1 access_e2 access_e3 access_stage2 scope_of el2_enabled security_of security_in vmid_in hcrx_live is_unit_64k
    asked_of form_of told_of ranged_of operand_of address_of hint_of range_of length_of is_unpredictable tlbi_exponent tlbip_exponent
forms = (refl, refl, refl, refl, refl, refl, refl, refl, refl, refl, refl)

-- Rt 31 is a zero operand, with TG 00; SYSP with Rt 30 has no second word, and with Rt 28 has; Xt2 of a TLBI is not read
pub registers :
    (asked (at 1 []) (read_of 0xD508827F) 0x0000400000040000 0 ≡ (6 ∷ []))
    × (asked (at 2 (two ∷ [])) (read_of 0xD54C863F) 0x0000400000000000 5 ≡ (6 ∷ []))
    × (asked (at 2 (two ∷ [])) (read_of 0xD54C863E) 0x0000400000000000 0x1234 ≡ (0 ∷ 0 ∷ 0x1FFF ∷ 0 ∷ 0 ∷ 0 ∷ []))
    × (asked (at 2 (two ∷ [])) (read_of 0xD54C8620) 0x0000400000000000 0x1234 ≡ (0 ∷ 0x1234000 ∷ 0x1235FFF ∷ 0 ∷ 0 ∷ 0 ∷ []))
    × (asked (at 1 []) (read_of 0xD508827E) 0x0000400000040000 0x1234 ≡ (0 ∷ 0x40000000 ∷ 0x40001FFF ∷ 0 ∷ 0 ∷ 0 ∷ []))
    × (asked (at 1 []) (read_of 0xD5088260) 0x0000400000040000 0x1234 ≡ (0 ∷ 0x40000000 ∷ 0x40001FFF ∷ 0 ∷ 0 ∷ 0 ∷ []))
    × (asked (at 2 (two ∷ [])) (read_of 0xD54C863C) 0x0000400000000000 0x1234 ≡ (0 ∷ 0x1234000 ∷ 0x1235FFF ∷ 0 ∷ 0 ∷ 0 ∷ []))
    × (asked (at 1 []) (read_of 0xD508827D) 0x0000400000040000 0 ≡ (0 ∷ 0x40000000 ∷ 0x40001FFF ∷ 0 ∷ 0 ∷ 0 ∷ []))
unfolding read_of row_of access_of is_barred is_trapped access_e1 access_e2 scope_of el2_enabled security_of security_in vmid_in hcrx_live is_unit_64k
    asked_of form_of told_of ranged_of operand_of address_of hint_of range_of length_of is_unpredictable tlbi_exponent tlbip_exponent
registers = (refl, refl, refl, refl, refl, refl, refl, refl)

-- the unit by the DS of the regime acted on, and of stage 2; LPA2 reaches the reader; m7's word, and 16K with TTL 01
pub units :
    (asked (host_with_ds 1 []) (read_of 0xD5088260) 0x0000400000004000 0 ≡ (0 ∷ 0x40000000 ∷ 0x40001FFF ∷ 0 ∷ 0 ∷ 0 ∷ []))
    × (asked (host_with_ds 0 []) (read_of 0xD5088260) 0x0000400000004000 0 ≡ (0 ∷ 0x4000000 ∷ 0x4001FFF ∷ 0 ∷ 0 ∷ 0 ∷ []))
    × (asked (host_with_ds 3 []) (read_of 0xD50C8040) 0x0000400000004000 0 ≡ (0 ∷ 0x40000000 ∷ 0x40001FFF ∷ 0 ∷ 0 ∷ 0 ∷ []))
    × (asked (host_with_ds 0 []) (read_of 0xD50C8040) 0x0000400000004000 0 ≡ (0 ∷ 0x4000000 ∷ 0x4001FFF ∷ 0 ∷ 0 ∷ 0 ∷ []))
    × (asked (host_with_ds 1 []) (read_of 0xD50C8620) 0x0000400000004000 0 ≡ (0 ∷ 0x40000000 ∷ 0x40001FFF ∷ 0 ∷ 0 ∷ 0 ∷ []))
    × (asked (host_with_ds 1 []) (read_of 0xD54C8620) 0x0000400000000000 0x4000 ≡ (0 ∷ 0x4000000 ∷ 0x4001FFF ∷ 0 ∷ 0 ∷ 0 ∷ []))
    × (asked (at 1 []) (read_of 0xD5088260) 0x0000802000000001 0 ≡ (0 ∷ 0x4000 ∷ 0xBFFF ∷ 1 ∷ 0 ∷ 0 ∷ []))
unfolding read_of row_of access_of is_barred is_trapped access_e1 access_e2 access_stage2 scope_of el2_enabled security_of security_in vmid_in hcrx_live is_unit_64k
    asked_of form_of told_of ranged_of operand_of address_of hint_of range_of length_of is_unpredictable tlbi_exponent tlbip_exponent
units = (refl, refl, refl, refl, refl, refl, refl)
