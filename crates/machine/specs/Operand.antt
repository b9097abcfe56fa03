-- 01, "Operands": what two words read as, and which words some fields are.
use Rattle.std.specs.Prelude.{ℕ, ◌+◌, ◌*◌, ◌-◌, ◌/◌, ◌%◌, ◌^◌, ◌≤◌, ◌<◌, Bool, true, false, cond, not, ◌&&◌, ◌||◌, eqb, ltb, leb, Result, Ok, Err}
use Rattle.laws.specs.Bits.{bits, down}
use Rattle.laws.specs.Mask.{bit_of, mask_from}
use Rattle.machine.specs.declared.operand.Form.{Form}
use Rattle.machine.specs.declared.operand.Form.TheVariants.{TwoRangesAsid, TwoRanges, OneRange, Stage2Ns, Stage2NoNs}
use Rattle.machine.specs.declared.operand.Told.{Told}
use Rattle.machine.specs.declared.operand.Operand.{Operand}
use Rattle.machine.specs.declared.refusal.Refusal.{Refusal}
use Rattle.machine.specs.declared.refusal.Refusal.TheVariants as refusal

-- "two ranges with ASID, two without, one range, stage 2 with NS (Secure), or stage 2 without"
abbrev pub has_asid : Form → Bool
has_asid TwoRangesAsid = true
has_asid TwoRanges = false
has_asid OneRange = false
has_asid Stage2Ns = false
has_asid Stage2NoNs = false

abbrev pub has_ns : Form → Bool
has_ns TwoRangesAsid = false
has_ns TwoRanges = false
has_ns OneRange = false
has_ns Stage2Ns = true
has_ns Stage2NoNs = false

-- "EL1&0 and EL2&0 stage 1 bases copy their top bit upward; others extend by zero."
abbrev pub copies_top : Form → Bool
copies_top TwoRangesAsid = true
copies_top TwoRanges = true
copies_top OneRange = false
copies_top Stage2Ns = false
copies_top Stage2NoNs = false

-- "(1 4K, 2 16K, 3 64K)"
abbrev pub is_granule : ℕ → Bool
is_granule tg = leb 1 tg && leb tg 3

-- the granule is 2^12, 2^14 or 2^16 bytes
abbrev pub granule_exponent : ℕ → ℕ
granule_exponent tg = 10 + 2 * tg

-- "in units of the granule; in units of 64 KiB if ...": 2^12, 2^14 or 2^16 bytes, or 2^16
abbrev pub unit_exponent : Bool → ℕ → ℕ
unit_exponent unit64k tg = cond unit64k 16 (granule_exponent tg)

-- the n-bit number b in units of 2^k, as an address: "copy their top bit upward", where s holds
abbrev pub extend : ℕ → ℕ → Bool → ℕ → ℕ
extend n k s b = cond (s && leb (2 ^ (n - 1)) b) (b * 2 ^ k + (2 ^ 64 - 2 ^ (n + k))) (b * 2 ^ k)

-- "TLBI base is bits 36:0, in units of the granule; ... TLBIP base is BaseADDR[55:12] ...; bits below the granule read as zero."
unfoldable pub address_of : Told → ℕ → ℕ → ℕ
address_of t tg b =
    cond t.tlbip
    (extend 44 12 (copies_top t.form) (down (granule_exponent tg - 12) b))
    (extend 37 (unit_exponent t.unit64k tg) (copies_top t.form) b)

-- "TTL 01 with 16K and no LPA2 reads as 00."
abbrev pub reads_as_zero : Bool → ℕ → ℕ → Bool
reads_as_zero lpa2 tg ttl = eqb ttl 1 && eqb tg 2 && not lpa2

unfoldable pub hint_of : Bool → ℕ → ℕ → ℕ
hint_of lpa2 tg ttl = cond (reads_as_zero lpa2 tg ttl) 0 ttl

-- The fields. "ASID 63:48 ...; for RIPAS2 bit 63 is NS."
abbrev pub asid_in : Form → ℕ → ℕ
asid_in f xt = cond (has_asid f) (bits 63 48 xt) 0

abbrev pub ns_in : Form → ℕ → ℕ
ns_in f xt = cond (has_ns f) (bits 63 63 xt) 0

-- "TG 47:46 ..., SCALE 45:44, NUM 43:39, TTL 38:37"
abbrev pub tg_in : ℕ → ℕ
tg_in xt = bits 47 46 xt

abbrev pub scale_in : ℕ → ℕ
scale_in xt = bits 45 44 xt

abbrev pub num_in : ℕ → ℕ
num_in xt = bits 43 39 xt

abbrev pub ttl_in : ℕ → ℕ
ttl_in xt = bits 38 37 xt

-- "TLBI base is bits 36:0"; "TLBIP base is ... at bits 107:64", which are 43:0 of Xt2
abbrev pub base_in : Bool → ℕ → ℕ → ℕ
base_in tlbip xt xt2 = cond tlbip (bits 43 0 xt2) (bits 36 0 xt)

abbrev pub fields_in : Told → ℕ → ℕ → Operand
fields_in t xt xt2 = record {
  asid = asid_in t.form xt;
  ns = ns_in t.form xt;
  tg = tg_in xt;
  scale = scale_in xt;
  num = num_in xt;
  ttl = hint_of t.lpa2 (tg_in xt) (ttl_in xt);
  base = address_of t (tg_in xt) (base_in t.tlbip xt xt2);
}

-- TG, SCALE, NUM and TTL fit their places, and TG is not 00: what is asked of fields that mean a range
abbrev pub Within : Operand → Type 0
Within o = (1 ≤ o.tg) × (o.tg < 4) × (o.scale < 4) × (o.num < 32) × (o.ttl < 4)

-- "Operand reader: 6", "TG is 00"
unfoldable pub operand_of : Told → ℕ → ℕ → Result Operand Refusal
operand_of t xt xt2 = cond (eqb (tg_in xt) 0) (Err refusal.NoGranule) (Ok (fields_in t xt xt2))

-- the field that holds the bits of an address where `address_of` looks for them
unfoldable pub field_of : Told → ℕ → ℕ → ℕ
field_of t tg a = cond t.tlbip (a / 2 ^ 12 % 2 ^ 44) (a / 2 ^ unit_exponent t.unit64k tg % 2 ^ 37)

-- the base can be shown: its field reads as it
unfoldable pub is_shown : Told → ℕ → ℕ → Bool
is_shown t tg a = eqb (address_of t tg (field_of t tg a)) a

-- a field of n bits fits, and "a field the form lacks" is 0
abbrev pub fits : Bool → ℕ → ℕ → Bool
fits has n v = cond has (ltb v (2 ^ n)) (eqb v 0)

-- "it gives 8 if a field doesn't fit, TG is 00, a field the form lacks isn't 0, TTL is 01 where that reads as 00, or the base can't be
-- shown": none of these
unfoldable pub is_writable : Told → Operand → Bool
is_writable t o =
    ltb o.tg 4
    && not (eqb o.tg 0)
    && ltb o.scale 4
    && ltb o.num 32
    && ltb o.ttl 4
    && fits (has_asid t.form) 16 o.asid
    && fits (has_ns t.form) 1 o.ns
    && not (reads_as_zero t.lpa2 o.tg o.ttl)
    && is_shown t o.tg o.base

-- the words of fields that fit; "The writer puts unused bits to zero"
unfoldable pub xt_of : Told → Operand → ℕ
xt_of t o =
    o.ns * 2 ^ 63
    + o.asid * 2 ^ 48
    + o.tg * 2 ^ 46
    + o.scale * 2 ^ 44
    + o.num * 2 ^ 39
    + o.ttl * 2 ^ 37
    + cond t.tlbip 0 (field_of t o.tg o.base)

unfoldable pub xt2_of : Told → Operand → ℕ
xt2_of t o = cond t.tlbip (field_of t o.tg o.base) 0

unfoldable pub words_of : Told → Operand → Result (ℕ × ℕ) Refusal
words_of t o = cond (is_writable t o) (Ok (xt_of t o, xt2_of t o)) (Err refusal.Illegal)

-- "Writing what was read gives the word with RES0 bits, ignored bits and such a TTL cleared.": the bits of Xt that stay. 63:48 are the
-- ASID, or 63 is NS; 47:39 are TG, SCALE and NUM; 38:37 are TTL; 36:0 are a TLBI base.
abbrev pub stays_xt : Told → ℕ → ℕ → Bool
stays_xt t xt i =
    cond (leb 48 i) (has_asid t.form || (has_ns t.form && eqb i 63))
    (cond (leb 39 i) true
    (cond (leb 37 i) (not (reads_as_zero t.lpa2 (tg_in xt) (ttl_in xt)))
    (not t.tlbip)))

-- and of Xt2: 43:0 are BaseADDR[55:12] of a TLBIP, of which those below the granule are ignored
abbrev pub stays_xt2 : Told → ℕ → ℕ → Bool
stays_xt2 t xt i = t.tlbip && ltb i 44 && leb (granule_exponent (tg_in xt)) (i + 12)

-- a word of 64 bits with the others cleared
abbrev pub cleared : (ℕ → Bool) → ℕ → ℕ
cleared stays x = mask_from (λ i. bit_of x i && stays i) 0 64
