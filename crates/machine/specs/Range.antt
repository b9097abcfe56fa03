-- 01, "Operands": the range that fields mean, and where it is UNPREDICTABLE.
use Rattle.std.specs.Prelude.{ℕ, ◌+◌, ◌*◌, ◌-◌, ◌%◌, ◌^◌, min, Bool, true, cond, not, eqb, pos, Result, Ok, Err}
use Rattle.machine.specs.declared.operand.Told.{Told}
use Rattle.machine.specs.declared.operand.Operand.{Operand}
use Rattle.machine.specs.declared.operand.Range.{Range}
use Rattle.machine.specs.Operand.{granule_exponent, operand_of}
use Rattle.machine.specs.Span.{exponent_of}
use Rattle.machine.specs.declared.refusal.Refusal.{Refusal}
use Rattle.machine.specs.declared.refusal.Refusal.TheVariants as refusal

-- "Length is (NUM + 1) times 2^(5 SCALE + 1) granules."
unfoldable pub length_of : Operand → ℕ
length_of o = (o.num + 1) * 2 ^ (5 * o.scale + 1) * 2 ^ granule_exponent o.tg

-- "The sum doesn't wrap: a range ends at 2^64 at most."
abbrev pub last_of : ℕ → ℕ → ℕ
last_of first length = min (first + length) (2 ^ 64) - 1

unfoldable pub range_of : Operand → Range
range_of o = record { first = o.base; last = last_of o.base (length_of o) }

-- "Answer 7, TLBI: base not a multiple of 2^30 (4K, TTL 01), 2^21 (4K, 10), 2^25 (16K, 10), 2^42 (64K, 01), 2^29 (64K, 10)."; every number
-- is a multiple of 2^0
unfoldable pub tlbi_exponent : ℕ → ℕ → ℕ
tlbi_exponent tg ttl =
    cond (eqb tg 1) (cond (eqb ttl 1) 30 (cond (eqb ttl 2) 21 0))
    (cond (eqb tg 2) (cond (eqb ttl 2) 25 0)
    (cond (eqb ttl 1) 42 (cond (eqb ttl 2) 29 0)))

-- "TLBIP: base not a multiple of the 128-bit span of TTL 01, 10 or 11 (000)."
unfoldable pub tlbip_exponent : ℕ → ℕ → ℕ
tlbip_exponent tg ttl = cond (eqb ttl 0) 0 (exponent_of true tg (pos ttl))

unfoldable pub is_unpredictable : Bool → Operand → Bool
is_unpredictable tlbip o =
    not (eqb (o.base % 2 ^ cond tlbip (tlbip_exponent o.tg o.ttl) (tlbi_exponent o.tg o.ttl)) 0)

-- "6, 7": the operand's answer, in this order
abbrev pub ranged_by : Bool → Result Operand Refusal → Result (Operand × Range) Refusal
ranged_by tlbip (Ok o) = cond (is_unpredictable tlbip o) (Err refusal.Unpredictable) (Ok (o, range_of o))
ranged_by tlbip (Err r) = Err r

unfoldable pub ranged_of : Told → ℕ → ℕ → Result (Operand × Range) Refusal
ranged_of t xt xt2 = ranged_by t.tlbip (operand_of t xt xt2)
