-- 01, "Entries": what an entry is, and which are legal.
use Rattle.std.specs.Prelude.{ℕ, ◌-◌, ◌%◌, ◌^◌, Bool, true, false, cond, not, ◌&&◌, ◌||◌, eqb, ltb, leb, ℤ, pos, negsuc, Option, Some, None}
use Rattle.std.specs.Int.Signed.{le_z}
use Rattle.laws.specs.Bits.{bits}
use Rattle.machine.specs.declared.entry.Company.{Company}
use Rattle.machine.specs.declared.entry.Entry.{Entry}
use Rattle.machine.specs.declared.scope.Regime.{Regime}
use Rattle.machine.specs.declared.scope.Regime.TheVariants.{EL10, EL20, EL2, EL3}
use Rattle.machine.specs.declared.scope.Security.{Security}
use Rattle.machine.specs.declared.scope.Security.TheVariants.{Secure, NonSecure, Realm, Root}
use Rattle.machine.specs.State.{is_secure}
use Rattle.machine.specs.Asked.{is_two_ranges}
use Rattle.machine.specs.Span.{exponent_of, has_span}

abbrev pub is_el10 : Regime → Bool
is_el10 EL10 = true
is_el10 EL20 = false
is_el10 EL2 = false
is_el10 EL3 = false

abbrev pub is_root : Security → Bool
is_root Secure = false
is_root NonSecure = false
is_root Realm = false
is_root Root = true

-- "EL3's state is Root or Secure; other regimes are never Root."
abbrev pub is_state_of : Regime → Security → Bool
is_state_of EL10 s = not (is_root s)
is_state_of EL20 s = not (is_root s)
is_state_of EL2 s = not (is_root s)
is_state_of EL3 s = is_root s || is_secure s

-- the rules of regime, security state, VMID, stage and IPA space: "VMID (0 outside EL1&0)", "IPA space (as NS; Secure stage 2 only, else 0)",
-- "Stage 2 is EL1&0"
unfoldable pub is_company : Company → Bool
is_company c =
    (is_el10 c.regime || eqb c.vmid 0)
    && (not c.ns || (is_secure c.security && c.stage2))
    && (not c.stage2 || is_el10 c.regime)
    && is_state_of c.regime c.security

-- "stage 1 of EL1&0 and EL2&0": two halves of addresses, and ASIDs, which are not "in EL2, EL3 and stage 2"
unfoldable pub has_asids : Company → Bool
has_asids c = is_two_ranges c.regime && not c.stage2

-- "Non-leaf is level -1 to 2 and never global, leaf 1 to 3."
abbrev pub is_placed : Bool → ℤ → Bool → Bool
is_placed leaf l global = cond leaf (le_z (pos 1) l && le_z l (pos 3)) (le_z (negsuc 0) l && le_z l (pos 2) && not global)

-- "bits 63:55 are equal (stage 1 of EL1&0 and EL2&0), or it is below 2^56 (all else)"
unfoldable pub in_reach : Company → ℕ → Bool
in_reach c base = cond (has_asids c) (eqb (bits 63 55 base) 0 || eqb (bits 63 55 base) (2 ^ 9 - 1)) (ltb base (2 ^ 56))

-- the entry's ASID is the one that is given, where one is
abbrev pub is_same_asid : Option ℕ → Entry → Bool
is_same_asid None e = true
is_same_asid (Some n) e = eqb e.asid n

-- 2^k is the entry's span
abbrev pub span_of : Entry → ℕ
span_of e = exponent_of e.wide e.granule e.level

-- "An entry has processor (0 to 7), ..., ASID and global flag (both 0 in EL2, EL3 and stage 2), ... A level without a span is illegal.
-- The base is a multiple of the span"
unfoldable pub is_legal : Entry → Bool
is_legal e =
    leb e.processor 7
    && is_company e.company
    && (has_asids e.company || (eqb e.asid 0 && not e.global))
    && is_placed e.leaf e.level e.global
    && (has_span e.wide e.granule e.level && eqb (e.base % 2 ^ span_of e) 0)
    && in_reach e.company e.base
