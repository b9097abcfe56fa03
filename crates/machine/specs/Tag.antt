-- 01, "Sizes": how an entry stands in the base and the tag of a slot. docs/TAG.md has the placing as a table.
use Rattle.std.specs.Prelude.{ℕ, zero, suc, ◌+◌, ◌*◌, ◌^◌, ◌<◌, Bool, cond, ◌&&◌, eqb, pos, ◌-ℤ◌}
use Rattle.laws.specs.Bits.{bits}
use Rattle.laws.specs.Mask.{bit_of}
use Rattle.machine.specs.declared.entry.Company.{Company}
use Rattle.machine.specs.declared.entry.Entry.{Entry}
use Rattle.machine.specs.declared.scope.Regime.{Regime}
use Rattle.machine.specs.declared.scope.Regime.TheVariants.{EL10, EL20, EL2, EL3}
use Rattle.machine.specs.declared.scope.Security.{Security}
use Rattle.machine.specs.declared.scope.Security.TheVariants.{Secure, NonSecure, Realm, Root}
use Rattle.machine.specs.Span.{height_of}
use Rattle.machine.specs.Entry.{is_legal}

-- the number of this placing, which every tag holds, so that all zeros is no tag
abbrev pub layout : ℕ
layout = 1

abbrev pub regime_number : Regime → ℕ
regime_number EL10 = 0
regime_number EL20 = 1
regime_number EL2 = 2
regime_number EL3 = 3

abbrev pub security_number : Security → ℕ
security_number Secure = 0
security_number NonSecure = 1
security_number Realm = 2
security_number Root = 3

abbrev pub flag : Bool → ℕ
flag b = cond b 1 0

-- the numbers that say whose an entry is, in their places
abbrev pub company_places : ℕ → ℕ → ℕ → ℕ → ℕ → ℕ
company_places regime security vmid stage space = layout + regime * 2 ^ 4 + security * 2 ^ 6 + vmid * 2 ^ 8 + stage * 2 ^ 24 + space * 2 ^ 25

unfoldable pub company_tag : Company → ℕ
company_tag c = company_places (regime_number c.regime) (security_number c.security) c.vmid (flag c.stage2) (flag c.ns)

-- and the others above them
abbrev pub entry_places : ℕ → ℕ → ℕ → ℕ → ℕ → ℕ → ℕ → ℕ → ℕ → ℕ
entry_places company granule asid global wide height leaf xs processor =
    company
    + granule * 2 ^ 26
    + asid * 2 ^ 28
    + global * 2 ^ 44
    + wide * 2 ^ 45
    + height * 2 ^ 46
    + leaf * 2 ^ 49
    + xs * 2 ^ 50
    + processor * 2 ^ 51

unfoldable pub tag_of : Entry → ℕ
tag_of e =
    entry_places (company_tag e.company) e.granule e.asid (flag e.global) (flag e.wide) (height_of e.level) (flag e.leaf) (flag e.xs)
    e.processor

abbrev pub regime_at : ℕ → Regime
regime_at zero = EL10
regime_at (suc zero) = EL20
regime_at (suc (suc zero)) = EL2
regime_at (suc (suc (suc n))) = EL3

abbrev pub security_at : ℕ → Security
security_at zero = Secure
security_at (suc zero) = NonSecure
security_at (suc (suc zero)) = Realm
security_at (suc (suc (suc n))) = Root

-- the fields that stand in a tag
unfoldable pub company_at : ℕ → Company
company_at tag = record {
  regime = regime_at (bits 5 4 tag);
  security = security_at (bits 7 6 tag);
  vmid = bits 23 8 tag;
  stage2 = bit_of tag 24;
  ns = bit_of tag 25;
}

unfoldable pub entry_at : ℕ → ℕ → Entry
entry_at base tag = record {
  processor = bits 53 51 tag;
  company = company_at tag;
  asid = bits 43 28 tag;
  global = bit_of tag 44;
  wide = bit_of tag 45;
  granule = bits 27 26 tag;
  level = pos 3 -ℤ pos (bits 48 46 tag);
  leaf = bit_of tag 49;
  xs = bit_of tag 50;
  base = base;
}

-- VMID and ASID have 16 bits
abbrev pub Sized : Entry → Type 0
Sized e = (e.company.vmid < 2 ^ 16) × (e.asid < 2 ^ 16)

-- a slot reads as an entry if its fields are those of a legal entry which has this tag: "A slot that insert couldn't have written makes no sense
-- and reads as empty, as all zeros does."
unfoldable pub is_entry : ℕ → ℕ → Bool
is_entry base tag = is_legal (entry_at base tag) && eqb (tag_of (entry_at base tag)) tag
