-- 01, "Entries": "An entry goes exactly when all hold", part by part.
use Rattle.std.specs.Prelude.{ℕ, ◌+◌, ◌*◌, ◌^◌, Bool, true, cond, not, ◌&&◌, ◌||◌, eqb, ℤ, pos, Option, Some, None, is_none}
use Rattle.std.specs.Int.Signed.{lt_z}
use Rattle.laws.specs.Mask.{bit_of}
use Rattle.machine.specs.declared.entry.Company.{Company}
use Rattle.machine.specs.declared.entry.Entry.{Entry}
use Rattle.machine.specs.declared.operand.Operand.{Operand}
use Rattle.machine.specs.declared.operand.Range.{Range}
use Rattle.machine.specs.declared.operation.Operation.{Operation}
use Rattle.machine.specs.declared.processor.State.{State}
use Rattle.machine.specs.declared.scope.Scope.{Scope}
use Rattle.machine.specs.declared.work.Work.{Work}
use Rattle.machine.specs.Span.{same_level, meets_range}
use Rattle.machine.specs.Entry.{is_same_asid, span_of}
use Rattle.machine.specs.Tag.{company_tag, entry_at, is_entry}
use Rattle.machine.specs.Table.{same_company}

-- the company that an operation acts on: "for RIPAS2 bit 63 is NS"
abbrev pub company_of : Scope → Operand → Company
company_of s o = record { regime = s.regime; security = s.security; vmid = s.vmid; stage2 = s.stage2; ns = eqb o.ns 1 }

-- the level that TTL names, where it is not 00
abbrev pub level_told : ℕ → Option ℤ
level_told ttl = cond (eqb ttl 0) None (Some (pos ttl))

-- an operation that runs, with its operand and the range that this means
unfoldable pub work_of : State → Operation → Scope → Operand → Range → Work
work_of st op s o r = record {
  company = company_of s o;
  reached = s.reached;
  granule = o.tg;
  first = r.first;
  last = r.last;
  level = level_told o.ttl;
  wide = op.tlbip;
  d128 = st.features.d128;
  leaves = s.last;
  asid = cond s.asid (Some o.asid) None;
  nxs = s.nxs;
}

-- "its processor is below the count and reached (own number; same inner; same outer domain)", by the bits of `reached_of`
abbrev pub is_reached : Work → Entry → Bool
is_reached w e = bit_of w.reached e.processor

-- "regime, security state, VMID, stage and IPA space agree"
abbrev pub is_owned : Work → Entry → Bool
is_owned w e = same_company e.company w.company

-- "granule is TG"
abbrev pub is_granule_of : Work → Entry → Bool
is_granule_of w e = eqb e.granule w.granule

-- "its span meets the range"
abbrev pub is_met : Work → Entry → Bool
is_met w e = meets_range e.base (span_of e) w.first w.last

-- "its width is the operation's"
abbrev pub is_width_of : Work → Entry → Bool
is_width_of w e = cond w.wide e.wide (not e.wide)

-- "it is non-leaf above the TTL level or a leaf at it"
abbrev pub is_at_level : Option ℤ → Entry → Bool
is_at_level None e = true
is_at_level (Some l) e = cond e.leaf (same_level e.level l) (lt_z e.level l)

abbrev pub is_at_hint : Work → Entry → Bool
is_at_hint w e = is_at_level w.level e

-- "TTL 00, or its width is the operation's and it is ..."
abbrev pub is_hinted : Work → Entry → Bool
is_hinted w e = is_none w.level || (is_width_of w e && is_at_hint w e)

-- "another width needs TTL 00 and D128"
abbrev pub has_width : Work → Entry → Bool
has_width w e = is_width_of w e || (is_none w.level && w.d128)

-- "it is a leaf if the name has L"
abbrev pub is_leaf_of : Work → Entry → Bool
is_leaf_of w e = not w.leaves || e.leaf

-- "where an ASID applies, it agrees or the leaf is global"
abbrev pub is_asid_of : Work → Entry → Bool
is_asid_of w e = is_same_asid w.asid e || (e.leaf && e.global)

-- "it has XS 0 if the operation is NXS"
abbrev pub is_xs_of : Work → Entry → Bool
is_xs_of w e = not w.nxs || not e.xs

-- "An entry goes exactly when all hold"
unfoldable pub goes : Work → Entry → Bool
goes w e =
    is_reached w e
    && is_owned w e
    && is_granule_of w e
    && is_met w e
    && is_hinted w e
    && has_width w e
    && is_leaf_of w e
    && is_asid_of w e
    && is_xs_of w e

-- the lower part of the tag of every entry of the company and the granule
abbrev pub key_of : Work → ℕ
key_of w = company_tag w.company + w.granule * 2 ^ 26

-- a slot is dropped if it reads as an entry that goes; the output word has no say
unfoldable pub drops : Work → ℕ → ℕ → ℕ → Bool
drops w base tag out = is_entry base tag && goes w (entry_at base tag)
