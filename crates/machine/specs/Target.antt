-- 01, "Judging a list": targets, and which entries a target asks for.
use Rattle.std.specs.Prelude.{ℕ, ◌^◌, Bool, cond, not, ◌&&◌, ◌||◌, eqb, ltb, leb, is_none}
use Rattle.laws.specs.Bits.{bits}
use Rattle.laws.specs.Mask.{bit_of}
use Rattle.machine.specs.declared.entry.Company.{Company}
use Rattle.machine.specs.declared.entry.Entry.{Entry}
use Rattle.machine.specs.declared.judge.Target.{Target}
use Rattle.machine.specs.declared.processor.State.{State}
use Rattle.machine.specs.Operand.{is_granule}
use Rattle.machine.specs.Span.{meets_range}
use Rattle.machine.specs.Entry.{is_company, has_asids, in_reach, is_same_asid, span_of}
use Rattle.machine.specs.Table.{same_company}

-- "a non-empty set of existing processors"
abbrev pub are_processors : State → ℕ → Bool
are_processors st set = ltb 0 set && ltb set (2 ^ st.board.count)

-- "first and last address, first not above last, both in one legal half (or both below 2^56)"
unfoldable pub are_addresses : Company → ℕ → ℕ → Bool
are_addresses c first last =
    leb first last && in_reach c first && in_reach c last && (not (has_asids c) || eqb (bits 63 55 first) (bits 63 55 last))

-- "A target is a company ..., width, granule, one ASID or all ("all" in EL2, EL3 and stage 2), ..."; "Its company must be one an entry can have."
unfoldable pub is_target : State → Target → Bool
is_target st t =
    is_company t.company
    && is_granule t.granule
    && (is_none t.asid || has_asids t.company)
    && are_processors st t.processors
    && are_addresses t.company t.first t.last

-- on a named processor
abbrev pub is_named : Target → Entry → Bool
is_named t e = bit_of t.processors e.processor

-- of the target's company, width and granule
abbrev pub is_of_company : Target → Entry → Bool
is_of_company t e = same_company e.company t.company

abbrev pub is_of_width : Target → Entry → Bool
is_of_width t e = cond t.wide e.wide (not e.wide)

abbrev pub is_of_granule : Target → Entry → Bool
is_of_granule t e = eqb e.granule t.granule

-- "leaves only or not"
abbrev pub is_of_kind : Target → Entry → Bool
is_of_kind t e = not t.leaves || e.leaf

-- "one ASID or all"; "A one-ASID target includes global leaves"
abbrev pub is_of_asid : Target → Entry → Bool
is_of_asid t e = is_same_asid t.asid e || (e.leaf && e.global)

-- its span overlaps the target addresses
abbrev pub is_within : Target → Entry → Bool
is_within t e = meets_range e.base (span_of e) t.first t.last

-- an entry that the target asks for; "XS is free"
unfoldable pub aims : Target → Entry → Bool
aims t e = is_named t e && is_of_company t e && is_of_width t e && is_of_granule t e && is_of_kind t e && is_of_asid t e && is_within t e
