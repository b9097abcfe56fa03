-- 01, "Access rules": whether an operation runs in a state, and on what.
use Rattle.std.specs.Prelude.{ℕ, Bool, true, false, cond, not, ◌&&◌, ◌||◌, eqb, ltb, Result, Ok, Err}
use Rattle.laws.specs.Mask.{mask_from}
use Rattle.machine.specs.declared.operation.Name.{Name}
use Rattle.machine.specs.declared.operation.Name.TheVariants.{
  RVAE1,
  RVAAE1,
  RVALE1,
  RVAALE1,
  RVAE2,
  RVALE2,
  RVAE3,
  RVALE3,
  RIPAS2E1,
  RIPAS2LE1,
}
use Rattle.machine.specs.declared.operation.Family.{Family}
use Rattle.machine.specs.declared.operation.Family.TheVariants.{E1, E2, E3, Stage2}
use Rattle.machine.specs.declared.operation.Share.{Share}
use Rattle.machine.specs.declared.operation.Share.TheVariants.{Local, Inner, Outer}
use Rattle.machine.specs.declared.operation.Operation.{Operation}
use Rattle.machine.specs.declared.processor.Flags.{Flags}
use Rattle.machine.specs.declared.processor.Traps.{Traps}
use Rattle.machine.specs.declared.processor.Ds.{Ds}
use Rattle.machine.specs.declared.processor.Board.{Board}
use Rattle.machine.specs.declared.processor.State.{State}
use Rattle.machine.specs.declared.scope.Regime.{Regime}
use Rattle.machine.specs.declared.scope.Regime.TheVariants.{EL10, EL20, EL2, EL3}
use Rattle.machine.specs.declared.scope.Scope.{Scope}
use Rattle.machine.specs.Word.{family_of, is_odd_pair}
use Rattle.machine.specs.State.{security_in, el2_enabled, e2h_of, tge_of, vmid_in, hcrx_live, inner_of, outer_of}
use Rattle.machine.specs.declared.refusal.Refusal.{Refusal}
use Rattle.machine.specs.declared.refusal.Refusal.TheVariants as refusal

abbrev pub is_inner : Share → Bool
is_inner Local = false
is_inner Inner = true
is_inner Outer = false

abbrev pub is_outer : Share → Bool
is_outer Local = false
is_outer Inner = false
is_outer Outer = true

-- "Answer 3 if absent: TLBI wants TLBIRANGE, and TLBIOS if OS; TLBIP wants D128; NXS wants XS."
abbrev pub is_absent : State → Operation → Bool
is_absent st op =
    cond op.tlbip (not st.features.d128) (not st.features.tlbirange || (is_outer op.share && not st.features.tlbios))
    || (op.nxs && not st.features.xs)

-- "absent features, EL0 and odd Rt before the rest"
unfoldable pub is_barred : State → Operation → Bool
is_barred st op = is_absent st op || eqb st.el 0 || is_odd_pair op

-- "twelve fine-grained trap flags, one per E1 name and shareability"
abbrev pub flag_of : Flags → Share → Bool
flag_of f Local = f.local
flag_of f Inner = f.inner
flag_of f Outer = f.outer

abbrev pub trap_flag : Traps → Name → Share → Bool
trap_flag t RVAE1 s = flag_of t.rvae1 s
trap_flag t RVAAE1 s = flag_of t.rvaae1 s
trap_flag t RVALE1 s = flag_of t.rvale1 s
trap_flag t RVAALE1 s = flag_of t.rvaale1 s
trap_flag t RVAE2 s = false
trap_flag t RVALE2 s = false
trap_flag t RVAE3 s = false
trap_flag t RVALE3 s = false
trap_flag t RIPAS2E1 s = false
trap_flag t RIPAS2LE1 s = false

-- "by FGT with EL3 absent or FGTEn 1 and its flag, for NXS also HCX and (HCRX not live or FGTnXS 0)"
abbrev pub traps_fine : State → Operation → Bool
traps_fine st op =
    st.features.fgt
    && (not st.present.el3 || st.scr.fgten)
    && trap_flag st.traps op.name op.share
    && (not op.nxs || (st.features.hcx && (not (hcrx_live st) || not st.hcrx.fgtnxs)))

-- "trapped, with EL2 enabled, by TTLB; by TTLBIS (IS) or TTLBOS (OS); by FGT ..."
unfoldable pub is_trapped : State → Operation → Bool
is_trapped st op =
    el2_enabled st
    && (st.hcr.ttlb
    || (st.hcr.ttlbis && is_inner op.share)
    || (st.hcr.ttlbos && is_outer op.share)
    || traps_fine st op)

-- "trapped to EL2", with "0x18 (TLBI) or 0x14 (TLBIP)"
abbrev pub trapped : Operation → Result Scope Refusal
trapped op = Err (refusal.Trapped (cond op.tlbip 0x14 0x18))

-- "reached (own number; same inner; same outer domain)": what an operation of a shareability reaches
abbrev pub reaches_by : Share → Board → ℕ → Bool
reaches_by Local b p = eqb p b.own
reaches_by Inner b p = eqb (inner_of b p) (inner_of b b.own)
reaches_by Outer b p = eqb (outer_of b p) (outer_of b b.own)

-- whether an operation reaches processor p: "its processor is below the count and reached"
unfoldable pub reaches : State → Operation → ℕ → Bool
reaches st op p = ltb p st.board.count && reaches_by op.share st.board p

-- the processors that an operation reaches, a bit for each of eight
unfoldable pub reached_of : State → Operation → ℕ
reached_of st op = mask_from (reaches st op) 0 8

-- EL2&0
abbrev pub is_host : Regime → Bool
is_host EL10 = false
is_host EL20 = true
is_host EL2 = false
is_host EL3 = false

-- "ASID 63:48 (RVAE1, RVALE1, and E2 names under EL2&0)"
abbrev pub uses_asid : Name → Regime → Bool
uses_asid RVAE1 g = true
uses_asid RVAAE1 g = false
uses_asid RVALE1 g = true
uses_asid RVAALE1 g = false
uses_asid RVAE2 g = is_host g
uses_asid RVALE2 g = is_host g
uses_asid RVAE3 g = false
uses_asid RVALE3 g = false
uses_asid RIPAS2E1 g = false
uses_asid RIPAS2LE1 g = false

-- "the name has L"
abbrev pub has_l : Name → Bool
has_l RVAE1 = false
has_l RVAAE1 = false
has_l RVALE1 = true
has_l RVAALE1 = true
has_l RVAE2 = false
has_l RVALE2 = true
has_l RVAE3 = false
has_l RVALE3 = true
has_l RIPAS2E1 = false
has_l RIPAS2LE1 = true

-- an operation that runs on a regime, stage 2 or not, and acts as NXS or not
unfoldable pub scope_of : State → Operation → Regime → Bool → Bool → Scope
scope_of st op g stage2 nxs = record {
  regime = g;
  security = security_in st g;
  vmid = vmid_in st g;
  stage2 = stage2;
  reached = reached_of st op;
  asid = uses_asid op.name g;
  last = has_l op.name;
  nxs = nxs;
}

-- "With XS, live HCRX and FnXS 1, plain acts as NXS."
abbrev pub acts_nxs : State → Operation → Bool
acts_nxs st op = op.nxs || (st.features.xs && hcrx_live st && st.hcrx.fnxs)

-- "E1 at EL1: trapped, ... Else regime EL1&0. ... At EL2/EL3: EL2&0 if {E2H, TGE} is 11, else EL1&0."
unfoldable pub access_e1 : State → Operation → Result Scope Refusal
access_e1 st op =
    cond (eqb st.el 1)
    (cond (is_trapped st op) (trapped op) (Ok (scope_of st op EL10 false (acts_nxs st op))))
    (Ok (scope_of st op (cond (e2h_of st && tge_of st) EL20 EL10) false op.nxs))

-- "E2 names and RIPAS2 at EL1: trapped if EL2 enabled and NV, else 3."
abbrev pub access_nv : State → Operation → Result Scope Refusal
access_nv st op = cond (el2_enabled st && st.hcr.nv) (trapped op) (Err refusal.Undefined)

-- "At EL3 with EL2 disabled: E2 names 3 ... E2 names use EL2&0 if E2H is 1, else EL2."
unfoldable pub access_e2 : State → Operation → Result Scope Refusal
access_e2 st op =
    cond (eqb st.el 1) (access_nv st op)
    (cond (el2_enabled st) (Ok (scope_of st op (cond (e2h_of st) EL20 EL2) false op.nxs)) (Err refusal.Undefined))

-- "At EL3 with EL2 disabled: ... RIPAS2 5 (003)."; "Stage 2 is EL1&0."
unfoldable pub access_stage2 : State → Operation → Result Scope Refusal
access_stage2 st op =
    cond (eqb st.el 1) (access_nv st op)
    (cond (el2_enabled st) (Ok (scope_of st op EL10 true op.nxs)) (Err refusal.NoEffect))

-- "E3 names below EL3: 3."
unfoldable pub access_e3 : State → Operation → Result Scope Refusal
access_e3 st op = cond (ltb st.el 3) (Err refusal.Undefined) (Ok (scope_of st op EL3 false op.nxs))

abbrev pub access_by : Family → State → Operation → Result Scope Refusal
access_by E1 st op = access_e1 st op
access_by E2 st op = access_e2 st op
access_by E3 st op = access_e3 st op
access_by Stage2 st op = access_stage2 st op

-- "3 to 5 by the access rules (first that holds, absent features, EL0 and odd Rt before the rest)"
unfoldable pub access_of : State → Operation → Result Scope Refusal
access_of st op = cond (is_barred st op) (Err refusal.Undefined) (access_by (family_of op.name) st op)

-- DS of the regime that is acted on
abbrev pub ds_of : Ds → Regime → Bool → Bool
ds_of ds EL10 stage2 = cond stage2 ds.stage2 ds.el1
ds_of ds EL20 stage2 = ds.el2
ds_of ds EL2 stage2 = ds.el2
ds_of ds EL3 stage2 = ds.el3

-- "in units of 64 KiB if LPA2 and the regime's DS hold (001)"
unfoldable pub is_unit_64k : State → Regime → Bool → Bool
is_unit_64k st g stage2 = st.features.lpa2 && ds_of st.ds g stage2
