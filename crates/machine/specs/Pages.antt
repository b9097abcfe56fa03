-- Documents 000 to 004: the pseudocode of their five operations, line by line, with the functions that it calls. FEAT_AA64 is given.
use Rattle.std.specs.Prelude.{ℕ, Bool, true, false, cond, not, ◌&&◌, ◌||◌, eqb, ltb, Result, Ok, Err}
use Rattle.laws.specs.Mask.{mask_from}
use Rattle.machine.specs.declared.operation.Name.TheVariants.{RVAE2, RVAAE1, RVALE3, RIPAS2LE1}
use Rattle.machine.specs.declared.operation.Share.{Share}
use Rattle.machine.specs.declared.operation.Share.TheVariants.{Local, Inner, Outer}
use Rattle.machine.specs.declared.operation.Operation.{Operation}
use Rattle.machine.specs.declared.processor.State.{State}
use Rattle.machine.specs.declared.scope.Regime.TheVariants.{EL10, EL20, EL2, EL3}
use Rattle.machine.specs.declared.scope.Security.{Security}
use Rattle.machine.specs.declared.scope.Security.TheVariants.{Secure, NonSecure, Realm, Root}
use Rattle.machine.specs.declared.scope.Scope.{Scope}
use Rattle.machine.specs.Access.{reaches_by}
use Rattle.machine.specs.declared.refusal.Refusal.{Refusal}
use Rattle.machine.specs.declared.refusal.Refusal.TheVariants as refusal

-- EL2Enabled(): EL2 is there, and EL3 is not, or NS is 1, or Secure EL2 is enabled
abbrev pub page_el2_enabled : State → Bool
page_el2_enabled st = st.present.el2 && (not st.present.el3 || st.scr.ns || (st.features.sel2 && st.scr.eel2))

-- EffectiveHCR_EL2_NVx() IN {'xx1'}; EL2Enabled() && HCR_EL2.NV == '1'
abbrev pub page_nv : State → Bool
page_nv st = page_el2_enabled st && st.hcr.nv

-- ELIsInHost(EL2): the Effective value of HCR_EL2.E2H
abbrev pub page_host : State → Bool
page_host st = page_el2_enabled st && st.hcr.e2h

-- HCR_EL2.<E2H,TGE> == '11'
abbrev pub page_host_bits : State → Bool
page_host_bits st = st.hcr.e2h && st.hcr.tge

-- IsHCRXEL2Enabled()
abbrev pub page_hcrx_enabled : State → Bool
page_hcrx_enabled st =
    cond (not st.features.hcx) false
    (cond (st.present.el3 && not st.scr.hxen) false
    (page_el2_enabled st))

-- ValidSecurityStateAtEL(EL2), with FEAT_RME: {NSE, NS} is not {1, 0}
abbrev pub page_valid_el2 : State → Bool
page_valid_el2 st = not (st.scr.nse && not st.scr.ns)

-- ValidSecurityStateAtEL(EL3): EL3 is there
abbrev pub page_valid_el3 : State → Bool
page_valid_el3 st = st.present.el3

-- SecurityStateAtEL(EL1) and SecurityStateAtEL(EL2); Arm gives none for {1, 0} with FEAT_RME, and here it is Secure
abbrev pub page_security : State → Security
page_security st =
    cond (not st.present.el3) NonSecure
    (cond st.features.rme
    (cond st.scr.nse (cond st.scr.ns Realm Secure) (cond st.scr.ns NonSecure Secure))
    (cond st.scr.ns NonSecure Secure))

-- SecurityStateAtEL(EL3)
abbrev pub page_el3_security : State → Security
page_el3_security st = cond st.features.rme Root Secure

-- VMID[]
abbrev pub page_vmid : State → ℕ
page_vmid st = cond (page_el2_enabled st) st.vmid 0

-- Broadcast_NSH: "the PE that executes this System instruction"; Shareability_ISH, Broadcast_OSH: "all PEs in the same Inner [Outer]
-- Shareable shareability domain as the PE that executes this System instruction"
abbrev pub page_reached : State → Share → ℕ
page_reached st s = mask_from (λ p. ltb p st.board.count && reaches_by s st.board p) 0 8

-- 000: AArch64_TLBIP_RVA(SecurityStateAtEL(EL2), Regime_EL2, VMID_NONE, Broadcast_NSH, TLBILevel_Any, attr, ..): "using
-- the EL2 or EL2&0 translation regime, as determined by the Effective value of HCR_EL2.E2H", with the ASID "When ELIsInHost(EL2)"
abbrev pub rva2 : State → Bool → Result Scope Refusal
rva2 st exclude_xs = Ok (record {
  regime = cond (page_host st) EL20 EL2;
  security = page_security st;
  vmid = 0;
  stage2 = false;
  reached = page_reached st Local;
  asid = page_host st;
  last = false;
  nxs = exclude_xs;
})

-- TLBIP RVAE2, TLBIP RVAE2NXS
abbrev pub page000 : State → Bool → Result Scope Refusal
page000 st nxs =
    cond (not st.features.d128) (Err refusal.Undefined)
    (cond (nxs && not st.features.xs) (Err refusal.Undefined)
    (cond (eqb st.el 0) (Err refusal.Undefined)
    (cond (eqb st.el 1) (cond (page_nv st) (Err (refusal.Trapped 0x14)) (Err refusal.Undefined))
    (cond (eqb st.el 2) (rva2 st nxs)
    (cond (not (page_el2_enabled st)) (Err refusal.Undefined)
    (cond (st.features.rme && not (page_valid_el2 st)) (Err refusal.NoEffect)
    (rva2 st nxs)))))))

-- 001: AArch64.TLBI_RVAA(SecurityStateAtEL(EL1), Regime_EL10, VMID[], Shareability_ISH, TLBILevel_Any, attr, ..)
abbrev pub rvaa10 : State → Bool → Result Scope Refusal
rvaa10 st exclude_xs = Ok (record {
  regime = EL10;
  security = page_security st;
  vmid = page_vmid st;
  stage2 = false;
  reached = page_reached st Inner;
  asid = false;
  last = false;
  nxs = exclude_xs;
})

-- AArch64.TLBI_RVAA(SecurityStateAtEL(EL2), Regime_EL20, VMID_NONE, Shareability_ISH, TLBILevel_Any, attr, ..)
abbrev pub rvaa20 : State → Bool → Result Scope Refusal
rvaa20 st exclude_xs = Ok (record {
  regime = EL20;
  security = page_security st;
  vmid = 0;
  stage2 = false;
  reached = page_reached st Inner;
  asid = false;
  last = false;
  nxs = exclude_xs;
})

-- TLBI RVAAE1IS, "present only when FEAT_TLBIRANGE is implemented"
abbrev pub page001 : State → Result Scope Refusal
page001 st =
    cond (not st.features.tlbirange) (Err refusal.Undefined)
    (cond (eqb st.el 0) (Err refusal.Undefined)
    (cond (eqb st.el 1)
    (cond (page_el2_enabled st && st.hcr.ttlb) (Err (refusal.Trapped 0x18))
    (cond (page_el2_enabled st && st.hcr.ttlbis) (Err (refusal.Trapped 0x18))
    (cond
    (page_el2_enabled st
    && st.features.fgt
    && (not st.present.el3 || st.scr.fgten)
    && st.traps.rvaae1.inner)
    (Err (refusal.Trapped 0x18))
    (cond (st.features.xs && st.features.hcx && page_hcrx_enabled st && st.hcrx.fnxs) (rvaa10 st true) (rvaa10 st false)))))
    (cond (eqb st.el 2)
    (cond (page_host_bits st) (rvaa20 st false) (rvaa10 st false))
    (cond (page_host_bits st) (rvaa20 st false) (rvaa10 st false)))))

-- TLBI RVAAE1ISNXS
abbrev pub page001nxs : State → Result Scope Refusal
page001nxs st =
    cond (not st.features.tlbirange) (Err refusal.Undefined)
    (cond (not st.features.xs) (Err refusal.Undefined)
    (cond (eqb st.el 0) (Err refusal.Undefined)
    (cond (eqb st.el 1)
    (cond (page_el2_enabled st && st.hcr.ttlb) (Err (refusal.Trapped 0x18))
    (cond (page_el2_enabled st && st.hcr.ttlbis) (Err (refusal.Trapped 0x18))
    (cond
    (page_el2_enabled st
    && st.features.fgt
    && (not st.present.el3 || st.scr.fgten)
    && st.features.hcx
    && (not (page_hcrx_enabled st) || not st.hcrx.fgtnxs)
    && st.traps.rvaae1.inner)
    (Err (refusal.Trapped 0x18))
    (rvaa10 st true))))
    (cond (eqb st.el 2)
    (cond (page_host_bits st) (rvaa20 st true) (rvaa10 st true))
    (cond (page_host_bits st) (rvaa20 st true) (rvaa10 st true))))))

-- 002: AArch64.TLBIP_VA(SecurityStateAtEL(EL3), Regime_EL3, VMID_NONE, Shareability_OSH, TLBILevel_Last, attr, ..); 004: AArch64_TLBI_RVA
-- of the same, with Broadcast_OSH
abbrev pub rva3 : State → Bool → Result Scope Refusal
rva3 st exclude_xs = Ok (record {
  regime = EL3;
  security = page_el3_security st;
  vmid = 0;
  stage2 = false;
  reached = page_reached st Outer;
  asid = false;
  last = true;
  nxs = exclude_xs;
})

-- TLBIP VALE3OS, TLBIP VALE3OSNXS, "present only when FEAT_D128 is implemented": its range twin is TLBIP RVALE3OS
abbrev pub page002 : State → Bool → Result Scope Refusal
page002 st nxs =
    cond (not st.features.d128) (Err refusal.Undefined)
    (cond (nxs && not st.features.xs) (Err refusal.Undefined)
    (cond (eqb st.el 0) (Err refusal.Undefined)
    (cond (eqb st.el 1) (Err refusal.Undefined)
    (cond (eqb st.el 2) (Err refusal.Undefined)
    (rva3 st nxs)))))

-- 003: AArch64.TLBIP_RIPAS2(SecurityStateAtEL(EL1), Regime_EL10, VMID[], Shareability_ISH, TLBILevel_Last, attr, ..)
abbrev pub ripas2 : State → Bool → Result Scope Refusal
ripas2 st exclude_xs = Ok (record {
  regime = EL10;
  security = page_security st;
  vmid = page_vmid st;
  stage2 = true;
  reached = page_reached st Inner;
  asid = false;
  last = true;
  nxs = exclude_xs;
})

-- TLBIP RIPAS2LE1IS, TLBIP RIPAS2LE1ISNXS; the first line is 01's "TLBIP wants D128", the page has none
abbrev pub page003 : State → Bool → Result Scope Refusal
page003 st nxs =
    cond (not st.features.d128) (Err refusal.Undefined)
    (cond (nxs && not st.features.xs) (Err refusal.Undefined)
    (cond (eqb st.el 0) (Err refusal.Undefined)
    (cond (eqb st.el 1) (cond (page_nv st) (Err (refusal.Trapped 0x14)) (Err refusal.Undefined))
    (cond (eqb st.el 2) (ripas2 st nxs)
    (cond (not (page_el2_enabled st)) (Err refusal.NoEffect)
    (ripas2 st nxs))))))

-- TLBI RVALE3OS, TLBI RVALE3OSNXS
abbrev pub page004 : State → Bool → Result Scope Refusal
page004 st nxs =
    cond (not (st.features.tlbirange && st.features.tlbios)) (Err refusal.Undefined)
    (cond (nxs && not st.features.xs) (Err refusal.Undefined)
    (cond (eqb st.el 0) (Err refusal.Undefined)
    (cond (eqb st.el 1) (Err refusal.Undefined)
    (cond (eqb st.el 2) (Err refusal.Undefined)
    (cond (st.features.rme && not (page_valid_el3 st)) (Err refusal.NoEffect)
    (rva3 st nxs))))))

-- the operations of the pages, 002's by its range twin
abbrev pub op000 : Bool → ℕ → Operation
op000 nxs rt = record { name = RVAE2; share = Local; nxs = nxs; tlbip = true; rt = rt }

abbrev pub op001 : Bool → ℕ → Operation
op001 nxs rt = record { name = RVAAE1; share = Inner; nxs = nxs; tlbip = false; rt = rt }

abbrev pub op002 : Bool → ℕ → Operation
op002 nxs rt = record { name = RVALE3; share = Outer; nxs = nxs; tlbip = true; rt = rt }

abbrev pub op003 : Bool → ℕ → Operation
op003 nxs rt = record { name = RIPAS2LE1; share = Inner; nxs = nxs; tlbip = true; rt = rt }

abbrev pub op004 : Bool → ℕ → Operation
op004 nxs rt = record { name = RVALE3; share = Outer; nxs = nxs; tlbip = false; rt = rt }
