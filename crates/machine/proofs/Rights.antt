-- The access rules computed: m9 and m10, in one state and in every state of which they speak, and corners of the rules.
use Rattle.std.specs.Prelude.{Option, Some, None, Result, Ok, Err}
use Prim.Native.Nat.{ℕ, ◌+◌}
use mathlib.Core.Bool.{Bool, true, false}
use mathlib.Core.List.{[], ◌∷◌}
use mathlib.Core.Path.{◌≡◌, refl}
use lib.Dec.{eqb}
use Rattle.laws.specs.Every.{every}
use Rattle.laws.specs.Mask.{mask_from}
use Rattle.machine.proofs.Sample.{two, three, NS, NSE, EEL2, FGTEn, HXEn, E2H, TGE, TTLB, TTLBIS, TTLBOS, NV, FnXS, FGTnXS, flagged, RME, SEL2, no_range, no_os, no_d128, no_xs, no_fgt, no_hcx, no_lpa2, at, boarded, host_with_ds}
use Rattle.machine.specs.Access.{is_barred, is_trapped, reaches, reached_of, scope_of, access_e1, access_e2, access_stage2, access_e3, access_of, is_unit_64k, trap_flag}
use Rattle.machine.specs.Answer.{number_of, trap_of}
use Rattle.machine.specs.Pages.{op003}
use Rattle.machine.specs.State.{security_of, security_in, el2_enabled, vmid_in, hcrx_live, domains_agree, bad_board, bad_fields, bad_state}
use Rattle.machine.specs.Word.{row_of, read_of}
use Rattle.machine.specs.declared.operation.Name.TheVariants.{RVAE1, RVAAE1, RVALE1, RVAALE1}
use Rattle.machine.specs.declared.operation.Share.TheVariants.{Local, Inner, Outer}
use Rattle.machine.specs.declared.processor.Flags.{Flags}
use Rattle.machine.specs.declared.processor.State.{State}
use Rattle.machine.specs.declared.processor.Traps.{Traps}
use Rattle.machine.specs.declared.scope.Regime.TheVariants.{EL10, EL20, EL2, EL3}
use Rattle.machine.specs.declared.scope.Regime.{Regime}
use Rattle.machine.specs.declared.scope.Security.TheVariants.{Secure, NonSecure, Realm, Root}
use Rattle.machine.specs.declared.scope.Security.{Security}
use Rattle.machine.specs.declared.refusal.Refusal.{Refusal}
use Rattle.machine.specs.declared.refusal.Refusal.TheVariants as refusal
use Rattle.machine.specs.declared.scope.Scope.{Scope}
use Rattle.machine.specs.declared.operation.Operation.{Operation}

-- a word's answer: its number and its value
abbrev answer : Option Operation → State → ℕ × ℕ
answer (Some op) st = (number_of (access_of st op), trap_of (access_of st op))
answer None st = (1, 0)

-- what a word runs on: regime, security state, VMID, and whether it acts as NXS
abbrev ran_on : Result Scope Refusal → Regime × Security × ℕ × Bool
ran_on (Ok s) = (s.regime, s.security, s.vmid, s.nxs)
ran_on (Err r) = (EL10, Root, 0, false)

abbrev ran : Option Operation → State → Regime × Security × ℕ × Bool
ran (Some op) st = ran_on (access_of st op)
ran None st = ran_on (Err refusal.Undefined)

-- "m9 D54C80C0 with D128 at EL1, EL2 enabled, NV: 4, 0x14.", by the access rules in every such state
pub m9 : (st : State) → st.features.d128 ≡ true → st.el ≡ 1 → el2_enabled st ≡ true → st.hcr.nv ≡ true →
    (read_of 0xD54C80C0 ≡ Some (op003 false 0))
    × (number_of (access_of st (op003 false 0)) ≡ 4)
    × (trap_of (access_of st (op003 false 0)) ≡ 0x14)
unfolding read_of row_of access_of is_barred access_stage2
m9 st d128 el on nv = (refl, simp (d128, el, on, nv), simp (d128, el, on, nv))

-- "m10 the same at EL3, EL2 disabled: 5."
pub m10 : (st : State) → st.features.d128 ≡ true → st.el ≡ 3 → el2_enabled st ≡ false →
    (read_of 0xD54C80C0 ≡ Some (op003 false 0))
    × (number_of (access_of st (op003 false 0)) ≡ 5)
    × (trap_of (access_of st (op003 false 0)) ≡ 0)
unfolding read_of row_of access_of is_barred access_stage2
m10 st d128 el off = (refl, simp (d128, el, off), simp (d128, el, off))

-- m9 and m10, and odd Rt before them; what traps E1 names at EL1, with FGT, FGTEn, HCX, HXEn and FGTnXS; absent features; EL0; E2 names;
-- E3 names below EL3
pub answers :
    (answer (read_of 0xD54C80C0) (at 1 (two ∷ NV ∷ [])) ≡ (4, 0x14))
    × (answer (read_of 0xD54C80C0) (at 3 (two ∷ three ∷ [])) ≡ (5, 0))
    × (answer (read_of 0xD54C80C1) (at 1 (two ∷ NV ∷ [])) ≡ (3, 0))
    × (answer (read_of 0xD54C80C1) (at 3 (two ∷ three ∷ [])) ≡ (3, 0))
    × (answer (read_of 0xD5088260) (at 1 (two ∷ flagged ∷ [])) ≡ (4, 0x18))
    × (answer (read_of 0xD5088260) (at 1 (two ∷ flagged ∷ no_fgt ∷ [])) ≡ (0, 0))
    × (answer (read_of 0xD5088260) (at 1 (flagged ∷ [])) ≡ (0, 0))
    × (answer (read_of 0xD5088260) (at 1 (two ∷ three ∷ NS ∷ flagged ∷ [])) ≡ (0, 0))
    × (answer (read_of 0xD5088260) (at 1 (two ∷ three ∷ NS ∷ FGTEn ∷ flagged ∷ [])) ≡ (4, 0x18))
    × (answer (read_of 0xD5089260) (at 1 (two ∷ flagged ∷ [])) ≡ (4, 0x18))
    × (answer (read_of 0xD5089260) (at 1 (two ∷ flagged ∷ no_hcx ∷ [])) ≡ (0, 0))
    × (answer (read_of 0xD5089260) (at 1 (two ∷ flagged ∷ FGTnXS ∷ [])) ≡ (0, 0))
    × (answer (read_of 0xD5089260) (at 1 (two ∷ three ∷ NS ∷ FGTEn ∷ flagged ∷ FGTnXS ∷ [])) ≡ (4, 0x18))
    × (answer (read_of 0xD5089260) (at 1 (two ∷ three ∷ NS ∷ FGTEn ∷ HXEn ∷ flagged ∷ FGTnXS ∷ [])) ≡ (0, 0))
    × (answer (read_of 0xD5088660) (at 1 (two ∷ TTLB ∷ [])) ≡ (4, 0x18))
    × (answer (read_of 0xD5088260) (at 1 (two ∷ TTLBIS ∷ [])) ≡ (4, 0x18))
    × (answer (read_of 0xD5088560) (at 1 (two ∷ TTLBIS ∷ [])) ≡ (0, 0))
    × (answer (read_of 0xD5488560) (at 1 (two ∷ TTLBOS ∷ [])) ≡ (4, 0x14))
    × (answer (read_of 0xD5088660) (at 1 (two ∷ TTLBIS ∷ TTLBOS ∷ [])) ≡ (0, 0))
    × (answer (read_of 0xD5088660) (at 1 (no_os ∷ no_d128 ∷ [])) ≡ (0, 0))
    × (answer (read_of 0xD5088260) (at 1 (no_os ∷ no_d128 ∷ [])) ≡ (0, 0))
    × (answer (read_of 0xD5088560) (at 1 (no_os ∷ no_d128 ∷ [])) ≡ (3, 0))
    × (answer (read_of 0xD5488660) (at 1 (no_os ∷ no_d128 ∷ [])) ≡ (3, 0))
    × (answer (read_of 0xD5488560) (at 1 (no_range ∷ no_os ∷ [])) ≡ (0, 0))
    × (answer (read_of 0xD5088660) (at 1 (no_range ∷ no_os ∷ [])) ≡ (3, 0))
    × (answer (read_of 0xD5089260) (at 1 (no_xs ∷ [])) ≡ (3, 0))
    × (answer (read_of 0xD5088260) (at 0 []) ≡ (3, 0))
    × (answer (read_of 0xD50C8620) (at 1 (two ∷ E2H ∷ TGE ∷ TTLB ∷ TTLBIS ∷ TTLBOS ∷ flagged ∷ [])) ≡ (3, 0))
    × (answer (read_of 0xD50C8620) (at 1 (two ∷ NV ∷ [])) ≡ (4, 0x18))
    × (answer (read_of 0xD50C8620) (at 3 (two ∷ three ∷ [])) ≡ (3, 0))
    × (answer (read_of 0xD50E8620) (at 1 (two ∷ three ∷ NS ∷ NV ∷ [])) ≡ (3, 0))
    × (answer (read_of 0xD50E8620) (at 2 (two ∷ three ∷ NS ∷ [])) ≡ (3, 0))
unfolding read_of row_of access_of is_barred is_trapped access_e1 access_e2 access_e3 access_stage2 scope_of el2_enabled security_of hcrx_live
answers = (refl, refl, refl, refl, refl, refl, refl, refl, refl, refl, refl, refl, refl, refl, refl, refl, refl, refl, refl, refl, refl, refl, refl, refl, refl, refl, refl, refl, refl, refl, refl, refl)

-- E2H, TGE and VMID while EL2 is disabled, at EL1, and each alone; the security states; FnXS at EL1 and EL2, with XS and without
pub scopes :
    (ran (read_of 0xD5088260) (at 3 (two ∷ three ∷ E2H ∷ TGE ∷ [])) ≡ (EL10, Secure, 0, false))
    × (ran (read_of 0xD5088260) (at 3 (two ∷ three ∷ NS ∷ E2H ∷ TGE ∷ [])) ≡ (EL20, NonSecure, 0, false))
    × (ran (read_of 0xD5088260) (at 3 (two ∷ three ∷ NS ∷ E2H ∷ [])) ≡ (EL10, NonSecure, 7, false))
    × (ran (read_of 0xD5088260) (at 3 (two ∷ three ∷ NS ∷ TGE ∷ [])) ≡ (EL10, NonSecure, 7, false))
    × (ran (read_of 0xD50C8620) (at 3 (two ∷ three ∷ NS ∷ E2H ∷ [])) ≡ (EL20, NonSecure, 0, false))
    × (ran (read_of 0xD50C8620) (at 2 (two ∷ three ∷ NS ∷ TGE ∷ [])) ≡ (EL2, NonSecure, 0, false))
    × (ran (read_of 0xD5088260) (at 1 (two ∷ E2H ∷ TGE ∷ [])) ≡ (EL10, NonSecure, 7, false))
    × (ran (read_of 0xD5088260) (at 1 []) ≡ (EL10, NonSecure, 0, false))
    × (ran (read_of 0xD5088260) (at 1 (two ∷ three ∷ EEL2 ∷ RME ∷ [])) ≡ (EL10, Secure, 0, false))
    × (ran (read_of 0xD5088260) (at 1 (two ∷ three ∷ EEL2 ∷ RME ∷ SEL2 ∷ [])) ≡ (EL10, Secure, 7, false))
    × (ran (read_of 0xD5088260) (at 1 (two ∷ three ∷ NS ∷ NSE ∷ RME ∷ [])) ≡ (EL10, Realm, 7, false))
    × (ran (read_of 0xD5088260) (at 1 (two ∷ three ∷ NS ∷ NSE ∷ [])) ≡ (EL10, NonSecure, 7, false))
    × (ran (read_of 0xD50E8620) (at 3 (two ∷ three ∷ NS ∷ [])) ≡ (EL3, Secure, 0, false))
    × (ran (read_of 0xD50E8620) (at 3 (two ∷ three ∷ NS ∷ RME ∷ [])) ≡ (EL3, Root, 0, false))
    × (ran (read_of 0xD50C8040) (at 2 (two ∷ FnXS ∷ [])) ≡ (EL10, NonSecure, 7, false))
    × (ran (read_of 0xD5088260) (at 1 (two ∷ FnXS ∷ [])) ≡ (EL10, NonSecure, 7, true))
    × (ran (read_of 0xD5088260) (at 1 (two ∷ FnXS ∷ no_xs ∷ [])) ≡ (EL10, NonSecure, 7, false))
    × (ran (read_of 0xD5088260) (at 1 (two ∷ FnXS ∷ no_hcx ∷ [])) ≡ (EL10, NonSecure, 7, false))
    × (ran (read_of 0xD5088260) (at 2 (two ∷ FnXS ∷ [])) ≡ (EL10, NonSecure, 7, false))
    × (ran (read_of 0xD50C9620) (at 2 (two ∷ [])) ≡ (EL2, NonSecure, 0, true))
unfolding read_of row_of access_of is_barred is_trapped access_e1 access_e2 access_e3 access_stage2 scope_of el2_enabled security_of hcrx_live security_in vmid_in
scopes = (refl, refl, refl, refl, refl, refl, refl, refl, refl, refl, refl, refl, refl, refl, refl, refl, refl, refl, refl, refl)

-- levels, EL2 and EL3 absent or disabled, RME's pairs, counts and own numbers, and domains below and above the count
pub bad :
    (bad_state (at 4 (two ∷ three ∷ [])) ≡ true)
    × (bad_state (at 3 (two ∷ three ∷ [])) ≡ false)
    × (bad_state (at 3 (two ∷ [])) ≡ true)
    × (bad_state (at 2 []) ≡ true)
    × (bad_state (at 2 (two ∷ three ∷ EEL2 ∷ [])) ≡ true)
    × (bad_state (at 2 (two ∷ three ∷ EEL2 ∷ SEL2 ∷ [])) ≡ false)
    × (bad_state (at 1 (two ∷ RME ∷ [])) ≡ true)
    × (bad_state (at 3 (two ∷ three ∷ NSE ∷ RME ∷ [])) ≡ true)
    × (bad_state (at 3 (two ∷ three ∷ NSE ∷ [])) ≡ false)
    × (bad_state (boarded 0 0 (0 ∷ 0 ∷ 0 ∷ []) (0 ∷ 0 ∷ 0 ∷ [])) ≡ true)
    × (bad_state (boarded 1 0 (0 ∷ 0 ∷ 0 ∷ []) (0 ∷ 0 ∷ 0 ∷ [])) ≡ false)
    × (bad_state (boarded 1 1 (0 ∷ 0 ∷ 0 ∷ []) (0 ∷ 0 ∷ 0 ∷ [])) ≡ true)
    × (bad_state (boarded 9 0 (0 ∷ 0 ∷ 0 ∷ []) (0 ∷ 0 ∷ 0 ∷ [])) ≡ true)
    × (bad_state (boarded 8 7 (0 ∷ 0 ∷ 0 ∷ []) (0 ∷ 0 ∷ 0 ∷ [])) ≡ false)
    × (bad_state (boarded 3 0 (1 ∷ 2 ∷ 1 ∷ []) (5 ∷ 5 ∷ 6 ∷ [])) ≡ true)
    × (bad_state (boarded 2 0 (1 ∷ 2 ∷ 1 ∷ []) (5 ∷ 5 ∷ 6 ∷ [])) ≡ false)
    × (bad_state (boarded 3 0 (1 ∷ 2 ∷ 1 ∷ []) (5 ∷ 6 ∷ 5 ∷ [])) ≡ false)
unfolding bad_state bad_fields bad_board domains_agree el2_enabled security_of every
bad = (refl, refl, refl, refl, refl, refl, refl, refl, refl, refl, refl, refl, refl, refl, refl, refl, refl)

-- the processors reached, whether an ASID applies, whether the name has L, and whether it is stage 2
abbrev who_on : Result Scope Refusal → ℕ × Bool × Bool × Bool
who_on (Ok s) = (s.reached, s.asid, s.last, s.stage2)
who_on (Err r) = (0, false, false, false)

abbrev who : Option Operation → State → ℕ × Bool × Bool × Bool
who (Some op) st = who_on (access_of st op)
who None st = who_on (Err refusal.Undefined)

-- at EL3 with EL2 enabled, and the same with {E2H, TGE} 11
abbrev high : State
high = at 3 (two ∷ three ∷ NS ∷ [])

abbrev hosted : State
hosted = at 3 (two ∷ three ∷ NS ∷ E2H ∷ TGE ∷ [])

-- local, IS and OS, none of them at or above the count; the ASID of E2 names hangs on E2H
pub reach :
    (who (read_of 0xD5088660) high ≡ (2, false, false, false))
    × (who (read_of 0xD5088260) high ≡ (3, false, false, false))
    × (who (read_of 0xD5088560) high ≡ (7, false, false, false))
    × (who (read_of 0xD5088620) high ≡ (2, true, false, false))
    × (who (read_of 0xD50886A0) hosted ≡ (2, true, true, false))
    × (who (read_of 0xD50886E0) hosted ≡ (2, false, true, false))
    × (who (read_of 0xD50C8620) high ≡ (2, false, false, false))
    × (who (read_of 0xD50C8620) hosted ≡ (2, true, false, false))
    × (who (read_of 0xD50C86A0) hosted ≡ (2, true, true, false))
    × (who (read_of 0xD50C86A0) high ≡ (2, false, true, false))
    × (who (read_of 0xD50E86A0) hosted ≡ (2, false, true, false))
    × (who (read_of 0xD50E8620) high ≡ (2, false, false, false))
    × (who (read_of 0xD50C8040) high ≡ (3, false, false, true))
    × (who (read_of 0xD50C84E0) high ≡ (7, false, true, true))
unfolding read_of row_of access_of is_barred access_e1 access_e2 access_e3 access_stage2 scope_of el2_enabled security_of reached_of reaches mask_from
reach = (refl, refl, refl, refl, refl, refl, refl, refl, refl, refl, refl, refl, refl, refl)

-- twelve flags, of which number k alone is set
abbrev flags_from : ℕ → ℕ → Flags
flags_from k n = record { local = eqb k n; inner = eqb k (n + 1); outer = eqb k (n + 2) }

abbrev traps_of : ℕ → Traps
traps_of k = record { rvae1 = flags_from k 0; rvaae1 = flags_from k 3; rvale1 = flags_from k 6; rvaale1 = flags_from k 9 }

-- each name and shareability has the flag of its own
pub flags : (k : ℕ) →
    (trap_flag (traps_of k) RVAE1 Local ≡ eqb k 0)
    × (trap_flag (traps_of k) RVAE1 Inner ≡ eqb k 1)
    × (trap_flag (traps_of k) RVAE1 Outer ≡ eqb k 2)
    × (trap_flag (traps_of k) RVAAE1 Local ≡ eqb k 3)
    × (trap_flag (traps_of k) RVAAE1 Inner ≡ eqb k 4)
    × (trap_flag (traps_of k) RVAAE1 Outer ≡ eqb k 5)
    × (trap_flag (traps_of k) RVALE1 Local ≡ eqb k 6)
    × (trap_flag (traps_of k) RVALE1 Inner ≡ eqb k 7)
    × (trap_flag (traps_of k) RVALE1 Outer ≡ eqb k 8)
    × (trap_flag (traps_of k) RVAALE1 Local ≡ eqb k 9)
    × (trap_flag (traps_of k) RVAALE1 Inner ≡ eqb k 10)
    × (trap_flag (traps_of k) RVAALE1 Outer ≡ eqb k 11)
flags k = (refl, refl, refl, refl, refl, refl, refl, refl, refl, refl, refl, refl)

-- the DS of the regime that is acted on, with LPA2 and without; RVAAE1IS at EL2 with {E2H, TGE} 11 acts on EL2&0 and so reads EL2's
pub units : (k : ℕ) →
    (is_unit_64k (host_with_ds k []) EL10 false ≡ eqb k 0)
    × (is_unit_64k (host_with_ds k []) EL20 false ≡ eqb k 1)
    × (is_unit_64k (host_with_ds k []) EL2 false ≡ eqb k 1)
    × (is_unit_64k (host_with_ds k []) EL3 false ≡ eqb k 2)
    × (is_unit_64k (host_with_ds k []) EL10 true ≡ eqb k 3)
    × (is_unit_64k (host_with_ds k (no_lpa2 ∷ [])) EL20 false ≡ false)
    × (ran (read_of 0xD5088260) (host_with_ds k []) ≡ (EL20, NonSecure, 0, false))
unfolding is_unit_64k read_of row_of access_of is_barred access_e1 scope_of el2_enabled security_of security_in vmid_in
units k = (refl, refl, refl, refl, refl, refl, refl)
