-- 01, "Instruction words": which words are operations, and which word an operation is.
use Rattle.std.specs.Prelude.{ℕ, ◌+◌, ◌*◌, ◌/◌, ◌%◌, ◌^◌, Bool, cond, ◌&&◌, ◌||◌, eqb, ltb, Option, Some, None}
use Rattle.machine.specs.declared.operation.Name.{Name}
use Rattle.machine.specs.declared.operation.Name.TheVariants.{
  RVAE1,
  RVAAE1,
  RVALE1,
  RVAALE1,
  RVAE2,
  RVALE2,
  RVAE3,
  RVALE3,
  RIPAS2E1,
  RIPAS2LE1,
}
use Rattle.machine.specs.declared.operation.Family.{Family}
use Rattle.machine.specs.declared.operation.Family.TheVariants.{E1, E2, E3, Stage2}
use Rattle.machine.specs.declared.operation.Share.{Share}
use Rattle.machine.specs.declared.operation.Share.TheVariants.{Local, Inner, Outer}
use Rattle.machine.specs.declared.operation.Operation.{Operation}

-- "op1 0: ... op2 1 RVAE1, 3 RVAAE1, 5 RVALE1, 7 RVAALE1."
abbrev pub row_e1 : Share → ℕ → Option (Name × Share)
row_e1 s n =
    cond (eqb n 1) (Some (RVAE1, s))
    (cond (eqb n 3) (Some (RVAAE1, s))
    (cond (eqb n 5) (Some (RVALE1, s))
    (cond (eqb n 7) (Some (RVAALE1, s)) None)))

-- "op1 4 and 6: ... op2 1 RVAE2/RVAE3, 5 RVALE2/RVALE3.": the names at op2 1 and 5
abbrev pub row_el : Name → Name → Share → ℕ → Option (Name × Share)
row_el plain last s n = cond (eqb n 1) (Some (plain, s)) (cond (eqb n 5) (Some (last, s)) None)

-- the row of a shareability that CRm gave
abbrev pub shared_row : ℕ → Share → ℕ → Option (Name × Share)
shared_row o s n =
    cond (eqb o 0) (row_e1 s n)
    (cond (eqb o 4) (row_el RVAE2 RVALE2 s n)
    (cond (eqb o 6) (row_el RVAE3 RVALE3 s n) None))

-- "op1 4, CRm 0: op2 2 RIPAS2E1IS, 6 RIPAS2LE1IS. CRm 4: 2 RIPAS2E1, 6 RIPAS2LE1, 3 RIPAS2E1OS, 7 RIPAS2LE1OS."
abbrev pub stage2_row : ℕ → ℕ → Option (Name × Share)
stage2_row m n =
    cond (eqb m 0)
    (cond (eqb n 2) (Some (RIPAS2E1, Inner))
    (cond (eqb n 6) (Some (RIPAS2LE1, Inner)) None))
    (cond (eqb m 4)
    (cond (eqb n 2) (Some (RIPAS2E1, Local))
    (cond (eqb n 6) (Some (RIPAS2LE1, Local))
    (cond (eqb n 3) (Some (RIPAS2E1, Outer))
    (cond (eqb n 7) (Some (RIPAS2LE1, Outer)) None))))
    None)

-- "Each (op1, CRm, op2) is decided by its numbers", op1 o, CRm m and op2 n: "CRm 2 IS, 5 OS, 6 local"
unfoldable pub row_of : ℕ → ℕ → ℕ → Option (Name × Share)
row_of o m n =
    cond (eqb m 2) (shared_row o Inner n)
    (cond (eqb m 5) (shared_row o Outer n)
    (cond (eqb m 6) (shared_row o Local n)
    (cond (eqb o 4) (stage2_row m n) None)))

-- "SYS is 0xD5080000 and SYSP (TLBIP) 0xD5480000"; what stands above op1, bits 31:19, is fixed by it
abbrev pub fixed_of : ℕ → ℕ
fixed_of w = w / 2 ^ 19 * 2 ^ 19

abbrev pub is_sys : ℕ → Bool
is_sys w = eqb (fixed_of w) 0xD5080000

abbrev pub is_sysp : ℕ → Bool
is_sysp w = eqb (fixed_of w) 0xD5480000

-- "plus op1 at bit 16, CRn at 12, CRm at 8, op2 at 5, Rt at 0"
abbrev pub op1_in : ℕ → ℕ
op1_in w = w / 2 ^ 16 % 8

abbrev pub crn_in : ℕ → ℕ
crn_in w = w / 2 ^ 12 % 16

abbrev pub crm_in : ℕ → ℕ
crm_in w = w / 2 ^ 8 % 16

abbrev pub op2_in : ℕ → ℕ
op2_in w = w / 2 ^ 5 % 8

abbrev pub rt_in : ℕ → ℕ
rt_in w = w % 32

-- the operation of a row, with the other parts
abbrev pub of_row : Option (Name × Share) → Bool → Bool → ℕ → Option Operation
of_row (Some (name, share)) nxs tlbip rt = Some (record { name = name; share = share; nxs = nxs; tlbip = tlbip; rt = rt })
of_row None nxs tlbip rt = None

-- the fixed bits of SYS or SYSP; "CRn is 8, or 9 for NXS."
abbrev pub is_fixed : ℕ → Bool
is_fixed w = (is_sys w || is_sysp w) && (eqb (crn_in w) 8 || eqb (crn_in w) 9)

-- other fixed bits, another CRn and unknown numbers are not one of the operations
unfoldable pub read_of : ℕ → Option Operation
read_of w =
    cond (is_fixed w)
    (of_row (row_of (op1_in w) (crm_in w) (op2_in w)) (eqb (crn_in w) 9) (is_sysp w) (rt_in w))
    None

-- "E1 names", "E2 names", "E3 names" and "RIPAS2"
abbrev pub family_of : Name → Family
family_of RVAE1 = E1
family_of RVAAE1 = E1
family_of RVALE1 = E1
family_of RVAALE1 = E1
family_of RVAE2 = E2
family_of RVALE2 = E2
family_of RVAE3 = E3
family_of RVALE3 = E3
family_of RIPAS2E1 = Stage2
family_of RIPAS2LE1 = Stage2

-- The numbers of a name and a shareability: `row_of` the other way round.
abbrev pub op1_of : Family → ℕ
op1_of E1 = 0
op1_of E2 = 4
op1_of E3 = 6
op1_of Stage2 = 4

abbrev pub share_crm : Share → ℕ
share_crm Local = 6
share_crm Inner = 2
share_crm Outer = 5

abbrev pub stage2_crm : Share → ℕ
stage2_crm Local = 4
stage2_crm Inner = 0
stage2_crm Outer = 4

abbrev pub crm_of : Family → Share → ℕ
crm_of E1 s = share_crm s
crm_of E2 s = share_crm s
crm_of E3 s = share_crm s
crm_of Stage2 s = stage2_crm s

-- op2 of a stage 2 name: one number for local and IS, another for OS
abbrev pub stage2_op2 : Share → ℕ → ℕ → ℕ
stage2_op2 Local n os = n
stage2_op2 Inner n os = n
stage2_op2 Outer n os = os

abbrev pub op2_of : Name → Share → ℕ
op2_of RVAE1 s = 1
op2_of RVAAE1 s = 3
op2_of RVALE1 s = 5
op2_of RVAALE1 s = 7
op2_of RVAE2 s = 1
op2_of RVALE2 s = 5
op2_of RVAE3 s = 1
op2_of RVALE3 s = 5
op2_of RIPAS2E1 s = stage2_op2 s 2 3
op2_of RIPAS2LE1 s = stage2_op2 s 6 7

-- "SYS is 0xD5080000 and SYSP (TLBIP) 0xD5480000, plus op1 at bit 16, CRn at 12, CRm at 8, op2 at 5, Rt at 0.
-- CRn is 8, or 9 for NXS."
unfoldable pub word_of : Operation → ℕ
word_of op =
    cond op.tlbip 0xD5480000 0xD5080000
    + op1_of (family_of op.name) * 2 ^ 16
    + cond op.nxs 9 8 * 2 ^ 12
    + crm_of (family_of op.name) op.share * 2 ^ 8
    + op2_of op.name op.share * 2 ^ 5
    + op.rt

-- an Rt of 32 or more has no place in a word
unfoldable pub built_of : Operation → Option ℕ
built_of op = cond (ltb op.rt 32) (Some (word_of op)) None

-- "SYSP with odd Rt below 31"
abbrev pub is_odd_pair : Operation → Bool
is_odd_pair op = op.tlbip && eqb (op.rt % 2) 1 && ltb op.rt 31
