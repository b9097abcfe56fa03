-- The operation that C's record stands for.
use Rattle.std.specs.Prelude.{ℕ, ◌%◌, Bool, cond, ◌&&◌, eqb, ltb, Result, Ok, Err}
use Rattle.machine.specs.declared.operation.Name.{Name}
use Rattle.machine.specs.declared.operation.Name.TheVariants.{RVAE1, RVAAE1, RVALE1, RVAALE1, RVAE2, RVALE2, RVAE3, RVALE3, RIPAS2E1, RIPAS2LE1}
use Rattle.machine.specs.declared.operation.Operation.{Operation}
use Rattle.machine.specs.declared.operation.Share.{Share}
use Rattle.machine.specs.declared.operation.Share.TheVariants.{Local, Inner, Outer}
use Rattle.received.specs.Numbers.{is_flag, flag_in}
use Rattle.received.specs.declared.operation.OperationRecord.{OperationRecord}
use Rattle.machine.specs.declared.refusal.Refusal.{Refusal}
use Rattle.machine.specs.declared.refusal.Refusal.TheVariants.{Illegal}

-- the names, in the order of 01's first sentence
unfoldable pub name_at : ℕ → Name
name_at x =
    cond (eqb x 0) RVAE1
    (cond (eqb x 1) RVAAE1
    (cond (eqb x 2) RVALE1
    (cond (eqb x 3) RVAALE1
    (cond (eqb x 4) RVAE2
    (cond (eqb x 5) RVALE2
    (cond (eqb x 6) RVAE3
    (cond (eqb x 7) RVALE3
    (cond (eqb x 8) RIPAS2E1 RIPAS2LE1))))))))

-- "local, IS and OS"
unfoldable pub share_at : ℕ → Share
share_at x = cond (eqb x 0) Local (cond (eqb x 1) Inner Outer)

-- the values that its fields can have: Rt is 0 to 31
unfoldable pub operation_fits : OperationRecord → Bool
operation_fits o = ltb o.name 10 && ltb o.share 3 && is_flag o.nxs && is_flag o.tlbip && ltb o.rt 32

-- where a field does not fit, Rt counts as 255, which no word has room for
abbrev pub rt_in : OperationRecord → ℕ
rt_in o = cond (operation_fits o) (o.rt % 32) 255

unfoldable pub operation_in : OperationRecord → Operation
operation_in o = record { name = name_at o.name; share = share_at o.share; nxs = flag_in o.nxs; tlbip = flag_in o.tlbip; rt = rt_in o }

-- the operation, where each field fits
abbrev pub operation_from : OperationRecord → Result Operation Refusal
operation_from o = cond (operation_fits o) (Ok (operation_in o)) (Err Illegal)
