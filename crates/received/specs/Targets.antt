-- The target that C's record stands for.
use Rattle.std.specs.Prelude.{ℕ, ◌%◌, Bool, cond, ◌&&◌, ltb, Some, None}
use Rattle.machine.specs.declared.judge.Target.{Target}
use Rattle.received.specs.Numbers.{is_flag, flag_in}
use Rattle.received.specs.Entries.{company_fits, company_in}
use Rattle.received.specs.declared.target.TargetRecord.{TargetRecord}

-- the values that its fields can have
unfoldable pub target_fits : TargetRecord → Bool
target_fits t =
    company_fits t.company
    && (ltb t.granule 256 && ltb t.asid 65536)
    && (is_flag t.wide && is_flag t.one && is_flag t.leaves)

-- "a non-empty set of existing processors": where a field does not fit, the set counts as empty
abbrev pub processors_in : TargetRecord → ℕ
processors_in t = cond (target_fits t) t.processors 0

unfoldable pub target_in : TargetRecord → Target
target_in t = record {
  company = company_in t.company;
  wide = flag_in t.wide;
  granule = t.granule % 256;
  asid = cond (flag_in t.one) (Some (t.asid % 65536)) None;
  leaves = flag_in t.leaves;
  processors = processors_in t;
  first = t.first;
  last = t.last;
}
