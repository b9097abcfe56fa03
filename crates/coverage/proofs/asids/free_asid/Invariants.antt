use Rattle.coverage.proofs.Covering.{InBelow}
use Rattle.coverage.proofs.asids.free_asid.Given as goal

abbrev pub invariant-loop-asid : goal.invariant-loop-asid
invariant-loop-asid l = InBelow l.used l.asid
