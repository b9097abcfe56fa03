use Rattle.std.proofs.Common.{ℕ, ◌<◌, ◌≡◌, false}
use Rattle.coverage.specs.Processors.{is_shared}
use Rattle.coverage.proofs.processors.lead_of.Given as goal

abbrev pub invariant-loop-p : goal.invariant-loop-p
invariant-loop-p l = (p : ℕ) → p < l.p → is_shared l.processors l.common p ≡ false
