use Rattle.std.proofs.Common.{◌≡◌, true}
use Rattle.laws.specs.Every.{every}
use Rattle.machine.specs.State.{agree}
use Rattle.processor.proofs.Clash.{Under}
use Rattle.processor.proofs.board.domains_clash.Given as goal

abbrev pub invariant-loop-p : goal.invariant-loop-p
invariant-loop-p l = Under l.board.inner l.high l.p × (true ≡ every (λ q. every (agree l.board q) q) l.p)
