use Rattle.processor.proofs.Clash.{Apart}
use Rattle.processor.proofs.board.clashes_below.Given as goal

abbrev pub invariant-loop-q : goal.invariant-loop-q
invariant-loop-q l = Apart l.board.inner l.p l.q
