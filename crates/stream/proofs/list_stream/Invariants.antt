use Rattle.std.proofs.Common.{take}
use Rattle.stream.proofs.Owed.{Going}
use Rattle.stream.proofs.list_stream.Given as goal

abbrev pub invariant-loop-turn : goal.invariant-loop-turn
invariant-loop-turn g l = record {
  going : Going (g.R.Read.remaining l.fn.input) (g.R.Read.remaining l.input) (g.W.Write.contents l.fn.output) (g.W.Write.contents l.output)
      l.fn.at l.pieces.offset (take l.pieces.held l.pieces.code) l._turn;
}
