use Rattle.std.proofs.Common.{take, arith, length-take-le}
use Rattle.stream.proofs.Owed.{going-done, mapped-ok}
use Rattle.stream.proofs.list_stream.Goals as goal

pub returns-then-not-branch : goal.returns-then-not-branch
returns-then-not-branch g c =
    let s = c.args in
    let l = c.loop-turn in
    let kept = take l.pieces.held l.pieces.code in
    let long = length-take-le l.pieces.held l.pieces.code l.pieces.within in
    let end = rw c.if-not-branch.true at c.in_ok-list_next.ensures.end in
    mapped-ok c.write_tail.result c.map_err.result c.map_err.ensures.variant
    (λ p. going-done (g.R.Read.remaining s.input.now) (g.R.Read.remaining l.input) (g.W.Write.contents s.output.now) (g.W.Write.contents l.output)
    (g.W.Write.contents c.write_tail.new.output) s.at l.pieces.offset kept l._turn l.invariant.going end.0 (omega (arith, long, l.pieces.few))
    (rw long p))
    (rw (end.1, end.2) at c.write_tail.ensures)
