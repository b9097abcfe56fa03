use Rattle.std.proofs.Common.{◌-◌, not, sym, ap, rules}
use Rattle.processor.proofs.Clash.{apart-agrees, mate-tells}
use Rattle.processor.proofs.board.clashes_below.Goals as goal

pub returns-then-board-q : goal.returns-then-board-q
returns-then-board-q c =
    let a = c.args in
    ap not (mate-tells a.board.inner a.board.outer a.p (c.loop-q.q - 1) (search rules) c.requires.1 c.if-board-q.true)

pub returns : goal.returns
returns c =
    let a = c.args in
    ap not (sym (apart-agrees a.board.inner a.board.outer a.p c.loop-q.q c.loop-q-test.false c.loop-q.invariant))
