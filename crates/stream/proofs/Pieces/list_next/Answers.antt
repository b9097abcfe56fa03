use Rattle.std.proofs.Common.{◌≡◌, ◌+◌, ◌-◌, ◌≤◌, arith, length-take-le}
use Rattle.stream.proofs.Owed.{mapped, moved-front, piece-moves}
use Rattle.stream.proofs.Pieces.list_next.Goals as goal

pub returns-clause-more : goal.returns-clause-more
returns-clause-more g c =
    let p = c.args.self.now in
    let got = c.in-Ok.ensures in
    let was = mapped _ c.list_words.result c.map_err.result c.in_ok-left.left c.map_err.ensures.cases c.map_err.ensures.variant c.in_ok-left.was in
    let lines = rw was at c.list_words.ensures.lines in
    let left = rw was at c.list_words.ensures.left in
    let n = p.held + c.in-Ok.read in
    let most : c.in_ok-left.left ≤ n = omega (arith, left, length-take-le n c.read_behind.new.code (omega (arith, got.bound, got.lengths))) in
    let sum : n - c.in_ok-left.left + c.in_ok-left.left ≡ n = omega (arith, most) in
    let front = moved-front c.read_behind.new.code (n - c.in_ok-left.left) n c.in_ok-left.left c.copy_within.ensures.after sum (omega (arith, got.bound, got.lengths)) in
    piece-moves (g.R.Read.remaining c.args.input.now) (g.R.Read.remaining c.read_behind.new.input)
    (g.W.Write.contents c.args.output.now) (g.W.Write.contents c.list_words.new.output)
    p.offset p.code c.read_behind.new.code c.copy_within.new.self p.held c.in-Ok.read c.in_ok-left.left c.in_ok-left.left
    (omega (arith, got.bound, got.lengths)) (omega (arith, c.if-read-eq0.false)) got.kept got.bytes lines left sum front
