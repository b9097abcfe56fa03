use Rattle.std.proofs.Common.{arith}
use Rattle.text.proofs.Decimal.{length-hundreds, put-hundreds}
use Rattle.text.proofs.Put.{put-length}
use Rattle.text.proofs.line.Line.put_small.Goals as goal

pub put_below_100-requires-2 : goal.put_below_100-requires-2
put_below_100-requires-2 c = omega (arith, c.requires.0, c.requires.1, length-hundreds c.args.x c.if-x-lt100.false c.ranges.x.fits)

pub put_two-requires : goal.put_two-requires
put_two-requires c =
    let p = c.put_below_100-2.ensures.gains in
    omega (arith, c.requires.1, put-length p, p.end, length-hundreds c.args.x c.if-x-lt100.false c.ranges.x.fits)

pub returns-clause-gains : goal.returns-clause-gains
returns-clause-gains c =
    put-hundreds c.args.x c.if-x-lt100.false c.ranges.x.fits c.put_below_100-2.ensures.gains c.put_two.ensures.gains
