use Rattle.std.proofs.Common.{arith}
use Rattle.text.proofs.Decimal.{length-myriads, put-myriads}
use Rattle.text.proofs.Put.{put-length}
use Rattle.text.proofs.line.Line.+put_number.Goals as goal

pub put_number-requires : goal.put_number-requires
put_number-requires t c = omega (arith, c.requires, length-myriads c.args.x c.if-x-lt10000.false c.ranges.x.fits)

pub put_four-requires : goal.put_four-requires
put_four-requires t c =
    let p = c.put_number.ensures.gains in
    omega (arith, c.requires, put-length p, p.end, length-myriads c.args.x c.if-x-lt10000.false c.ranges.x.fits)

pub returns-clause-gains : goal.returns-clause-gains
returns-clause-gains t c =
    put-myriads c.args.x c.if-x-lt10000.false c.ranges.x.fits c.put_number.ensures.gains c.put_four.ensures.gains
