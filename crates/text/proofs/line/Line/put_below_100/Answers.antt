use Rattle.std.proofs.Common.{length, ap, arith}
use Rattle.text.proofs.Decimal.{decimal-last, decimal-pair, put_last, put-pair}
use Rattle.text.proofs.line.Line.put_below_100.Goals as goal

pub put_byte-requires : goal.put_byte-requires
put_byte-requires c = omega (arith, c.requires.1, ap length (decimal-last c.args.x c.if-x-lt10.true))

pub returns-then-x-lt10-clause-gains : goal.returns-then-x-lt10-clause-gains
returns-then-x-lt10-clause-gains c = put_last c.args.x c.if-x-lt10.true c.put_byte.ensures.gains

pub put_two-requires : goal.put_two-requires
put_two-requires c = (c.requires.0, omega (arith, c.requires.1, ap length (decimal-pair c.args.x c.if-x-lt10.false c.requires.0)))

pub returns-clause-gains : goal.returns-clause-gains
returns-clause-gains c = put-pair c.args.x c.if-x-lt10.false c.requires.0 c.put_two.ensures.gains
