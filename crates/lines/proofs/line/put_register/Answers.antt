use Rattle.std.proofs.Common.{arith, length-append}
use lib.Dec.{lit≤}
use borrow.Author.Tests.{ne_eqb}
use Rattle.text.proofs.Decimal.{decimal-two}
use Rattle.text.proofs.Put.{and_then, put-length, put_as, put_most}
use Rattle.lines.proofs.line.put_register.Goals as goal

pub put_number-requires : goal.put_number-requires
put_number-requires c =
    let p = c.put_text-2.ensures.gains in
    omega (arith, c.requires.0, decimal-two c.args.rt c.requires.1, p.low, put-length p)

pub returns-clause-gains : goal.returns-clause-gains
returns-clause-gains c =
    let two = decimal-two c.args.rt c.requires.1 in
    put_as (put_most 5 (and_then 3 20 c.put_text-2.ensures.gains c.put_number.ensures.gains) (simp length-append (omega arith))) (lit≤ tt) (simp (ne_eqb _ _ c.if-rt-eq31.false))
