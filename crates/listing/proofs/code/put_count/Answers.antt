use Rattle.std.proofs.Common.{arith, lit≤, eq-eqb, ne_eqb}
use Rattle.machine.specs.Listing.{tail_of}
use Rattle.text.proofs.Decimal.{decimal-few}
use Rattle.text.proofs.Put.{and_then, put-length, put_as, put_none}
use Rattle.listing.proofs.code.put_count.Goals as goal

pub put_number-requires : goal.put_number-requires
put_number-requires c =
    let p = c.put_text.ensures.gains in
    omega (arith, c.requires, decimal-few c.args.left, p.low, put-length p)

pub returns-then-left-ne0-clause-gains : goal.returns-then-left-ne0-clause-gains
unfolding tail_of
returns-then-left-ne0-clause-gains c =
    put_as (and_then 25 1 (and_then 5 20 c.put_text.ensures.gains c.put_number.ensures.gains) c.put_byte.ensures.gains) (lit≤ tt)
    (simp (ne_eqb _ _ c.if-left-ne0.true))

pub returns-else-left-ne0-clause-gains : goal.returns-else-left-ne0-clause-gains
unfolding tail_of
returns-else-left-ne0-clause-gains c =
    put_as (put_none c.args.line.now.out.now c.args.line.now.len (omega (arith, c.requires))) (lit≤ tt) (simp (eq-eqb _ _ c.if-left-ne0.false))
