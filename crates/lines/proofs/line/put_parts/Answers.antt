use Rattle.std.proofs.Common.{arith}
use Rattle.machine.specs.Listing.{line_of}
use Rattle.text.proofs.Decimal.{decimal-few}
use Rattle.text.proofs.Put.{and_then}
use Rattle.lines.proofs.line.put_parts.Goals as goal

pub put_number-requires : goal.put_number-requires
put_number-requires c = omega (arith, c.requires.0, decimal-few c.args.at)

pub returns-clause-gains : goal.returns-clause-gains
unfolding line_of
returns-clause-gains c =
    let number = c.put_number.ensures.gains in
    let kind = c.put_kind.ensures.gains in
    let name = c.put_name.ensures.gains in
    let share = c.put_share.ensures.gains in
    let nxs = c.put_nxs.ensures.gains in
    let register = c.put_register.ensures.gains in
    let second = c.put_second.ensures.gains in
    and_then 51 1
    (and_then 46 5
    (and_then 41 5 (and_then 38 3 (and_then 36 2 (and_then 27 9 (and_then 20 7 number kind) name) share) nxs) register)
    second)
    c.put_byte.ensures.gains
