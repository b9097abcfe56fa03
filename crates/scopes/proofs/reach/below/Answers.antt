use Rattle.std.proofs.Common.{◌<◌, ◌^◌, sym, arith}
use Rattle.std.proofs.Math.Nat.{mod-eq_of_lt}
use Rattle.std.proofs.Math.Pow.{pow_mono}
use Rattle.scopes.proofs.reach.below.Goals as goal

pub returns : goal.returns
returns c =
    let l : c.args.eight < 2 ^ c.args.count = omega (arith, c.requires, pow_mono {i = 8} {j = c.args.count} (omega arith)) in
    sym (mod-eq_of_lt l)
