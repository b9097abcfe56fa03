use Rattle.std.proofs.Common.{ℕ, ◌*◌, ◌^◌, ◌≤◌, ◌≡◌, ◌%◌, subst, refl, arith, shl_exact, shl_lt}
use lib.Pow.{shl-shr, shr_le}
use Rattle.operands.proofs.granule.in_units.Goals as goal

pub returns : goal.returns
returns c =
    let n = c.args.number in
    let k = c.args.exponent in
    let exact : n * 2 ^ k % 2 ^ 64 ≡ n * 2 ^ k = shl_exact c.args.bits k 64 c.requires.0 (omega arith) in
    let more : n ≤ n * 2 ^ k = subst (λ (m : ℕ). m ≤ n * 2 ^ k) (shl-shr n k) (shr_le (n * 2 ^ k) k) in
    rw exact (refl, more, shl_lt c.args.bits k c.requires.0)
