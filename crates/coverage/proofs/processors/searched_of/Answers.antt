use Rattle.std.proofs.Common.{ℕ, ◌+◌, ◌-◌, ◌*◌, ◌≤◌, ap, ◌∙◌, arith, rules}
use Rattle.laws.proofs.Mask.{mask-none, mask-down, mask_fits, mask_end}
use Rattle.coverage.specs.Processors.{searched_of}
use Rattle.coverage.proofs.processors.searched_of.Goals as goal

pub loop-p-init : goal.loop-p-init
loop-p-init c = (search rules, mask-none _ _)

pub loop-p-preserved : goal.loop-p-preserved
loop-p-preserved c =
    let l = c.loop-p in
    let e = ap (λ (x : ℕ). x + 2 * l.searched) c.flag.ensures.0 ∙ mask-down _ l.p 8 _ _ c.loop-p-test.true l.auto.p c.is_searched.ensures l.invariant.1 in
    let n : 8 - (l.p - 1) ≤ 8 = omega arith in
    (mask_fits _ _ _ 8 _ e n, e)

pub returns : goal.returns
unfolding searched_of
returns c = mask_end _ _ 8 _ c.loop-p.invariant.1 c.loop-p-test.false
