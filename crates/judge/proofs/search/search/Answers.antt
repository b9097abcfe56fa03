use Rattle.std.proofs.Common.{sym, refl, arith}
use Rattle.judge.proofs.Walk.{start-steps, past-step}
use Rattle.judge.proofs.search.search.Goals as goal

pub steps-init : goal.steps-init
steps-init c = (refl, start-steps _ _ _ _ _ _ _ _ _ _ _ _ c.bases.invariant c.requires c.bases-test.true c.entry_in-entry.ensures)

pub overflow_add-q : goal.overflow_add-q
overflow_add-q c =
    let it = past-step _ _ _ _ _ _ _ _ _ _ _ _ _ c.steps.invariant.1 c.steps-test.true (sym c.if-is_taken.ensures) (omega arith) in
    omega (arith, it.1)

pub bases-smaller : goal.bases-smaller
bases-smaller c =
    let it = past-step _ _ _ _ _ _ _ _ _ _ _ _ _ c.steps.invariant.1 c.steps-test.true (sym c.if-is_taken.ensures) (omega arith) in
    omega (arith, it.0, c.steps.invariant.0, c.steps.invariant.1.within)

pub bases-preserved : goal.bases-preserved
bases-preserved c = (past-step _ _ _ _ _ _ _ _ _ _ _ _ _ c.steps.invariant.1 c.steps-test.true (sym c.if-is_taken.ensures) (omega arith)).2
