use Rattle.std.proofs.Common.{◌≡◌, ℕ, ◌+◌, ◌<◌, ◌≤◌, Bool, true, false, not, List, get_or, sym, ap, ◌∙◌, arith}
use borrow.Author.Tests.{not-true, not-false}
use Rattle.laws.proofs.Every.{at, every_more}
use Rattle.laws.proofs.Truth.{not_so, clash}
use Rattle.laws.specs.Every.{every}
use Rattle.machine.specs.State.{agree_by}
use Rattle.processor.proofs.Clash.{Under, under_first, under_more, above-agrees, first-agrees}
use Rattle.processor.proofs.board.domains_clash.Goals as goal
use Rattle.processor.proofs.board.domains_clash.Goals.{then-high-domain, else-high-domain+else-clashes_below}

pub loop-p-init : goal.loop-p-init
loop-p-init c = (under_first c.args.board.inner, first-agrees c.args.board.inner c.args.board.outer)

pub returns-then-clashes_below : goal.returns-then-clashes_below
returns-then-clashes_below c =
    let a = c.args in
    let p = c.loop-p.p in
    let f : ℕ → Bool = λ (q : ℕ). every (agree_by a.board.inner a.board.outer q) q in
    let clashes : f p ≡ false = not-true _ (sym c.if-clashes_below.ensures) in
    ap not (sym (not_so (every f a.board.count) (λ (h : every f a.board.count ≡ true). clash (at f a.board.count h p c.loop-p-test.true) clashes)))

pub loop-p-preserved : goal.loop-p-preserved
loop-p-preserved c =
    let turn = c.loop-p in
    let inner : List ℕ = c.args.board.inner in
    let outer : List ℕ = c.args.board.outer in
    let f : ℕ → Bool = λ (q : ℕ). every (agree_by inner outer q) q in
    let step : Under inner c.if-high-domain.high (turn.p + 1) × (f turn.p ≡ true) =
    elim c.if-high-domain.branch [
      | then-high-domain w ↦
          (let next : c.if-high-domain.high ≡ get_or inner turn.p 0 = w.high-is in
          let up : turn.high < get_or inner turn.p 0 = w.if-high-domain.true in
          (under_more inner turn.high c.if-high-domain.high turn.p (omega (arith, next, up)) (omega (arith, next)) turn.invariant.0, above-agrees inner outer turn.high turn.p turn.invariant.0 up))
      | else-high-domain+else-clashes_below w ↦
          (let next : c.if-high-domain.high ≡ turn.high = w.high-is in
          let most : get_or inner turn.p 0 ≤ turn.high = w.if-high-domain.false in
          (under_more inner turn.high c.if-high-domain.high turn.p (omega (arith, next)) (omega (arith, next, most)) turn.invariant.0, not-false _ (sym w.clashes_below.ensures ∙ w.if-clashes_below.false)))
    ] in
    (step.0, every_more f turn.p true true (sym step.1) turn.invariant.1)
