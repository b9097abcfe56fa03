use Rattle.std.proofs.Common.{ℕ, ◌+◌, ◌*◌, ◌<◌, ◌≤◌, ◌≡◌, List, [], ◌∷◌, length, refl, sym, ap, subst, ◌∙◌, get_or, slice_index, arith}
use Rattle.laws.proofs.Chunked.{step-words}
use Rattle.laws.specs.Slots.{slots}
use Rattle.machine.specs.Answer.{value_of}
use Rattle.machine.specs.Execute.{executed_by, table_by, resolved_of}
use Rattle.machine.proofs.Running.{Running, running-on, running-end, list-shape}
use Rattle.running.proofs.running.run_steps.Goals as goal

pub loop-step-preserved : goal.loop-step-preserved
loop-step-preserved c =
    let a = c.args in
    let st = a.state.now in
    let l = a.list.now in
    let k = c.loop-step.step-index in
    let i : ℕ = 3 * k in
    let t = c.loop-step.table in
    let low : k < slots l = omega (arith, c.loop-step-test.true, c.as_chunks.ensures.front_len) in
    let words : get_or c.as_chunks.result.0.now k [] ≡ (get_or l i 0 ∷ get_or l (i + 1) 0 ∷ get_or l (i + 2) 0 ∷ []) =
    ap (λ (x : List (List ℕ)). get_or x k []) c.as_chunks.ensures.front ∙ step-words (slots l) k l low (omega arith) in
    let r = resolved_of st (get_or l i 0) (get_or l (i + 1) 0) (get_or l (i + 2) 0) in
    let known = ap (λ (w : List ℕ). resolved_of st (slice_index w 0) (slice_index w 1) (slice_index w 2)) words in
    let d = c.run_step-n.ensures.value in
    let s = (list-shape l c.requires.1).0 in
    let next : i + 3 ≡ 3 * (k + 1) = omega arith in
    subst (λ (j : ℕ). Running st l a.table.now c.run_step-n.new.table j (c.loop-step.n + c.run_step-n.result)) next
    (subst (λ (m : List ℕ). Running st l a.table.now m (i + 3) (c.loop-step.n + c.run_step-n.result)) (sym (c.run_step-n.ensures.table_after ∙ ap (λ x. table_by x t) known))
    (running-on st l a.table.now t i c.loop-step.n r c.run_step-n.result c.requires.0 c.requires.2 s (omega (arith, low)) c.loop-step.invariant refl
    (d.0 ∙ ap (λ x. value_of (executed_by x t)) known) d.1))

pub returns : goal.returns
returns c =
    let a = c.args in
    let s = (list-shape a.list.now c.requires.1).0 in
    let end : length a.list.now ≤ 3 * c.loop-step.step-index = omega (arith, s, c.loop-step-test.false, c.as_chunks.ensures.front_len) in
    let both = running-end a.state.now a.list.now a.table.now c.loop-step.table (3 * c.loop-step.step-index) c.loop-step.n end c.loop-step.invariant in
    record { value = both.0; table_after = both.1 }
