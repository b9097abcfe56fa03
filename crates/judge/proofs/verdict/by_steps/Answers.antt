use Rattle.std.proofs.Common.{ℕ, ◌+◌, ◌-◌, ◌<◌, Some, None, refl, sym, ap, subst, ◌∙◌, arith, length-set}
use Rattle.std.specs.Result.{result_unwrap_or}
use Rattle.judge.proofs.Rounds.{word-zero, step-resolved, taken-work, taken-more, has_work, each-done, comes-before, ends-refused, ends-outside, ends-searches, ends-searched}
use Rattle.machine.proofs.Running.{list-shape}
use Rattle.steps.proofs.Holding.{comes-holds}
use Rattle.steps.proofs.Loops.{FirstBelow, step_work, Checking, checking-start, checking-more}
use Rattle.steps.specs.Steps.{work_at}
use Rattle.works.proofs.Reading.{nothing-holds}
use Rattle.works.specs.Held.{Holds}
use Rattle.judge.proofs.verdict.by_steps.Goals as goal
use Rattle.judge.proofs.verdict.by_steps.Goals.{then-i-gt0, else-i-gt0}

pub loop-i-init : goal.loop-i-init
loop-i-init c =
    let st = c.args.state in
    let company = c.args.target.company in
    let w = step_work st c.args.list.now in
    (word-zero, refl, λ (x : ℕ) (l : x < 0). absurd (omega arith), subst (Checking company w 0) (sym c.unchecked-checked.ensures) (checking-start company w))

pub resolve-requires : goal.resolve-requires
resolve-requires c =
    let st = c.args.state in
    let list = c.args.list.now in
    let l = c.loop-i in
    elim c.if-i-gt0.branch [
      | then-i-gt0 w ↦
          let b = l.i - 1 in
          let before = comes-before st list _ l.works b c.as_chunks.ensures.front (omega (arith, w.if-i-gt0.true)) (l.invariant.2 b (omega (arith, w.if-i-gt0.true))) in
          subst (Holds st c.read_after-read.result) (sym w.held-is) (comes-holds st _ _ (work_at l.works b) _ w.held_in-held.result before c.read_after-read.ensures w.held_in-held.ensures)
      | else-i-gt0 w ↦ subst (Holds st c.read_after-read.result) (sym w.held-is) (nothing-holds st c.read_after-read.result)
    ]

pub loop-i-preserved : goal.loop-i-preserved
loop-i-preserved c =
    let st = c.args.state in
    let steps = c.args.list.now in
    let l = c.loop-i in
    let company = c.args.target.company in
    let w = step_work st steps in
    let shape = list-shape steps c.requires.list in
    let resolved = step-resolved st steps _ l.i _ _ c.as_chunks.ensures.front (omega arith) c.read_after-read.ensures c.resolve.ensures in
    let taken = taken-work st steps l.i _ _ resolved (c.unwrap_or-work.ensures ∙ ap (result_unwrap_or c.resolve.result) c.no_work-blank.ensures) in (
      c.read_after-read.ensures,
      simp length-set l.invariant.1,
      taken-more st steps l.works l.i c.unwrap_or-work.result (omega (arith, l.invariant.1, shape)) taken l.invariant.2,
      subst (Checking company w (l.i + 1)) (sym c.with_step-checked.ensures) (checking-more company w l.i c.unwrap_or-work.result l.checked taken l.invariant.3),
    )

pub returns-in-Some : goal.returns-in-Some
returns-in-Some c =
    let a = c.args in
    let l = c.loop-i in
    ends-refused a.state a.target a.list.now l.works l.i c.in-Some.i c.requires l.invariant.2 (omega (arith, c.as_chunks.ensures.front_len))
    (subst (FirstBelow (has_work a.state a.list.now) l.i) c.in-Some.is l.invariant.3.refused)

pub returns-in-Some-outside : goal.returns-in-Some-outside
returns-in-Some-outside c =
    let a = c.args in
    let l = c.loop-i in
    let end = c.loop-i-test.false in
    let each = each-done a.state a.list.now l.works l.i l.checked.refused l.invariant.2 l.invariant.3.refused c.in_default.is in
    ends-outside a.state a.target a.list.now c.requires l.works l.invariant.1 l.checked l.i _ (omega arith) c.as_chunks.ensures.front_len each l.invariant.3 c.in-Some-outside.i c.in-Some-outside.is

pub search-requires : goal.search-requires
search-requires c =
    let a = c.args in
    let l = c.loop-i in
    let end = c.loop-i-test.false in
    let each = each-done a.state a.list.now l.works l.i l.checked.refused l.invariant.2 l.invariant.3.refused c.in_default.is in
    ends-searches a.state a.target a.list.now c.requires l.works l.invariant.1 l.checked l.i _ (omega arith) c.as_chunks.ensures.front_len each l.invariant.3 c.in_default-outside.is (omega arith) (omega arith) (omega arith) _ _ (omega arith) c.named_asid-asid.ensures c.searched_of-processors.ensures

pub returns-in-Some-search : goal.returns-in-Some-search
returns-in-Some-search c =
    let a = c.args in
    let l = c.loop-i in
    let end = c.loop-i-test.false in
    let each = each-done a.state a.list.now l.works l.i l.checked.refused l.invariant.2 l.invariant.3.refused c.in_default.is in
    ends-searched a.state a.target a.list.now c.requires l.works l.invariant.1 l.checked l.i _ (omega arith) c.as_chunks.ensures.front_len each l.invariant.3 c.in_default-outside.is (omega arith) (omega arith) (omega arith) _ _ (omega arith) c.named_asid-asid.ensures c.searched_of-processors.ensures
    _ (Some c.in-Some-search.entry) c.search.ensures c.in-Some-search.is

pub returns-in-None : goal.returns-in-None
returns-in-None c =
    let a = c.args in
    let l = c.loop-i in
    let end = c.loop-i-test.false in
    let each = each-done a.state a.list.now l.works l.i l.checked.refused l.invariant.2 l.invariant.3.refused c.in_default.is in
    ends-searched a.state a.target a.list.now c.requires l.works l.invariant.1 l.checked l.i _ (omega arith) c.as_chunks.ensures.front_len each l.invariant.3 c.in_default-outside.is (omega arith) (omega arith) (omega arith) _ _ (omega arith) c.named_asid-asid.ensures c.searched_of-processors.ensures
    _ None c.search.ensures c.in-None.is
