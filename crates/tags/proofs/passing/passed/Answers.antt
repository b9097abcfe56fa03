use Rattle.std.proofs.Common.{◌≡◌, ◌+◌, ◌*◌, ◌/◌, List, [], ℕ, Bool, length, drop, get_or, sym, ap, ◌∙◌, arith, length-drop}
use Rattle.std.proofs.lemmas.List.{drop-drop}
use Rattle.std.specs.List.{position, position_or_len}
use Rattle.std.specs.Option.{unwrap_or}
use Rattle.std.specs.Prelude.{Option}
use Rattle.laws.specs.Chunks.{on_slot, has_key}
use Rattle.tags.proofs.Eights.{eight-at, found-there, found-behind, or-all}
use Rattle.tags.proofs.passing.passed.Goals as goal

pub returns-in-Some-clause-value : goal.returns-in-Some-clause-value
returns-in-Some-clause-value c =
    let test : List ℕ → Bool = on_slot (has_key c.args.mask c.args.key) in
    let xs = c.args.slots.now in
    let n = c.loop-n.n in
    let eight = sym (eight-at (length xs / 8) n xs (omega (arith, c.loop-n-test.true, c.as_chunks.ensures.front_len))) in
    let here = ap (position test) eight ∙ ap (λ (ys : List (List (List ℕ))). position test (get_or ys n [])) (sym c.as_chunks.ensures.front) ∙ sym c.first_with.ensures ∙ c.in-Some.is in
    sym (c.loop-n.invariant ∙ ap (λ (k : ℕ). 8 * n + k) (found-there test 8 c.in-Some.k (drop (8 * n) xs) here))

pub loop-n-preserved : goal.loop-n-preserved
loop-n-preserved c =
    let test : List ℕ → Bool = on_slot (has_key c.args.mask c.args.key) in
    let xs = c.args.slots.now in
    let n = c.loop-n.n in
    let eight = sym (eight-at (length xs / 8) n xs (omega (arith, c.loop-n-test.true, c.as_chunks.ensures.front_len))) in
    let here = ap (position test) eight ∙ ap (λ (ys : List (List (List ℕ))). position test (get_or ys n [])) (sym c.as_chunks.ensures.front) ∙ sym c.first_with.ensures ∙ c.in_default.is in
    let more = found-behind test 8 (drop (8 * n) xs) (omega (arith, c.loop-n-test.true, c.as_chunks.ensures.front_len, length-drop (8 * n) xs)) here in
    let e : 8 * n + 8 ≡ 8 * (n + 1) = omega arith in
    let next = ap (position_or_len test) (drop-drop 8 (8 * n) xs ∙ ap (λ (j : ℕ). drop j xs) e) in
    omega (arith, c.loop-n.invariant, more, next)

pub returns-clause-value : goal.returns-clause-value
returns-clause-value c =
    let test : List ℕ → Bool = on_slot (has_key c.args.mask c.args.key) in
    let xs = c.args.slots.now in
    let n = c.loop-n.n in
    let rest = c.as_chunks.result.1.now in
    let all = c.unwrap_or.ensures ∙ ap (λ (o : Option ℕ). unwrap_or o (length rest)) c.first_with-2.ensures ∙ or-all test rest in
    let end : 8 * n ≡ length xs / 8 * 8 = omega (arith, c.loop-n.auto.n-end, c.loop-n-test.false, c.as_chunks.ensures.front_len) in
    let behind = ap (λ (j : ℕ). position_or_len test (drop j xs)) end ∙ sym (ap (position_or_len test) c.as_chunks.ensures.back) in
    omega (arith, c.loop-n.invariant, all, behind, end, c.as_chunks.ensures.front_len)
