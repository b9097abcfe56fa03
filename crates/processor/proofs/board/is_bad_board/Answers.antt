use Rattle.std.proofs.Common.{◌≡◌, ℕ, List, true, get_or, length, not, Fits, w8, sym, ap, ◌∙◌, ◌<◌, rules}
use borrow.Author.Tests.{eqb-true, le-ltb, lt-leb}
use Rattle.laws.specs.Every.{every}
use Rattle.machine.proofs.States.{domains-half}
use Rattle.machine.specs.State.{agree_by, domains_agree, bad_board}
use Rattle.processor.specs.Domains.{number_of}
use Rattle.processor.proofs.Number.{number_same}
use Rattle.processor.proofs.One.{one-agrees, same-agrees}
use Rattle.processor.proofs.board.is_bad_board.Goals as goal
use Rattle.processor.proofs.board.is_bad_board.Goals.{then-is_one_domain-via-then-is_one_domain, then-is_one_domain-via-else-is_one_domain+then-are_same}

pub returns-then-is_one_domain : goal.returns-then-is_one_domain
unfolding bad_board domains_agree
returns-then-is_one_domain c =
    let b = c.args.board in
    let l : length b.inner ≡ 8 = search rules in
    let m : length b.outer ≡ 8 = search rules in
    let inner : (k : ℕ) → get_or b.inner k 0 < 256 = λ (k : ℕ). (let f : Fits w8 (get_or b.inner k 0) = search rules in f.fits) in
    let outer : (k : ℕ) → get_or b.outer k 0 < 256 = λ (k : ℕ). (let f : Fits w8 (get_or b.outer k 0) = search rules in f.fits) in
    let agree : every (λ p. every (agree_by b.inner b.outer p) b.count) b.count ≡ true =
    elim c.then-is_one_domain.branch [
      | then-is_one_domain-via-then-is_one_domain w ↦ one-agrees b.inner b.outer b.count c.if-board-gt8.false (sym w.if-is_one_domain.ensures)
      | then-is_one_domain-via-else-is_one_domain+then-are_same w ↦
          (let numbers = eqb-true (number_of b.inner) (number_of b.outer) (sym w.if-are_same.ensures) in
          let same = number_same b.inner b.outer (l ∙ sym m) inner outer numbers in
          ap (λ (d : List ℕ). every (λ p. every (agree_by b.inner d p) b.count) b.count) (sym same) ∙ same-agrees b.inner b.count)
    ] in
    simp (agree, lt-leb _ _ c.if-board.false, le-ltb _ _ c.if-board-gt8.false, le-ltb _ _ c.if-board-lt1.false)

pub returns : goal.returns
unfolding bad_board domains_agree
returns c =
    let b = c.args.board in
    simp (c.domains_clash.ensures ∙ ap not (domains-half b.inner b.outer b.count), lt-leb _ _ c.if-board.false, le-ltb _ _ c.if-board-gt8.false, le-ltb _ _ c.if-board-lt1.false)
