use Rattle.std.proofs.Common.{List, ℕ, length, sym, subst, ◌∙◌, arith, length-take-le, length-take, length-drop}
use Rattle.listing.proofs.Longest.{progress}
use Rattle.stream.specs.Whole.{Owes}
use Rattle.stream.proofs.Owed.{owes-less, owes-none, lines-short, lines-listed, left-listed}
use Rattle.machine.specs.Listing.{lines_of}
use Rattle.stream.proofs.list_words.Goals as goal

pub slice_bounds-write_all-end-in-loop-rest : goal.slice_bounds-write_all-end-in-loop-rest
slice_bounds-write_all-end-in-loop-rest g c =
    let l = c.loop-rest in
    let p = progress l.at l.rest.now (length l.text) c.list_code-listed.ensures.value c.loop-rest-test.true (omega (arith, c.requires, l.invariant.text)) in
    sym (length-take-le _ _ (omega (arith, p.fits, c.list_code-listed.auto.out)))

pub loop-rest-preserved : goal.loop-rest-preserved
loop-rest-preserved g c =
    let s = c.args in
    let l = c.loop-rest in
    let listed = c.list_code-listed.ensures in
    let e = lines-listed l.at l.rest.now l.text listed.value listed.out_after in
    record {
      owed =
          owes-less (g.W.Write.contents s.output.now) (g.W.Write.contents l.output) (g.W.Write.contents c.write_all.new.self) (lines_of s.at s.code.now) _ _
          (subst (λ (x : List ℕ). Owes (g.W.Write.contents s.output.now) (g.W.Write.contents l.output) (lines_of s.at s.code.now) x) e l.invariant.owed)
          c.in_ok-write_all.ensures.bytes;
      left = left-listed l.at l.rest.now l.text listed.value listed.out_after ∙ l.invariant.left;
      within = rw (length-take, length-drop) (omega (arith, l.invariant.within));
      text = c.list_code-listed.auto.out ∙ l.invariant.text;
    }

pub returns-clause-lines : goal.returns-clause-lines
returns-clause-lines g c =
    let s = c.args in
    let l = c.loop-rest in
    owes-none (g.W.Write.contents s.output.now) (g.W.Write.contents l.output) (lines_of s.at s.code.now)
    (subst (λ (x : List ℕ). Owes (g.W.Write.contents s.output.now) (g.W.Write.contents l.output) (lines_of s.at s.code.now) x)
    (lines-short l.at l.rest.now (omega (arith, c.loop-rest-test.false))) l.invariant.owed)
