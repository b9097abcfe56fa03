use Rattle.std.proofs.Common.{◌≡◌, ◌+◌, ◌*◌, ◌/◌, ◌%◌, ◌^◌, ◌<◌, eqb, ℕ, List, [], true, slice_index_or, refl, ap, ◌∙◌, mod-lt, arith}
use borrow.Author.Tests.{eqb-true}
use Rattle.tags.specs.Ends.{end_in, end_at}
use Rattle.laws.proofs.Every.{at}
use Rattle.laws.specs.Every.{every}
use Rattle.machine.specs.Span.{exponent_at}
use Rattle.tags.specs.declared.end.TheConstants.{ENDS}
use Rattle.tags.proofs.end.end_at.Goals as goal

abbrev end : ℕ → ℕ → ℕ
end g x = slice_index_or (slice_index_or {A = List ℕ} ENDS g []) x 0

-- each of the 64 is the end of its place, by a test that is computed
rows : every (λ (g : ℕ). every (λ (x : ℕ). eqb (end g x) (end_in (g * 16 + x))) 16) 4 ≡ true
unfolding every end_in end_at exponent_at
rows = refl

at-place : (g x : ℕ) → g < 4 → x < 16 → end g x ≡ end_in (g * 16 + x)
at-place g x hg hx =
    eqb-true (end g x) (end_in (g * 16 + x))
    (at (λ (y : ℕ). eqb (end g y) (end_in (g * 16 + y))) 16 (at (λ (h : ℕ). every (λ (y : ℕ). eqb (end h y) (end_in (h * 16 + y))) 16) 4 rows g hg) x hx)

pub returns : goal.returns
returns c =
    let t = c.args.tag in
    ap (λ (g : ℕ). end g (t / 2 ^ 45 % 16)) c.requires ∙ at-place (t / 2 ^ 26 % 4) (t / 2 ^ 45 % 16) (mod-lt (t / 2 ^ 26) (omega arith)) (mod-lt (t / 2 ^ 45) (omega arith))
