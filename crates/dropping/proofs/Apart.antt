-- What the end of its span says of a slot: one that lies apart from the range is not dropped, and an entry that is left is met.
use Prim.Native.Nat.{ℕ, ◌+◌, ◌-◌, ◌^◌, ◌<◌, ◌≤◌}
use mathlib.Core.Bool.{true, false}
use mathlib.Core.Path.{◌≡◌, sym, ◌∙◌}
use native.Mathlib.Omega.{arith}
use lib.Dec.{leb}
use borrow.Author.Tests.{leb-true, le-leb}
use Rattle.laws.proofs.Truth.{and_0, and-1, not_so, clash}
use Rattle.machine.proofs.Going.{going, drop-reads, drop-entry}
use Rattle.machine.specs.Entry.{span_of}
use Rattle.machine.specs.Goes.{is_met, drops}
use Rattle.machine.specs.Span.{meets_range}
use Rattle.machine.specs.Tag.{entry_at, is_entry}
use Rattle.machine.specs.declared.work.Work.{Work}
use Rattle.tags.proofs.Parts.{end_empty, end-some}
use Rattle.tags.specs.Ends.{end_of}

-- the end is one less than the span has addresses, if the slot reads as an entry
own-end : (base tag : ℕ) → is_entry base tag ≡ true → end_of tag ≡ 2 ^ span_of (entry_at 0 tag) - 1
own-end base tag reads = (end-some tag (λ (z : end_of tag ≡ 0). clash reads (end_empty base tag z))).1

-- what a slot that is dropped has in common with the range
met : (w : Work) (base tag out : ℕ) → drops w base tag out ≡ true → meets_range base (span_of (entry_at 0 tag)) w.first w.last ≡ true
unfolding entry_at
met w base tag out h = (going w (entry_at base tag) (sym (drop-entry w base tag out (drop-reads w base tag out h)) ∙ h)).met

-- it starts after the range ends
pub drop-above : (w : Work) (base tag out : ℕ) → w.last < base → drops w base tag out ≡ false
drop-above w base tag out n =
    not_so (drops w base tag out)
    (λ (h : drops w base tag out ≡ true). omega (arith, n, leb-true base w.last (and-1 (leb w.first _) (leb base w.last) (met w base tag out h))))

-- it ends before the range starts
pub drop-below : (w : Work) (base tag out : ℕ) → base + end_of tag < w.first → drops w base tag out ≡ false
drop-below w base tag out n =
    not_so (drops w base tag out)
    (λ (h : drops w base tag out ≡ true).
    let from = leb-true w.first (base + (2 ^ span_of (entry_at 0 tag) - 1)) (and_0 (leb w.first _) (leb base w.last) (met w base tag out h)) in
    omega (arith, n, own-end base tag (drop-reads w base tag out h), from))

-- an entry that does neither is met
pub end-met : (w : Work) (base tag : ℕ) → is_entry base tag ≡ true → w.first ≤ base + end_of tag → base ≤ w.last → is_met w (entry_at base tag) ≡ true
unfolding entry_at
end-met w base tag reads from to =
    let k : ℕ = span_of (entry_at 0 tag) in
    let start : w.first ≤ base + (2 ^ k - 1) = omega (arith, from, own-end base tag reads) in
    simp (le-leb w.first (base + (2 ^ k - 1)) start, le-leb base w.last to)
