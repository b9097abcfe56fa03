-- The tag of an entry and the entry that reads back from it: one is legal exactly if the other is there.
use Prim.Native.Nat.{ℕ, ◌≤◌}
use mathlib.Core.Bool.{Bool, true, false, cond, ◌&&◌}
use mathlib.Core.Path.{◌≡◌, refl, sym, ap, ◌∙◌}
use native.Mathlib.Omega.{arith}
use lib.Dec.{leb}
use borrow.Author.Tests.{leb-true, le-leb}
use Rattle.laws.proofs.Truth.{and_0, and-1, not_so, clash}
use Rattle.machine.proofs.Spans.{span-tg-most, span-level}
use Rattle.machine.proofs.Tags.{legal, company-tags, entry-back, written-reads, reads-written}
use Rattle.machine.specs.Entry.{is_legal}
use Rattle.machine.specs.Span.{is_level}
use Rattle.machine.specs.Tag.{Sized, tag_of, is_entry}
use Rattle.machine.specs.declared.entry.Entry.{Entry}
use Rattle.tags.proofs.Parts.{no-layout}
use Rattle.tags.specs.Places.{has_places, placed_tag}

pub has-places : (e : Entry) → has_places e ≡ true → (e.processor ≤ 7) × (e.granule ≤ 3) × (is_level e.level ≡ true)
unfolding has_places
has-places e h =
    let p = leb e.processor 7 in
    let g = leb e.granule 3 in
    let both = and_0 (p && g) (is_level e.level) h in
    (leb-true e.processor 7 (and_0 p g both), leb-true e.granule 3 (and-1 p g both), and-1 (p && g) (is_level e.level) h)

legal-places : (e : Entry) → is_legal e ≡ true → has_places e ≡ true
unfolding has_places
legal-places e h =
    let k = legal e h in
    simp (
      le-leb e.processor 7 k.processor,
      le-leb e.granule 3 (span-tg-most e.wide e.granule e.level k.span),
      span-level e.wide e.granule e.level k.span,
    )

pub legal-tag : (e : Entry) → is_legal e ≡ true → placed_tag e ≡ tag_of e
legal-tag e h = ap (λ (b : Bool). cond b (tag_of e) 0) (legal-places e h)

-- an entry with places is legal exactly if its tag reads as one
pub placed-reads : (e : Entry) → Sized e → has_places e ≡ true → is_entry e.base (tag_of e) ≡ is_legal e
placed-reads e z h = go (is_legal e) refl
  where
    own : is_entry e.base (tag_of e) ≡ true → is_legal e ≡ true
    own r = let k = has-places e h in ap is_legal (sym (entry-back e z k.0 k.1 k.2)) ∙ (reads-written e.base (tag_of e) r).1

    go : (b : Bool) → is_legal e ≡ b → is_entry e.base (tag_of e) ≡ b
    go true l = (written-reads e z l).0
    go false l = not_so (is_entry e.base (tag_of e)) (λ (r : is_entry e.base (tag_of e) ≡ true). clash (own r) l)

-- and one without is not, as 0 reads as none
pub unplaced-reads : (e : Entry) → has_places e ≡ false → is_entry e.base 0 ≡ is_legal e
unplaced-reads e h =
    no-layout e.base 0 (λ (z : ◌≡◌ {A = ℕ} 0 1). omega arith) ∙ sym (not_so (is_legal e) (λ (l : is_legal e ≡ true). clash (legal-places e l) h))

pub ruleset places = (placed-reads, unplaced-reads, company-tags)

-- what a proof of a legal entry's tag cites
pub ruleset legal_tag = (legal-tag)
