-- Slots that lie elsewhere do not translate an address.
use Prim.Native.Nat.{ℕ, ◌+◌, ◌*◌, ◌/◌, ◌%◌, ◌^◌, ◌<◌, ◌≤◌}
use mathlib.Core.Bool.{Bool, true, false, ◌&&◌, ◌||◌, not}
use mathlib.Core.Path.{◌≡◌, refl, sym, ap, ◌∙◌}
use native.Mathlib.Nat.{add-mul, one-mul, div-eq_of_lt-le}
use native.Mathlib.Omega.{arith}
use lib.Dec.{eqb}
use borrow.Author.Tests.{eqb-true, eqb-false}
use Rattle.laws.proofs.Aligned.{whole}
use Rattle.laws.proofs.Truth.{and_0, and-1, not_so}
use Rattle.laws.specs.Bits.{bits}
use Rattle.laws.specs.Mask.{bit_of}
use Rattle.machine.proofs.Found.{match-empty, match-other, match-own}
use Rattle.machine.proofs.Spans.{in-span}
use Rattle.machine.proofs.Tags.{entry-low}
use Rattle.machine.specs.Entry.{has_asids, span_of}
use Rattle.machine.specs.Span.{in_span}
use Rattle.machine.specs.Table.{holds_address, matches}
use Rattle.machine.specs.Tag.{layout, company_at, entry_at, is_entry}
use Rattle.tags.proofs.Parts.{entry-legal}
use Rattle.tables.proofs.Masked.{masked, wanted, leaf-wanted}

-- a slot reads as an entry that holds the address
abbrev pub holds : ℕ → ℕ → ℕ → ℕ → ℕ → Bool
holds own asid address base tag = is_entry base tag && holds_address own asid address (entry_at base tag)

-- and only a leaf of the own processor does
pub hold-leaf : (own asid address base tag : ℕ) → holds own asid address base tag ≡ true → (tag / 2 ^ 49 % 2 ≡ 1) × (tag / 2 ^ 51 ≡ own)
unfolding holds_address entry_at
hold-leaf own asid address base tag h =
    let e = entry_at base tag in
    let l = bit_of tag 49 in
    let p = eqb (bits 53 51 tag) own in
    let i = in_span base (span_of e) address in
    let a = eqb e.asid asid || e.global || not (has_asids e.company) in
    let reads = and_0 (is_entry base tag) _ h in
    let both : (l && p) ≡ true = and_0 (l && p) i (and_0 (l && p && i) a (and-1 (is_entry base tag) (l && p && i && a) h)) in
    let own_is : bits 53 51 tag ≡ own = eqb-true (bits 53 51 tag) own (and-1 l p both) in
    (eqb-true (tag / 2 ^ 49 % 2) 1 (and_0 l p both), omega (arith, own_is, entry-low base tag reads))

-- with the key it matches exactly then
pub match-key : (key own asid address base tag out : ℕ) → key % 2 ^ 4 ≡ layout → key < 2 ^ 26 → tag % 2 ^ 26 ≡ key →
    holds own asid address base tag ≡ matches (company_at key) own asid address base tag out
match-key key own asid address base tag out hk hl e = go (is_entry base tag) refl
  where
    go : (b : Bool) → is_entry base tag ≡ b → (b && holds_address own asid address (entry_at base tag)) ≡ matches (company_at key) own asid address base tag out
    go true h = sym (match-own key own asid address base tag out hk hl e h)
    go false h = sym (match-empty (company_at key) own asid address base tag out h)

-- and without the masked part that is wanted it does not
pub match-elsewhere : (key own asid address base tag out : ℕ) → key % 2 ^ 4 ≡ layout → key < 2 ^ 26 → (masked tag ≡ wanted key own → ⊥) →
    matches (company_at key) own asid address base tag out ≡ false
match-elsewhere key own asid address base tag out hk hl d = go (eqb (tag % 2 ^ 26) key) refl
  where
    go : (b : Bool) → eqb (tag % 2 ^ 26) key ≡ b → matches (company_at key) own asid address base tag out ≡ false
    go true t =
        let e = eqb-true (tag % 2 ^ 26) key t in
        sym (match-key key own asid address base tag out hk hl e)
        ∙ not_so (holds own asid address base tag) (λ (h : holds own asid address base tag ≡ true).
        let (leaf, processor) = hold-leaf own asid address base tag h in
        d (leaf-wanted key own tag (entry-low base tag (and_0 (is_entry base tag) _ h)) e leaf processor))
    go false n = match-other key own asid address base tag out hk hl (eqb-false (tag % 2 ^ 26) key n)

pub hold-empty : (own asid address base tag : ℕ) → is_entry base tag ≡ false → holds own asid address base tag ≡ false
hold-empty own asid address base tag h = ap (λ (b : Bool). b && holds_address own asid address (entry_at base tag)) h

pub hold-entry : (own asid address base tag : ℕ) → is_entry base tag ≡ true → holds own asid address base tag ≡ holds_address own asid address (entry_at base tag)
hold-entry own asid address base tag h = ap (λ (b : Bool). b && holds_address own asid address (entry_at base tag)) h

-- the slot of another span of its size does not
pub hold-apart : (own asid address base tag k : ℕ) → k ≡ span_of (entry_at 0 tag) → (base / 2 ^ k ≡ address / 2 ^ k → ⊥) → holds own asid address base tag ≡ false
unfolding holds_address entry_at
hold-apart own asid address base tag k s d =
    not_so (holds own asid address base tag)
    (λ (h : holds own asid address base tag ≡ true).
    let e = entry_at base tag in
    let l = e.leaf in
    let p = eqb (bits 53 51 tag) own in
    let i = in_span base (span_of e) address in
    let a = eqb e.asid asid || e.global || not (has_asids e.company) in
    let reads = and_0 (is_entry base tag) _ h in
    let inside : in_span base k address ≡ true = ap (λ (j : ℕ). in_span base j address) s ∙ and-1 (l && p) i (and_0 (l && p && i) a (and-1 (is_entry base tag) (l && p && i && a) h)) in
    let b : base ≡ base / 2 ^ k * 2 ^ k = whole base k (ap (λ (j : ℕ). base % 2 ^ j) s ∙ (entry-legal base tag reads).multiple) in
    let (from, to) = in-span base k address inside in
    let low : base / 2 ^ k * 2 ^ k ≤ address = omega (arith, b, from) in
    let high : address < (base / 2 ^ k + 1) * 2 ^ k = omega (arith, b, to, add-mul (base / 2 ^ k) 1 (2 ^ k), one-mul (2 ^ k)) in
    d (sym (div-eq_of_lt-le (2 ^ k) low high)))
