-- What stands in a base and a tag, part by part: each part that breaks a rule makes the slot empty, and all parts together make it an entry.
use Prim.Native.Nat.{ℕ, ◌+◌, ◌*◌, ◌-◌, ◌/◌, ◌%◌, ◌^◌, ◌<◌, ◌≤◌}
use mathlib.Core.Bool.{Bool, true, false, cond, not, ◌&&◌, ◌||◌}
use mathlib.Core.Path.{◌≡◌, refl, sym, ap, ap₂, ◌∙◌}
use native.Mathlib.Nat.{mod-lt, div-div-eq-div-mul}
use native.Mathlib.Decide.{ℕ_discrete}
use native.Mathlib.Omega.{arith}
use lib.Bits.{bit_and, and_mask}
use lib.Dec.{eqb, ltb, leb}
use lib.IntN.{ℤ, pos, negsuc, ◌-ℤ◌}
use lib.Pow.{pow_mono}
use borrow.Author.Tests.{leb-true, ltb-true, le-leb, eq-eqb, lt-ltb, ne_eqb}
use Rattle.laws.proofs.Truth.{and_0, and-1, not_so, clash}
use Rattle.laws.specs.Bits.{bits}
use Rattle.laws.specs.Mask.{bit_of}
use Rattle.machine.proofs.Spans.{span-tg, span-most}
use Rattle.machine.proofs.Tags.{Legal, legal, height-there, tag-whole, reads-written, entry-layout, entry-low}
use Rattle.machine.specs.Entry.{is_company, has_asids, is_placed, in_reach, span_of, is_legal}
use Rattle.machine.specs.Span.{is_level, exponent_at, exponent_of, has_span}
use Rattle.machine.specs.Tag.{layout, tag_of, company_at, entry_at, is_entry}
use Rattle.tags.specs.Ends.{span_in, end_at, end_in, end_of}
use Rattle.tags.specs.Rest.{is_reach, is_rest}

-- the span that stands in a tag, by its numbers
pub span-numbers : (tag : ℕ) → exponent_at (bit_of tag 45) (bits 27 26 tag) (bits 48 46 tag) ≡ span_of (entry_at 0 tag)
unfolding entry_at exponent_of
span-numbers tag = ap (exponent_at (bit_of tag 45) (bits 27 26 tag)) (sym (height-there (bits 48 46 tag) (mod-lt (tag / 2 ^ 46) (omega arith))))

-- the same by the place in a tag that height and width share
pub span-in : (tag : ℕ) → span_in (bits 27 26 tag) (bits 48 45 tag) ≡ span_of (entry_at 0 tag)
span-in tag =
    let x : ℕ = bits 48 45 tag in
    let wide : x % 2 ≡ tag / 2 ^ 45 % 2 = omega arith in
    let height : x / 2 ≡ bits 48 46 tag = halved (tag / 2 ^ 45) ∙ ap (λ (q : ℕ). q % 8) (div-div-eq-div-mul tag (2 ^ 45) 2) in
    ap (λ (b : ℕ). exponent_at (eqb b 1) (bits 27 26 tag) (x / 2)) wide
    ∙ ap (λ (h : ℕ). exponent_at (bit_of tag 45) (bits 27 26 tag) h) height
    ∙ span-numbers tag
  where
    halved : (t : ℕ) → t % 16 / 2 ≡ t / 2 % 8
    halved t = omega arith

-- no span is of one address
span-some : (tag : ℕ) → 1 ≤ span_of (entry_at 0 tag)
unfolding exponent_at
span-some tag = omega (arith, span-numbers tag)

-- the end of the span that stands in a tag, by its place and by its span
pub end-place : (tag : ℕ) → 1 ≤ bits 27 26 tag → end_of tag ≡ end_at (bits 27 26 tag) (bits 48 45 tag)
unfolding end_in
end-place tag some =
    let g : ℕ = bits 27 26 tag in
    let x : ℕ = bits 48 45 tag in
    let small : x < 16 = mod-lt (tag / 2 ^ 45) (omega arith) in
    let above : (g * 16 + x) / 16 ≡ g = omega arith in
    let below : (g * 16 + x) % 16 ≡ x = omega arith in
    ap₂ (λ (a b : ℕ). cond (leb 1 a) (end_at a b) 0) above below ∙ ap (λ (b : Bool). cond b (end_at g x) 0) (le-leb 1 g some)

end-parts : (tag : ℕ) →
    end_of tag ≡ cond (leb 1 (bits 27 26 tag)) (cond (leb (span_of (entry_at 0 tag)) 54) (2 ^ span_of (entry_at 0 tag) - 1) 0) 0
unfolding end_in end_at
end-parts tag =
    let g : ℕ = bits 27 26 tag in
    let x : ℕ = bits 48 45 tag in
    let small : x < 16 = mod-lt (tag / 2 ^ 45) (omega arith) in
    let above : (g * 16 + x) / 16 ≡ g = omega arith in
    let below : (g * 16 + x) % 16 ≡ x = omega arith in
    ap₂ (λ (a b : ℕ). cond (leb 1 a) (cond (leb (span_in a b) 54) (2 ^ span_in a b - 1) 0) 0) above below
    ∙ ap (λ (k : ℕ). cond (leb 1 g) (cond (leb k 54) (2 ^ k - 1) 0) 0) (span-in tag)

-- it is 0 exactly if there is no granule, or no span of it
pub end_none : (tag : ℕ) → end_of tag ≡ 0 → (leb 1 (bits 27 26 tag) && leb (span_of (entry_at 0 tag)) 54) ≡ false
end_none tag z = go (leb 1 (bits 27 26 tag)) (leb (span_of (entry_at 0 tag)) 54) (sym (end-parts tag) ∙ z)
  where
    go : (a b : Bool) → cond a (cond b (2 ^ span_of (entry_at 0 tag) - 1) 0) 0 ≡ 0 → (a && b) ≡ false
    go true true e = absurd (let two : 2 ^ 1 ≤ 2 ^ span_of (entry_at 0 tag) = pow_mono {i = 1} {j = span_of (entry_at 0 tag)} (span-some tag) in omega arith)
    go true false e = refl
    go false b e = refl

-- and else one less than the span has addresses
pub end-some : (tag : ℕ) → (end_of tag ≡ 0 → ⊥) →
    ((leb 1 (bits 27 26 tag) && leb (span_of (entry_at 0 tag)) 54) ≡ true) × (end_of tag ≡ 2 ^ span_of (entry_at 0 tag) - 1)
end-some tag n = go (leb 1 (bits 27 26 tag)) (leb (span_of (entry_at 0 tag)) 54) (end-parts tag)
  where
    go : (a b : Bool) → end_of tag ≡ cond a (cond b (2 ^ span_of (entry_at 0 tag) - 1) 0) 0 →
        ((a && b) ≡ true) × (end_of tag ≡ 2 ^ span_of (entry_at 0 tag) - 1)
    go true true e = (refl, e)
    go true false e = absurd (n e)
    go false b e = absurd (n e)

-- so a base is a multiple of the span exactly if it has none of the bits of the end
abbrev rest_by : ℕ → ℕ → Bool
rest_by base tag =
    ltb tag (2 ^ 54)
    && not (eqb (end_of tag) 0)
    && eqb (bit_and base (end_of tag)) 0
    && is_placed (bit_of tag 49) (pos 3 -ℤ pos (bits 48 46 tag)) (bit_of tag 44)
    && is_reach base tag

shut : (a b c d e : Bool) → (a && false && b && d && e) ≡ (a && false && c && d && e)
shut true b c d e = refl
shut false b c d e = refl

by-end : (base tag : ℕ) → Dec (end_of tag ≡ 0) → is_rest base tag ≡ rest_by base tag
unfolding is_rest entry_at
by-end base tag (yes z) =
    simp (eq-eqb (end_of tag) 0 z, end_none tag z)
    (shut (ltb tag (2 ^ 54)) (eqb (base % 2 ^ span_of (entry_at 0 tag)) 0) (eqb (bit_and base (end_of tag)) 0)
    (is_placed (bit_of tag 49) (pos 3 -ℤ pos (bits 48 46 tag)) (bit_of tag 44)) (is_reach base tag))
by-end base tag (no n) =
    let (some, e) = end-some tag n in
    let under : bit_and base (end_of tag) ≡ base % 2 ^ span_of (entry_at 0 tag) = ap (bit_and base) e ∙ and_mask base (span_of (entry_at 0 tag)) in
    simp (ne_eqb (end_of tag) 0 n, some, under)

pub rest-end : (base tag : ℕ) → is_rest base tag ≡ rest_by base tag
rest-end base tag = by-end base tag (ℕ_discrete (end_of tag) 0)

-- what a slot that reads as an entry keeps
pub entry-legal : (base tag : ℕ) → is_entry base tag ≡ true → Legal (entry_at base tag)
entry-legal base tag h = legal (entry_at base tag) (reads-written base tag h).1

-- a slot that breaks a rule reads as empty
pub no-layout : (base tag : ℕ) → (tag % 2 ^ 4 ≡ layout → ⊥) → is_entry base tag ≡ false
no-layout base tag n = not_so (is_entry base tag) (λ (h : is_entry base tag ≡ true). n (entry-layout base tag h))

pub no_room : (base tag : ℕ) → (tag / 2 ^ 54 ≡ 0 → ⊥) → is_entry base tag ≡ false
no_room base tag n =
    not_so (is_entry base tag) (λ (h : is_entry base tag ≡ true). n (let low : tag < 2 ^ 54 = entry-low base tag h in omega (arith, low)))

pub no_span : (base tag : ℕ) → 54 < span_of (entry_at 0 tag) → is_entry base tag ≡ false
unfolding entry_at
no_span base tag n =
    not_so (is_entry base tag)
    (λ (h : is_entry base tag ≡ true). let m : span_of (entry_at 0 tag) ≤ 54 = span-most _ _ _ (entry-legal base tag h).span in omega (arith, n, m))

pub no-company : (base tag : ℕ) → is_company (company_at tag) ≡ false → is_entry base tag ≡ false
unfolding entry_at
no-company base tag n = not_so (is_entry base tag) (λ (h : is_entry base tag ≡ true). clash (entry-legal base tag h).company n)

-- where an entry can stand there is a level
placed-level : (leaf : Bool) (l : ℤ) (global : Bool) → is_placed leaf l global ≡ true → is_level l ≡ true
unfolding is_level
placed-level true (pos n) global h = and-1 (leb 1 n) (leb n 3) h
placed-level true (negsuc n) global h = absurd (let z : ◌≡◌ {A = ℕ} 0 1 = cc in omega arith)
placed-level false (pos n) global h =
    le-leb n 3 (omega (arith, leb-true n 2 (and_0 (leb n 2) (not global) h)))
placed-level false (negsuc n) global h = and_0 (leb n 0 && true) (not global) h

-- a slot that keeps those rules is an entry exactly if it keeps the two that are left
pub record Kept (base tag : ℕ) : Type 0 where
  pub whole : tag % 2 ^ 4 ≡ layout
  pub low : tag < 2 ^ 54
  pub granule : 1 ≤ bits 27 26 tag
  pub span : span_of (entry_at 0 tag) ≤ 54
  pub company : is_company (company_at tag) ≡ true
  pub placed : is_placed (entry_at 0 tag).leaf (entry_at 0 tag).level (entry_at 0 tag).global ≡ true
  pub multiple : eqb (base % 2 ^ span_of (entry_at 0 tag)) 0 ≡ true

pub kept : (base tag : ℕ) → Kept base tag →
    is_entry base tag ≡ ((has_asids (company_at tag) || (eqb (bits 43 28 tag) 0 && not (bit_of tag 44))) && in_reach (company_at tag) base)
unfolding is_entry is_legal entry_at has_span
kept base tag k =
    let g : bits 27 26 tag < 4 = mod-lt (tag / 2 ^ 26) (omega arith) in
    let p : bits 53 51 tag < 8 = mod-lt (tag / 2 ^ 51) (omega arith) in
    let e = entry_at base tag in
    let spanned : has_span e.wide e.granule e.level ≡ true =
    simp (
      le-leb 1 (bits 27 26 tag) k.granule,
      le-leb (bits 27 26 tag) 3 (omega arith),
      placed-level e.leaf e.level e.global k.placed,
      le-leb (span_of e) 54 k.span,
    ) in
    let wrote : eqb (tag_of e) tag ≡ true = tag-whole base tag ∙ simp (eq-eqb (tag % 2 ^ 4) layout k.whole, lt-ltb tag (2 ^ 54) k.low) in
    all (has_asids (company_at tag) || (eqb (bits 43 28 tag) 0 && not (bit_of tag 44))) (in_reach (company_at tag) base) (le-leb (bits 53 51 tag) 7 (omega arith)) k.company k.placed spanned k.multiple wrote
  where
    all : {p c l s m w : Bool} (a r : Bool) → p ≡ true → c ≡ true → l ≡ true → s ≡ true → m ≡ true → w ≡ true →
        (p && c && a && l && (s && m) && r && w) ≡ (a && r)
    all true true hp hc hl hs hm hw = simp (hp, hc, hl, hs, hm, hw)
    all true false hp hc hl hs hm hw = simp (hp, hc, hl, hs, hm, hw)
    all false r hp hc hl hs hm hw = simp (hp, hc)

-- a slot that breaks one of the rules that are left reads as empty
pub rest-empty : (base tag : ℕ) → is_rest base tag ≡ false → is_entry base tag ≡ false
unfolding is_rest entry_at
rest-empty base tag n =
    not_so (is_entry base tag)
    (λ (h : is_entry base tag ≡ true).
    let k = entry-legal base tag h in
    let all : is_rest base tag ≡ true =
    simp (
      lt-ltb tag (2 ^ 54) (entry-low base tag h),
      and_0 (leb 1 (bits 27 26 tag)) (leb (bits 27 26 tag) 3) (span-tg _ _ _ k.span),
      le-leb (span_of (entry_at 0 tag)) 54 (span-most _ _ _ k.span),
      eq-eqb (base % 2 ^ span_of (entry_at 0 tag)) 0 k.multiple,
      k.placed,
      k.asids,
      k.reach,
    ) in
    clash all n)

pub end_empty : (base tag : ℕ) → end_of tag ≡ 0 → is_entry base tag ≡ false
unfolding is_rest
end_empty base tag z = rest-empty base tag (go (ltb tag (2 ^ 54)) refl)
  where
    go : (a : Bool) → ltb tag (2 ^ 54) ≡ a → is_rest base tag ≡ false
    go true e = simp (e, end_none tag z)
    go false e = simp e

-- one that keeps them, with the layout number, is an entry exactly if an entry can have its company
pub rest-company : (base tag : ℕ) → tag % 2 ^ 4 ≡ layout → is_rest base tag ≡ true → is_company (company_at tag) ≡ is_entry base tag
unfolding is_rest
rest-company base tag whole h5 = go (is_company (company_at tag)) refl
  where
    a1 : Bool
    a1 = ltb tag (2 ^ 54)

    g : Bool
    g = leb 1 (bits 27 26 tag)

    k : Bool
    k = leb (span_of (entry_at 0 tag)) 54

    a2 : Bool
    a2 = g && k

    a3 : Bool
    a3 = eqb (base % 2 ^ span_of (entry_at 0 tag)) 0

    a4 : Bool
    a4 = is_placed (entry_at 0 tag).leaf (entry_at 0 tag).level (entry_at 0 tag).global

    go : (b : Bool) → is_company (company_at tag) ≡ b → b ≡ is_entry base tag
    go true e =
        let h4 = and_0 (a1 && a2 && a3 && a4) (is_reach base tag) h5 in
        let h3 = and_0 (a1 && a2 && a3) a4 h4 in
        let h2 = and_0 (a1 && a2) a3 h3 in
        let rules : Kept base tag = record {
          whole = whole;
          low = ltb-true tag (2 ^ 54) (and_0 a1 a2 h2);
          granule = leb-true 1 (bits 27 26 tag) (and_0 g k (and-1 a1 a2 h2));
          span = leb-true (span_of (entry_at 0 tag)) 54 (and-1 g k (and-1 a1 a2 h2));
          company = e;
          placed = and-1 (a1 && a2 && a3) a4 h4;
          multiple = and-1 (a1 && a2) a3 h3;
        } in
        sym (kept base tag rules ∙ and-1 (a1 && a2 && a3 && a4) (is_reach base tag) h5)
    go false e = sym (no-company base tag e)

-- and where both are an entry's, they are what is left to test
pub rest-entry : (base tag : ℕ) → tag % 2 ^ 4 ≡ layout → is_company (company_at tag) ≡ true → is_rest base tag ≡ is_entry base tag
rest-entry base tag whole company = go (is_rest base tag) refl
  where
    go : (b : Bool) → is_rest base tag ≡ b → b ≡ is_entry base tag
    go true e = sym company ∙ rest-company base tag whole e
    go false e = sym (rest-empty base tag e)

-- what a proof of what is left to test cites
pub ruleset rest = (rest-end)

-- what a proof of a slot's tests cites
pub ruleset parts = (span-numbers, end_none, end-some, no-layout, no_room, end_empty, rest-empty, rest-company)
