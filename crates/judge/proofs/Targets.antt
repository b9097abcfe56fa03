-- Places and entries: the entry of every place that the target asks for is one that it asks for, and every entry that it asks for has such a place.
use Prim.Native.Nat.{ℕ, ◌*◌, ◌/◌, ◌^◌, ◌<◌, ◌≤◌}
use mathlib.Core.Bool.{Bool, true, false, not, ◌&&◌, ◌||◌}
use mathlib.Core.List.{List}
use mathlib.Core.Path.{◌≡◌, refl, sym, ap, subst, ◌∙◌}
use native.Mathlib.Nat.{mul-mod_left, le-div_iff_mul-le}
use native.Mathlib.Omega.{arith}
use lib.Dec.{eqb, leb}
use lib.Pow.{pow_pos}
use borrow.Author.Tests.{eqb-true, leb-true, eq-eqb}
use Rattle.std.specs.Prelude.{Option, Some, None, IfSome, is_none}
use Rattle.laws.proofs.Aligned.{whole}
use Rattle.laws.proofs.Truth.{and_0, and-1, clash, or_left, cond-self}
use Rattle.laws.specs.Bits.{bits}
use Rattle.machine.proofs.Halves.{reach-between}
use Rattle.machine.proofs.Spans.{span-most, span-level, meets-number, number-meets}
use Rattle.machine.proofs.Tags.{legal, legal-holds, company-one, company-self, entry-same}
use Rattle.machine.proofs.Verdicts.{aiming, aiming-holds, aimed-width, kind-back, kind-there}
use Rattle.machine.specs.Entry.{is_company, has_asids, in_reach, is_same_asid, span_of}
use Rattle.machine.specs.Judge.{kind_of, Aimed, leaf_at, level_at}
use Rattle.machine.specs.Operand.{is_granule}
use Rattle.machine.specs.Span.{exponent_of, has_span, meets_range}
use Rattle.machine.specs.Target.{are_processors, are_addresses, is_target}
use Rattle.machine.specs.declared.entry.Entry.{Entry}
use Rattle.machine.specs.declared.judge.Target.{Target}
use Rattle.machine.specs.declared.processor.State.{State}
use Rattle.machine.specs.declared.work.Work.{Work}
use Rattle.coverage.specs.Asids.{Named}
use Rattle.coverage.specs.Places.{is_asked, exponent_in, placed}
use Rattle.judge.specs.Search.{entry_in, Candidate}

-- the numbers of a target are of the sizes of its fields
pub record Fits (t : Target) : Type 0 where
  pub vmid : t.company.vmid < 2 ^ 16
  pub asid : IfSome t.asid (λ n. n < 2 ^ 16)
  pub first : t.first < 2 ^ 64
  pub last : t.last < 2 ^ 64

-- what a target keeps
pub record Rules (t : Target) : Type 0 where
  pub company : is_company t.company ≡ true
  pub granule : is_granule t.granule ≡ true
  pub one : (is_none t.asid || has_asids t.company) ≡ true
  pub ordered : t.first ≤ t.last
  pub first : in_reach t.company t.first ≡ true
  pub last : in_reach t.company t.last ≡ true
  pub half : (not (has_asids t.company) || eqb (bits 63 55 t.first) (bits 63 55 t.last)) ≡ true

pub target_keeps : (st : State) (t : Target) → is_target st t ≡ true → Rules t
unfolding is_target are_addresses
target_keeps st t h =
    let a1 = is_company t.company in
    let a2 = is_granule t.granule in
    let a3 = is_none t.asid || has_asids t.company in
    let a4 = are_processors st t.processors in
    let a5 = are_addresses t.company t.first t.last in
    let b1 = leb t.first t.last in
    let b2 = in_reach t.company t.first in
    let b3 = in_reach t.company t.last in
    let b4 = not (has_asids t.company) || eqb (bits 63 55 t.first) (bits 63 55 t.last) in
    let h4 = and_0 (a1 && a2 && a3 && a4) a5 h in
    let h3 = and_0 (a1 && a2 && a3) a4 h4 in
    let h2 = and_0 (a1 && a2) a3 h3 in
    let k4 = and-1 (a1 && a2 && a3 && a4) a5 h in
    let k3 = and_0 (b1 && b2 && b3) b4 k4 in
    let k2 = and_0 (b1 && b2) b3 k3 in
    record {
      company = and_0 a1 a2 h2;
      granule = and-1 a1 a2 h2;
      one = and-1 (a1 && a2) a3 h3;
      ordered = leb-true t.first t.last (and_0 b1 b2 k2);
      first = and-1 b1 b2 k2;
      last = and-1 (b1 && b2) b3 k3;
      half = and-1 (b1 && b2 && b3) b4 k4;
    }

-- every base of a span that meets the target is one that an entry can have
reach_here : (t : Target) (k q : ℕ) → Fits t → Rules t → k ≤ 54 → t.first / 2 ^ k ≤ q → q ≤ t.last / 2 ^ k → in_reach t.company (q * 2 ^ k) ≡ true
reach_here t k q f g most low high =
    reach-between t.company k q t.first t.last most low ((le-div_iff_mul-le (pow_pos k)).0 high) f.first f.last g.first g.last g.half

-- a target without ASIDs asks for all
pub none-all : (t : Target) → Rules t → has_asids t.company ≡ false → t.asid ≡ None
none-all t g e = go t.asid refl (ap (λ (b : Bool). is_none t.asid || b) (sym e) ∙ g.one)
  where
    go : (o : Option ℕ) → t.asid ≡ o → (is_none o || false) ≡ true → t.asid ≡ None
    go (Some n) i h = clash h refl
    go None i h = i

asid-own : (t : Target) (works : List Work) (n : ℕ) (e : Entry) → Named t works n e.asid → is_same_asid t.asid e ≡ true
asid-own t works n e m = go t.asid refl
  where
    go : (o : Option ℕ) → t.asid ≡ o → is_same_asid o e ≡ true
    go (Some x) i = eq-eqb e.asid x (m.own x i)
    go None i = refl

asid-legal : (t : Target) (works : List Work) (n a : ℕ) → Rules t → Named t works n a → (has_asids t.company || (eqb a 0 && not false)) ≡ true
asid-legal t works n a g m = go (has_asids t.company) refl
  where
    go : (h : Bool) → has_asids t.company ≡ h → (h || (eqb a 0 && not false)) ≡ true
    go true e = refl
    go false e =
        ap (λ (b : Bool). b && not false) (eq-eqb a 0 (m.none (none-all t g e) e))

-- the entry of a place that the target asks for
pub candidate-aimed : (t : Target) (works : List Work) (n a p j q : ℕ) → Fits t → Rules t → Named t works n a → a < 2 ^ 16 → Candidate t p j q → Aimed t (entry_in t a p j q)
unfolding entry_in is_asked
candidate-aimed t works n a p j q f g m low c =
    let l = level_at j in
    let k = exponent_in t l in
    let b1 = not t.leaves || leaf_at j in
    let b2 = has_span t.wide t.granule l in
    let span : b2 ≡ true = and-1 b1 b2 c.asked in
    let most = span-most t.wide t.granule l span in
    let below : q * 2 ^ k ≤ t.last = (le-div_iff_mul-le (pow_pos k)).0 c.high in
    record {
      sized = (f.vmid, low);
      word = omega (arith, below, f.last);
      legal =
          legal-holds (entry_in t a p j q)
          (record {
            processor = omega (arith, c.processor);
            company = g.company;
            asids = asid-legal t works n a g m;
            placed = (kind-there j c.kind).1;
            span = span;
            multiple = mul-mod_left q (2 ^ k);
            reach = reach_here t k q f g most c.low c.high;
          });
      aimed =
          aiming-holds t (entry_in t a p j q)
          (record {
            named = c.named;
            company = company-self t.company;
            width = cond-self t.wide;
            granule = eq-eqb t.granule t.granule refl;
            kind = and_0 b1 b2 c.asked;
            asid = or_left (is_same_asid t.asid (entry_in t a p j q)) (leaf_at j && false) (asid-own t works n (entry_in t a p j q) m);
            within = meets-number k q t.first t.last c.low c.high;
          });
    }

-- an entry with XS 1, not global, and another ASID
abbrev pub hard : ℕ → Entry → Entry
hard a d = record {
  processor = d.processor;
  company = d.company;
  asid = a;
  global = false;
  wide = d.wide;
  granule = d.granule;
  level = d.level;
  leaf = d.leaf;
  xs = true;
  base = d.base;
}

-- the place of an entry that the target asks for
pub record PlaceOf (t : Target) (a : ℕ) (d : Entry) : Type 0 where
  pub candidate : Candidate t d.processor (kind_of d.leaf d.level) (d.base / 2 ^ span_of d)
  pub entry : entry_in t a d.processor (kind_of d.leaf d.level) (d.base / 2 ^ span_of d) ≡ hard a d
  pub exponent : exponent_in t (level_at (kind_of d.leaf d.level)) ≡ span_of d

pub aimed-placed : (t : Target) (a : ℕ) (d : Entry) → Aimed t d → PlaceOf t a d
unfolding entry_in is_asked
aimed-placed t a d h =
    let l = legal d h.legal in
    let g = aiming t d h.aimed in
    let (low, leaf, level) = kind-back d.leaf d.level d.global (span-level d.wide d.granule d.level l.span) l.placed in
    let c : t.company ≡ d.company = sym (company-one d.company t.company g.company) in
    let w : t.wide ≡ d.wide = sym (aimed-width t d g.width) in
    let tg : t.granule ≡ d.granule = sym (eqb-true d.granule t.granule g.granule) in
    let j = kind_of d.leaf d.level in
    let k : exponent_in t (level_at j) ≡ span_of d =
    ap (λ (b : Bool). exponent_of b t.granule (level_at j)) w ∙ ap (λ (n : ℕ). exponent_of d.wide n (level_at j)) tg ∙ ap (exponent_of d.wide d.granule) level in
    let q = d.base / 2 ^ span_of d in
    let base : d.base ≡ q * 2 ^ span_of d = whole d.base (span_of d) l.multiple in
    let meets = number-meets (span_of d) q t.first t.last (ap (λ (b : ℕ). meets_range b (span_of d) t.first t.last) (sym base) ∙ g.within) in
    let span : has_span t.wide t.granule (level_at j) ≡ true =
    ap (λ (b : Bool). has_span b t.granule (level_at j)) w ∙ ap (λ (n : ℕ). has_span d.wide n (level_at j)) tg ∙ ap (has_span d.wide d.granule) level ∙ l.span in
    let kind : (not t.leaves || leaf_at j) ≡ true = ap (λ (b : Bool). not t.leaves || b) leaf ∙ g.kind in
    record {
      candidate = record {
        processor = omega (arith, l.processor);
        named = g.named;
        kind = low;
        asked = simp (kind, span);
        low = subst (λ (n : ℕ). t.first / 2 ^ n ≤ q) (sym k) meets.0;
        high = subst (λ (n : ℕ). q ≤ t.last / 2 ^ n) (sym k) meets.1;
      };
      entry =
          ap (placed t a d.processor (leaf_at j) (level_at j)) (ap (λ (n : ℕ). q * 2 ^ n) k ∙ sym base)
          ∙ entry-same d.base refl c refl refl w tg level leaf refl;
      exponent = k;
    }
