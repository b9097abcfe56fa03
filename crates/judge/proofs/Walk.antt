-- The search: what is known in each of its loops, and what each turn of them adds.
use Prim.Native.Nat.{ℕ, ◌+◌, ◌*◌, ◌/◌, ◌%◌, ◌^◌, ◌<◌, ◌≤◌}
use mathlib.Core.Bool.{Bool, true, false, not, ◌&&◌, ◌||◌}
use mathlib.Core.List.{List}
use mathlib.Core.Logic.{inl, inr}
use mathlib.Core.Path.{◌≡◌, refl, sym, ap, subst, ◌∙◌}
use native.Mathlib.Decide.{ℕ_discrete}
use native.Mathlib.Nat.{mod-eq_of_lt, le-div_iff_mul-le}
use native.Mathlib.Omega.{arith}
use lib.Dec.{ltb, leb}
use lib.IntN.{ℤ}
use lib.Pow.{pow_pos}
use mir.Syntax.{w8}
use mir.Val.{to_z, of_z}
use borrow.Author.Tests.{ltb-true, ltb-false, leb-true}
use Rattle.std.specs.Prelude.{Some, None, is_none}
use Rattle.laws.proofs.Any.{any-start, any-more, some-any}
use Rattle.laws.proofs.Truth.{and_0, and-1, clash}
use Rattle.laws.specs.Mask.{bit_of}
use Rattle.machine.proofs.Going.{going, going-holds}
use Rattle.machine.proofs.Spans.{by_level, span-most, span-granule, span-tg, meets-number, number-meets}
use Rattle.machine.specs.Entry.{span_of, is_legal}
use Rattle.machine.specs.Goes.{goes, is_met, is_owned, is_width_of}
use Rattle.machine.specs.Judge.{leaf_at, level_at}
use Rattle.machine.specs.Span.{is_level, has_span}
use Rattle.machine.specs.declared.entry.Entry.{Entry}
use Rattle.machine.specs.declared.judge.Target.{Target}
use Rattle.machine.specs.declared.work.Work.{Work}
use Rattle.coverage.proofs.Covering.{number-most}
use Rattle.coverage.specs.Places.{is_asked, exponent_in, placed, CoversTo}
use Rattle.judge.proofs.Alike.{level-alike, asid-alike}
use Rattle.judge.specs.Search.{entry_in, Candidate, Earlier, Searched, Searches}
use Rattle.steps.specs.Steps.{work_at, taken_by}

-- a work that drops an entry of the target drops the one of the same kind at another base, if it meets that too
goes-base : (w : Work) (t : Target) (asid p : ℕ) (leaf : Bool) (l : ℤ) (a b : ℕ) → goes w (placed t asid p leaf l a) ≡ true →
    is_met w (placed t asid p leaf l b) ≡ true → goes w (placed t asid p leaf l b) ≡ true
goes-base w t asid p leaf l a b h m =
    let here = placed t asid p leaf l a in
    let there = placed t asid p leaf l b in
    let g = going w here h in
    going-holds w there
    (record {
      reached = g.reached;
      owned = g.owned;
      granule = g.granule;
      met = m;
      hinted = ap (λ (x : Bool). is_none w.level || (is_width_of w there && x)) (level-alike w.level there here refl refl) ∙ g.hinted;
      width = g.width;
      leaf = g.leaf;
      asid = ap (λ (x : Bool). x || (leaf && false)) (asid-alike w.asid there here refl) ∙ g.asid;
      xs = g.xs;
    })

-- a level as the code holds it, in 8 bits
pub round : (z : ℤ) → is_level z ≡ true → to_z w8 (of_z w8 z) ≡ z
round z h = by_level (λ (l : ℤ). to_z w8 (of_z w8 l) ≡ l) (refl, refl, refl, refl, refl) z h

-- a kind that is asked for has a span of 2^12 to 2^54 bytes
pub asked-span : (t : Target) (leaf : Bool) (l : ℤ) → is_asked t leaf l ≡ true → (12 ≤ exponent_in t l) × (exponent_in t l ≤ 54)
unfolding is_asked
asked-span t leaf l h =
    let span : has_span t.wide t.granule l ≡ true = and-1 (not t.leaves || leaf) (has_span t.wide t.granule l) h in
    let most = span-most t.wide t.granule l span in
    let least = span-granule t.wide t.granule l in
    let some : 1 ≤ t.granule = leb-true 1 t.granule (and_0 (leb 1 t.granule) (leb t.granule 3) (span-tg t.wide t.granule l span)) in
    (omega (arith, least, some), most)

pub asked-most : (t : Target) (leaf : Bool) (l : ℤ) (k : ℕ) → is_asked t leaf l ≡ true → k ≡ exponent_in t l → k < 64
asked-most t leaf l k h e = omega (arith, e, (asked-span t leaf l h).1)

pub asked-at : (t : Target) (leaf : Bool) (l : ℤ) (j : ℕ) → leaf ≡ leaf_at j → l ≡ level_at j → is_asked t leaf l ≡ is_asked t (leaf_at j) (level_at j)
asked-at t leaf l j f v = ap (λ (b : Bool). is_asked t b l) f ∙ ap (is_asked t (leaf_at j)) v

module _ (t : Target) (works : List Work) (n asid : ℕ) where
  -- the entry of a place goes
  abbrev pub Gone : ℕ → ℕ → ℕ → Type 0
  Gone x i y = taken_by works n (entry_in t asid x i y) ≡ true

  -- the loop over processors has come to p, that over kinds to j, and that over addresses to the span of number q
  pub record AtProcessor (p : ℕ) : Type 0 where
    pub passed : (x i y : ℕ) → x < p → Candidate t x i y → Gone x i y

  pub record AtKind (p j : ℕ) : Type 0 where
    pub outer : AtProcessor p
    pub processor : p < 8
    pub named : bit_of t.processors p ≡ true
    pub passed : (i y : ℕ) → i < j → Candidate t p i y → Gone p i y

  pub record AtBase (p j : ℕ) (leaf : Bool) (level : ℤ) (k end q : ℕ) : Type 0 where
    pub outer : AtKind p j
    pub kind : j < 7
    pub asked : is_asked t (leaf_at j) (level_at j) ≡ true
    pub leaf-here : leaf ≡ leaf_at j
    pub level-here : level ≡ level_at j
    pub exponent : k ≡ exponent_in t (level_at j)
    pub last : end ≡ t.last / 2 ^ k
    pub low : t.first / 2 ^ k ≤ q
    pub passed : (y : ℕ) → y < q → Candidate t p j y → Gone p j y

  -- and that over steps to i, none of which before drops the entry of the span of number q
  pub record AtStep (p j : ℕ) (leaf : Bool) (level : ℤ) (k end q i : ℕ) (e : Entry) : Type 0 where
    pub outer : AtBase p j leaf level k end q
    pub within : q ≤ end
    pub entry : e ≡ entry_in t asid p j q
    pub steps : i ≤ n
    pub stays : taken_by works i e ≡ false

  pub start-processors : AtProcessor 0
  start-processors = record { passed = λ (x i y : ℕ) (l : x < 0) (c : Candidate t x i y). absurd (let z : ⊥ = omega arith in z) }

  pub skip-processor : (p : ℕ) → AtProcessor p → bit_of t.processors p ≡ false → AtProcessor (p + 1)
  skip-processor p h none = record { passed = λ (x i y : ℕ) (l : x < p + 1) (c : Candidate t x i y). go x i y l c (ℕ_discrete x p) }
    where
      go : (x i y : ℕ) → x < p + 1 → Candidate t x i y → Dec (x ≡ p) → Gone x i y
      go x i y l c (yes e) =
          clash c.named (ap (bit_of t.processors) e ∙ none)
      go x i y l c (no d) = h.passed x i y (omega arith) c

  pub enter-processor : (p : ℕ) → AtProcessor p → p < 8 → bit_of t.processors p ≡ true → AtKind p 0
  enter-processor p h l named = record {
    outer = h;
    processor = l;
    named = named;
    passed = λ (i y : ℕ) (m : i < 0) (c : Candidate t p i y). absurd (let z : ⊥ = omega arith in z);
  }

  pub skip-kind : (p j : ℕ) → AtKind p j → is_asked t (leaf_at j) (level_at j) ≡ false → AtKind p (j + 1)
  skip-kind p j h none = record {
    outer = h.outer;
    processor = h.processor;
    named = h.named;
    passed = λ (i y : ℕ) (l : i < j + 1) (c : Candidate t p i y). go i y l c (ℕ_discrete i j);
  }
    where
      go : (i y : ℕ) → i < j + 1 → Candidate t p i y → Dec (i ≡ j) → Gone p i y
      go i y l c (yes e) =
          clash c.asked (ap (λ (m : ℕ). is_asked t (leaf_at m) (level_at m)) e ∙ none)
      go i y l c (no d) = h.passed i y (omega arith) c

  pub enter-kind : (p j : ℕ) (leaf : Bool) (level : ℤ) (k : ℕ) → AtKind p j → j < 7 → leaf ≡ leaf_at j → level ≡ level_at j → is_asked t leaf level ≡ true →
      k ≡ exponent_in t level → AtBase p j leaf level k (t.last / 2 ^ k) (t.first / 2 ^ k)
  enter-kind p j leaf level k h l f v a e = record {
    outer = h;
    kind = l;
    asked = subst (λ (x : Bool). is_asked t x (level_at j) ≡ true) f (subst (λ (z : ℤ). is_asked t leaf z ≡ true) v a);
    leaf-here = f;
    level-here = v;
    exponent = e ∙ ap (exponent_in t) v;
    last = refl;
    low = omega arith;
    passed = λ (y : ℕ) (m : y < t.first / 2 ^ k) (c : Candidate t p j y).
        let low : t.first / 2 ^ k ≤ y = subst (λ (m : ℕ). t.first / 2 ^ m ≤ y) (sym (e ∙ ap (exponent_in t) v)) c.low in absurd (let z : ⊥ = omega arith in z);
  }

  pub leave-kind : (p j : ℕ) (leaf : Bool) (level : ℤ) (k end q : ℕ) → AtBase p j leaf level k end q → end < q → AtKind p (j + 1)
  leave-kind p j leaf level k end q h past = record {
    outer = h.outer.outer;
    processor = h.outer.processor;
    named = h.outer.named;
    passed = λ (i y : ℕ) (l : i < j + 1) (c : Candidate t p i y). go i y l c (ℕ_discrete i j);
  }
    where
      here : (y : ℕ) → Candidate t p j y → Gone p j y
      here y c =
          let high : y ≤ t.last / 2 ^ k = subst (λ (m : ℕ). y ≤ t.last / 2 ^ m) (sym h.exponent) c.high in
          h.passed y (omega (arith, h.last)) c

      go : (i y : ℕ) → i < j + 1 → Candidate t p i y → Dec (i ≡ j) → Gone p i y
      go i y l c (yes e) = subst (λ (m : ℕ). Gone p m y) (sym e) (here y (subst (λ (m : ℕ). Candidate t p m y) e c))
      go i y l c (no d) = h.outer.passed i y (omega arith) c

  pub leave-processor : (p j : ℕ) → AtKind p j → 7 ≤ j → AtProcessor (p + 1)
  leave-processor p j h past = record { passed = λ (x i y : ℕ) (l : x < p + 1) (c : Candidate t x i y). go x i y l c (ℕ_discrete x p) }
    where
      go : (x i y : ℕ) → x < p + 1 → Candidate t x i y → Dec (x ≡ p) → Gone x i y
      go x i y l c (yes e) =
          subst (λ (m : ℕ). Gone m i y) (sym e) (h.passed i y (omega (arith, c.kind)) (subst (λ (m : ℕ). Candidate t m i y) e c))
      go x i y l c (no d) = h.outer.passed x i y (omega arith) c

  pub finish : (p : ℕ) → AtProcessor p → 8 ≤ p → Searched t works n asid None
  finish p h past = λ (x i y : ℕ) (c : Candidate t x i y). h.passed x i y (omega (arith, c.processor)) c

  -- the place that the loops have come to
  pub here : (p j : ℕ) (leaf : Bool) (level : ℤ) (k end q : ℕ) → AtBase p j leaf level k end q → q ≤ end → Candidate t p j q
  here p j leaf level k end q h l = record {
    processor = h.outer.processor;
    named = h.outer.named;
    kind = h.kind;
    asked = h.asked;
    low = subst (λ (m : ℕ). t.first / 2 ^ m ≤ q) h.exponent h.low;
    high = subst (λ (m : ℕ). q ≤ t.last / 2 ^ m) h.exponent (subst (λ (x : ℕ). q ≤ x) h.last l);
  }

  -- its entry, as the code builds it
  base-here : (k q : ℕ) → t.last < 2 ^ 64 → q ≤ t.last / 2 ^ k → q * 2 ^ k % 2 ^ 64 ≡ q * 2 ^ k
  base-here k q l h = let m : q * 2 ^ k ≤ t.last = (le-div_iff_mul-le (pow_pos k)).0 h in mod-eq_of_lt (omega arith)

  pub entry_here : (p j : ℕ) (leaf : Bool) (level : ℤ) (k end q : ℕ) → AtBase p j leaf level k end q → t.last < 2 ^ 64 → q ≤ end →
      placed t asid p leaf level (q * 2 ^ k % 2 ^ 64) ≡ entry_in t asid p j q
  unfolding entry_in
  entry_here p j leaf level k end q h l m =
      let b : q * 2 ^ k % 2 ^ 64 ≡ q * 2 ^ k = base-here k q l (subst (λ (x : ℕ). q ≤ x) h.last m) in
      ap (λ (x : Bool). placed t asid p x level (q * 2 ^ k % 2 ^ 64)) h.leaf-here
      ∙ ap (λ (z : ℤ). placed t asid p (leaf_at j) z (q * 2 ^ k % 2 ^ 64)) h.level-here
      ∙ ap (placed t asid p (leaf_at j) (level_at j)) (b ∙ ap (λ (m : ℕ). q * 2 ^ m) h.exponent)

  pub base-most : (p j : ℕ) (leaf : Bool) (level : ℤ) (k end q : ℕ) → AtBase p j leaf level k end q → k < 64
  base-most p j leaf level k end q h = asked-most t (leaf_at j) (level_at j) k h.asked h.exponent

  pub start-steps : (p j : ℕ) (leaf : Bool) (level : ℤ) (k end q : ℕ) (e : Entry) → AtBase p j leaf level k end q → Searches t works n asid → q ≤ end →
      e ≡ placed t asid p leaf level (q * 2 ^ k % 2 ^ 64) → AtStep p j leaf level k end q 0 e
  start-steps p j leaf level k end q e h s m i = record {
    outer = h;
    within = m;
    entry = i ∙ entry_here p j leaf level k end q h s.last m;
    steps = omega arith;
    stays = any-start (λ (x : ℕ). goes (work_at works x) e);
  }

  -- what the test of a step asks for
  pub tries : (p j : ℕ) (leaf : Bool) (level : ℤ) (k end q i : ℕ) (e : Entry) → AtStep p j leaf level k end q i e → Searches t works n asid → i < n →
      (is_legal e ≡ true) × (is_owned (work_at works i) e ≡ true) × (k ≡ span_of e) × (e.base ≡ q * 2 ^ k)
  unfolding entry_in
  tries p j leaf level k end q i e h s l =
      let exponent = h.outer.exponent in (
        ap is_legal h.entry ∙ s.legal p j q (here p j leaf level k end q h.outer h.within),
        ap (is_owned (work_at works i)) h.entry ∙ s.owned i l,
        exponent ∙ ap span_of (sym h.entry),
        ap (λ (d : Entry). d.base) h.entry ∙ ap (λ (m : ℕ). q * 2 ^ m) (sym exponent),
      )

  pub next-step : (p j : ℕ) (leaf : Bool) (level : ℤ) (k end q i : ℕ) (e : Entry) → AtStep p j leaf level k end q i e → i < n → goes (work_at works i) e ≡ false →
      AtStep p j leaf level k end q (i + 1) e
  next-step p j leaf level k end q i e h l none = record {
    outer = h.outer;
    within = h.within;
    entry = h.entry;
    steps = omega arith;
    stays = any-more (λ (x : ℕ). goes (work_at works x) e) i none h.stays;
  }

  -- the work that drops the entry meets the spans up to x, and the entry's own is among them
  record Met (j : ℕ) (e : Entry) (k q x : ℕ) (r : CoversTo works n e k x) : Type 0 where
    low : (work_at works r.place).first / 2 ^ exponent_in t (level_at j) ≤ q
    high : q ≤ x
    end : x ≡ (work_at works r.place).last / 2 ^ exponent_in t (level_at j)

  met : (p j : ℕ) (leaf : Bool) (level : ℤ) (k end q x : ℕ) → AtBase p j leaf level k end q → (e : Entry) → e ≡ entry_in t asid p j q →
      (r : CoversTo works n e k x) → Met j e k q x r
  unfolding entry_in
  met p j leaf level k end q x h e i r =
      let w = work_at works r.place in
      let d = exponent_in t (level_at j) in
      let meets = number-meets d q w.first w.last (going w (entry_in t asid p j q) (ap (goes w) (sym i) ∙ r.goes)).met in
      let reaches : x ≡ w.last / 2 ^ d = r.end ∙ ap (λ (m : ℕ). w.last / 2 ^ m) h.exponent in
      record { low = meets.0; high = omega (arith, meets.1, reaches); end = reaches }

  -- so the loop goes past every span that it meets
  pub jump : (p j : ℕ) (leaf : Bool) (level : ℤ) (k end q x : ℕ) → AtBase p j leaf level k end q → (e : Entry) → e ≡ entry_in t asid p j q → CoversTo works n e k x →
      (q ≤ x) × AtBase p j leaf level k end (x + 1)
  unfolding entry_in
  jump p j leaf level k end q x h e i r = (
    it.high,
    record {
      outer = h.outer;
      kind = h.kind;
      asked = h.asked;
      leaf-here = h.leaf-here;
      level-here = h.level-here;
      exponent = h.exponent;
      last = h.last;
      low = omega (arith, h.low, it.high);
      passed = λ (y : ℕ) (u : y < x + 1) (c : Candidate t p j y). go y u c (ltb y q) refl;
    },
  )
    where
      it : Met j e k q x r
      it = met p j leaf level k end q x h e i r

      w : Work
      w = work_at works r.place

      d : ℕ
      d = exponent_in t (level_at j)

      also : (y : ℕ) → q ≤ y → y < x + 1 → Gone p j y
      also y low high =
          let meets : is_met w (placed t asid p (leaf_at j) (level_at j) (y * 2 ^ d)) ≡ true =
          meets-number d y w.first w.last (omega (arith, it.low)) (omega (arith, it.end)) in
          some-any (λ (z : ℕ). goes (work_at works z) (entry_in t asid p j y)) n r.place r.within
          (goes-base w t asid p (leaf_at j) (level_at j) (q * 2 ^ d) (y * 2 ^ d) (ap (goes w) (sym i) ∙ r.goes) meets)

      go : (y : ℕ) → y < x + 1 → Candidate t p j y → (b : Bool) → ltb y q ≡ b → Gone p j y
      go y u c true f = h.passed y (ltb-true y q f) c
      go y u c false f = also y (ltb-false y q f) u

  -- from a step that drops the entry
  pub past-step : (p j : ℕ) (leaf : Bool) (level : ℤ) (k end q i : ℕ) (e : Entry) → AtStep p j leaf level k end q i e → i < n → goes (work_at works i) e ≡ true →
      (work_at works i).last < 2 ^ 64 →
      (q ≤ (work_at works i).last / 2 ^ k) × ((work_at works i).last / 2 ^ k < 2 ^ 52) × AtBase p j leaf level k end ((work_at works i).last / 2 ^ k + 1)
  past-step p j leaf level k end q i e h l g low =
      let x = (work_at works i).last / 2 ^ k in
      let least = (asked-span t (leaf_at j) (level_at j) h.outer.asked).0 in
      let most : x < 2 ^ 52 = number-most (work_at works i).last k low (omega (arith, h.outer.exponent, least)) in
      let it = jump p j leaf level k end q x h.outer e h.entry (record { place = i; within = l; goes = g; end = refl; most = most }) in
      (it.0, most, it.1)

  -- and where no work drops the entry, it is the first that survives
  pub gap : (p j : ℕ) (leaf : Bool) (level : ℤ) (k end q : ℕ) → AtBase p j leaf level k end q → q ≤ end → (e : Entry) → e ≡ entry_in t asid p j q →
      taken_by works n e ≡ false → Searched t works n asid (Some e)
  gap p j leaf level k end q h m e i none = record {
    processor = p;
    kind = j;
    number = q;
    candidate = here p j leaf level k end q h m;
    entry = sym i;
    stays = none;
    passed = passed;
  }
    where
      passed : (x i y : ℕ) → Candidate t x i y → Earlier x i y p j q → Gone x i y
      passed x i y c (inl less) = h.outer.outer.passed x i y less c
      passed x i y c (inr (same, inl less)) =
          subst (λ (z : ℕ). Gone z i y) (sym same) (h.outer.passed i y less (subst (λ (z : ℕ). Candidate t z i y) same c))
      passed x i y c (inr (same, inr (kind, less))) =
          subst (λ (z : ℕ). Gone z i y) (sym same)
          (subst (λ (z : ℕ). Gone p z y) (sym kind)
          (h.passed y less (subst (λ (z : ℕ). Candidate t p z y) kind (subst (λ (z : ℕ). Candidate t z i y) same c))))

  pub gap-after : (p j : ℕ) (leaf : Bool) (level : ℤ) (k end q i : ℕ) (e : Entry) → AtStep p j leaf level k end q i e → n ≤ i → Searched t works n asid (Some e)
  gap-after p j leaf level k end q i e h l =
      let all : i ≡ n = omega (arith, h.steps, l) in
      gap p j leaf level k end q h.outer h.within e h.entry (ap (λ (m : ℕ). taken_by works m e) (sym all) ∙ h.stays)

-- what the loops of the search ask
pub ruleset walking = (asked-most, base-most, next-step)
