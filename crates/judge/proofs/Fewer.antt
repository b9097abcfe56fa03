-- A search on fewer processors: those that every step reaches have one that stands for them, and what the search says holds on all.
use Prim.Native.Nat.{ℕ, zero, suc, ◌+◌, ◌*◌, ◌^◌, ◌<◌, ◌≤◌}
use mathlib.Core.Bool.{Bool, true, false, not, ◌&&◌, ◌||◌}
use mathlib.Core.List.{List}
use mathlib.Core.Logic.{inl, inr}
use mathlib.Core.Path.{◌≡◌, refl, sym, ap, ap₂, ◌∙◌}
use native.Mathlib.Decide.{ℕ_discrete}
use native.Mathlib.Omega.{arith}
use Rattle.std.specs.Prelude.{Option, Some, None}
use Rattle.laws.proofs.Any.{any_same}
use Rattle.laws.proofs.Every.{at}
use Rattle.laws.proofs.Mask.{mask-bit}
use Rattle.laws.proofs.Truth.{and_0, and-1, clash}
use Rattle.laws.specs.Every.{every, any}
use Rattle.laws.specs.Mask.{bit_of}
use Rattle.machine.specs.Goes.{goes}
use Rattle.machine.specs.Judge.{leaf_at, level_at}
use Rattle.machine.specs.declared.entry.Entry.{Entry}
use Rattle.machine.specs.declared.judge.Target.{Target}
use Rattle.machine.specs.declared.work.Work.{Work}
use Rattle.coverage.specs.Places.{is_asked, exponent_in, placed}
use Rattle.coverage.specs.Processors.{is_shared, is_searched, searched_of}
use Rattle.judge.proofs.Alike.{level-alike, asid-alike}
use Rattle.judge.specs.Search.{entry_in, Candidate, Earlier, First, Searched, Searches, on_processors}
use Rattle.steps.specs.Steps.{work_at, taken_by}

-- the lowest number at which a test holds
record Lowest (f : ℕ → Bool) (n : ℕ) : Type 0 where
  place : ℕ
  within : place < n
  holds : f place ≡ true
  first : any f place ≡ false

lowest : (f : ℕ → Bool) (n : ℕ) → any f n ≡ true → Lowest f n
unfolding any
lowest f zero h = clash h refl
lowest f (suc n) h = go (lowest f n) (any f n) refl (f n) refl h
  where
    go : (any f n ≡ true → Lowest f n) → (a : Bool) → any f n ≡ a → (b : Bool) → f n ≡ b → (b || a) ≡ true → Lowest f (suc n)
    go below true e b d i =
        let l = below e in record { place = l.place; within = omega (arith, l.within); holds = l.holds; first = l.first }
    go below false e true d i = record { place = n; within = omega arith; holds = d; first = e }
    go below false e false d i = clash i refl

module _
    (t : Target)
    (works : List Work)
    (n asid common : ℕ)
    (all : (p : ℕ) → p < 8 → bit_of common p ≡ every (λ (i : ℕ). bit_of (work_at works i).reached p) n) where
  abbrev few : ℕ
  few = searched_of t.processors common

  few-bit : (p : ℕ) → p < 8 → bit_of few p ≡ is_searched t.processors common p
  unfolding searched_of
  few-bit p l = let e : 0 + p ≡ p = omega arith in mask-bit (is_searched t.processors common) 0 8 p l ∙ ap (is_searched t.processors common) e

  -- each that is searched is the target's
  named : (p : ℕ) → p < 8 → bit_of few p ≡ true → bit_of t.processors p ≡ true
  named p l h =
      and_0 (bit_of t.processors p) (not (bit_of common p && any (is_shared t.processors common) p)) (sym (few-bit p l) ∙ h)

  -- a processor that stands for another: not above it, searched, and reached by the same steps
  record Stands (p : ℕ) : Type 0 where
    place : ℕ
    most : place ≤ p
    searched : bit_of few place ≡ true
    alike : (i : ℕ) → i < n → bit_of (work_at works i).reached place ≡ bit_of (work_at works i).reached p

  stands : (p : ℕ) → p < 8 → bit_of t.processors p ≡ true → Stands p
  stands p l h = go (bit_of common p) refl (any (is_shared t.processors common) p) refl
    where
      reached : (q : ℕ) → q < 8 → bit_of common q ≡ true → (i : ℕ) → i < n → bit_of (work_at works i).reached q ≡ true
      reached q m e i k = at (λ (x : ℕ). bit_of (work_at works x).reached q) n (sym (all q m) ∙ e) i k

      own : (bit_of common p && any (is_shared t.processors common) p) ≡ false → Stands p
      own e = record {
        place = p;
        most = omega arith;
        searched = few-bit p l ∙ ap₂ (λ (a b : Bool). a && not b) h e;
        alike = λ (i : ℕ) (k : i < n). refl;
      }

      lead : bit_of common p ≡ true → Lowest (is_shared t.processors common) p → Stands p
      lead e s =
          let q = s.place in
          let m : q < 8 = omega (arith, s.within, l) in
          let asked = and_0 (bit_of t.processors q) (bit_of common q) s.holds in
          let shared = and-1 (bit_of t.processors q) (bit_of common q) s.holds in
          record {
            place = q;
            most = omega (arith, s.within);
            searched = few-bit q m ∙ simp (asked, shared, s.first);
            alike = λ (i : ℕ) (k : i < n). reached q m shared i k ∙ sym (reached p l e i k);
          }

      go : (a : Bool) → bit_of common p ≡ a → (b : Bool) → any (is_shared t.processors common) p ≡ b → Stands p
      go true e true d = lead e (lowest (is_shared t.processors common) p d)
      go true e false d = own (ap₂ ◌&&◌ e d)
      go false e b d = own (ap (λ (x : Bool). x && any (is_shared t.processors common) p) e)

  -- an entry goes as the one at the same place of a processor that the same steps reach
  goes-alike : (w : Work) (p q : ℕ) (leaf : Bool) (l : _) (base : ℕ) → bit_of w.reached q ≡ bit_of w.reached p →
      goes w (placed t asid q leaf l base) ≡ goes w (placed t asid p leaf l base)
  unfolding goes
  goes-alike w p q leaf l base e =
      let a = placed t asid q leaf l base in
      let b = placed t asid p leaf l base in
      rw (level-alike w.level a b refl refl, asid-alike w.asid a b refl, e) refl

  taken-alike : (p q j y : ℕ) → ((i : ℕ) → i < n → bit_of (work_at works i).reached q ≡ bit_of (work_at works i).reached p) →
      taken_by works n (entry_in t asid q j y) ≡ taken_by works n (entry_in t asid p j y)
  unfolding entry_in
  taken-alike p q j y h =
      any_same (λ (i : ℕ). goes (work_at works i) (entry_in t asid q j y)) (λ (i : ℕ). goes (work_at works i) (entry_in t asid p j y)) n
      (λ (i : ℕ) (k : i < n). goes-alike (work_at works i) p q (leaf_at j) (level_at j) (y * 2 ^ exponent_in t (level_at j)) (h i k))

  -- the places that are searched
  abbrev fewer : Target
  fewer = on_processors t few

  same-entry : (p j q : ℕ) → entry_in fewer asid p j q ≡ entry_in t asid p j q
  unfolding entry_in
  same-entry p j q = refl

  candidate : (p j q : ℕ) → Candidate fewer p j q → Candidate t p j q
  unfolding is_asked
  candidate p j q c = record {
    processor = c.processor;
    named = named p c.processor c.named;
    kind = c.kind;
    asked = c.asked;
    low = c.low;
    high = c.high;
  }

  standing : (p j q : ℕ) (c : Candidate t p j q) (s : Stands p) → Candidate fewer s.place j q
  unfolding is_asked
  standing p j q c s = record {
    processor = omega (arith, s.most, c.processor);
    named = s.searched;
    kind = c.kind;
    asked = c.asked;
    low = c.low;
    high = c.high;
  }

  -- what the search may count on there
  pub fewer-searches : Searches t works n asid → Searches (on_processors t (searched_of t.processors common)) works n asid
  unfolding entry_in
  fewer-searches s = record {
    most = s.most;
    granule = s.granule;
    last = s.last;
    owned = s.owned;
    legal = λ (p j q : ℕ) (c : Candidate fewer p j q). s.legal p j q (candidate p j q c);
  }

  -- where the entry of the one that stands for it goes, so does that of each
  also : (x i y : ℕ) (c : Candidate t x i y) (s : Stands x) → taken_by works n (entry_in fewer asid s.place i y) ≡ true → taken_by works n (entry_in t asid x i y) ≡ true
  also x i y c s h =
      sym (taken-alike x s.place i y s.alike) ∙ ap (taken_by works n) (sym (same-entry s.place i y)) ∙ h

  accepted : Searched fewer works n asid None → Searched t works n asid None
  accepted h x i y c =
      let s = stands x c.processor c.named in also x i y c s (h s.place i y (standing x i y c s))

  gap : (e : Entry) → First fewer works n asid e → First t works n asid e
  gap e f = record {
    processor = f.processor;
    kind = f.kind;
    number = f.number;
    candidate = candidate f.processor f.kind f.number f.candidate;
    entry = sym (same-entry f.processor f.kind f.number) ∙ f.entry;
    stays = f.stays;
    passed = passed;
  }
    where
      earlier : (x i y z : ℕ) → z ≤ x → Earlier x i y f.processor f.kind f.number → Earlier z i y f.processor f.kind f.number
      earlier x i y z l (inl less) = inl (omega arith)
      earlier x i y z l (inr (same, rest)) = go (ℕ_discrete z f.processor)
        where
          go : Dec (z ≡ f.processor) → Earlier z i y f.processor f.kind f.number
          go (yes e) = inr (e, rest)
          go (no d) = inl (omega arith)

      passed : (x i y : ℕ) → Candidate t x i y → Earlier x i y f.processor f.kind f.number → taken_by works n (entry_in t asid x i y) ≡ true
      passed x i y c r =
          let s = stands x c.processor c.named in
          also x i y c s (f.passed s.place i y (standing x i y c s) (earlier x i y s.place s.most r))

  -- what the search says there holds on all processors of the target
  pub fewer-searched : (r : Option Entry) → Searched (on_processors t (searched_of t.processors common)) works n asid r → Searched t works n asid r
  fewer-searched None h = accepted h
  fewer-searched (Some e) h = gap e h
