-- From the works of the steps to the list, and from the search to the verdict.
use Prim.Native.Nat.{ℕ, ◌*◌, ◌/◌, ◌^◌, ◌<◌}
use mathlib.Core.Bool.{Bool, true, false, not, ◌&&◌, ◌||◌}
use mathlib.Core.List.{List}
use mathlib.Core.Logic.{◌⊎◌, inl, inr}
use mathlib.Core.Path.{◌≡◌, refl, sym, ap, subst, ◌∙◌}
use native.Mathlib.Nat.{div-lt_iff_lt-mul}
use native.Mathlib.Omega.{arith}
use lib.Dec.{eqb, ltb, leb}
use lib.Pow.{pow_pos}
use borrow.Author.Tests.{eqb-true, leb-true, ltb-true, lt-ltb, eq-eqb, not-false}
use Rattle.std.specs.Prelude.{Option, Some, None, Result, Ok, Err, is_none}
use Rattle.laws.proofs.Any.{any_none, none_any, any_some, some-any, any-slots}
use Rattle.laws.proofs.Slots.{some-none, none-some, first-is}
use Rattle.laws.proofs.Truth.{and_0, and-1, not_so, clash, or_left}
use Rattle.laws.specs.Slots.{slots, holds_at, first, some}
use Rattle.machine.proofs.Going.{going, going-holds}
use Rattle.machine.proofs.Judging.{is_taken, list_done, alone-table, survive, survived, does}
use Rattle.machine.proofs.Running.{list-shape}
use Rattle.machine.proofs.Tags.{legal, company-one, company-self}
use Rattle.machine.proofs.Verdicts.{aiming, kind-there}
use Rattle.machine.specs.Answer.{number_of}
use Rattle.machine.specs.Entry.{has_asids, is_same_asid, span_of}
use Rattle.machine.specs.Execute.{is_work, refuses, ran_of, on_work}
use Rattle.machine.specs.Goes.{is_width_of, goes}
use Rattle.machine.specs.Judge.{is_outside, holds_number, holds_asid, is_held, kind_of, leaf_at, level_at, is_before, alone, Aimed, Survives, Survivor, Sound, Verdict}
use Rattle.machine.specs.Table.{same_company}
use Rattle.machine.specs.declared.entry.Company.{Company}
use Rattle.machine.specs.declared.entry.Entry.{Entry}
use Rattle.machine.specs.declared.judge.Objection.TheVariants.{Refused, Outside}
use Rattle.machine.specs.declared.judge.Target.{Target}
use Rattle.machine.specs.declared.processor.State.{State}
use Rattle.machine.specs.declared.refusal.Refusal.{Refusal}
use Rattle.machine.specs.declared.work.Work.{Work}
use Rattle.judge.proofs.Alike.{level-alike}
use Rattle.judge.proofs.Targets.{Fits, Rules, target_keeps, candidate-aimed, hard, aimed-placed, none-all}
use Rattle.coverage.specs.Asids.{Named}
use Rattle.coverage.specs.Places.{exponent_in}
use Rattle.judge.specs.Search.{entry_in, Candidate, Earlier, First, Searched, verdict_by, Searches}
use Rattle.steps.specs.Steps.{work_in, work_at, step_at, AreSteps, FirstOther, taken_by, used_by}
use Rattle.steps.proofs.Loops.{Each}

-- where no step is refused, the works are those of the steps
module _ (st : State) (steps : List ℕ) (works : List Work) (are : AreSteps st steps works) (done : some (refuses st) steps ≡ false) where
  pub step-works : (i : ℕ) → i < slots steps → step_at st steps i ≡ Ok (work_at works i)
  step-works i l = go (step_at st steps i) (some-none (refuses st) steps done i l) ∙ ap Ok (sym (are.each i l))
    where
      go : (r : Result Work Refusal) → not (is_work r) ≡ false → r ≡ Ok (work_in r)
      go (Ok w) h = refl
      go (Err r) h = clash refl h

  taken-steps : (e : Entry) → taken_by works (slots steps) e ≡ some (is_taken st e) steps
  taken-steps e = any-slots (λ (i : ℕ). goes (work_at works i) e) (is_taken st e) steps (λ (i : ℕ) (l : i < slots steps). ap (on_work (λ w. goes w e)) (sym (step-works i l)))

  used-steps : (a : ℕ) → used_by works (slots steps) a ≡ some (is_held st a) steps
  used-steps a = any-slots (λ (i : ℕ). holds_asid a (work_at works i)) (is_held st a) steps (λ (i : ℕ) (l : i < slots steps). ap (on_work (holds_asid a)) (sym (step-works i l)))

  other-steps : (c : Company) (i : ℕ) → i < slots steps → holds_at (is_outside st c) steps i ≡ not (same_company (work_at works i).company c)
  other-steps c i l = ap (on_work (λ w. not (same_company w.company c))) (step-works i l)

  -- the first work of another company is the first step outside
  outside-first : (c : Company) (k : ℕ) → FirstOther c works (slots steps) (Some k) →
      (some (is_outside st c) steps ≡ true) × (k ≡ first (is_outside st c) steps)
  outside-first c k (l, lower, here) =
      let at : first (is_outside st c) steps ≡ k =
      first-is (is_outside st c) steps k l
      (λ (i : ℕ) (m : i < k). other-steps c i (omega arith) ∙ ap not (lower i m))
      (other-steps c k l ∙ ap not here) in
      (lt-ltb (first (is_outside st c) steps) (slots steps) (omega (arith, at)), sym at)

  -- or there is none
  pub inside-all : (c : Company) → FirstOther c works (slots steps) None → some (is_outside st c) steps ≡ false
  inside-all c f =
      sym (any-slots (λ (i : ℕ). not (same_company (work_at works i).company c)) (is_outside st c) steps (λ (i : ℕ) (m : i < slots steps). sym (other-steps c i m)))
      ∙ none_any (λ (i : ℕ). not (same_company (work_at works i).company c)) (slots steps) (λ (i : ℕ) (m : i < slots steps). ap not (f i m))

-- A work that drops the entry with XS 1, not global, with the named ASID, drops every entry that the target asks for at that place.
worst : (t : Target) (works : List Work) (n a i : ℕ) (d : Entry) → i < n → Named t works n a → Aimed t d → goes (work_at works i) (hard a d) ≡ true →
    goes (work_at works i) d ≡ true
worst t works n a i d l m h k =
    let g = going w (hard a d) k in
    going-holds w d
    (record {
      reached = g.reached;
      owned = g.owned;
      granule = g.granule;
      met = g.met;
      hinted = ap (λ (x : Bool). is_none w.level || (is_width_of w d && x)) (level-alike w.level d (hard a d) refl refl) ∙ g.hinted;
      width = g.width;
      leaf = g.leaf;
      asid = asid w.asid refl g.asid;
      xs = xs w.nxs g.xs;
    })
  where
    w : Work
    w = work_at works i

    xs : (b : Bool) → (not b || not true) ≡ true → (not b || not d.xs) ≡ true
    xs true e = clash e refl
    xs false e = refl

    plain : (x y : Bool) → (x || (y && false)) ≡ true → x ≡ true
    plain true y e = refl
    plain false true e = clash e refl
    plain false false e = clash e refl

    same : (x : ℕ) → w.asid ≡ Some x → a ≡ x → (o : Option ℕ) → t.asid ≡ o → (s : Bool) → has_asids t.company ≡ s → (eqb d.asid x || (d.leaf && d.global)) ≡ true
    same x u e (Some y) i s j =
        ap (λ (z : ℕ). eqb d.asid z || (d.leaf && d.global)) (sym e ∙ m.own y i)
        ∙ ap (λ (z : Option ℕ). is_same_asid z d || (d.leaf && d.global)) (sym i)
        ∙ (aiming t d h.aimed).asid
    same x u e None i true j =
        let used : holds_asid a w ≡ true = ap (holds_number a) u ∙ eq-eqb x a (sym e) in
        clash used (any_none (λ (y : ℕ). holds_asid a (work_at works y)) n (m.free i j).free _ l)
    same x u e None i false j =
        let none : a ≡ 0 = m.none i j in
        let own : has_asids d.company ≡ false = ap has_asids (company-one d.company t.company (aiming t d h.aimed).company) ∙ j in
        let zero : d.asid ≡ 0 = plain-asid (has_asids d.company) own (legal d h.legal).asids in
        or_left (eqb d.asid x) (d.leaf && d.global) (eq-eqb d.asid x (zero ∙ sym none ∙ e))
      where
        plain-asid : (b : Bool) → b ≡ false → (b || (eqb d.asid 0 && not d.global)) ≡ true → d.asid ≡ 0
        plain-asid true p q = clash refl p
        plain-asid false p q = eqb-true d.asid 0 (and_0 (eqb d.asid 0) (not d.global) q)

    asid : (o : Option ℕ) → w.asid ≡ o → (is_same_asid o (hard a d) || (d.leaf && false)) ≡ true → (is_same_asid o d || (d.leaf && d.global)) ≡ true
    asid (Some x) u e = same x u (eqb-true a x (plain (eqb a x) d.leaf e)) t.asid refl (has_asids t.company) refl
    asid None u e = refl

module _
    (st : State)
    (t : Target)
    (steps : List ℕ)
    (works : List Work)
    (a : ℕ)
    (sound : Sound st t steps)
    (fits : Fits t)
    (are : AreSteps st steps works)
    (done : some (refuses st) steps ≡ false)
    (inside : some (is_outside st t.company) steps ≡ false)
    (named : Named t works (slots steps) a)
    (low : a < 2 ^ 16) where
  keeps : Rules t
  keeps = target_keeps st t sound.target

  -- what the search counts on
  pub searches : Searches t works (slots steps) a
  searches = record {
    most = let shape = list-shape steps sound.list in omega (arith, shape);
    granule = leb-true t.granule 3 (and-1 (leb 1 t.granule) (leb t.granule 3) keeps.granule);
    last = fits.last;
    owned = λ (i : ℕ) (l : i < slots steps). own i l;
    legal = λ (p j q : ℕ) (c : Candidate t p j q). (candidate-aimed t works (slots steps) a p j q fits keeps named low c).legal;
  }
    where
      own : (i : ℕ) → i < slots steps → same_company t.company (work_at works i).company ≡ true
      own i l =
          let apart : not (same_company (work_at works i).company t.company) ≡ false =
          sym (other-steps st steps works are done t.company i l) ∙ some-none (is_outside st t.company) steps inside i l in
          let same = company-one (work_at works i).company t.company (not-false (same_company (work_at works i).company t.company) apart) in
          ap (same_company t.company) same ∙ company-self t.company

  -- an entry that the target asks for goes where the one at its place does
  goes-too : (d : Entry) → Aimed t d → taken_by works (slots steps) (entry_in t a d.processor (kind_of d.leaf d.level) (d.base / 2 ^ span_of d)) ≡ true →
      some (is_taken st d) steps ≡ true
  goes-too d h k =
      let e = (aimed-placed t a d h).entry in
      let s = any_some (λ (i : ℕ). goes (work_at works i) (hard a d)) (slots steps) (ap (taken_by works (slots steps)) (sym e) ∙ k) in
      sym (taken-steps st steps works are done d)
      ∙ some-any (λ (i : ℕ). goes (work_at works i) d) (slots steps) s.place s.within
      (worst t works (slots steps) a s.place d s.within named h s.holds)

  accepts : Searched t works (slots steps) a None → Verdict st t steps (Ok tt)
  accepts h = (
    sound,
    does st t steps sound.list sound.state done inside
        (λ (d : Entry) (k : Aimed t d).
        goes-too d k (h d.processor (kind_of d.leaf d.level) (d.base / 2 ^ span_of d) (aimed-placed t a d k).candidate)),
  )

  -- an entry is before that of a place only if its own place is
  before : (d : Entry) (p j q : ℕ) → Aimed t d → j < 7 → is_before d (entry_in t a p j q) ≡ true →
      Earlier d.processor (kind_of d.leaf d.level) (d.base / 2 ^ span_of d) p j q
  unfolding is_before entry_in
  before d p j q h l k = processors (ltb d.processor p) refl k
    where
      kind : ℕ
      kind = kind_of d.leaf d.level

      there : kind_of (leaf_at j) (level_at j) ≡ j
      there = (kind-there j l).0

      base : ℕ
      base = q * 2 ^ exponent_in t (level_at j)

      numbers : kind ≡ j → d.base < base → d.base / 2 ^ span_of d < q
      numbers e less =
          let k : exponent_in t (level_at j) ≡ span_of d = ap (λ (m : ℕ). exponent_in t (level_at m)) (sym e) ∙ (aimed-placed t a d h).exponent in
          (div-lt_iff_lt-mul {x = d.base} {y = q} (pow_pos (span_of d))).1 (subst (λ (m : ℕ). d.base < q * 2 ^ m) k less)

      kinds : (b : Bool) → ltb kind (kind_of (leaf_at j) (level_at j)) ≡ b → (b || (eqb kind (kind_of (leaf_at j) (level_at j)) && ltb d.base base)) ≡ true →
          (kind < j) ⊎ ((kind ≡ j) × (d.base / 2 ^ span_of d < q))
      kinds true e r = inl (subst (λ (m : ℕ). kind < m) there (ltb-true kind (kind_of (leaf_at j) (level_at j)) e))
      kinds false e r =
          let same : kind ≡ j = eqb-true kind (kind_of (leaf_at j) (level_at j)) (and_0 (eqb kind (kind_of (leaf_at j) (level_at j))) (ltb d.base base) r) ∙ there in
          inr (same, numbers same (ltb-true d.base base (and-1 (eqb kind (kind_of (leaf_at j) (level_at j))) (ltb d.base base) r)))

      processors : (b : Bool) → ltb d.processor p ≡ b →
          (b
          || (eqb d.processor p
          && (ltb kind (kind_of (leaf_at j) (level_at j)) || (eqb kind (kind_of (leaf_at j) (level_at j)) && ltb d.base base))))
          ≡ true →
          Earlier d.processor kind (d.base / 2 ^ span_of d) p j q
      processors true e r = inl (ltb-true d.processor p e)
      processors false e r =
          let x = eqb d.processor p in
          let y = ltb kind (kind_of (leaf_at j) (level_at j)) || (eqb kind (kind_of (leaf_at j) (level_at j)) && ltb d.base base) in
          inr (eqb-true d.processor p (and_0 x y r), kinds (ltb kind (kind_of (leaf_at j) (level_at j))) refl (and-1 x y r))

  survives : (e : Entry) → First t works (slots steps) a e → Survivor st t steps e
  unfolding entry_in
  survives e f = record {
    asked = asked;
    survives = survive st steps e asked.sized asked.legal runs (sym (taken-steps st steps works are done e) ∙ f.stays);
    lowest = lowest;
    xs = ap (λ (x : Entry). x.xs) (sym f.entry);
    global = ap (λ (x : Entry). x.global) (sym f.entry);
    own_asid = λ (n : ℕ) (o : t.asid ≡ Some n). asid ∙ named.own n o;
    asid_free = λ (o : t.asid ≡ None) (h : has_asids t.company ≡ true).
        ap (λ (n : ℕ). some (is_held st n) steps) asid ∙ sym (used-steps st steps works are done a) ∙ (named.free o h).free;
    lowest_asid = λ (o : t.asid ≡ None) (n : ℕ) (l : n < e.asid). lower o n (has_asids t.company) refl (subst (λ (m : ℕ). n < m) asid l);
    no_asid = λ (h : has_asids t.company ≡ false). asid ∙ named.none (none-all t keeps h) h;
  }
    where
      asid : e.asid ≡ a
      asid = ap (λ (x : Entry). x.asid) (sym f.entry)

      asked : Aimed t e
      asked =
          subst (Aimed t) f.entry
          (candidate-aimed t works (slots steps) a f.processor f.kind f.number fits keeps named low f.candidate)

      runs : number_of (ran_of st steps (alone e)) ≡ 0
      runs = list_done st steps (alone e) sound.list sound.state done (alone-table e asked.legal).0

      lower : t.asid ≡ None → (n : ℕ) → (b : Bool) → has_asids t.company ≡ b → n < a → some (is_held st n) steps ≡ true
      lower o n true h l = sym (used-steps st steps works are done n) ∙ (named.free o h).lowest n l
      lower o n false h l = absurd (let z : a ≡ 0 = named.none o h in omega (arith, z))

      lowest : (d : Entry) → Aimed t d → Survives st steps d → is_before d e ≡ false
      lowest d k s =
          not_so (is_before d e)
          (λ (h : is_before d e ≡ true).
          let first = before d f.processor f.kind f.number k f.candidate.kind (ap (is_before d) f.entry ∙ h) in
          let gone = f.passed d.processor (kind_of d.leaf d.level) (d.base / 2 ^ span_of d) (aimed-placed t a d k).candidate first in
          let run = list_done st steps (alone d) sound.list sound.state done (alone-table d k.legal).0 in
          clash (goes-too d k gone) (survived st steps d k.sized k.legal run s))

  -- what the search says is the verdict
  pub decides : (r : Option Entry) → Searched t works (slots steps) a r → Verdict st t steps (verdict_by r)
  decides None h = accepts h
  decides (Some e) h = (sound, done, inside, survives e h)

-- the answers before the search
-- a step that has no work is refused, and one that has is not
refused-step : (st : State) (steps : List ℕ) (i : ℕ) (r : Refusal) → step_at st steps i ≡ Err r → holds_at (refuses st) steps i ≡ true
refused-step st steps i r e = ap (λ (x : Result Work Refusal). not (is_work x)) e

done-step : (st : State) (steps : List ℕ) (i : ℕ) (w : Work) → step_at st steps i ≡ Ok w → holds_at (refuses st) steps i ≡ false
done-step st steps i w e = ap (λ (x : Result Work Refusal). not (is_work x)) e

pub refused-verdict : (st : State) (t : Target) (steps : List ℕ) (works : List Work) (k : ℕ) (r : Refusal) → Sound st t steps → Each st steps works k → k < slots steps →
    step_at st steps k ≡ Err r → Verdict st t steps (Err (Refused k))
refused-verdict st t steps works k r s each l e =
    let at : first (refuses st) steps ≡ k =
    first-is (refuses st) steps k l (λ (i : ℕ) (m : i < k). done-step st steps i (work_at works i) (each i m)) (refused-step st steps k r e) in
    (s, lt-ltb (first (refuses st) steps) (slots steps) (omega (arith, at)), sym at)

pub refused_none : (st : State) (steps : List ℕ) (works : List Work) → Each st steps works (slots steps) → some (refuses st) steps ≡ false
refused_none st steps works each =
    none-some (refuses st) steps (λ (i : ℕ) (m : i < slots steps). done-step st steps i (work_at works i) (each i m))

pub outside-verdict : (st : State) (t : Target) (steps : List ℕ) (works : List Work) (k : ℕ) → Sound st t steps → AreSteps st steps works → some (refuses st) steps ≡ false →
    FirstOther t.company works (slots steps) (Some k) → Verdict st t steps (Err (Outside k))
outside-verdict st t steps works k s are done f = let (some, at) = outside-first st steps works are done t.company k f in (s, done, some, at)
