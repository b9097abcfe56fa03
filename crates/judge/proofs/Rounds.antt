-- The pass over a list's steps: the words that a turn reads, and what is known where it has ended.
use Prim.Native.Nat.{ℕ, ◌+◌, ◌*◌, ◌^◌, ◌<◌, ◌≤◌}
use mathlib.Core.Bool.{Bool, true, false, not}
use mathlib.Core.List.{List, [], ◌∷◌}
use mathlib.Core.Path.{◌≡◌, refl, sym, ap, subst, ◌∙◌}
use native.Mathlib.Decide.{ℕ_discrete}
use native.Mathlib.Omega.{arith}
use lib.Dec.{eqb}
use lib.ListN.{length, get_or, set, take}
use lib.Seq.{get_or-set_same, get_or-set_other}
use borrow.Author.Tests.{eqb-true, not-false}
use Rattle.std.proofs.Common.{slice_index}
use Rattle.std.proofs.lemmas.List.{get_or-take, length-take}
use Rattle.std.specs.Simd.{first_chunks}
use Rattle.std.specs.Result.{result_unwrap_or}
use Rattle.std.specs.Prelude.{Option, Some, None, Result, Ok, Err, IfSome}
use Rattle.coverage.proofs.Covering.{named_by}
use Rattle.coverage.specs.Asids.{Named, NamedBy}
use Rattle.coverage.specs.Processors.{searched_of}
use Rattle.laws.proofs.Chunked.{step-words}
use Rattle.judge.proofs.Deciding.{refused-verdict, refused_none, outside-verdict, inside-all, searches, decides}
use Rattle.judge.proofs.Fewer.{fewer-searches, fewer-searched}
use Rattle.judge.proofs.Targets.{Fits}
use Rattle.judge.specs.Search.{Searched, verdict_by, Searches, on_processors}
use Rattle.laws.proofs.Truth.{clash}
use Rattle.laws.specs.Slots.{slots, some}
use Rattle.machine.proofs.Running.{list-shape}
use Rattle.machine.proofs.Works.{fit}
use Rattle.machine.specs.Execute.{refuses, resolved_word, resolved_of}
use Rattle.machine.specs.Judge.{Sound, Verdict, is_outside}
use Rattle.machine.specs.Word.{read_of}
use Rattle.machine.specs.declared.entry.Entry.{Entry}
use Rattle.machine.specs.declared.judge.Objection.TheVariants.{Refused, Outside}
use Rattle.machine.specs.declared.judge.Target.{Target}
use Rattle.machine.specs.declared.operation.Operation.{Operation}
use Rattle.machine.specs.declared.processor.State.{State}
use Rattle.machine.specs.declared.refusal.Refusal.{Refusal}
use Rattle.machine.specs.declared.work.Work.{Work}
use Rattle.steps.proofs.Holding.{ComesOf}
use Rattle.steps.proofs.Loops.{FirstBelow, step_work, Each, each-end, Checking, checking-end}
use Rattle.steps.specs.Steps.{no_work, work_in, work_at, step_at, AreSteps, FirstOther, Checks}
use Rattle.steps.specs.declared.checks.Checked.{Checked}
use Rattle.works.proofs.Reading.{read-resolved}

-- word 0 is no operation
pub word-zero : None ≡ read_of 0
unfolding read_of
word-zero = refl

-- word j of step i
abbrev pub word_of : List (List ℕ) → ℕ → ℕ → ℕ
word_of s i j = slice_index (get_or s i []) j

-- what a step comes to, by the words of the list's steps
pub step-resolved : (st : State) (l : List ℕ) (s : List (List ℕ)) (i : ℕ) (d : Option Operation) (r : Result Work Refusal) → s ≡ first_chunks 3 (slots l) l → i < slots l →
    d ≡ read_of (word_of s i 0) → r ≡ resolved_word st (word_of s i 1) (word_of s i 2) d → step_at st l i ≡ r
step-resolved st l s i d r all m e h =
    let words : get_or s i [] ≡ (get_or l (3 * i) 0 ∷ get_or l (3 * i + 1) 0 ∷ get_or l (3 * i + 2) 0 ∷ []) = ap (λ (x : List (List ℕ)). get_or x i []) all ∙ step-words (slots l) i l m (omega arith) in
    sym (read-resolved st (get_or l (3 * i) 0) (get_or l (3 * i + 1) 0) (get_or l (3 * i + 2) 0) d r
    (e ∙ ap (λ (w : List ℕ). read_of (slice_index w 0)) words)
    (h ∙ ap (λ (w : List ℕ). resolved_word st (slice_index w 1) (slice_index w 2) d) words))

-- the works below i are those of the steps, and stand for none where a step is refused
abbrev pub Taken : State → List ℕ → List Work → ℕ → Type 0
Taken st l works i = (x : ℕ) → x < i → work_at works x ≡ step_work st l x

pub taken-work : (st : State) (l : List ℕ) (i : ℕ) (r : Result Work Refusal) (w : Work) → step_at st l i ≡ r → w ≡ result_unwrap_or r no_work → w ≡ step_work st l i
taken-work st l i (Ok v) w e h = h ∙ ap work_in (sym e)
taken-work st l i (Err r) w e h = h ∙ ap work_in (sym e)

pub taken-more : (st : State) (l : List ℕ) (works : List Work) (i : ℕ) (w : Work) → i < length works → w ≡ step_work st l i → Taken st l works i →
    Taken st l (set works i w) (i + 1)
taken-more st l works i w m e h x b = go (ℕ_discrete x i)
  where
    go : Dec (x ≡ i) → work_at (set works i w) x ≡ step_work st l x
    go (yes p) = subst (λ (y : ℕ). work_at (set works i w) y ≡ step_work st l y) (sym p) (get_or-set_same works i w no_work m ∙ e)
    go (no d) = get_or-set_other works i x w no_work d ∙ h x (omega arith)

-- whether a step has a work
abbrev pub has_work : State → List ℕ → ℕ → Bool
has_work st l x = not (eqb (step_work st l x).granule 0)

done-work : (st : State) (l : List ℕ) (i : ℕ) (w : Work) → w ≡ step_work st l i → has_work st l i ≡ true → step_at st l i ≡ Ok w
done-work st l i w h some = go (step_at st l i) refl
  where
    go : (r : Result Work Refusal) → step_at st l i ≡ r → step_at st l i ≡ Ok w
    go (Ok v) e = e ∙ ap Ok (sym (h ∙ ap work_in e))
    go (Err r) e = clash some (ap (λ (x : Result Work Refusal). not (eqb (work_in x).granule 0)) e)

each-below : (st : State) (l : List ℕ) (works : List Work) (i k : ℕ) → Taken st l works i → k ≤ i → ((x : ℕ) → x < k → has_work st l x ≡ true) → Each st l works k
each-below st l works i k taken m some x b = done-work st l x (work_at works x) (taken x (omega arith)) (some x b)

-- the first step without work is the one that is refused
pub ends-refused : (st : State) (t : Target) (l : List ℕ) (works : List Work) (i k : ℕ) → Sound st t l → Taken st l works i → i ≤ slots l →
    FirstBelow (has_work st l) i (Some k) → Verdict st t l (Err (Refused k))
ends-refused st t l works i k s taken all (m, f, none) = go (step_at st l k) refl
  where
    go : (r : Result Work Refusal) → step_at st l k ≡ r → Verdict st t l (Err (Refused k))
    go (Err r) e = refused-verdict st t l works k r s (each-below st l works i k taken (omega arith) f) (omega arith) e
    go (Ok w) e =
        let some = (fit st (get_or l (3 * k) 0) (get_or l (3 * k + 1) 0) (get_or l (3 * k + 2) 0) w e).granule_some in
        let zero : w.granule ≡ 0 = ap (λ (x : Result Work Refusal). (work_in x).granule) (sym e) ∙ eqb-true (step_work st l k).granule 0 (not-false (eqb (step_work st l k).granule 0) none) in
        absurd (omega (arith, some, zero))

-- where there is none, each step has the work that was taken
pub each-done : (st : State) (l : List ℕ) (works : List Work) (i : ℕ) (o : Option ℕ) → Taken st l works i → FirstBelow (has_work st l) i o → o ≡ None → Each st l works i
each-done st l works i o taken f e = each-below st l works i i taken (omega arith) (subst (FirstBelow (has_work st l) i) e f)

-- the work of a step comes of its word
pub comes-before : (st : State) (l : List ℕ) (s : List (List ℕ)) (works : List Work) (i : ℕ) → s ≡ first_chunks 3 (slots l) l → i < slots l →
    work_at works i ≡ step_work st l i → ComesOf st (word_of s i 0) (work_at works i)
comes-before st l s works i all m e =
    let words : get_or s i [] ≡ (get_or l (3 * i) 0 ∷ get_or l (3 * i + 1) 0 ∷ get_or l (3 * i + 2) 0 ∷ []) = ap (λ (x : List (List ℕ)). get_or x i []) all ∙ step-words (slots l) i l m (omega arith) in
    record {
      xt = get_or l (3 * i + 1) 0;
      xt2 = get_or l (3 * i + 2) 0;
      work = e ∙ ap work_in (sym (ap (λ (w : List ℕ). resolved_of st (slice_index w 0) (get_or l (3 * i + 1) 0) (get_or l (3 * i + 2) 0)) words));
    }

-- where the pass has ended: n works of the list of sixteen are those of the steps
module _
    (st : State)
    (t : Target)
    (l : List ℕ)
    (sound : Sound st t l)
    (works : List Work)
    (long : length works ≡ 16)
    (r : Checked)
    (i n : ℕ)
    (end : i ≡ n)
    (all : n ≡ slots l)
    (each : Each st l works i)
    (checking : Checking t.company (step_work st l) i r) where
  abbrev ours : List Work
  ours = take n works

  few : slots l ≤ 16
  few = let shape = list-shape l sound.list in omega (arith, shape)

  pub length-ours : length ours ≡ slots l
  length-ours = let e = length-take n works in omega (arith, e, long, few, all)

  each-ours : Each st l ours (slots l)
  each-ours x m = each x (omega arith) ∙ ap Ok (sym (get_or-take n works x no_work (omega arith)))

  are : AreSteps st l ours
  are = each-end st l ours (slots l) (omega arith) each-ours

  done : some (refuses st) l ≡ false
  done = refused_none st l ours each-ours

  checks : Checks t.company ours (slots l) r
  checks = checking-end t.company (step_work st l) ours (slots l) i r (omega arith) (omega arith) are.each checking

  pub ends-outside : (k : ℕ) → r.outside ≡ Some k → Verdict st t l (Err (Outside k))
  ends-outside k e = outside-verdict st t l ours k sound are done (subst (FirstOther t.company ours (slots l)) e checks.outside)

  module _
      (inside : r.outside ≡ None)
      (vmid : t.company.vmid < 2 ^ 16)
      (first : t.first < 2 ^ 64)
      (last : t.last < 2 ^ 64)
      (a p : ℕ)
      (low : a < 2 ^ 16)
      (named : NamedBy t r.used a)
      (fewer : p ≡ searched_of t.processors r.common) where
    fits : Fits t
    fits = record { vmid = vmid; asid = asid t.asid refl; first = first; last = last }
      where
        asid : (o : Option ℕ) → t.asid ≡ o → IfSome o (λ n. n < 2 ^ 16)
        asid (Some n) e = let own = named.own n e in omega (arith, own, low)
        asid None e = tt

    none-outside : some (is_outside st t.company) l ≡ false
    none-outside = inside-all st l ours are done t.company (subst (FirstOther t.company ours (slots l)) inside checks.outside)

    free : Named t ours (slots l) a
    free = named_by t ours (slots l) r.used a few checks.used named

    pub ends-searches : Searches (on_processors t p) ours (length ours) a
    ends-searches =
        subst (λ (m : ℕ). Searches (on_processors t p) ours m a) (sym length-ours)
        (subst (λ (q : ℕ). Searches (on_processors t q) ours (slots l) a) (sym fewer)
        (fewer-searches t ours (slots l) a r.common checks.common (searches st t l ours a sound fits are done none-outside free low)))

    pub ends-searched : (o g : Option Entry) → Searched (on_processors t p) ours (length ours) a o → o ≡ g → Verdict st t l (verdict_by g)
    ends-searched o g h e =
        subst (λ (x : Option Entry). Verdict st t l (verdict_by x)) e
        (decides st t l ours a sound fits are done none-outside free low o
        (fewer-searched t ours (slots l) a r.common checks.common o
        (subst (λ (q : ℕ). Searched (on_processors t q) ours (slots l) a o) fewer
        (subst (λ (m : ℕ). Searched (on_processors t p) ours m a o) length-ours h))))
