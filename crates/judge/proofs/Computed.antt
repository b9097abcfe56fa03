-- The judge as a function to compute with: it gives the verdict, so whatever meets the contract of `judge` answers what it does.
use Prim.Native.Nat.{ℕ, zero, suc, ◌+◌, ◌*◌, ◌-◌, ◌/◌, ◌^◌, ◌<◌, ◌≤◌}
use mathlib.Core.Bool.{Bool, true, false, cond}
use mathlib.Core.List.{List, [], ◌∷◌}
use mathlib.Core.Path.{◌≡◌, refl, sym, ap, ◌∙◌}
use native.Mathlib.Omega.{arith}
use lib.Dec.{leb}
use lib.ListN.{get_or}
use borrow.Author.Tests.{leb-true, leb-false}
use Rattle.std.specs.Prelude.{⊤, Option, Some, None, Result, Err, IfSome}
use Rattle.std.specs.Option.{option_or}
use Rattle.laws.specs.Every.{any}
use Rattle.laws.specs.Mask.{bit_of}
use Rattle.laws.specs.Slots.{slots, first, some}
use Rattle.machine.proofs.Running.{list-shape}
use Rattle.machine.proofs.Verdicts.{verdict-one}
use Rattle.machine.proofs.Works.{fit}
use Rattle.machine.specs.Entry.{has_asids}
use Rattle.machine.specs.Execute.{resolved_of, is_list, refuses}
use Rattle.machine.specs.Goes.{goes}
use Rattle.machine.specs.Judge.{is_outside, Sound, Verdict, leaf_at, level_at}
use Rattle.machine.specs.State.{bad_state}
use Rattle.machine.specs.Target.{is_target}
use Rattle.machine.specs.declared.entry.Entry.{Entry}
use Rattle.machine.specs.declared.judge.Objection.{Objection}
use Rattle.machine.specs.declared.judge.Objection.TheVariants.{BadShape, BadState, BadTarget, Refused, Outside}
use Rattle.machine.specs.declared.judge.Target.{Target}
use Rattle.machine.specs.declared.processor.State.{State}
use Rattle.machine.specs.declared.work.Work.{Work}
use Rattle.laws.proofs.Below.{below-start, below_more}
use Rattle.coverage.proofs.Covering.{Used, used-few, used-end, named-own, named-free, named_none, number-most}
use Rattle.judge.proofs.Deciding.{searches, decides, step-works}
use Rattle.judge.proofs.Targets.{Fits}
use Rattle.judge.proofs.Walk.{AtProcessor, AtKind, AtBase, start-processors, skip-processor, enter-processor, skip-kind, enter-kind, leave-kind, leave-processor, finish, jump, gap, asked-span}
use Rattle.coverage.specs.Asids.{Free, Named}
use Rattle.coverage.specs.Places.{is_asked, exponent_in, CoversTo}
use Rattle.judge.specs.Search.{entry_in, Searched, verdict_by, Searches}
use Rattle.steps.specs.Steps.{work_in, work_at, step_at, AreSteps, taken_by, used_by}

-- the works of the steps
unfoldable pub works_of : State → List ℕ → List Work
works_of st [] = []
works_of st (word ∷ []) = []
works_of st (word ∷ xt ∷ []) = []
works_of st (word ∷ xt ∷ xt2 ∷ steps) = work_in (resolved_of st word xt xt2) ∷ works_of st steps

works-each : (st : State) (steps : List ℕ) (i : ℕ) → i < slots steps → work_at (works_of st steps) i ≡ work_in (step_at st steps i)
unfolding works_of
works-each st [] i l = absurd (omega arith)
works-each st (x ∷ []) i l = absurd (omega arith)
works-each st (x ∷ y ∷ []) i l = absurd (omega arith)
works-each st (x ∷ y ∷ z ∷ steps) zero l = refl
works-each st (x ∷ y ∷ z ∷ steps) (suc i) l =
    let long : slots (x ∷ y ∷ z ∷ steps) ≡ suc (slots steps) = omega arith in
    works-each st steps i (omega (arith, long)) ∙ ap work_in (next st x y z steps i)
  where
    next : (st : State) (x y z : ℕ) (steps : List ℕ) (i : ℕ) → step_at st steps i ≡ step_at st (x ∷ y ∷ z ∷ steps) (suc i)
    next st x y z steps i =
        let l = x ∷ y ∷ z ∷ steps in
        let e : 3 * suc i ≡ suc (suc (suc (3 * i))) = omega arith in
        let f : 3 * suc i + 1 ≡ suc (suc (suc (3 * i + 1))) = omega arith in
        let g : 3 * suc i + 2 ≡ suc (suc (suc (3 * i + 2))) = omega arith in
        sym
        (ap (λ (m : ℕ). resolved_of st (get_or l m 0) (get_or l (3 * suc i + 1) 0) (get_or l (3 * suc i + 2) 0)) e
        ∙ ap (λ (m : ℕ). resolved_of st (get_or steps (3 * i) 0) (get_or l m 0) (get_or l (3 * suc i + 2) 0)) f
        ∙ ap (λ (m : ℕ). resolved_of st (get_or steps (3 * i) 0) (get_or steps (3 * i + 1) 0) (get_or l m 0)) g)

-- the lowest ASID that no step uses
unfoldable pub free_asid : List Work → ℕ → ℕ → ℕ → ℕ
free_asid works n zero a = a
free_asid works n (suc more) a = cond (used_by works n a) (free_asid works n more (a + 1)) a

abbrev asid_by : Option ℕ → ℕ → ℕ
asid_by None free = free
asid_by (Some n) free = n

unfoldable pub named_asid : Target → List Work → ℕ → ℕ
named_asid t works n = asid_by t.asid (cond (has_asids t.company) (free_asid works n 17 0) 0)

-- a work drops an entry, and this is the number of the last span that it meets; or none does
pub data Cover : Type 0 where
  To : ℕ → Cover
  Open : Cover

abbrev Covers : List Work → ℕ → Entry → ℕ → Cover → Type 0
Covers works n e k (To q) = CoversTo works n e k q
Covers works n e k Open = taken_by works n e ≡ false

unfoldable pub cover_at : List Work → ℕ → Entry → ℕ → Cover
cover_at works zero e k = Open
cover_at works (suc n) e k = cond (goes (work_at works n) e) (To ((work_at works n).last / 2 ^ k)) (cover_at works n e k)

-- the first gap among addresses, kinds and processors, if there is one
abbrev past : Cover → Entry → (ℕ → Option Entry) → Option Entry
past (To x) e on = on (x + 1)
past Open e on = Some e

unfoldable pub gap_base : Target → List Work → ℕ → ℕ → ℕ → ℕ → ℕ → ℕ → Option Entry
gap_base t works n a p j zero q = None
gap_base t works n a p j (suc more) q =
    cond (leb q (t.last / 2 ^ exponent_in t (level_at j)))
    (past (cover_at works n (entry_in t a p j q) (exponent_in t (level_at j))) (entry_in t a p j q) (λ (x : ℕ). gap_base t works n a p j more x))
    None

abbrev numbers : Target → ℕ → ℕ
numbers t j = (t.last / 2 ^ exponent_in t (level_at j) + 1) - t.first / 2 ^ exponent_in t (level_at j)

abbrev gap_at : Target → List Work → ℕ → ℕ → ℕ → ℕ → Option Entry
gap_at t works n a p j =
    cond (is_asked t (leaf_at j) (level_at j)) (gap_base t works n a p j (numbers t j) (t.first / 2 ^ exponent_in t (level_at j))) None

unfoldable pub gap_kind : Target → List Work → ℕ → ℕ → ℕ → ℕ → ℕ → Option Entry
gap_kind t works n a p zero j = None
gap_kind t works n a p (suc more) j = option_or (gap_at t works n a p j) (gap_kind t works n a p more (j + 1))

unfoldable pub gap_processor : Target → List Work → ℕ → ℕ → ℕ → ℕ → Option Entry
gap_processor t works n a zero p = None
gap_processor t works n a (suc more) p =
    option_or (cond (bit_of t.processors p) (gap_kind t works n a p 7 0) None) (gap_processor t works n a more (p + 1))

unfoldable pub judged_of : State → Target → List ℕ → Result ⊤ Objection
judged_of st t steps =
    cond (is_list steps)
    (cond (bad_state st) (Err BadState)
    (cond (is_target st t)
    (cond (some (refuses st) steps) (Err (Refused (first (refuses st) steps)))
    (cond (some (is_outside st t.company) steps) (Err (Outside (first (is_outside st t.company) steps)))
    (verdict_by (gap_processor t (works_of st steps) (slots steps) (named_asid t (works_of st steps) (slots steps)) 8 0))))
    (Err BadTarget)))
    (Err BadShape)

cover-covers : (works : List Work) (n : ℕ) (e : Entry) (k : ℕ) → ((i : ℕ) → i < n → (work_at works i).last < 2 ^ 64) → 12 ≤ k → Covers works n e k (cover_at works n e k)
unfolding cover_at any
cover-covers works zero e k fits h = refl
cover-covers works (suc n) e k fits h =
    here (goes (work_at works n) e) refl (cover_at works n e k) (cover-covers works n e k (λ (i : ℕ) (l : i < n). fits i (omega arith)) h)
  where
    here : (b : Bool) → goes (work_at works n) e ≡ b → (c : Cover) → Covers works n e k c → Covers works (suc n) e k (cond b (To ((work_at works n).last / 2 ^ k)) c)
    here true g c r = record { place = n; within = omega arith; goes = g; end = refl; most = number-most (work_at works n).last k (fits n (omega arith)) h }
    here false g (To x) r = record { place = r.place; within = omega (arith, r.within); goes = r.goes; end = r.end; most = r.most }
    here false g Open r = simp (g, r)

-- the search goes on where there is no gap, and ends with the first
module _ (t : Target) (works : List Work) (n a : ℕ) (s : Searches t works n a) (fits : (i : ℕ) → i < n → (work_at works i).last < 2 ^ 64) where
  abbrev Then : Type 0 → Option Entry → Type 0
  Then A None = A
  Then A (Some e) = Searched t works n a (Some e)

  or-else : (A B : Type 0) (x y : Option Entry) → Then A x → (A → Then B y) → Then B (option_or x y)
  or-else A B None y h on = on h
  or-else A B (Some e) y h on = h

  by-bases : (more p j q : ℕ) → AtBase t works n a p j (leaf_at j) (level_at j) (exponent_in t (level_at j)) (t.last / 2 ^ exponent_in t (level_at j)) q →
      (t.last / 2 ^ exponent_in t (level_at j) + 1) - q ≤ more → Then (AtKind t works n a p (j + 1)) (gap_base t works n a p j more q)
  unfolding gap_base
  by-bases zero p j q h l = leave-kind t works n a p j (leaf_at j) (level_at j) (exponent_in t (level_at j)) (t.last / 2 ^ exponent_in t (level_at j)) q h (omega arith)
  by-bases (suc more) p j q h l = go (leb q end) refl (cover_at works n e k) (cover-covers works n e k fits (asked-span t (leaf_at j) (level_at j) h.asked).0) (by-bases more p j)
    where
      k : ℕ
      k = exponent_in t (level_at j)

      end : ℕ
      end = t.last / 2 ^ k

      e : Entry
      e = entry_in t a p j q

      go : (b : Bool) → leb q end ≡ b → (c : Cover) → Covers works n e k c →
          ((x : ℕ) → AtBase t works n a p j (leaf_at j) (level_at j) k end x → (end + 1) - x ≤ more → Then (AtKind t works n a p (j + 1)) (gap_base t works n a p j more x)) →
          Then (AtKind t works n a p (j + 1)) (cond b (past c e (λ (x : ℕ). gap_base t works n a p j more x)) None)
      go true i (To x) r on =
          let m : q ≤ end = leb-true q end i in
          let (further, next) = jump t works n a p j (leaf_at j) (level_at j) k end q x h e refl r in
          on (x + 1) next (omega arith)
      go true i Open r on = gap t works n a p j (leaf_at j) (level_at j) k end q h (leb-true q end i) e refl r
      go false i c r on = leave-kind t works n a p j (leaf_at j) (level_at j) k end q h (leb-false q end i)

  by-kinds : (more p j : ℕ) → AtKind t works n a p j → j + more ≡ 7 → Then (AtProcessor t works n a (p + 1)) (gap_kind t works n a p more j)
  unfolding gap_kind
  by-kinds zero p j h l = leave-processor t works n a p j h (omega arith)
  by-kinds (suc more) p j h l =
      or-else (AtKind t works n a p (j + 1)) (AtProcessor t works n a (p + 1)) (gap_at t works n a p j) (gap_kind t works n a p more (j + 1)) (here (is_asked t (leaf_at j) (level_at j)) refl)
      (λ (next : AtKind t works n a p (j + 1)). by-kinds more p (j + 1) next (omega arith))
    where
      here : (b : Bool) → is_asked t (leaf_at j) (level_at j) ≡ b →
          Then (AtKind t works n a p (j + 1)) (cond b (gap_base t works n a p j (numbers t j) (t.first / 2 ^ exponent_in t (level_at j))) None)
      here true e =
          by-bases (numbers t j) p j (t.first / 2 ^ exponent_in t (level_at j))
          (enter-kind t works n a p j (leaf_at j) (level_at j) (exponent_in t (level_at j)) h (omega arith) refl refl e refl) (omega arith)
      here false e = skip-kind t works n a p j h e

  by-processors : (more p : ℕ) → AtProcessor t works n a p → p + more ≡ 8 → Then (Searched t works n a None) (gap_processor t works n a more p)
  unfolding gap_processor
  by-processors zero p h l = finish t works n a p h (omega arith)
  by-processors (suc more) p h l =
      or-else (AtProcessor t works n a (p + 1)) (Searched t works n a None) (cond (bit_of t.processors p) (gap_kind t works n a p 7 0) None)
      (gap_processor t works n a more (p + 1))
      (here (bit_of t.processors p) refl)
      (λ (next : AtProcessor t works n a (p + 1)). by-processors more (p + 1) next (omega arith))
    where
      here : (b : Bool) → bit_of t.processors p ≡ b → Then (AtProcessor t works n a (p + 1)) (cond b (gap_kind t works n a p 7 0) None)
      here true e = by-kinds 7 p 0 (enter-processor t works n a p h (omega arith) e) refl
      here false e = skip-processor t works n a p h e

  searched : Searched t works n a (gap_processor t works n a 8 0)
  searched = ends (gap_processor t works n a 8 0) (by-processors 8 0 (start-processors t works n a) refl)
    where
      ends : (r : Option Entry) → Then (Searched t works n a None) r → Searched t works n a r
      ends None h = h
      ends (Some e) h = h

-- the named ASID
free-free : (works : List Work) (n more a : ℕ) → Used works n a → n < a + more → Free works n (free_asid works n more a)
unfolding free_asid
free-free works n zero a h l = absurd (omega (arith, used-few works n a h))
free-free works n (suc more) a h l = go (used_by works n a) refl (free-free works n more (a + 1))
  where
    go : (b : Bool) → used_by works n a ≡ b → (Used works n (a + 1) → n < a + 1 + more → Free works n (free_asid works n more (a + 1))) →
        Free works n (cond b (free_asid works n more (a + 1)) a)
    go true e on = on (below_more (λ (b : ℕ). used_by works n b ≡ true) a h e) (omega arith)
    go false e on = used-end works n a h e

named-named : (t : Target) (works : List Work) (n : ℕ) → Fits t → n ≤ 16 → Named t works n (named_asid t works n) × (named_asid t works n < 2 ^ 16)
unfolding named_asid
named-named t works n f l = go t.asid refl f.asid (has_asids t.company) refl
  where
    free : Free works n (free_asid works n 17 0)
    free = free-free works n 17 0 (below-start (λ (b : ℕ). used_by works n b ≡ true)) (omega arith)

    go : (o : Option ℕ) → t.asid ≡ o → IfSome o (λ x. x < 2 ^ 16) → (c : Bool) → has_asids t.company ≡ c →
        Named t works n (asid_by o (cond c (free_asid works n 17 0) 0)) × (asid_by o (cond c (free_asid works n 17 0) 0) < 2 ^ 16)
    go (Some x) e low c h = (named-own t (Free works n) x e, low)
    go None e low true h = (named-free t (Free works n) (free_asid works n 17 0) e h free, omega (arith, used-few works n (free_asid works n 17 0) free.lowest))
    go None e low false h = (named_none t (Free works n) e h, omega arith)

-- it gives the verdict
pub judged-verdict : (st : State) (t : Target) (steps : List ℕ) → Fits t → Verdict st t steps (judged_of st t steps)
unfolding judged_of
judged-verdict st t steps f =
    go (is_list steps) refl (bad_state st) refl (is_target st t) refl (some (refuses st) steps) refl (some (is_outside st t.company) steps) refl
  where
    works : List Work
    works = works_of st steps

    n : ℕ
    n = slots steps

    asid : ℕ
    asid = named_asid t works n

    are : AreSteps st steps works
    are = record { each = works-each st steps }

    last : is_list steps ≡ true → some (refuses st) steps ≡ false → (i : ℕ) → i < n → (work_at works i).last < 2 ^ 64
    last l done i m =
        (fit st (get_or steps (3 * i) 0) (get_or steps (3 * i + 1) 0) (get_or steps (3 * i + 2) 0) (work_at works i) (step-works st steps works are done i m)).last

    go : (a : Bool) → is_list steps ≡ a → (b : Bool) → bad_state st ≡ b → (c : Bool) → is_target st t ≡ c → (d : Bool) → some (refuses st) steps ≡ d →
        (e : Bool) → some (is_outside st t.company) steps ≡ e →
        Verdict st t steps
        (cond a
        (cond b (Err BadState)
        (cond c
        (cond d (Err (Refused (first (refuses st) steps)))
        (cond e (Err (Outside (first (is_outside st t.company) steps))) (verdict_by (gap_processor t works n asid 8 0))))
        (Err BadTarget)))
        (Err BadShape))
    go true ea true eb c ec d ed e ee = (ea, eb)
    go true ea false eb true ec true ed e ee = (record { list = ea; state = eb; target = ec }, ed, refl)
    go true ea false eb true ec false ed true ee = (record { list = ea; state = eb; target = ec }, ed, ee, refl)
    go true ea false eb true ec false ed false ee =
        let sound : Sound st t steps = record { list = ea; state = eb; target = ec } in
        let shape = list-shape steps ea in
        let (named, low) = named-named t works n f (omega (arith, shape)) in
        let s = searches st t steps works asid sound f are ed ee named low in
        decides st t steps works asid sound f are ed ee named low (gap_processor t works n asid 8 0) (searched t works n asid s (last ea ed))
    go true ea false eb false ec d ed e ee = (ea, eb, ec)
    go false ea b eb c ec d ed e ee = ea

-- so an answer that is a verdict is what it computes
pub judged-is : (st : State) (t : Target) (steps : List ℕ) (r : Result ⊤ Objection) → st.vmid < 2 ^ 16 → Fits t → Verdict st t steps r → r ≡ judged_of st t steps
judged-is st t steps r low f v = verdict-one st t steps r (judged_of st t steps) low v (judged-verdict st t steps f)
