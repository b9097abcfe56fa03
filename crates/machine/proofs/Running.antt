-- Run: its answer and the table case by case, the laws of a loop over the steps, and what every run keeps.
use Rattle.std.specs.Prelude.{Result, Ok, Err}
use Prim.Native.Nat.{ℕ, ◌+◌, ◌*◌, ◌%◌, ◌<◌, ◌≤◌}
use mathlib.Core.Bool.{Bool, true, false, cond, not, ◌&&◌, ◌||◌}
use mathlib.Core.List.{List, [], ◌∷◌}
use mathlib.Core.Path.{◌≡◌, refl, sym, ap, subst, ◌∙◌}
use native.Mathlib.Omega.{arith}
use lib.Dec.{eqb}
use lib.ListN.{length, get_or, drop, drop_of_length-le}
use borrow.Author.Tests.{ne_eqb, ltb-true, ltb-false, lt-ltb, le-ltb}
use Rattle.laws.proofs.Clearing.{cleared-length, cleared-slot, emptied-same, cleared_both, cleared-none, cleared-emptied}
use Rattle.laws.proofs.Slots.{slot_same, next-slot, first-none, first_holds}
use Rattle.laws.proofs.Truth.{not_so}
use Rattle.laws.specs.Slots.{slots, holds_at, count, first, some, cleared, emptied}
use Rattle.machine.proofs.Numbers.{not-done}
use Rattle.machine.proofs.Executing.{Never, execute-good, execute-keeps, execute-length, never-guest, never_other}
use Rattle.machine.proofs.Going.{drop-reads}
use Rattle.machine.proofs.Inserting.{has-shape, table-shape}
use Rattle.machine.proofs.Tags.{zero-empty}
use Rattle.machine.proofs.Works.{Owner}
use Rattle.machine.specs.Answer.{refusal_number, number_of, value_of, ran_step}
use Rattle.machine.specs.Execute.{resolved_of, executed_by, table_by, executed_of, execute_table, is_list, on_work, is_work, refuses, steps_table, steps_dropped, ran_of, run_table}
use Rattle.machine.specs.Goes.{drops}
use Rattle.machine.specs.State.{bad_state}
use Rattle.machine.specs.Table.{has_shape, is_table, stage1_of, slot_reads, slot_entry, Holds, Kept}
use Rattle.machine.specs.Tag.{is_entry}
use Rattle.machine.specs.declared.processor.State.{State}
use Rattle.machine.specs.declared.scope.Regime.TheVariants.{EL10}
use Rattle.machine.specs.declared.refusal.Refusal.{Refusal}
use Rattle.machine.specs.declared.refusal.Refusal.TheVariants as refusal
use Rattle.machine.specs.declared.work.Work.{Work}

pub list-shape : (steps : List ℕ) → is_list steps ≡ true → (length steps % 3 ≡ 0) × (length steps ≤ 48)
list-shape steps h = has-shape 48 (length steps) h

-- "Run: 13, 2, 10, else all steps in order and the sum of dropped slots."
pub run-13 : (st : State) (steps l : List ℕ) → (is_table l && is_list steps) ≡ false → (ran_of st steps l ≡ Err refusal.BadShape) × (run_table st steps l ≡ l)
unfolding ran_of run_table
run-13 st steps l h = (simp h, simp h)

pub run-2 : (st : State) (steps l : List ℕ) → (is_table l && is_list steps) ≡ true → bad_state st ≡ true → (ran_of st steps l ≡ Err refusal.BadState) × (run_table st steps l ≡ l)
unfolding ran_of run_table
run-2 st steps l h b = (simp (h, b), simp (h, b))

pub run-10 : (st : State) (steps l : List ℕ) (k : ℕ) → (is_table l && is_list steps) ≡ true → bad_state st ≡ false → k ≡ first (refuses st) steps → k < slots steps →
    (ran_of st steps l ≡ Err (refusal.StepRefused k)) × (run_table st steps l ≡ l)
unfolding ran_of run_table
run-10 st steps l k h b f n =
    let s : first (refuses st) steps < slots steps = omega arith in
    let t = lt-ltb (first (refuses st) steps) (slots steps) s in
    let a : ran_of st steps l ≡ Err (refusal.StepRefused (first (refuses st) steps)) = simp (h, b, t) in
    (a ∙ ap (λ (j : ℕ). Err (refusal.StepRefused j)) (sym f), simp (h, b, t))

pub run-0 : (st : State) (steps l : List ℕ) → (is_table l && is_list steps) ≡ true → bad_state st ≡ false → slots steps ≤ first (refuses st) steps →
    (ran_of st steps l ≡ Ok (steps_dropped st steps l)) × (run_table st steps l ≡ steps_table st steps l)
unfolding ran_of run_table
run-0 st steps l h b n = let t = le-ltb (first (refuses st) steps) (slots steps) n in (simp (h, b, t), simp (h, b, t))

-- "Each is given exactly when its row holds and no earlier check applies."
pub run-answer : (st : State) (steps l : List ℕ) →
    number_of (ran_of st steps l) ≡ cond (not (is_table l && is_list steps)) 13 (cond (bad_state st) 2 (cond (some (refuses st) steps) 10 0))
unfolding ran_of
run-answer st steps l = go (is_table l && is_list steps) (bad_state st) (some (refuses st) steps)
  where
    go : (a b c : Bool) →
        number_of (cond a (cond b (Err refusal.BadState) (cond c (Err (refusal.StepRefused (first (refuses st) steps))) (Ok (steps_dropped st steps l)))) (Err refusal.BadShape))
        ≡ cond (not a) 13 (cond b 2 (cond c 10 0))
    go true true c = refl
    go true false true = refl
    go true false false = refl
    go false b c = refl

-- "Every answer but 0 leaves all lent memory unchanged."
pub run-refused : (st : State) (steps l : List ℕ) → (number_of (ran_of st steps l) ≡ 0 → ⊥) → run_table st steps l ≡ l
unfolding ran_of run_table
run-refused st steps l = go (is_table l && is_list steps) (bad_state st) (some (refuses st) steps)
  where
    go : (a b c : Bool) →
        (number_of (cond a (cond b (Err refusal.BadState) (cond c (Err (refusal.StepRefused (first (refuses st) steps))) (Ok (steps_dropped st steps l)))) (Err refusal.BadShape)) ≡ 0 → ⊥) →
        cond a (cond b l (cond c l (steps_table st steps l))) l ≡ l
    go true true c n = refl
    go true false true n = refl
    go true false false n = absurd (n (let z : ◌≡◌ {A = ℕ} 0 0 = refl in z))
    go false b c n = refl

-- "a list's step doesn't answer 0": a step is refused exactly where executing it would not answer 0
pub refuses-answer : (st : State) (word xt xt2 : ℕ) (l : List ℕ) → is_table l ≡ true → bad_state st ≡ false →
    refuses st word xt xt2 ≡ not (eqb (number_of (executed_of st word xt xt2 l)) 0)
refuses-answer st word xt xt2 l h b =
    go (resolved_of st word xt xt2) ∙ ap (λ x. not (eqb (number_of x) 0)) (sym (execute-good st word xt xt2 l h b).0)
  where
    go : (r : Result Work Refusal) → not (is_work r) ≡ not (eqb (number_of (executed_by r l)) 0)
    go (Ok w) = refl
    go (Err r) = sym (ap not (ne_eqb (refusal_number r) 0 (not-done r)))

-- "first such step"
pub record Stopped (st : State) (steps : List ℕ) (k : ℕ) : Type 0 where
  pub within : k < slots steps
  pub here : holds_at (refuses st) steps k ≡ true
  pub lowest : (j : ℕ) → j < k → holds_at (refuses st) steps j ≡ false

pub stopped : (st : State) (steps l : List ℕ) (k : ℕ) → ran_of st steps l ≡ Err (refusal.StepRefused k) → Stopped st steps k
unfolding ran_of
stopped st steps l k = go (is_table l && is_list steps) (bad_state st) (some (refuses st) steps) refl
  where
    at : first (refuses st) steps < slots steps → first (refuses st) steps ≡ k → Stopped st steps k
    at n e =
        subst (Stopped st steps) e
        (record {
          within = n;
          here = first_holds (refuses st) steps n;
          lowest = λ (j : ℕ) (m : j < first (refuses st) steps). first-none (refuses st) steps j m;
        })

    go : (a b c : Bool) → some (refuses st) steps ≡ c →
        cond a (cond b (Err refusal.BadState) (cond c (Err (refusal.StepRefused (first (refuses st) steps))) (Ok (steps_dropped st steps l)))) (Err refusal.BadShape) ≡ Err (refusal.StepRefused k) → Stopped st steps k
    go true true c e h = absurd (let z : ◌≡◌ {A = ℕ} 2 10 = ap number_of h in omega arith)
    go true false true e h = at (ltb-true (first (refuses st) steps) (slots steps) e) (ap ran_step h)
    go true false false e h = absurd (let z : ◌≡◌ {A = ℕ} 0 10 = ap number_of h in omega arith)
    go false b c e h = absurd (let z : ◌≡◌ {A = ℕ} 13 10 = ap number_of h in omega arith)

-- A loop over the steps has come to word i of the list, and n slots were dropped: what is left to do gives what the whole gives.
abbrev pub Running : State → List ℕ → List ℕ → List ℕ → ℕ → ℕ → Type 0
Running st steps old l i n =
    (length l ≡ length old)
    × (i ≤ length steps)
    × (i % 3 ≡ 0)
    × (n ≤ 2048 * i)
    × (steps_table st (drop i steps) l ≡ steps_table st steps old)
    × (n + steps_dropped st (drop i steps) l ≡ steps_dropped st steps old)

-- at the start, at a step, and at the end
pub running-start : (st : State) (steps old : List ℕ) → Running st steps old old 0 0
running-start st steps old = (refl, omega arith, omega arith, omega arith, refl, omega arith)

pub running-on : (st : State) (steps old l : List ℕ) (i n : ℕ) (r : Result Work Refusal) (d : ℕ) → is_table old ≡ true → bad_state st ≡ false → length steps % 3 ≡ 0 → i < length steps →
    Running st steps old l i n → r ≡ resolved_of st (get_or steps i 0) (get_or steps (i + 1) 0) (get_or steps (i + 2) 0) → d ≡ value_of (executed_by r l) →
    3 * d ≤ length l → Running st steps old (table_by r l) (i + 3) (n + d)
unfolding steps_table steps_dropped
running-on st steps old l i n r d shape good three h s e f few =
    let (long, low, at, most, done, number) = s in
    let fits : i + 2 < length steps = omega arith in
    let rest = drop (i + 3) steps in
    let word = get_or steps i 0 in
    let xt = get_or steps (i + 1) 0 in
    let xt2 = get_or steps (i + 2) 0 in
    let cut : drop i steps ≡ word ∷ xt ∷ xt2 ∷ rest = next-slot steps i fits in
    let table : is_table l ≡ true = ap (has_shape 6144) long ∙ shape in
    let (answer, new) = execute-good st word xt xt2 l table good in
    let next : execute_table st word xt xt2 l ≡ table_by r l = new ∙ ap (λ (x : Result Work Refusal). table_by x l) (sym e) in
    let count : value_of (executed_of st word xt xt2 l) ≡ d = ap value_of answer ∙ ap (λ (x : Result Work Refusal). value_of (executed_by x l)) (sym e) ∙ sym f in
    let same : length (table_by r l) ≡ length l = ap length (sym next) ∙ execute-length st word xt xt2 l in
    let words : length l ≤ 6144 = (table-shape l table).1 in
    let left : steps_table st rest (table_by r l) ≡ steps_table st (drop i steps) l =
    ap (steps_table st rest) (sym next) ∙ ap (λ (m : List ℕ). steps_table st m l) (sym cut) in
    let sum : steps_dropped st (drop i steps) l ≡ d + steps_dropped st rest (table_by r l) =
    ap (λ (m : List ℕ). steps_dropped st m l) cut ∙ ap (λ (x : ℕ). x + steps_dropped st rest (execute_table st word xt xt2 l)) count ∙ ap (λ (m : List ℕ). d + steps_dropped st rest m) next in
    (same ∙ long, omega arith, omega arith, omega arith, left ∙ done, omega (arith, sum, number))

pub running-end : (st : State) (steps old l : List ℕ) (i n : ℕ) → length steps ≤ i → Running st steps old l i n →
    (n ≡ steps_dropped st steps old) × (l ≡ steps_table st steps old)
unfolding steps_table steps_dropped
running-end st steps old l i n h s =
    let (long, low, at, most, done, number) = s in
    let none : drop i steps ≡ [] = drop_of_length-le steps h in
    let zero : steps_dropped st (drop i steps) l ≡ 0 = ap (λ (m : List ℕ). steps_dropped st m l) none in
    let same : steps_table st (drop i steps) l ≡ l = ap (λ (m : List ℕ). steps_table st m l) none in
    (omega (arith, zero, number), sym same ∙ done)

-- a slot that no operation can drop in a state keeps its words under every list
pub steps-keep : (st : State) (k a b c : ℕ) → Never st a b c → (steps l : List ℕ) → k < slots l → Holds l k a b c → Holds (steps_table st steps l) k a b c
unfolding steps_table
steps-keep st k a b c never [] l n h = h
steps-keep st k a b c never (x ∷ []) l n h = h
steps-keep st k a b c never (x ∷ y ∷ []) l n h = h
steps-keep st k a b c never (x ∷ y ∷ z ∷ steps) l n h =
    let long = execute-length st x y z l in
    steps-keep st k a b c never steps (execute_table st x y z l) (omega (arith, long)) (execute-keeps st x y z l k a b c n h (never x y z))

pub run-keeps : (st : State) (l : List ℕ) (k : ℕ) → k < slots l → Never st (get_or l (3 * k) 0) (get_or l (3 * k + 1) 0) (get_or l (3 * k + 2) 0) →
    (steps : List ℕ) → Kept l (run_table st steps l) k
unfolding run_table
run-keeps st l k n never steps = go (is_table l && is_list steps) (bad_state st) (some (refuses st) steps)
  where
    go : (p q r : Bool) → Kept l (cond p (cond q l (cond r l (steps_table st steps l))) l) k
    go true true r = (refl, refl, refl)
    go true false true = (refl, refl, refl)
    go true false false = steps-keep st k (get_or l (3 * k) 0) (get_or l (3 * k + 1) 0) (get_or l (3 * k + 2) 0) never steps l n (refl, refl, refl)
    go false q r = (refl, refl, refl)

-- another guest's at EL1, and an entry of another security state or VMID, whatever the list
pub run-guest-kept : (st : State) (l : List ℕ) (k : ℕ) → st.el ≡ 1 → k < slots l → ((slot_entry l k).company ≡ stage1_of st EL10 → ⊥) →
    (steps : List ℕ) → Kept l (run_table st steps l) k
run-guest-kept st l k el n other = run-keeps st l k n (never-guest st (get_or l (3 * k) 0) (get_or l (3 * k + 1) 0) (get_or l (3 * k + 2) 0) el other)

pub run-other-kept : (st : State) (l : List ℕ) (k : ℕ) → k < slots l → (Owner st (slot_entry l k).company → ⊥) → (steps : List ℕ) → Kept l (run_table st steps l) k
run-other-kept st l k n other = run-keeps st l k n (never_other st (get_or l (3 * k) 0) (get_or l (3 * k + 1) 0) (get_or l (3 * k + 2) 0) other)

-- a list of one step does what executing it does
pub run-one : (st : State) (word xt xt2 : ℕ) (l : List ℕ) → is_table l ≡ true → bad_state st ≡ false → refuses st word xt xt2 ≡ false →
    (ran_of st (word ∷ xt ∷ xt2 ∷ []) l ≡ Ok (value_of (executed_of st word xt xt2 l))) × (run_table st (word ∷ xt ∷ xt2 ∷ []) l ≡ execute_table st word xt xt2 l)
unfolding first steps_table steps_dropped
run-one st word xt xt2 l h b r =
    let steps = word ∷ xt ∷ xt2 ∷ [] in
    let one : first (refuses st) steps ≡ 1 = simp r in
    let (answer, table) = run-0 st steps l (simp h) b (omega (arith, one)) in
    (answer ∙ ap Ok (plus (value_of (executed_of st word xt xt2 l))), table)
  where
    plus : (n : ℕ) → n + 0 ≡ n
    plus n = omega arith

-- A run as one clearing: the slots that a step drops, and those that some step of a list drops.
abbrev pub drops_by : Result Work Refusal → ℕ → ℕ → ℕ → Bool
drops_by r a b c = on_work (λ w. drops w a b c) r

unfoldable pub drops_any : State → List ℕ → ℕ → ℕ → ℕ → Bool
drops_any st [] a b c = false
drops_any st (word ∷ []) a b c = false
drops_any st (word ∷ xt ∷ []) a b c = false
drops_any st (word ∷ xt ∷ xt2 ∷ steps) a b c = drops_by (resolved_of st word xt xt2) a b c || drops_any st steps a b c

by-clear : (r : Result Work Refusal) (l : List ℕ) → (table_by r l ≡ cleared (drops_by r) l) × (value_of (executed_by r l) ≡ count (drops_by r) l)
by-clear (Ok w) l = (refl, refl)
by-clear (Err r) l = let n = cleared-none (drops_by (Err r)) l (λ a b c. refl) in (sym n.0, sym n.1)

-- only a slot that reads as an entry is dropped
by-reads : (r : Result Work Refusal) (a b c : ℕ) → drops_by r a b c ≡ true → is_entry a b ≡ true
by-reads (Ok w) a b c h = drop-reads w a b c h
by-reads (Err r) a b c h = absurd (let z : ◌≡◌ {A = ℕ} 0 1 = cc in omega arith)

pub any-reads : (st : State) (steps : List ℕ) (a b c : ℕ) → drops_any st steps a b c ≡ true → is_entry a b ≡ true
unfolding drops_any
any-reads st [] a b c h = absurd (let z : ◌≡◌ {A = ℕ} 0 1 = cc in omega arith)
any-reads st (x ∷ []) a b c h = absurd (let z : ◌≡◌ {A = ℕ} 0 1 = cc in omega arith)
any-reads st (x ∷ y ∷ []) a b c h = absurd (let z : ◌≡◌ {A = ℕ} 0 1 = cc in omega arith)
any-reads st (x ∷ y ∷ z ∷ steps) a b c h = go (drops_by (resolved_of st x y z) a b c) refl (any-reads st steps a b c) h
  where
    go : (t : Bool) → drops_by (resolved_of st x y z) a b c ≡ t → (drops_any st steps a b c ≡ true → is_entry a b ≡ true) →
        (t || drops_any st steps a b c) ≡ true → is_entry a b ≡ true
    go true e rest i = by-reads (resolved_of st x y z) a b c e
    go false e rest i = rest i

any-zeros : (st : State) (steps : List ℕ) → drops_any st steps 0 0 0 ≡ false
any-zeros st steps =
    not_so (drops_any st steps 0 0 0) (λ (h : drops_any st steps 0 0 0 ≡ true). let f : true ≡ false = sym (any-reads st steps 0 0 0 h) ∙ zero-empty 0 in let z : ◌≡◌ {A = ℕ} 0 1 = cc in omega arith)

-- the steps leave three zeros for each slot that some step drops, and every other word, and their sum is the number of those slots
pub steps-clear : (st : State) (steps l : List ℕ) → is_table l ≡ true → bad_state st ≡ false →
    (steps_table st steps l ≡ cleared (drops_any st steps) l) × (steps_dropped st steps l ≡ count (drops_any st steps) l)
unfolding steps_table steps_dropped drops_any
steps-clear st [] l h b = let n = cleared-none (drops_any st []) l (λ a b c. refl) in (sym n.0, sym n.1)
steps-clear st (x ∷ []) l h b = let n = cleared-none (drops_any st (x ∷ [])) l (λ a b c. refl) in (sym n.0, sym n.1)
steps-clear st (x ∷ y ∷ []) l h b = let n = cleared-none (drops_any st (x ∷ y ∷ [])) l (λ a b c. refl) in (sym n.0, sym n.1)
steps-clear st (x ∷ y ∷ z ∷ steps) l h b =
    let r = resolved_of st x y z in
    let (answer, new) = execute-good st x y z l h b in
    let (table, number) = by-clear r l in
    let now : execute_table st x y z l ≡ cleared (drops_by r) l = new ∙ table in
    let few : value_of (executed_of st x y z l) ≡ count (drops_by r) l = ap value_of answer ∙ number in
    let shape : is_table (execute_table st x y z l) ≡ true = ap (has_shape 6144) (execute-length st x y z l) ∙ h in
    let (rest, sum) = steps-clear st steps (execute_table st x y z l) shape b in
    let (both, total) = cleared_both (drops_by r) (drops_any st steps) l (any-zeros st steps) in
    let left : count (drops_any st steps) (execute_table st x y z l) ≡ count (drops_any st steps) (cleared (drops_by r) l) = ap (count (drops_any st steps)) now in
    (rest ∙ ap (cleared (drops_any st steps)) now ∙ both, omega (arith, few, sum, left, total))

-- what holds where run answers 0
pub record RanAll (st : State) (steps l : List ℕ) : Type 0 where
  -- an entry is gone exactly when some step drops it; every other word stays
  pub table : run_table st steps l ≡ cleared (drops_any st steps) l
  pub as_long : length (run_table st steps l) ≡ length l
  -- the sum is the number of slots that read as an entry and are three zeros now
  pub number : value_of (ran_of st steps l) ≡ emptied slot_reads l (run_table st steps l)

pub ran-done : (st : State) (steps l : List ℕ) → number_of (ran_of st steps l) ≡ 0 →
    (is_table l ≡ true) × (is_list steps ≡ true) × (bad_state st ≡ false) × (slots steps ≤ first (refuses st) steps)
unfolding ran_of
ran-done st steps l = go (is_table l) refl (is_list steps) refl (bad_state st) refl (some (refuses st) steps) refl
  where
    go : (a : Bool) → is_table l ≡ a → (d : Bool) → is_list steps ≡ d → (b : Bool) → bad_state st ≡ b → (c : Bool) → some (refuses st) steps ≡ c →
        number_of (cond (a && d) (cond b (Err refusal.BadState) (cond c (Err (refusal.StepRefused (first (refuses st) steps))) (Ok (steps_dropped st steps l)))) (Err refusal.BadShape)) ≡ 0 →
        (is_table l ≡ true) × (is_list steps ≡ true) × (bad_state st ≡ false) × (slots steps ≤ first (refuses st) steps)
    go true ea true ed false eb false ec h = (ea, ed, eb, ltb-false (first (refuses st) steps) (slots steps) ec)
    go true ea true ed false eb true ec h = absurd (let z : ◌≡◌ {A = ℕ} 10 0 = h in omega arith)
    go true ea true ed true eb c ec h = absurd (let z : ◌≡◌ {A = ℕ} 2 0 = h in omega arith)
    go true ea false ed b eb c ec h = absurd (let z : ◌≡◌ {A = ℕ} 13 0 = h in omega arith)
    go false ea d ed b eb c ec h = absurd (let z : ◌≡◌ {A = ℕ} 13 0 = h in omega arith)

pub ran-all : (st : State) (steps l : List ℕ) → number_of (ran_of st steps l) ≡ 0 → RanAll st steps l
ran-all st steps l h =
    let (shape, list, good, none) = ran-done st steps l h in
    let (answer, new) = run-0 st steps l (simp (shape, list)) good none in
    let (table, number) = steps-clear st steps l shape good in
    let now : run_table st steps l ≡ cleared (drops_any st steps) l = new ∙ table in
    let few : emptied slot_reads l (run_table st steps l) ≡ count (drops_any st steps) l =
    ap (emptied slot_reads l) now ∙ cleared-emptied (drops_any st steps) slot_reads l (any-reads st steps) (zero-empty 0) in
    record {
      table = now;
      as_long = ap length now ∙ cleared-length (drops_any st steps) l;
      number = ap value_of answer ∙ number ∙ sym few;
    }

-- an entry is gone after a run exactly when some step drops it
pub run-exactly : (st : State) (steps l : List ℕ) (k : ℕ) → number_of (ran_of st steps l) ≡ 0 → k < slots l → holds_at slot_reads l k ≡ true →
    holds_at slot_reads (run_table st steps l) k ≡ not (holds_at (drops_any st steps) l k)
run-exactly st steps l k h n reads = go (holds_at (drops_any st steps) l k) refl
  where
    after : (b : Bool) → holds_at (drops_any st steps) l k ≡ b →
        holds_at slot_reads (run_table st steps l) k ≡ slot_reads (cond b 0 (get_or l (3 * k) 0)) (cond b 0 (get_or l (3 * k + 1) 0)) (cond b 0 (get_or l (3 * k + 2) 0))
    after b e =
        let (x, y, z) = cleared-slot (drops_any st steps) l k n in
        ap (λ (m : List ℕ). holds_at slot_reads m k) (ran-all st steps l h).table
        ∙ slot_same slot_reads (x ∙ ap (λ (t : Bool). cond t 0 (get_or l (3 * k) 0)) e) (y ∙ ap (λ (t : Bool). cond t 0 (get_or l (3 * k + 1) 0)) e) (z ∙ ap (λ (t : Bool). cond t 0 (get_or l (3 * k + 2) 0)) e)

    go : (b : Bool) → holds_at (drops_any st steps) l k ≡ b → holds_at slot_reads (run_table st steps l) k ≡ not b
    go true e = after true e ∙ zero-empty 0
    go false e = after false e ∙ reads

-- and the sum is the number of slots that changed from an entry to zeros, and the length what it was, for every input
pub run-count : (st : State) (steps l : List ℕ) → value_of (ran_of st steps l) ≡ emptied slot_reads l (run_table st steps l)
run-count st steps l = go (ran_of st steps l) refl
  where
    none : (x : Result ℕ Refusal) → ran_of st steps l ≡ x → (number_of x ≡ 0 → ⊥) → 0 ≡ emptied slot_reads l (run_table st steps l)
    none x e h =
        sym
        (ap (emptied slot_reads l) (run-refused st steps l (subst (λ (y : Result ℕ Refusal). number_of y ≡ 0 → ⊥) (sym e) h)) ∙ emptied-same slot_reads l (zero-empty 0))

    go : (x : Result ℕ Refusal) → ran_of st steps l ≡ x → value_of x ≡ emptied slot_reads l (run_table st steps l)
    go (Ok n) e = ap value_of (sym e) ∙ (ran-all st steps l (ap number_of e)).number
    go (Err r) e = none (Err r) e (not-done r)

pub run_length : (st : State) (steps l : List ℕ) → length (run_table st steps l) ≡ length l
run_length st steps l = go (ran_of st steps l) refl
  where
    kept : (x : Result ℕ Refusal) → ran_of st steps l ≡ x → (number_of x ≡ 0 → ⊥) → length (run_table st steps l) ≡ length l
    kept x e h = ap length (run-refused st steps l (subst (λ (y : Result ℕ Refusal). number_of y ≡ 0 → ⊥) (sym e) h))

    go : (x : Result ℕ Refusal) → ran_of st steps l ≡ x → length (run_table st steps l) ≡ length l
    go (Ok n) e = (ran-all st steps l (ap number_of e)).as_long
    go (Err r) e = kept (Err r) e (not-done r)
