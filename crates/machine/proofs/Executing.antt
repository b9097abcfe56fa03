-- Execute: its answer and the table case by case, which entries are gone, what stays, and the count.
use Rattle.std.specs.Prelude.{Some, None, Result, Ok, Err}
use Prim.Native.Nat.{◌/◌, ℕ, ◌+◌, ◌*◌, ◌<◌, ◌≤◌}
use mathlib.Core.Bool.{Bool, true, false, cond, not}
use mathlib.Core.List.{List}
use mathlib.Core.Path.{◌≡◌, refl, sym, ap, subst, ◌∙◌}
use native.Mathlib.Omega.{arith}
use lib.ListN.{length, get_or}
use Rattle.laws.proofs.Clearing.{cleared-length, cleared-slot, cleared-word, cleared-emptied, emptied-same, count_most}
use Rattle.laws.proofs.Slots.{slot_same}
use Rattle.laws.proofs.Truth.{not_so}
use Rattle.laws.specs.Slots.{slots, holds_at, count, cleared, emptied}
use Rattle.machine.proofs.Going.{going, drop-reads, drop-empty, drop-entry}
use Rattle.machine.proofs.Inserting.{table-shape}
use Rattle.machine.proofs.Numbers.{not-done}
use Rattle.machine.proofs.Tags.{company-one, legal, reads-written, zero-empty}
use Rattle.machine.proofs.Works.{Owner, owner, owner-guest, work-reached, resolves, scoped-below}
use Rattle.machine.specs.Access.{reaches, access_of}
use Rattle.machine.specs.Answer.{number_of, trap_of, value_of}
use Rattle.machine.specs.Asked.{asked_of}
use Rattle.machine.specs.Execute.{resolved_range, resolved_access, resolved_word, resolved_of, executed_by, table_by, executed_of, execute_table}
use Rattle.machine.specs.Goes.{work_of, goes, drops}
use Rattle.machine.specs.State.{bad_state}
use Rattle.machine.specs.Table.{is_table, stage1_of, slot_reads, slot_entry, Holds, Kept}
use Rattle.machine.specs.Tag.{entry_at, is_entry}
use Rattle.machine.specs.Word.{read_of}
use Rattle.machine.specs.declared.entry.Company.{Company}
use Rattle.machine.specs.declared.operation.Operation.{Operation}
use Rattle.machine.specs.declared.processor.State.{State}
use Rattle.machine.specs.declared.scope.Regime.TheVariants.{EL10, EL3}
use Rattle.machine.specs.declared.scope.Scope.{Scope}
use Rattle.machine.specs.declared.work.Work.{Work}
use Rattle.machine.specs.declared.refusal.Refusal.{Refusal}
use Rattle.machine.specs.declared.refusal.Refusal.TheVariants as refusal
use Rattle.machine.specs.declared.operand.Operand.{Operand}
use Rattle.machine.specs.declared.operand.Range.{Range}

-- "Execute: 13, 2, 1, 3 to 5 ..., 6, 7."
pub execute-13 : (st : State) (word xt xt2 : ℕ) (l : List ℕ) → is_table l ≡ false →
    (executed_of st word xt xt2 l ≡ Err refusal.BadShape) × (execute_table st word xt xt2 l ≡ l)
unfolding executed_of execute_table
execute-13 st word xt xt2 l h = (simp h, simp h)

pub execute-2 : (st : State) (word xt xt2 : ℕ) (l : List ℕ) → is_table l ≡ true → bad_state st ≡ true →
    (executed_of st word xt xt2 l ≡ Err refusal.BadState) × (execute_table st word xt xt2 l ≡ l)
unfolding executed_of execute_table
execute-2 st word xt xt2 l h b = (simp (h, b), simp (h, b))

pub execute-good : (st : State) (word xt xt2 : ℕ) (l : List ℕ) → is_table l ≡ true → bad_state st ≡ false →
    (executed_of st word xt xt2 l ≡ executed_by (resolved_of st word xt xt2) l) × (execute_table st word xt xt2 l ≡ table_by (resolved_of st word xt xt2) l)
unfolding executed_of execute_table
execute-good st word xt xt2 l h b = (simp (h, b), simp (h, b))

pub execute-work : (st : State) (word xt xt2 : ℕ) (l : List ℕ) (w : Work) → is_table l ≡ true → bad_state st ≡ false → resolved_of st word xt xt2 ≡ Ok w →
    (executed_of st word xt xt2 l ≡ Ok (count (drops w) l)) × (execute_table st word xt xt2 l ≡ cleared (drops w) l)
execute-work st word xt xt2 l w h b e =
    let (answer, table) = execute-good st word xt xt2 l h b in
    (answer ∙ ap (λ (r : Result Work Refusal). executed_by r l) e, table ∙ ap (λ (r : Result Work Refusal). table_by r l) e)

-- "Each is given exactly when its row holds and no earlier check applies."
pub execute-answer : (st : State) (word xt xt2 : ℕ) (l : List ℕ) →
    number_of (executed_of st word xt xt2 l) ≡ cond (not (is_table l)) 13 (cond (bad_state st) 2 (number_of (resolved_of st word xt xt2)))
unfolding executed_of
execute-answer st word xt xt2 l = go (is_table l) (bad_state st) (resolved_of st word xt xt2)
  where
    go : (a b : Bool) (r : Result Work Refusal) →
        number_of (cond a (cond b (Err refusal.BadState) (executed_by r l)) (Err refusal.BadShape)) ≡ cond (not a) 13 (cond b 2 (number_of r))
    go true true r = refl
    go true false (Ok w) = refl
    go true false (Err r) = refl
    go false b r = refl

-- 1: "word isn't one of the operations"
pub execute-1 : (st : State) (word xt xt2 : ℕ) (l : List ℕ) → is_table l ≡ true → bad_state st ≡ false → read_of word ≡ None →
    number_of (executed_of st word xt xt2 l) ≡ 1
unfolding resolved_of
execute-1 st word xt xt2 l h b e =
    ap number_of (execute-good st word xt xt2 l h b).0 ∙ ap (λ x. number_of (executed_by (resolved_word st xt xt2 x) l)) e

-- "3 to 5 by the access rules": their answer, and the number of a trap, where they do not let the operation run
pub execute-access : (st : State) (word xt xt2 : ℕ) (l : List ℕ) (op : Operation) → is_table l ≡ true → bad_state st ≡ false → read_of word ≡ Some op →
    (number_of (access_of st op) ≡ 0 → ⊥) →
    (number_of (executed_of st word xt xt2 l) ≡ number_of (access_of st op)) × (trap_of (executed_of st word xt xt2 l) ≡ trap_of (access_of st op))
unfolding resolved_of
execute-access st word xt xt2 l op h b e = go (access_of st op) ((execute-good st word xt xt2 l h b).0 ∙ ap (λ x. executed_by (resolved_word st xt xt2 x) l) e)
  where
    go : (a : Result Scope Refusal) → executed_of st word xt xt2 l ≡ executed_by (resolved_access st op xt xt2 a) l → (number_of a ≡ 0 → ⊥) →
        (number_of (executed_of st word xt xt2 l) ≡ number_of a) × (trap_of (executed_of st word xt xt2 l) ≡ trap_of a)
    go (Err f) r n = (ap number_of r, ap trap_of r)
    go (Ok s) r n = absurd (n (let z : ◌≡◌ {A = ℕ} 0 0 = refl in z))

-- "6, 7": the operand's answer, where they do
pub execute-range : (st : State) (word xt xt2 : ℕ) (l : List ℕ) (op : Operation) (s : Scope) → is_table l ≡ true → bad_state st ≡ false → read_of word ≡ Some op →
    access_of st op ≡ Ok s → number_of (executed_of st word xt xt2 l) ≡ number_of (asked_of st op s xt xt2)
unfolding resolved_of
execute-range st word xt xt2 l op s h b e a =
    ap number_of (execute-good st word xt xt2 l h b).0
    ∙ ap (λ x. number_of (executed_by (resolved_word st xt xt2 x) l)) e
    ∙ ap (λ x. number_of (executed_by (resolved_access st op xt xt2 x) l)) a
    ∙ go (asked_of st op s xt xt2)
  where
    go : (r : Result (Operand × Range) Refusal) → number_of (executed_by (resolved_range st op s r) l) ≡ number_of r
    go (Ok (o, q)) = refl
    go (Err r) = refl

-- where execute answers 0 there was work, on a table in shape, in a good state
pub record Done (st : State) (word xt xt2 : ℕ) (l : List ℕ) : Type 0 where
  pub work : Work
  pub shape : is_table l ≡ true
  pub good : bad_state st ≡ false
  pub resolved : resolved_of st word xt xt2 ≡ Ok work

pub done : (st : State) (word xt xt2 : ℕ) (l : List ℕ) → number_of (executed_of st word xt xt2 l) ≡ 0 → Done st word xt xt2 l
unfolding executed_of
done st word xt xt2 l = go (is_table l) refl (bad_state st) refl (resolved_of st word xt xt2) refl
  where
    go : (a : Bool) → is_table l ≡ a → (b : Bool) → bad_state st ≡ b → (r : Result Work Refusal) → resolved_of st word xt xt2 ≡ r →
        number_of (cond a (cond b (Err refusal.BadState) (executed_by r l)) (Err refusal.BadShape)) ≡ 0 → Done st word xt xt2 l
    go true ea false eb (Ok w) er h = record { work = w; shape = ea; good = eb; resolved = er }
    go true ea false eb (Err r) er h = absurd (not-done r h)
    go true ea true eb r er h = absurd (let z : ◌≡◌ {A = ℕ} 2 0 = h in omega arith)
    go false ea b eb r er h = absurd (let z : ◌≡◌ {A = ℕ} 13 0 = h in omega arith)

-- "Every answer but 0 leaves all lent memory unchanged."
pub execute-refused : (st : State) (word xt xt2 : ℕ) (l : List ℕ) → (number_of (executed_of st word xt xt2 l) ≡ 0 → ⊥) → execute_table st word xt xt2 l ≡ l
unfolding executed_of execute_table
execute-refused st word xt xt2 l = go (is_table l) (bad_state st) (resolved_of st word xt xt2)
  where
    go : (a b : Bool) (r : Result Work Refusal) → (number_of (cond a (cond b (Err refusal.BadState) (executed_by r l)) (Err refusal.BadShape)) ≡ 0 → ⊥) →
        cond a (cond b l (table_by r l)) l ≡ l
    go true true r n = refl
    go true false (Ok w) n = absurd (n (let z : ◌≡◌ {A = ℕ} 0 0 = refl in z))
    go true false (Err r) n = refl
    go false b r n = refl

-- after an execution a slot is three zeros if it was dropped, and as it was if not
pub cleared-zeros : (w : Work) (l : List ℕ) (k : ℕ) → k < slots l → holds_at (drops w) l k ≡ true → Holds (cleared (drops w) l) k 0 0 0
cleared-zeros w l k n h =
    let (x, y, z) = cleared-slot (drops w) l k n in
    (x ∙ simp h, y ∙ simp h, z ∙ simp h)

pub cleared-stays : (w : Work) (l : List ℕ) (k : ℕ) → k < slots l → holds_at (drops w) l k ≡ false →
    Holds (cleared (drops w) l) k (get_or l (3 * k) 0) (get_or l (3 * k + 1) 0) (get_or l (3 * k + 2) 0)
cleared-stays w l k n h =
    let (x, y, z) = cleared-slot (drops w) l k n in
    (x ∙ simp h, y ∙ simp h, z ∙ simp h)

-- what holds where execute answers 0
pub record After (st : State) (word xt xt2 : ℕ) (l : List ℕ) (w : Work) : Type 0 where
  -- "A dropped slot is three zeros; every other word stays, those of senseless slots too."
  pub zeros : (k : ℕ) → k < slots l → holds_at (drops w) l k ≡ true → Holds (execute_table st word xt xt2 l) k 0 0 0
  pub stays : (k : ℕ) → k < slots l → holds_at (drops w) l k ≡ false →
      Holds (execute_table st word xt xt2 l) k (get_or l (3 * k) 0) (get_or l (3 * k + 1) 0) (get_or l (3 * k + 2) 0)
  pub words : (i : ℕ) → holds_at (drops w) l (i / 3) ≡ false → get_or (execute_table st word xt xt2 l) i 0 ≡ get_or l i 0
  pub as_long : length (execute_table st word xt xt2 l) ≡ length l
  -- an entry is gone exactly when it goes
  pub exactly : (k : ℕ) → k < slots l → holds_at slot_reads l k ≡ true → holds_at slot_reads (execute_table st word xt xt2 l) k ≡ not (goes w (slot_entry l k))
  -- and what read as empty does so still
  pub empty : (k : ℕ) → k < slots l → holds_at slot_reads l k ≡ false → holds_at slot_reads (execute_table st word xt xt2 l) k ≡ false
  -- "The call returns how many were dropped.": the slots that read as an entry and are three zeros now
  pub number : value_of (executed_of st word xt xt2 l) ≡ emptied slot_reads l (execute_table st word xt xt2 l)

pub after : (st : State) (word xt xt2 : ℕ) (l : List ℕ) → (d : Done st word xt xt2 l) → After st word xt xt2 l d.work
after st word xt xt2 l d = record {
  zeros = zeros;
  stays = stays;
  words = λ (i : ℕ) (h : holds_at (drops w) l (i / 3) ≡ false). ap (λ (m : List ℕ). get_or m i 0) new ∙ cleared-word (drops w) l i (table-shape l d.shape).0 h;
  as_long = ap length new ∙ cleared-length (drops w) l;
  exactly = exactly;
  empty = λ (k : ℕ) (n : k < slots l) (h : holds_at slot_reads l k ≡ false). kept k n (drop-empty w (get_or l (3 * k) 0) (get_or l (3 * k + 1) 0) (get_or l (3 * k + 2) 0) h) ∙ h;
  number = ap value_of answer ∙ sym (ap (emptied slot_reads l) new ∙ cleared-emptied (drops w) slot_reads l (drop-reads w) (zero-empty 0));
}
  where
    w : Work
    w = d.work

    answer : executed_of st word xt xt2 l ≡ Ok (count (drops w) l)
    answer = (execute-work st word xt xt2 l w d.shape d.good d.resolved).0

    new : execute_table st word xt xt2 l ≡ cleared (drops w) l
    new = (execute-work st word xt xt2 l w d.shape d.good d.resolved).1

    zeros : (k : ℕ) → k < slots l → holds_at (drops w) l k ≡ true → Holds (execute_table st word xt xt2 l) k 0 0 0
    zeros k n h = subst (λ (m : List ℕ). Holds m k 0 0 0) (sym new) (cleared-zeros w l k n h)

    stays : (k : ℕ) → k < slots l → holds_at (drops w) l k ≡ false →
        Holds (execute_table st word xt xt2 l) k (get_or l (3 * k) 0) (get_or l (3 * k + 1) 0) (get_or l (3 * k + 2) 0)
    stays k n h = subst (λ (m : List ℕ). Holds m k (get_or l (3 * k) 0) (get_or l (3 * k + 1) 0) (get_or l (3 * k + 2) 0)) (sym new) (cleared-stays w l k n h)

    kept : (k : ℕ) → k < slots l → holds_at (drops w) l k ≡ false → holds_at slot_reads (execute_table st word xt xt2 l) k ≡ holds_at slot_reads l k
    kept k n h = let (x, y, z) = stays k n h in slot_same slot_reads x y z

    exactly : (k : ℕ) → k < slots l → holds_at slot_reads l k ≡ true → holds_at slot_reads (execute_table st word xt xt2 l) k ≡ not (goes w (slot_entry l k))
    exactly k n h = go (goes w (slot_entry l k)) refl
      where
        same : holds_at (drops w) l k ≡ goes w (slot_entry l k)
        same = drop-entry w (get_or l (3 * k) 0) (get_or l (3 * k + 1) 0) (get_or l (3 * k + 2) 0) h

        go : (b : Bool) → goes w (slot_entry l k) ≡ b → holds_at slot_reads (execute_table st word xt xt2 l) k ≡ not b
        go true e = let (x, y, z) = zeros k n (same ∙ e) in slot_same slot_reads x y z ∙ zero-empty 0
        go false e = kept k n (same ∙ e) ∙ h

-- whose a dropped slot was, and whom the operation reached
pub dropped-company : (w : Work) (base tag out : ℕ) → drops w base tag out ≡ true → (entry_at base tag).company ≡ w.company
dropped-company w base tag out h =
    let reads = drop-reads w base tag out h in
    company-one (entry_at base tag).company w.company (going w (entry_at base tag) (sym (drop-entry w base tag out reads) ∙ h)).owned

pub dropped-owner : (st : State) (word xt xt2 : ℕ) (w : Work) (base tag out : ℕ) → resolved_of st word xt xt2 ≡ Ok w → drops w base tag out ≡ true →
    Owner st (entry_at base tag).company
dropped-owner st word xt xt2 w base tag out e h = subst (Owner st) (sym (dropped-company w base tag out h)) (owner st word xt xt2 w e)

-- at EL1, the guest's own stage 1
pub dropped-guest : (st : State) (word xt xt2 : ℕ) (w : Work) (base tag out : ℕ) → st.el ≡ 1 → resolved_of st word xt xt2 ≡ Ok w →
    drops w base tag out ≡ true → (entry_at base tag).company ≡ stage1_of st EL10
dropped-guest st word xt xt2 w base tag out el e h = dropped-company w base tag out h ∙ owner-guest st word xt xt2 w el e

-- "its processor is below the count and reached"
pub dropped-reached : (st : State) (word xt xt2 : ℕ) (w : Work) (base tag out : ℕ) (op : Operation) → resolved_of st word xt xt2 ≡ Ok w →
    read_of word ≡ Some op → drops w base tag out ≡ true → reaches st op (entry_at base tag).processor ≡ true
dropped-reached st word xt xt2 w base tag out op e known h =
    let reads = drop-reads w base tag out h in
    let p = (entry_at base tag).processor in
    let low : p < 8 = omega (arith, (legal (entry_at base tag) (reads-written base tag reads).1).processor) in
    sym (work-reached st word xt xt2 w op p e known low) ∙ (going w (entry_at base tag) (sym (drop-entry w base tag out reads) ∙ h)).reached

-- a slot that the operation cannot drop keeps its words
pub execute-keeps : (st : State) (word xt xt2 : ℕ) (l : List ℕ) (k a b c : ℕ) → k < slots l → Holds l k a b c →
    ((w : Work) → resolved_of st word xt xt2 ≡ Ok w → drops w a b c ≡ false) → Holds (execute_table st word xt xt2 l) k a b c
unfolding execute_table
execute-keeps st word xt xt2 l k a b c n (ha, hb, hc) never = go (is_table l) (bad_state st) (resolved_of st word xt xt2) refl
  where
    go : (s t : Bool) (r : Result Work Refusal) → resolved_of st word xt xt2 ≡ r → Holds (cond s (cond t l (table_by r l)) l) k a b c
    go true true r e = (ha, hb, hc)
    go true false (Ok w) e =
        let (x, y, z) = cleared-stays w l k n (slot_same (drops w) ha hb hc ∙ never w e) in
        (x ∙ ha, y ∙ hb, z ∙ hc)
    go true false (Err r) e = (ha, hb, hc)
    go false t r e = (ha, hb, hc)

pub execute-length : (st : State) (word xt xt2 : ℕ) (l : List ℕ) → length (execute_table st word xt xt2 l) ≡ length l
unfolding execute_table
execute-length st word xt xt2 l = go (is_table l) (bad_state st) (resolved_of st word xt xt2)
  where
    go : (a b : Bool) (r : Result Work Refusal) → length (cond a (cond b l (table_by r l)) l) ≡ length l
    go true true r = refl
    go true false (Ok w) = cleared-length (drops w) l
    go true false (Err r) = refl
    go false b r = refl

-- "harms no other company": an entry of another company than the operation's keeps its words
pub execute-apart : (st : State) (word xt xt2 : ℕ) (l : List ℕ) (k : ℕ) → k < slots l →
    ((w : Work) → resolved_of st word xt xt2 ≡ Ok w → (slot_entry l k).company ≡ w.company → ⊥) → Kept l (execute_table st word xt xt2 l) k
execute-apart st word xt xt2 l k n apart =
    execute-keeps st word xt xt2 l k (get_or l (3 * k) 0) (get_or l (3 * k + 1) 0) (get_or l (3 * k + 2) 0) n (refl, refl, refl)
    (λ (w : Work) (e : resolved_of st word xt xt2 ≡ Ok w).
    not_so (holds_at (drops w) l k)
    (λ (h : holds_at (drops w) l k ≡ true). apart w e (dropped-company w (get_or l (3 * k) 0) (get_or l (3 * k + 1) 0) (get_or l (3 * k + 2) 0) h)))

-- A slot that no operation drops in a state, whatever the word and the operand.
abbrev pub Never : State → ℕ → ℕ → ℕ → Type 0
Never st a b c = (word xt xt2 : ℕ) (w : Work) → resolved_of st word xt xt2 ≡ Ok w → drops w a b c ≡ false

-- a senseless slot
pub never-empty : (st : State) (a b c : ℕ) → is_entry a b ≡ false → Never st a b c
never-empty st a b c h word xt xt2 w e = drop-empty w a b c h

-- an entry whose security state or VMID are not the state's for its regime
pub never_other : (st : State) (a b c : ℕ) → (Owner st (entry_at a b).company → ⊥) → Never st a b c
never_other st a b c other word xt xt2 w e =
    not_so (drops w a b c) (λ (h : drops w a b c ≡ true). other (dropped-owner st word xt xt2 w a b c e h))

-- at EL1, an entry that is not of the guest's own stage 1
pub never-guest : (st : State) (a b c : ℕ) → st.el ≡ 1 → ((entry_at a b).company ≡ stage1_of st EL10 → ⊥) → Never st a b c
never-guest st a b c el other word xt xt2 w e =
    not_so (drops w a b c) (λ (h : drops w a b c ≡ true). other (dropped-guest st word xt xt2 w a b c el e h))

-- below EL3, an entry of EL3
pub never-el3 : (st : State) (a b c : ℕ) → st.el < 3 → (entry_at a b).company.regime ≡ EL3 → Never st a b c
unfolding work_of
never-el3 st a b c el third word xt xt2 w e =
    not_so (drops w a b c)
    (λ (h : drops w a b c ≡ true).
    let it = resolves st word xt xt2 w e in
    let own : it.scope.regime ≡ w.company.regime = ap (λ (v : Work). v.company.regime) it.work in
    let same : (entry_at a b).company.regime ≡ w.company.regime = ap (λ (d : Company). d.regime) (dropped-company w a b c h) in
    scoped-below st it.operation it.scope el it.runs (own ∙ sym same ∙ third))

-- so each of these keeps its words, whatever is executed
pub never-kept : (st : State) (l : List ℕ) (k : ℕ) → k < slots l → Never st (get_or l (3 * k) 0) (get_or l (3 * k + 1) 0) (get_or l (3 * k + 2) 0) →
    (word xt xt2 : ℕ) → Kept l (execute_table st word xt xt2 l) k
never-kept st l k n never word xt xt2 =
    execute-keeps st word xt xt2 l k (get_or l (3 * k) 0) (get_or l (3 * k + 1) 0) (get_or l (3 * k + 2) 0) n (refl, refl, refl) (never word xt xt2)

pub guest-kept : (st : State) (l : List ℕ) (k : ℕ) → st.el ≡ 1 → k < slots l → ((slot_entry l k).company ≡ stage1_of st EL10 → ⊥) →
    (word xt xt2 : ℕ) → Kept l (execute_table st word xt xt2 l) k
guest-kept st l k el n other = never-kept st l k n (never-guest st (get_or l (3 * k) 0) (get_or l (3 * k + 1) 0) (get_or l (3 * k + 2) 0) el other)

pub other-kept : (st : State) (l : List ℕ) (k : ℕ) → k < slots l → (Owner st (slot_entry l k).company → ⊥) →
    (word xt xt2 : ℕ) → Kept l (execute_table st word xt xt2 l) k
other-kept st l k n other = never-kept st l k n (never_other st (get_or l (3 * k) 0) (get_or l (3 * k + 1) 0) (get_or l (3 * k + 2) 0) other)

-- "The call returns how many were dropped.", for every input
pub execute-count : (st : State) (word xt xt2 : ℕ) (l : List ℕ) → value_of (executed_of st word xt xt2 l) ≡ emptied slot_reads l (execute_table st word xt xt2 l)
execute-count st word xt xt2 l = go (executed_of st word xt xt2 l) refl
  where
    none : (x : Result ℕ Refusal) → executed_of st word xt xt2 l ≡ x → (number_of x ≡ 0 → ⊥) → 0 ≡ emptied slot_reads l (execute_table st word xt xt2 l)
    none x e h =
        sym
        (ap (emptied slot_reads l) (execute-refused st word xt xt2 l (subst (λ (y : Result ℕ Refusal). number_of y ≡ 0 → ⊥) (sym e) h))
        ∙ emptied-same slot_reads l (zero-empty 0))

    go : (x : Result ℕ Refusal) → executed_of st word xt xt2 l ≡ x → value_of x ≡ emptied slot_reads l (execute_table st word xt xt2 l)
    go (Ok n) e =
        let d = done st word xt xt2 l (ap number_of e) in
        ap value_of (sym e) ∙ (after st word xt xt2 l d).number
    go (Err r) e = none (Err r) e (not-done r)

-- not more slots are dropped than there are
pub dropped-most : (r : Result Work Refusal) (l : List ℕ) → 3 * value_of (executed_by r l) ≤ length l
dropped-most (Ok w) l = count_most (drops w) l
dropped-most (Err r) l = omega arith
