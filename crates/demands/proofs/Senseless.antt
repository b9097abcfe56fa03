-- Demand 1: "A slot that makes no sense reads as empty and hinders no other guest."
use Prim.Native.Nat.{ℕ, ◌+◌, ◌*◌, ◌/◌, ◌<◌}
use mathlib.Core.Bool.{Bool, true, false, cond, not}
use mathlib.Core.List.{List}
use mathlib.Core.Logic.{◌↔◌}
use mathlib.Core.Path.{◌≡◌, refl, sym, ap, ◌∙◌}
use lib.Dec.{ltb}
use lib.ListN.{length, get_or}
use borrow.Author.Tests.{ltb-true, not-true}
use Rattle.std.specs.Prelude.{Result, Ok, Err}
use Rattle.laws.proofs.Clearing.{cleared-length, cleared-slot, cleared-alike, cleared-swap}
use Rattle.laws.proofs.Slots.{first_holds}
use Rattle.laws.proofs.Truth.{clash}
use Rattle.laws.specs.Slots.{slots, first, some, holds_at, cleared}
use Rattle.machine.proofs.Found.{match-empty}
use Rattle.machine.proofs.Going.{drop-empty}
use Rattle.machine.proofs.Tags.{Written, reads-exactly, zero-empty}
use Rattle.machine.specs.Entry.{is_legal}
use Rattle.machine.specs.Execute.{executed_of, resolved_of, executed_by, table_by, execute_table}
use Rattle.machine.specs.Goes.{drops}
use Rattle.machine.specs.State.{bad_state}
use Rattle.machine.specs.Table.{inserted_of, looked_up_of, has_shape, is_table, is_empty, stage1_of, matches, found_by, found_at}
use Rattle.machine.specs.Tag.{is_entry}
use Rattle.machine.specs.declared.entry.Entry.{Entry}
use Rattle.machine.specs.declared.processor.State.{State}
use Rattle.machine.specs.declared.scope.Regime.{Regime}
use Rattle.machine.specs.declared.refusal.Refusal.{Refusal}
use Rattle.machine.specs.declared.refusal.Refusal.TheVariants as refusal
use Rattle.machine.specs.declared.table.Match.{Match}
use Rattle.machine.specs.declared.work.Work.{Work}

-- "A slot that insert couldn't have written makes no sense and reads as empty": it reads as an entry exactly where a legal entry and an output word
-- give its three words
pub sense-exactly : (base tag out : ℕ) → (is_empty base tag out ≡ false) ↔ Written base tag out
sense-exactly = reads-exactly

-- the table with three zeros for every slot that makes no sense
abbrev pub sensible : List ℕ → List ℕ
sensible l = cleared is_empty l

shape_same : (most : ℕ) (l : List ℕ) → has_shape most (length (sensible l)) ≡ has_shape most (length l)
shape_same most l = ap (has_shape most) (cleared-length is_empty l)

-- "hinders no other guest": no call answers otherwise than if each such slot were three zeros
pub insert-unhindered : (e : Entry) (l : List ℕ) → inserted_of e (sensible l) ≡ inserted_of e l
unfolding inserted_of
insert-unhindered e l =
    let place = (cleared-alike is_empty is_empty (λ (a b c : ℕ) (h : is_empty a b c ≡ true). ap not (zero-empty 0) ∙ sym h) l).0 in
    let long = cleared-length is_empty l in
    ap (λ (t : Bool). cond t (cond (is_legal e) (cond (some is_empty (sensible l)) (Ok (first is_empty (sensible l))) (Err refusal.Full)) (Err refusal.Illegal)) (Err refusal.BadShape)) (shape_same 6144 l)
    ∙ ap (λ (n : ℕ). cond (is_table l) (cond (is_legal e) (cond (ltb n (length (sensible l) / 3)) (Ok n) (Err refusal.Full)) (Err refusal.Illegal)) (Err refusal.BadShape)) place
    ∙ ap (λ (n : ℕ). cond (is_table l) (cond (is_legal e) (cond (ltb (first is_empty l) (n / 3)) (Ok (first is_empty l)) (Err refusal.Full)) (Err refusal.Illegal)) (Err refusal.BadShape)) long

pub execute-unhindered : (st : State) (word xt xt2 : ℕ) (l : List ℕ) →
    (executed_of st word xt xt2 (sensible l) ≡ executed_of st word xt xt2 l) × (execute_table st word xt xt2 (sensible l) ≡ sensible (execute_table st word xt xt2 l))
unfolding executed_of execute_table
execute-unhindered st word xt xt2 l = (
  ap (λ (t : Bool). cond t (cond (bad_state st) (Err refusal.BadState) (executed_by (resolved_of st word xt xt2) (sensible l))) (Err refusal.BadShape)) (shape_same 6144 l)
      ∙ ap (λ (x : Result ℕ Refusal). cond (is_table l) (cond (bad_state st) (Err refusal.BadState) x) (Err refusal.BadShape)) (answer (resolved_of st word xt xt2)),
  ap (λ (t : Bool). cond t (cond (bad_state st) (sensible l) (table_by (resolved_of st word xt xt2) (sensible l))) (sensible l)) (shape_same 6144 l)
      ∙ table (is_table l) (bad_state st) (resolved_of st word xt xt2),
)
  where
    answer : (r : Result Work Refusal) → executed_by r (sensible l) ≡ executed_by r l
    answer (Ok w) =
        ap Ok
        (cleared-alike (drops w) is_empty
        (λ (a b c : ℕ) (h : is_empty a b c ≡ true). drop-empty w 0 0 0 (zero-empty 0) ∙ sym (drop-empty w a b c (not-true (is_entry a b) h))) l).1
    answer (Err r) = refl

    table : (a b : Bool) (r : Result Work Refusal) → cond a (cond b (sensible l) (table_by r (sensible l))) (sensible l) ≡ sensible (cond a (cond b l (table_by r l)) l)
    table true true r = refl
    table true false (Ok w) = cleared-swap (drops w) is_empty l
    table true false (Err r) = refl
    table false b r = refl

pub look-up-unhindered : (st : State) (g : Regime) (asid address : ℕ) (l : List ℕ) → looked_up_of st g asid address (sensible l) ≡ looked_up_of st g asid address l
unfolding looked_up_of
look-up-unhindered st g asid address l =
    ap (λ (t : Bool). cond t (cond (bad_state st) (Err refusal.BadState) (found_by p (sensible l))) (Err refusal.BadShape)) (shape_same 6144 l)
    ∙ ap (λ (x : Result Match Refusal). cond (is_table l) (cond (bad_state st) (Err refusal.BadState) x) (Err refusal.BadShape)) found
  where
    p : ℕ → ℕ → ℕ → Bool
    p = matches (stage1_of st g) st.board.own asid address

    none : (a b c : ℕ) → is_empty a b c ≡ true → p a b c ≡ false
    none a b c h = match-empty (stage1_of st g) st.board.own asid address a b c (not-true (is_entry a b) h)

    place : first p (sensible l) ≡ first p l
    place = (cleared-alike p is_empty (λ (a b c : ℕ) (h : is_empty a b c ≡ true). none 0 0 0 (ap not (zero-empty 0)) ∙ sym (none a b c h)) l).0

    long : slots (sensible l) ≡ slots l
    long = ap (λ (n : ℕ). n / 3) (cleared-length is_empty l)

    word : first p l < slots l → get_or (sensible l) (3 * first p l + 2) 0 ≡ get_or l (3 * first p l + 2) 0
    word low = go (holds_at is_empty l (first p l)) refl
      where
        at : (t : Bool) → holds_at is_empty l (first p l) ≡ t → get_or (sensible l) (3 * first p l + 2) 0 ≡ cond t 0 (get_or l (3 * first p l + 2) 0)
        at t e = (cleared-slot is_empty l (first p l) low).2 ∙ ap (λ (s : Bool). cond s 0 (get_or l (3 * first p l + 2) 0)) e

        go : (t : Bool) → holds_at is_empty l (first p l) ≡ t → get_or (sensible l) (3 * first p l + 2) 0 ≡ get_or l (3 * first p l + 2) 0
        go true e =
            clash (first_holds p l low) (none (get_or l (3 * first p l) 0) (get_or l (3 * first p l + 1) 0) (get_or l (3 * first p l + 2) 0) e)
        go false e = at false e

    found : found_by p (sensible l) ≡ found_by p l
    found =
        ap (λ (k : ℕ). cond (ltb k (slots (sensible l))) (found_at k (sensible l)) (Err (refusal.NotFound (slots (sensible l))))) place
        ∙ ap (λ (n : ℕ). cond (ltb (first p l) n) (found_at (first p l) (sensible l)) (Err (refusal.NotFound n))) long
        ∙ go (some p l) refl
      where
        go : (t : Bool) → some p l ≡ t → cond t (found_at (first p l) (sensible l)) (Err (refusal.NotFound (slots l))) ≡ cond t (found_at (first p l) l) (Err (refusal.NotFound (slots l)))
        go true e = ap (λ (o : ℕ). Ok (record { slot = first p l; out = o; examined = first p l + 1 })) (word (ltb-true (first p l) (slots l) e))
        go false e = refl
