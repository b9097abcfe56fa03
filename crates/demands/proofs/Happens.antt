-- Demand 2: "For every operation of the range family, what happens ... is what Arm's published pages say".
use Prim.Native.Nat.{ℕ}
use mathlib.Core.Bool.{Bool, true, false}
use mathlib.Core.List.{List}
use mathlib.Core.Path.{◌≡◌, ap, subst, ◌∙◌}
use Rattle.std.specs.Prelude.{Some, None, Result, Ok}
use Rattle.machine.proofs.Executing.{execute-1, execute-access, execute-range}
use Rattle.machine.proofs.Pages.{is_overruled, page-000, page-001, page-001-nxs, page-002, page-003, page-004}
use Rattle.machine.specs.Access.{access_of}
use Rattle.machine.specs.Answer.{number_of, trap_of}
use Rattle.machine.specs.Asked.{asked_of}
use Rattle.machine.specs.Pages.{op000, op001, op002, op003, op004, page000, page001, page001nxs, page002, page003, page004}
use Rattle.machine.specs.State.{bad_state}
use Rattle.machine.specs.Table.{is_table}
use Rattle.machine.specs.Word.{read_of, is_odd_pair}
use Rattle.machine.specs.declared.operation.Operation.{Operation}
use Rattle.machine.specs.declared.processor.State.{State}
use Rattle.machine.specs.declared.scope.Scope.{Scope}
use Rattle.calls.specs.Promises.{Executes}
use Rattle.machine.specs.declared.refusal.Refusal.{Refusal}

-- an execution on a table of legal shape, in a state that is not bad
pub record Executing (st : State) (word xt xt2 : ℕ) (r : Result ℕ Refusal) : Type 0 where
  pub table : List ℕ
  pub after : List ℕ
  pub kept : Executes st word xt xt2 table r after
  pub shape : is_table table ≡ true
  pub good : bad_state st ≡ false

-- its answer follows an access rule: refused with the rule's number and the number of a trap, or run in the rule's scope
pub record Follows (st : State) (op : Operation) (xt xt2 : ℕ) (a : Result Scope Refusal) (r : Result ℕ Refusal) : Type 0 where
  pub refused : (number_of a ≡ 0 → ⊥) → (number_of r ≡ number_of a) × (trap_of r ≡ trap_of a)
  pub runs : (s : Scope) → a ≡ Ok s → number_of r ≡ number_of (asked_of st op s xt xt2)

-- 1: "word isn't one of the operations"
pub executed-unknown : (st : State) (word xt xt2 : ℕ) (r : Result ℕ Refusal) → Executing st word xt xt2 r → read_of word ≡ None → number_of r ≡ 1
executed-unknown st word xt xt2 r x u = ap number_of x.kept.0 ∙ execute-1 st word xt xt2 x.table x.shape x.good u

-- "3 to 5 by the access rules ..., 6, 7", for every operation
pub executed-follows : (st : State) (word xt xt2 : ℕ) (r : Result ℕ Refusal) → Executing st word xt xt2 r → (op : Operation) → read_of word ≡ Some op →
    Follows st op xt xt2 (access_of st op) r
executed-follows st word xt xt2 r x op k = record {
  refused = λ (n : number_of (access_of st op) ≡ 0 → ⊥).
      let (number, trap) = execute-access st word xt xt2 x.table op x.shape x.good k n in
      (ap number_of x.kept.0 ∙ number, ap trap_of x.kept.0 ∙ trap);
  runs = λ (s : Scope) (a : access_of st op ≡ Ok s). ap number_of x.kept.0 ∙ execute-range st word xt xt2 x.table op s x.shape x.good k a;
}

-- and of the pages' operations the rule is the page's pseudocode: 000 (TLBIP RVAE2), 002 (TLBIP RVALE3OS), 003 (TLBIP RIPAS2LE1IS), 004 (TLBI RVALE3OS)
pub executed-000 : (st : State) (word xt xt2 : ℕ) (r : Result ℕ Refusal) → Executing st word xt xt2 r → (nxs : Bool) (rt : ℕ) → is_odd_pair (op000 nxs rt) ≡ false →
    read_of word ≡ Some (op000 nxs rt) → Follows st (op000 nxs rt) xt xt2 (page000 st nxs) r
executed-000 st word xt xt2 r x nxs rt even k =
    subst (λ (a : Result Scope Refusal). Follows st (op000 nxs rt) xt xt2 a r) (page-000 st x.good nxs rt even) (executed-follows st word xt xt2 r x (op000 nxs rt) k)

pub executed-002 : (st : State) (word xt xt2 : ℕ) (r : Result ℕ Refusal) → Executing st word xt xt2 r → (nxs : Bool) (rt : ℕ) → is_odd_pair (op002 nxs rt) ≡ false →
    read_of word ≡ Some (op002 nxs rt) → Follows st (op002 nxs rt) xt xt2 (page002 st nxs) r
executed-002 st word xt xt2 r x nxs rt even k =
    subst (λ (a : Result Scope Refusal). Follows st (op002 nxs rt) xt xt2 a r) (page-002 st nxs rt even) (executed-follows st word xt xt2 r x (op002 nxs rt) k)

pub executed-003 : (st : State) (word xt xt2 : ℕ) (r : Result ℕ Refusal) → Executing st word xt xt2 r → (nxs : Bool) (rt : ℕ) → is_odd_pair (op003 nxs rt) ≡ false →
    read_of word ≡ Some (op003 nxs rt) → Follows st (op003 nxs rt) xt xt2 (page003 st nxs) r
executed-003 st word xt xt2 r x nxs rt even k =
    subst (λ (a : Result Scope Refusal). Follows st (op003 nxs rt) xt xt2 a r) (page-003 st x.good nxs rt even) (executed-follows st word xt xt2 r x (op003 nxs rt) k)

pub executed-004 : (st : State) (word xt xt2 : ℕ) (r : Result ℕ Refusal) → Executing st word xt xt2 r → (nxs : Bool) (rt : ℕ) →
    read_of word ≡ Some (op004 nxs rt) → Follows st (op004 nxs rt) xt xt2 (page004 st nxs) r
executed-004 st word xt xt2 r x nxs rt k =
    subst (λ (a : Result Scope Refusal). Follows st (op004 nxs rt) xt xt2 a r) (page-004 st x.good nxs rt) (executed-follows st word xt xt2 r x (op004 nxs rt) k)

-- 001 (TLBI RVAAE1IS and RVAAE1ISNXS), but where 01 decides otherwise: "here 001's prose decides over its pseudocode"
pub executed-001 : (st : State) (word xt xt2 : ℕ) (r : Result ℕ Refusal) → Executing st word xt xt2 r → (rt : ℕ) → is_overruled st ≡ false →
    read_of word ≡ Some (op001 false rt) → Follows st (op001 false rt) xt xt2 (page001 st) r
executed-001 st word xt xt2 r x rt agreed k =
    subst (λ (a : Result Scope Refusal). Follows st (op001 false rt) xt xt2 a r) (page-001 st x.good rt agreed) (executed-follows st word xt xt2 r x (op001 false rt) k)

pub executed-001-nxs : (st : State) (word xt xt2 : ℕ) (r : Result ℕ Refusal) → Executing st word xt xt2 r → (rt : ℕ) → is_overruled st ≡ false →
    read_of word ≡ Some (op001 true rt) → Follows st (op001 true rt) xt xt2 (page001nxs st) r
executed-001-nxs st word xt xt2 r x rt agreed k =
    subst (λ (a : Result Scope Refusal). Follows st (op001 true rt) xt xt2 a r) (page-001-nxs st x.good rt agreed) (executed-follows st word xt xt2 r x (op001 true rt) k)
