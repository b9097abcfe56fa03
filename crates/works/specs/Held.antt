-- What is known of a word's scope from an earlier step of a list that had the same word.
use Rattle.std.specs.Prelude.{Bool, cond, not, ◌&&◌, eqb, ◌≡◌, is_some, ⊤, Option, Some, None, Ok}
use Rattle.machine.specs.Access.{access_of}
use Rattle.machine.specs.declared.operation.Operation.{Operation}
use Rattle.machine.specs.declared.processor.State.{State}
use Rattle.machine.specs.declared.scope.Scope.{Scope}
use Rattle.machine.specs.declared.work.Work.{Work}

-- the scope that a work came from
abbrev pub scope_in : Work → Scope
scope_in w = record {
  regime = w.company.regime;
  security = w.company.security;
  vmid = w.company.vmid;
  stage2 = w.company.stage2;
  reached = w.reached;
  asid = is_some w.asid;
  last = w.leaves;
  nxs = w.nxs;
}

-- what the work of an earlier step tells, where its word is the same; what stands for no work has granule 0
abbrev pub held_in : Bool → Work → Option Scope
held_in same w = cond (same && not (eqb w.granule 0)) (Some (scope_in w)) None

-- what is held is what the access rules say of an operation
abbrev pub HoldsOf : State → Operation → Option Scope → Type 0
HoldsOf st op None = ⊤
HoldsOf st op (Some s) = access_of st op ≡ Ok s

-- the same of a word that was read
abbrev pub Holds : State → Option Operation → Option Scope → Type 0
Holds st read h = (op : Operation) → read ≡ Some op → HoldsOf st op h
