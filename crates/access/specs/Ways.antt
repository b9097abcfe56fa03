-- What a family's rule comes to, before the scope is made.
use Rattle.std.specs.Prelude.{Result, Ok, Err}
use Rattle.machine.specs.Access.{scope_of}
use Rattle.machine.specs.declared.operation.Operation.{Operation}
use Rattle.machine.specs.declared.processor.State.{State}
use Rattle.machine.specs.declared.refusal.Refusal.{Refusal}
use Rattle.machine.specs.declared.scope.Scope.{Scope}
use Rattle.access.specs.declared.decision.Way.{Way}

-- the access of a way
abbrev pub access_in : State → Operation → Result Way Refusal → Result Scope Refusal
access_in st op (Ok w) = Ok (scope_of st op w.regime w.stage2 w.nxs)
access_in st op (Err r) = Err r
