-- What an operation comes to can be carried out.
use Prim.Native.Nat.{ℕ}
use Rattle.machine.proofs.Works.{fit, owner}
use Rattle.machine.specs.Execute.{resolved_of}
use Rattle.machine.specs.declared.processor.State.{State}
use Rattle.execution.specs.Sound.{IsSound}

pub resolved-sound : (st : State) (word xt xt2 : ℕ) → IsSound (resolved_of st word xt xt2)
resolved-sound st word xt xt2 w e =
    let f = fit st word xt xt2 w e in
    (f.granule_some, f.granule_most, (owner st word xt xt2 w e).company)
