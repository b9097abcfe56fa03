-- A word that was read.
use Prim.Native.Nat.{ℕ}
use mathlib.Core.Path.{◌≡◌, ap, ◌∙◌}
use Rattle.std.specs.Prelude.{Option, None, Result}
use Rattle.machine.specs.Execute.{resolved_word, resolved_of}
use Rattle.machine.specs.Word.{read_of}
use Rattle.machine.specs.declared.operation.Operation.{Operation}
use Rattle.machine.specs.declared.processor.State.{State}
use Rattle.machine.specs.declared.refusal.Refusal.{Refusal}
use Rattle.machine.specs.declared.work.Work.{Work}
use Rattle.works.specs.Held.{Holds}

-- what it comes to is what the word does
pub read-resolved : (st : State) (word xt xt2 : ℕ) (d : Option Operation) (r : Result Work Refusal) → d ≡ read_of word → r ≡ resolved_word st xt xt2 d →
    r ≡ resolved_of st word xt xt2
unfolding resolved_of
read-resolved st word xt xt2 d r e h = h ∙ ap (resolved_word st xt xt2) e

-- where nothing is held, that is right of any word
pub nothing-holds : (st : State) (d : Option Operation) → Holds st d None
nothing-holds st d op r = tt
