-- What the work of a step tells of the next step that has the same word.
use Prim.Native.Nat.{ℕ}
use mathlib.Core.Bool.{Bool, true, false, cond, not, ◌&&◌}
use mathlib.Core.Path.{◌≡◌, refl, sym, ap, subst, ◌∙◌}
use lib.Dec.{eqb}
use borrow.Author.Tests.{eqb-true}
use Rattle.std.specs.Prelude.{Option, Some, None, Result, Ok, Err, is_some}
use Rattle.laws.proofs.Truth.{clash}
use Rattle.steps.specs.Steps.{no_work, work_in}
use Rattle.machine.specs.declared.refusal.Refusal.{Refusal}
use Rattle.machine.proofs.Works.{Resolves, resolves, known-one}
use Rattle.machine.specs.Access.{access_of}
use Rattle.machine.specs.Execute.{resolved_of}
use Rattle.machine.specs.Goes.{work_of}
use Rattle.machine.specs.Word.{read_of}
use Rattle.machine.specs.declared.operation.Operation.{Operation}
use Rattle.machine.specs.declared.processor.State.{State}
use Rattle.machine.specs.declared.scope.Scope.{Scope}
use Rattle.machine.specs.declared.work.Work.{Work}
use Rattle.works.specs.Held.{Holds, held_in, scope_in}

-- some registers make the work of the word
pub record ComesOf (st : State) (word : ℕ) (w : Work) : Type 0 where
  pub xt : ℕ
  pub xt2 : ℕ
  pub work : w ≡ work_in (resolved_of st word xt xt2)

-- before the first step: word 0 is no operation
pub comes-none : (st : State) → ComesOf st 0 no_work
unfolding resolved_of read_of
comes-none st = record { xt = 0; xt2 = 0; work = refl }

-- a work with a granule is no stand-in
made : (r : Result Work Refusal) (w : Work) → w ≡ work_in r → eqb w.granule 0 ≡ false → r ≡ Ok w
made (Ok v) w e some = ap Ok (sym e)
made (Err r) w e some = clash (ap (λ (x : Work). eqb x.granule 0) e) some

-- a work is of an operation that runs, in the scope that the work has
comes-runs : (st : State) (word xt xt2 : ℕ) (w : Work) (it : Resolves st word xt xt2 w) → access_of st it.operation ≡ Ok (scope_in w)
unfolding work_of
comes-runs st word xt xt2 w it =
    let s = it.scope in
    it.runs ∙ ap Ok (sym (ap (λ (b : Bool). record s { asid = b }) (applies s.asid it.operand.asid)) ∙ ap scope_in it.work)
  where
    applies : (b : Bool) (n : ℕ) → is_some (cond b (Some n) None) ≡ b
    applies true n = refl
    applies false n = refl

-- so what is held of it holds of the next word
pub comes-holds : (st : State) (word next : ℕ) (w : Work) (d : Option Operation) (h : Option Scope) → ComesOf st word w → d ≡ read_of next → h ≡ held_in (eqb next word) w → Holds st d h
comes-holds st word next w d h c r e = subst (Holds st d) (sym e) (go (eqb next word) (eqb w.granule 0) refl refl)
  where
    go : (b n : Bool) → eqb next word ≡ b → eqb w.granule 0 ≡ n → Holds st d (cond (b && not n) (Some (scope_in w)) None)
    go true false same some op k =
        let it : Resolves st word c.xt c.xt2 w = resolves st word c.xt c.xt2 w (made (resolved_of st word c.xt c.xt2) w c.work some) in
        let one = known-one (sym it.known ∙ ap read_of (sym (eqb-true next word same)) ∙ sym r ∙ k) in
        ap (access_of st) (sym one) ∙ comes-runs st word c.xt c.xt2 w it
    go true true same none op k = tt
    go false n same some op k = tt
