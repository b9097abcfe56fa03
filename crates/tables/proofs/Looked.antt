-- The answer to a look-up, by the first slot that matches.
use Rattle.std.proofs.Common.{◌≡◌, ℕ, ◌<◌, ◌≤◌, Bool, true, false, cond, List, refl, sym, ap, ◌∙◌, arith, lt-ltb, le-ltb}
use Rattle.std.specs.Prelude.{Option, Some, None, Result, Err}
use Rattle.laws.specs.Slots.{slots, first, first_slot, some}
use Rattle.machine.specs.State.{bad_state}
use Rattle.machine.specs.Table.{is_table, stage1_of, matches, found_at, found_by, looked_up_of}
use Rattle.machine.specs.declared.entry.Company.{Company}
use Rattle.machine.specs.declared.processor.State.{State}
use Rattle.machine.specs.declared.refusal.Refusal.{Refusal}
use Rattle.machine.specs.declared.refusal.Refusal.TheVariants as refusal
use Rattle.machine.specs.declared.scope.Regime.{Regime}
use Rattle.machine.specs.declared.table.Match.{Match}

-- there is a first, or there is none
pub first-there : (p : ℕ → ℕ → ℕ → Bool) (l : List ℕ) (k : ℕ) → k ≡ first p l → k < slots l → Some k ≡ first_slot p l
first-there p l k e h =
    ap Some e ∙ sym (ap (λ (b : Bool). cond b (Some (first p l)) None) (lt-ltb (first p l) (slots l) (omega (arith, e, h))))

pub first-none : (p : ℕ → ℕ → ℕ → Bool) (l : List ℕ) → slots l ≤ first p l → None ≡ first_slot p l
first-none p l h = sym (ap (λ (b : Bool). cond b (Some (first p l)) None) (le-ltb (first p l) (slots l) h))

abbrev pub looked : List ℕ → Option ℕ → Result Match Refusal
looked l (Some k) = found_at k l
looked l None = Err (refusal.NotFound (slots l))

by_some : (p : ℕ → ℕ → ℕ → Bool) (l : List ℕ) (b : Bool) → some p l ≡ b → looked l (cond b (Some (first p l)) None) ≡ found_by p l
by_some p l true e = rw e refl
by_some p l false e = rw e refl

pub looked-up : (st : State) (r : Regime) (asid address : ℕ) (c : Company) (l : List ℕ) → is_table l ≡ true → bad_state st ≡ false → c ≡ stage1_of st r →
    looked l (first_slot (matches c st.board.own asid address) l) ≡ looked_up_of st r asid address l
unfolding looked_up_of
looked-up st r asid address c l t b e =
    let p : ℕ → ℕ → ℕ → Bool = matches c st.board.own asid address in
    by_some p l (some p l) refl
    ∙ ap (λ (d : Company). found_by (matches d st.board.own asid address) l) e
    ∙ simp (t, b)
