use Rattle.std.proofs.Common.{◌%◌, ◌^◌, ◌≡◌, ℕ, false, bit_and, sym, ◌∙◌}
use lib.Bits.{and_mask}
use Rattle.machine.specs.Goes.{key_of, drops}
use Rattle.laws.proofs.Clearing.{clear-drop, clear-keep, clear-end}
use Rattle.laws.proofs.Passing.{clear-passed}
use Rattle.machine.proofs.Going.{drop-other}
use Rattle.dropping.proofs.slots.drop_all.Goals as goal
use Rattle.dropping.proofs.slots.drop_all.Goals.{then-table-i+then-is_dropped, then-table-i+else-is_dropped, else-table-i}

pub loop-i-preserved : goal.loop-i-preserved
unfolding drops
loop-i-preserved c =
    let a = c.args in
    let w = a.work in
    let t = a.table.now in
    let key = c.key_of-key.result in
    let k = c.key_of-key.ensures in
    let other : (b g o : ℕ) → (bit_and g 0xFFFFFFF ≡ key → ⊥) → drops w b g o ≡ false =
    λ (b g o : ℕ) (d : bit_and g 0xFFFFFFF ≡ key → ⊥). drop-other w b g o (λ (e : g % 2 ^ 28 ≡ key_of w). d (and_mask g 28 ∙ e ∙ sym k.0)) k.2 in
    let on = c.loop-i-test.true in
    elim c.if-table-i.branch [
      | then-table-i+then-is_dropped w ↦
          rw (w.table-is, w.i-is, w.n-is) (clear-drop (drops a.work) t c.loop-i.table c.loop-i.i c.loop-i.n on c.loop-i.invariant (sym w.is_dropped.ensures ∙ w.if-is_dropped.true))
      | then-table-i+else-is_dropped w ↦
          rw (w.table-is, w.i-is, w.n-is) (clear-keep (drops a.work) t c.loop-i.table c.loop-i.i c.loop-i.n on c.loop-i.invariant (sym w.is_dropped.ensures ∙ w.if-is_dropped.false))
      | else-table-i w ↦
          rw (w.table-is, w.i-is, w.n-is) (clear-passed (drops a.work) 0xFFFFFFF key other t c.loop-i.table c.loop-i.i w.past_others-i.result c.loop-i.n w.if-table-i.false w.past_others-i.ensures c.loop-i.invariant)
    ]

pub returns : goal.returns
returns c =
    let a = c.args in
    let e = clear-end (drops a.work) a.table.now c.loop-i.table c.loop-i.i c.loop-i.n c.loop-i-test.false c.loop-i.invariant in
    record { value = e.1; table_after = e.0 }
