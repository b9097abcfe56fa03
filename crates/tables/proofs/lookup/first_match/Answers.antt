use Rattle.std.proofs.Common.{◌≡◌, ℕ, ◌+◌, ◌/◌, false, sym, ◌∙◌, get_or, arith}
use Rattle.machine.specs.Table.{matches}
use Rattle.machine.specs.Tag.{company_at}
use Rattle.laws.proofs.Passing.{seek-passed}
use Rattle.laws.proofs.Slots.{seek-next, seek-here, seek-end}
use Rattle.tables.proofs.Looked.{first-there, first-none}
use Rattle.tables.proofs.Elsewhere.{match-key, match-elsewhere}
use Rattle.tables.proofs.Masked.{masked, wanted, wanted-key}
use Rattle.tables.proofs.lookup.first_match.Goals as goal
use Rattle.tables.proofs.lookup.first_match.Goals.{then-table-i+else-is_match, else-table-i}

pub returns-then-is_match : goal.returns-then-is_match
returns-then-is_match c =
    let a = c.args in
    let p = c.requires in
    let t = a.table.now in
    let base = get_or t c.loop-i.i 0 in
    let tag = get_or t (c.loop-i.i + 1) 0 in
    let out = get_or t (c.loop-i.i + 2) 0 in
    let key = wanted-key a.key a.own tag p.2 c.if-table-i.true in
    let same = match-key a.key a.own a.asid a.address base tag out p.1 p.2 key in
    let test = matches (company_at a.key) a.own a.asid a.address in
    let first = seek-here test t c.loop-i.i (c.loop-i.i / 3) c.loop-i-test.true c.loop-i.invariant (sym same ∙ sym c.is_match.ensures ∙ c.if-is_match.true) in
    first-there test t (c.loop-i.i / 3) first (omega (arith, c.loop-i-test.true, c.loop-i.invariant.0, c.loop-i.invariant.2))

pub loop-i-preserved : goal.loop-i-preserved
loop-i-preserved c =
    let a = c.args in
    let p = c.requires in
    let t = a.table.now in
    let base = get_or t c.loop-i.i 0 in
    let tag = get_or t (c.loop-i.i + 1) 0 in
    let out = get_or t (c.loop-i.i + 2) 0 in
    let test = matches (company_at a.key) a.own a.asid a.address in
    let other : (b g o : ℕ) → (masked g ≡ wanted a.key a.own → ⊥) → test b g o ≡ false =
    λ (b g o : ℕ) (d : masked g ≡ wanted a.key a.own → ⊥). match-elsewhere a.key a.own a.asid a.address b g o p.1 p.2 d in
    elim c.if-table-i.branch [
      | then-table-i+else-is_match w ↦ rw w.i-is (seek-next test t c.loop-i.i c.loop-i-test.true c.loop-i.invariant
          (sym (match-key a.key a.own a.asid a.address base tag out p.1 p.2 (wanted-key a.key a.own tag p.2 w.if-table-i.true)) ∙ sym w.is_match.ensures ∙ w.if-is_match.false))
      | else-table-i w ↦ rw w.i-is (seek-passed test 0xFFFA000003FFFFFF (wanted a.key a.own) other t c.loop-i.i w.past_others-i.result w.if-table-i.false w.past_others-i.ensures c.loop-i.invariant)
    ]

pub returns : goal.returns
returns c =
    let a = c.args in
    let test = matches (company_at a.key) a.own a.asid a.address in
    let t = a.table.now in
    let first = seek-end test t c.loop-i.i (c.loop-i.i / 3) c.loop-i-test.false c.loop-i.invariant in
    first-none test t (omega (arith, first, c.loop-i-test.false))
