use Rattle.std.proofs.Common.{◌≡◌, length}
use Rattle.machine.specs.Word.{read_of}
use Rattle.judge.proofs.Rounds.{Taken}
use Rattle.steps.proofs.Loops.{step_work, Checking}
use Rattle.judge.proofs.verdict.by_steps.Given as goal

abbrev pub invariant-loop-i : goal.invariant-loop-i
invariant-loop-i l =
    (l.read ≡ read_of l.word) × (length l.works ≡ 16) × Taken l.state l.list l.works l.i × Checking l.target.company (step_work l.state l.list) l.i l.checked
