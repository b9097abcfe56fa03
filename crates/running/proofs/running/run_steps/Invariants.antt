use Rattle.std.proofs.Common.{◌*◌}
use Rattle.machine.proofs.Running.{Running}
use Rattle.running.proofs.running.run_steps.Given as goal

abbrev pub invariant-loop-step : goal.invariant-loop-step
invariant-loop-step l = Running l.state l.list l.initial.table l.table (3 * l.step-index) l.n
