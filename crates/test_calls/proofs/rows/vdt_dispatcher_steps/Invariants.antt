-- `test_calls::vdt_dispatcher_steps` meets its contract: after i turns the state and the log are what i steps leave.
use mathlib.Core.Path.{◌≡◌}
use Rattle.dispatcher.specs.Sources.{scripts}
use Rattle.test_calls.specs.Steps.{left, made}
use Rattle.test_calls.proofs.Steps.{at_first}
use Rattle.test_calls.proofs.rows.vdt_dispatcher_steps.Given as goal

abbrev pub invariant-loop : goal.invariant-loop
invariant-loop l = left l.state l.log ≡ made l.counter (scripts l.first l.second l.mouse) (left at_first l.initial.log)
