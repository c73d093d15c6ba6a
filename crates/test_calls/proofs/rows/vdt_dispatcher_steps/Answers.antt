-- `test_calls::vdt_dispatcher_steps` meets its contract: after i turns the state and the log are what i steps leave.
use Rattle.test_calls.proofs.Steps.{none_made, one_more_made}
use Rattle.test_calls.proofs.rows.vdt_dispatcher_steps.Goals as goal

pub loop-init : goal.loop-init
loop-init c = none_made _ _ c.fresh.ensures c.new.ensures c.new-state.ensures

pub loop-preserved : goal.loop-preserved
loop-preserved c = one_more_made _ _ _ c.loop.invariant c.one_step-state.ensures
