-- `read_controller_test_result` meets its contract: a wait with its own byte, turns and refusal.
use Rattle.ps2_polling.specs.Polling.{controller_test_result}
use Rattle.ps2_polling.proofs.read_controller_test_result.Goals as goal

pub returns : goal.returns
unfolding controller_test_result
returns c = c.read_test_result.ensures
