-- `match_port_test_result` meets its contract: a wait with its own byte, turns and refusal.
use Rattle.ps2_polling.specs.Polling.{port_test_result}
use Rattle.ps2_polling.proofs.match_port_test_result.Goals as goal

pub returns : goal.returns
unfolding port_test_result
returns c = c.read_test_result.ensures
