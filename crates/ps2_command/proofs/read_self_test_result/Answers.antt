-- `ps2_command::read_self_test_result` meets its contract: a wait by data reads, for AA.
use Rattle.ps2_command.specs.Search.{self_test_within}
use Rattle.ps2_command.proofs.read_self_test_result.Goals as goal

pub returns : goal.returns
unfolding self_test_within
returns c = c.read_test_result.ensures
