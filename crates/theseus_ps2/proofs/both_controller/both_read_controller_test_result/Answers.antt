-- The two agree, since each tells the operation's play.
use Rattle.ps2_polling.specs.Polling.{controller_test_result}
use Rattle.theseus_ps2.proofs.Agreed.{agree_reads}
use Rattle.theseus_ps2.proofs.both_controller.both_read_controller_test_result.Goals as goal

pub returns : goal.returns
returns c = agree_reads controller_test_result _ _ _ _ c.start-controller.ensures c.read_controller_test_result-rusts.ensures c.read_controller_test_result-ours.ensures
