-- The two agree, since each tells the operation's play.
use Rattle.ps2_polling.specs.Polling.{port_test_result}
use Rattle.theseus_ps2.proofs.Agreed.{agree_reads}
use Rattle.theseus_ps2.proofs.both_controller.both_match_port_test_result.Goals as goal

pub returns : goal.returns
returns c = agree_reads port_test_result _ _ _ _ c.start-controller.ensures c.match_port_test_result-rusts.ensures c.match_port_test_result-ours.ensures
