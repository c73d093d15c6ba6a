-- The two agree, since each tells the operation's play.
use Rattle.ps2_polling.specs.Polling.{test_controller}
use Rattle.theseus_ps2.proofs.Agreed.{agree_run}
use Rattle.theseus_ps2.proofs.both_controller.both_test.Goals as goal

pub returns : goal.returns
returns c = agree_run test_controller _ _ _ _ c.start-controller.ensures c.test-rusts.ensures c.test-ours.ensures
