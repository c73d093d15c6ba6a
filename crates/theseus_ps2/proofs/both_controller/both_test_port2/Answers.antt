-- The two agree, since each tells the operation's play.
use Rattle.ps2_bytes.specs.declared.command.HostToControllerCommand.TheVariants.{TestPort2}
use Rattle.ps2_polling.specs.Polling.{test_port}
use Rattle.theseus_ps2.proofs.Agreed.{agree_run}
use Rattle.theseus_ps2.proofs.both_controller.both_test_port2.Goals as goal

pub returns : goal.returns
returns c = agree_run (test_port TestPort2) _ _ _ _ c.start-controller.ensures c.test_port2-rusts.ensures c.test_port2-ours.ensures
