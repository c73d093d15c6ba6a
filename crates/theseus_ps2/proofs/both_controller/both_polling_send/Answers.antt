-- The two agree, since each tells the operation's play.
use Rattle.ps2_polling.specs.Polling.{polling_send}
use Rattle.theseus_ps2.proofs.Agreed.{agree_run}
use Rattle.theseus_ps2.proofs.both_controller.both_polling_send.Goals as goal

pub returns : goal.returns
returns c = agree_run (polling_send c.args.value) _ _ _ _ c.start-controller.ensures c.polling_send-rusts.ensures c.polling_send-ours.ensures
