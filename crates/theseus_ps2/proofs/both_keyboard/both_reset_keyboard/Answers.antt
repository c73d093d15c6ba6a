-- The two agree, since each tells the operation's play.
use Rattle.ps2_keyboard.specs.Keyboard.{reset_keyboard}
use Rattle.theseus_ps2.proofs.Agreed.{agree_run}
use Rattle.theseus_ps2.proofs.both_keyboard.both_reset_keyboard.Goals as goal

pub returns : goal.returns
returns c = agree_run reset_keyboard _ _ _ _ c.start-controller.ensures c.rusts_reset_keyboard-rusts.ensures c.reset_keyboard-ours.ensures
