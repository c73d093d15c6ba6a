-- The two agree, since each tells the operation's play.
use Rattle.ps2_detect.specs.Detection.{keyboard_detect}
use Rattle.theseus_ps2.proofs.Agreed.{agree_run}
use Rattle.theseus_ps2.proofs.both_keyboard.both_keyboard_detect.Goals as goal

pub returns : goal.returns
returns c = agree_run keyboard_detect _ _ _ _ c.start-controller.ensures c.rusts_keyboard_detect-rusts.ensures c.keyboard_detect-ours.ensures
