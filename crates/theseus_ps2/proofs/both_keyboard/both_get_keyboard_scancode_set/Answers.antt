-- The two agree, since each tells the operation's play.
use Rattle.ps2_keyboard.specs.Keyboard.{get_scancode_set}
use Rattle.theseus_ps2.proofs.Agreed.{agree_run}
use Rattle.theseus_ps2.proofs.both_keyboard.both_get_keyboard_scancode_set.Goals as goal

pub returns : goal.returns
returns c = agree_run get_scancode_set _ _ _ _ c.start-controller.ensures c.rusts_get_keyboard_scancode_set-rusts.ensures c.get_keyboard_scancode_set-ours.ensures
