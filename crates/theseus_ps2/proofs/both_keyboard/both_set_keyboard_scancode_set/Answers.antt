-- The two agree, since each tells the operation's play.
use Rattle.ps2_keyboard.specs.Keyboard.{set_scancode_set}
use Rattle.theseus_ps2.proofs.Agreed.{agree_run}
use Rattle.theseus_ps2.proofs.both_keyboard.both_set_keyboard_scancode_set.Goals as goal

pub returns : goal.returns
returns c = agree_run (set_scancode_set c.args.value) _ _ _ _ c.start-controller.ensures c.rusts_set_keyboard_scancode_set-rusts.ensures c.set_keyboard_scancode_set-ours.ensures
