-- The two agree, since each tells the operation's play.
use native.Mathlib.Omega.{arith}
use Rattle.ps2_keyboard.proofs.Bounds.{most_set_keyboard_led}
use Rattle.ps2_keyboard.specs.Keyboard.{set_keyboard_led}
use Rattle.theseus_ps2.proofs.Agreed.{agree_kept}
use Rattle.theseus_ps2.proofs.both_keyboard.both_set_keyboard_led.Goals as goal

pub returns : goal.returns
returns c = agree_kept (set_keyboard_led c.args.value) _ _ _ _ c.start-controller.ensures c.rusts_set_keyboard_led-rusts.ensures (most_set_keyboard_led c.args.value).within (omega arith) _ c.set_keyboard_led-ours.ensures
