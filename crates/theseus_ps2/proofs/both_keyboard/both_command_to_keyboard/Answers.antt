-- The two agree, since each tells the operation's play.
use native.Mathlib.Omega.{arith}
use Rattle.ps2_bytes.specs.declared.writable.HostToDevice.TheVariants.{Keyboard}
use Rattle.ps2_command.specs.Command.{command}
use Rattle.ps2_keyboard.proofs.Bounds.{within_keyboard}
use Rattle.ps2_keyboard.specs.Keyboard.{command_to_keyboard}
use Rattle.theseus_ps2.proofs.Agreed.{agree_kept}
use Rattle.theseus_ps2.proofs.both_keyboard.both_command_to_keyboard.Goals as goal

pub returns : goal.returns
unfolding command_to_keyboard
returns c = agree_kept (command (Keyboard c.args.value)) _ _ _ _ c.start-controller.ensures c.rusts_command_to_keyboard-rusts.ensures (within_keyboard c.args.value) (omega arith) _ c.command_to_keyboard-ours.ensures
