-- `theseus_keycodes`'s `Keycode::try_from` meets its contract: a byte of no arm is the number of no keycode.
use Rattle.keycodes_ascii.specs.Keycode.{keycodes}
use Rattle.keycodes_ascii.proofs.Codes.{keycode_missing}
use Rattle.theseus_keycodes.proofs.KeycodeTryFromU8.try_from.Goals as goal

pub returns-in_default : goal.returns-in_default
unfolding keycodes
returns-in_default c = keycode_missing c.args.byte c.in_default.in_default-own.rest
