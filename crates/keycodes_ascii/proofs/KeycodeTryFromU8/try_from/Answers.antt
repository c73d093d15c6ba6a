-- `Keycode::try_from` meets its contract: a byte of no arm is the number of no keycode.
use mathlib.Core.Path.{ap}
use Rattle.std.specs.Prelude.{ok_or}
use Rattle.keycodes_ascii.specs.Keycode.{keycodes}
use Rattle.keycodes_ascii.proofs.Codes.{keycode_missing}
use Rattle.keycodes_ascii.proofs.KeycodeTryFromU8.try_from.Goals as goal

pub returns-in_default : goal.returns-in_default
unfolding keycodes
returns-in_default c = ap (λ k. ok_or k (record { 0 = c.args.byte })) (keycode_missing c.args.byte c.in_default.in_default-own.rest)
