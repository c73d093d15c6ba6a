-- `keyboard_words::keyboard_set_repeat` meets its contract: by the byte.
use native.Mathlib.Omega.{arith}
use mathlib.Core.Path.{refl}
use Rattle.port_words.proofs.Tells.{at_none}
use Rattle.keyboard_words.proofs.Arguments.{not_below}
use Rattle.keyboard_words.proofs.keyboard_set_repeat.Goals as goal

pub returns-in-Err : goal.returns-in-Err
returns-in-Err c = at_none (not_below 256 c.args.byte c.args.byte (omega (arith, c.in-Err.ensures))) (c.refusing_words.ensures, refl)
