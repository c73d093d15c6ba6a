-- `handler_words::keycode_in` meets its contract.
use mathlib.Core.Path.{refl, ◌∙◌}
use Rattle.handler_words.proofs.Events.{found_in, none_in}
use Rattle.handler_words.proofs.keycode_in.Goals as goal

pub returns-in-Ok : goal.returns-in-Ok
returns-in-Ok c = c.from.ensures ∙ found_in c.args.word c.try_from.ensures refl c.in-Ok.is

pub returns-in-Err : goal.returns-in-Err
returns-in-Err c = none_in c.args.word c.try_from.ensures refl c.in-Err.is
