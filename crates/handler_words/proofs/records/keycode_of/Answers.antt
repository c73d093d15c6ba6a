-- `handler_words::records::keycode_of` meets its contract.
use mathlib.Core.Path.{refl}
use Rattle.handler_words.proofs.WholeRecords.{key_in, empty_in}
use Rattle.handler_words.proofs.records.keycode_of.Goals as goal

pub returns-in-Ok : goal.returns-in-Ok
returns-in-Ok c = key_in c.args.word c.try_from.ensures refl c.in-Ok.is

pub returns-in-Err : goal.returns-in-Err
returns-in-Err c = empty_in c.args.word c.try_from.ensures refl c.in-Err.is
