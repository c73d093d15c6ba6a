-- The history rule for the keyboards' own lamp exchanges, those that `handle` makes.
use Rattle.keyboard.specs.KeyboardLamps.{keyboard_lamps}
use Rattle.keyboard_record.specs.declared.Table.{Table}
use Rattle.theorem_history.specs.Past.{Past}
use Rattle.theorem_history.specs.Counted.{Call}
use Rattle.theorem_history.specs.History.{History}
use Rattle.theorem_history.proofs.History.{history}

pub keyboard_history : (table : Table) (calls : Past Call) → History table keyboard_lamps calls
keyboard_history table = history table keyboard_lamps
