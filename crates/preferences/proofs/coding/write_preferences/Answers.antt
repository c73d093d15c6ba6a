-- `preferences::coding::write_preferences` meets its contract: 28 is asked of all fields, then the room of the numbers.
use mathlib.Core.Path.{sym, ap, ◌∙◌}
use Rattle.preferences.specs.Format.{record_bytes}
use Rattle.preferences.proofs.Putting.{outside_left, inside}
use Rattle.preferences.proofs.coding.write_preferences.Goals as goal

pub returns-then-not-within_values : goal.returns-then-not-within_values
returns-then-not-within_values c = outside_left _ _ (sym c.within_values.ensures ∙ c.if-not-within_values.true)

pub returns-in-Version1 : goal.returns-in-Version1
returns-in-Version1 c = inside _ _ (sym c.within_values.ensures ∙ c.if-not-within_values.false) (ap record_bytes (sym c.in-Version1.is)) c.write_all.ensures

pub returns-in-Version2 : goal.returns-in-Version2
returns-in-Version2 c = inside _ _ (sym c.within_values.ensures ∙ c.if-not-within_values.false) (ap record_bytes (sym c.in-Version2.is)) c.write_all-in-Version2.ensures
