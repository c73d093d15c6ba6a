-- `Preferences::within_values` meets its contract: where the four fields of version 2 are within their values, the fifth decides.
use mathlib.Core.Bool.{true}
use mathlib.Core.Path.{◌≡◌, sym, ap, ◌∙◌}
use Rattle.preferences.specs.Values.{is_repeat_byte}
use Rattle.preferences.specs.Record.{within_values}
use Rattle.preferences.specs.declared.Preferences.TheVariants.{Version1, Version2}
use Rattle.preferences.proofs.Values.{within_fifth}
use Rattle.preferences.proofs.Preferences.within_values.Goals as goal

pub returns-then-within_values : goal.returns-then-within_values
returns-then-within_values c =
    let four : within_values (Version1 c.in-Version2.fields) ≡ true = sym c.within_values-in-Version2.ensures ∙ c.if-within_values.true in
    let fifth : is_repeat_byte c.in-Version2.repeat ≡ within_values (Version2 c.in-Version2.fields c.in-Version2.repeat) = rw four at (within_fifth c.in-Version2.fields c.in-Version2.repeat) in
    c.is_repeat_byte.ensures ∙ fifth ∙ sym (ap within_values c.in-Version2.is)
