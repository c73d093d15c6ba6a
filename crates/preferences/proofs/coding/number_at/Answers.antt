-- `preferences::coding::number_at` meets its contract: a malformed number, or one that is read.
use native.Mathlib.Omega.{arith}
use mathlib.Core.Path.{sym, ap, ◌∙◌}
use Rattle.preferences.specs.NumberReading.{said_number}
use Rattle.preferences.proofs.Steps.{read_end}
use Rattle.preferences.proofs.coding.number_at.Goals as goal

pub overflow_add-result : goal.overflow_add-result
overflow_add-result c = omega (arith, read_end c.args.input.now c.args.at (sym c.read_number.ensures ∙ ap said_number c.in_ok-number.was))
