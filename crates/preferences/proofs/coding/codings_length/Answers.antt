-- `preferences::coding::codings_length` meets its contract: the numbers' counts are added one after another.
use mathlib.Core.Path.{sym, ap}
use native.Mathlib.Omega.{arith}
use lib.ListN.{length, get_or}
use Rattle.preferences.proofs.Shortest.{coding_most}
use Rattle.preferences.proofs.Codings.{codings_none, length_next}
use Rattle.preferences.proofs.coding.codings_length.Goals as goal

pub loop-number-init : goal.loop-number-init
loop-number-init c = record { sum = sym (ap length codings_none); few = omega arith }

pub overflow_add-length : goal.overflow_add-length
overflow_add-length c = omega (arith, c.loop-number.invariant.few, coding_most (get_or c.args.numbers.now c.loop-number.number-index 0))

pub loop-number-preserved : goal.loop-number-preserved
loop-number-preserved c =
    record {
      sum = length_next c.args.numbers.now c.loop-number.number-index (omega arith) c.loop-number.invariant.sum c.number_length-length.ensures;
      few = omega (arith, c.loop-number.invariant.few, coding_most (get_or c.args.numbers.now c.loop-number.number-index 0));
    }
