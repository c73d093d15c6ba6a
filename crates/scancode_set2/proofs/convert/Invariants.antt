-- `scancode_set2::convert` meets its contract. The loop's invariant is how far the conversion has come; each return is where nothing more is converted.
use Prim.Native.Nat.{◌-◌}
use lib.ListN.{length}
use Rattle.scancode_set2.proofs.Progress.{Reached}
use Rattle.scancode_set2.proofs.convert.Given as goal

abbrev pub invariant-loop-used : goal.invariant-loop-used
invariant-loop-used l = Reached l.stream l.initial.out l.used l.written l.out

abbrev pub decreases-loop-used : goal.decreases-loop-used
decreases-loop-used l = length l.stream - l.used
