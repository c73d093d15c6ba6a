-- `preferences::numbers::put_number` meets its contract: at each place the groups that are left are to be put (`Putting`).
use Rattle.preferences.proofs.NumberPutting.{Putting}
use Rattle.preferences.proofs.numbers.put_number.Given as goal

abbrev pub invariant-loop-group : goal.invariant-loop-group
invariant-loop-group l = Putting l.number l.room l.left l.group-index
