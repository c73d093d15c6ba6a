-- `preferences::coding::put_all` meets its contract: the numbers so far are put, and the others find room.
use lib.ListN.{take, drop}
use Rattle.preferences.proofs.Putting.{Putting}
use Rattle.preferences.proofs.coding.put_all.Given as goal

abbrev pub invariant-loop-number : goal.invariant-loop-number
invariant-loop-number l = Putting (take l.number-index l.numbers) (drop l.number-index l.numbers) l.initial.output l.output l.at
