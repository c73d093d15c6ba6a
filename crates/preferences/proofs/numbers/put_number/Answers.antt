-- `preferences::numbers::put_number` meets its contract: at each place the groups that are left are to be put (`Putting`).
use native.Mathlib.Omega.{arith}
use Rattle.preferences.proofs.NumberPutting.{putting_begins, putting_last, putting_more}
use Rattle.preferences.proofs.numbers.put_number.Goals.{then-left-lt-TWO_GROUPS, else-left-lt-TWO_GROUPS}
use Rattle.preferences.proofs.numbers.put_number.Goals as goal

pub loop-group-init : goal.loop-group-init
loop-group-init c = putting_begins c.args.number c.args.room.now (omega arith)

pub loop-group-preserved : goal.loop-group-preserved
loop-group-preserved c =
    elim c.if-left-lt-TWO_GROUPS.branch [
      | then-left-lt-TWO_GROUPS w ↦ rw w.group-is (putting_last c.loop-group.invariant (omega arith) (omega arith) w.if-left-lt-TWO_GROUPS.true)
      | else-left-lt-TWO_GROUPS w ↦ rw w.group-is (putting_more c.loop-group.invariant (omega arith) (omega arith) w.if-left-lt-TWO_GROUPS.false)
    ]
