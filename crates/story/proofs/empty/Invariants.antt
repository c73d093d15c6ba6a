-- `story::empty` is safe: no more events are the second side's than are taken.
use Rattle.std.proofs.Common.{◌≤◌}
use Rattle.story.proofs.empty.Given as goal

abbrev pub invariant-loop-taken : goal.invariant-loop-taken
invariant-loop-taken l = l.of_second ≤ l.taken
