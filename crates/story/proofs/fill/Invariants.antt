-- `story::fill` is safe: no more presses are refused than made.
use Rattle.std.proofs.Common.{◌≤◌}
use Rattle.story.proofs.fill.Given as goal

abbrev pub invariant-loop : goal.invariant-loop
invariant-loop l = l.refused ≤ l.counter
