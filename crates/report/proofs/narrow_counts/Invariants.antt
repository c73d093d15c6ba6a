-- `report::narrow_counts` meets its contract: within the limits the counts are copied up to each key.
use mathlib.Core.Path.{◌≡◌}
use mathlib.Core.Bool.{true}
use Rattle.report.specs.Adding.{at_most}
use Rattle.report.specs.Narrow.{narrow_limits}
use Rattle.report.proofs.Copying.{Copying}
use Rattle.report.proofs.narrow_counts.Given as goal

abbrev pub invariant-loop-i : goal.invariant-loop-i
invariant-loop-i l = at_most narrow_limits.count l.counts ≡ true → Copying l.counts l.i l.all
