-- `report::wide_counts` meets its contract: up to each key the counts are copied.
use Rattle.report.proofs.Copying.{Copying}
use Rattle.report.proofs.wide_counts.Given as goal

abbrev pub invariant-loop-i : goal.invariant-loop-i
invariant-loop-i l = Copying l.counts l.i l.all
