-- `report::add_counts` meets its contract: up to each key the counts are added, and none is above the limit.
use Rattle.report.proofs.Ranges.{Adding}
use Rattle.report.proofs.add_counts.Given as goal

abbrev pub invariant-loop-i : goal.invariant-loop-i
invariant-loop-i l = Adding l.most l.old l.more l.i l.counts
