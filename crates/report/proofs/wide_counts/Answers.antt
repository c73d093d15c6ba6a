-- `report::wide_counts` meets its contract: up to each key the counts are copied.
use Rattle.report.proofs.Copying.{copying_ends}
use Rattle.report.proofs.wide_counts.Goals as goal

pub returns : goal.returns
returns c = copying_ends c.loop-i.invariant c.loop-i-test.false
