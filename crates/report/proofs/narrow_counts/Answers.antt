-- `report::narrow_counts` meets its contract: within the limits the counts are copied up to each key.
use native.Mathlib.Omega.{arith}
use Rattle.report.proofs.Ranges.{at_most_at}
use Rattle.report.proofs.Copying.{copying_goes, copying_ends}
use Rattle.report.proofs.narrow_counts.Goals as goal

pub loop-i-preserved : goal.loop-i-preserved
loop-i-preserved c e = copying_goes (c.loop-i.invariant e) _ c.loop-i-test.true (c.narrow.ensures (omega (arith, at_most_at _ _ e c.loop-i.i)))

pub returns : goal.returns
returns c e = copying_ends (c.loop-i.invariant e) c.loop-i-test.false
