-- `LongReport::of_totals` meets its contract.
use Rattle.std.proofs.Common.{rules}
use Rattle.report.proofs.long.LongReportSeason.of_totals.Goals as goal

pub returns : goal.returns
returns c = search rules
