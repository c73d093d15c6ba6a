-- `LongReport::numbers` meets its contract.
use Rattle.std.proofs.Common.{rules}
use Rattle.report.proofs.long.LongReportSeason.numbers.Goals as goal

pub returns : goal.returns
returns c = search rules
