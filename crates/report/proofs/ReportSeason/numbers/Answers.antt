-- `Report::numbers` meets its contract: each number is the same in 64 bits.
use Rattle.report.proofs.Signed64.{wide_back}
use Rattle.report.proofs.ReportSeason.numbers.Goals as goal

pub returns : goal.returns
returns c =
    let s = c.args.self in
    rw (c.wide_counts.ensures, c.from.ensures, wide_back _ s.x (record { sfits = c.struct_told-1.given.1.1.0.1 }) c.from-2.ensures, wide_back _ s.y (record { sfits = c.struct_told-2-1.given.1.1.1.0.1 }) c.from-3.ensures)
