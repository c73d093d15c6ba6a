-- The report whose counts are u64 and whose sums are i64.
use Rattle.std.specs.Prelude.{pos, neg_ℤ}
use Rattle.report.specs.declared.sessions.Totals.{Totals}
use Rattle.report.specs.declared.Limits.{Limits}
use Rattle.report.specs.declared.Report.{Report}
use Rattle.report.specs.Narrow.{numbers}
use Rattle.report.specs.Runs.{Width}
use Rattle.report.specs.declared.long.LongReport.{LongReport}

-- "32 is now given exactly when at a session's end any count would be above 281,474,976,710,656 or
-- a sum further than 72,057,594,037,927,936 from 0."
abbrev pub long_limits : Limits
long_limits = record {
  count = 281474976710656;
  low = neg_ℤ (pos 72057594037927936);
  high = pos 72057594037927936;
}

-- A report's numbers, and the report that has given ones.
abbrev pub long_numbers : LongReport → Totals
long_numbers r = r.totals

abbrev pub long_of : Totals → LongReport
long_of t = record { totals = t }

-- "Store them and all counts in 64 bits."
abbrev pub wide : Width LongReport
wide = record { limits = long_limits; told = long_numbers; having = long_of }

-- "Every old report must convert": a report of 32 bits as one of 64.
abbrev pub widened : Report → LongReport
widened r = long_of (numbers r)
