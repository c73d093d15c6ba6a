-- The report whose counts are u32 and whose sums are i32.
use Rattle.std.specs.Prelude.{pos, neg_ℤ, get_or}
use Rattle.report.specs.declared.sessions.Totals.{Totals}
use Rattle.report.specs.Keys.{for_each_key}
use Rattle.report.specs.declared.Limits.{Limits}
use Rattle.report.specs.declared.Report.{Report}

-- "Unsigned 32-bit counts, and [..] signed 32-bit totals."
abbrev pub narrow_limits : Limits
narrow_limits = record { count = 4294967295; low = neg_ℤ (pos 2147483648); high = pos 2147483647 }

-- A report's numbers, and the report that has given ones.
abbrev pub numbers : Report → Totals
numbers r = record {
  presses = for_each_key (λ key. get_or r.presses key 0);
  packets = r.packets;
  x = r.x;
  y = r.y;
}

abbrev pub report_of : Totals → Report
report_of t = record {
  presses = for_each_key (λ key. get_or t.presses key 0);
  packets = t.packets;
  x = t.x;
  y = t.y;
}
