-- What it means that every number of a report is in its range.
use Rattle.std.specs.Prelude.{ℕ, ◌≤◌, ◌<◌, get_or, ◌≤ℤ◌}
use Rattle.report.specs.declared.sessions.Totals.{Totals}
use Rattle.report.specs.Keys.{key_count}
use Rattle.report.specs.declared.Limits.{Limits}

pub record Within (l : Limits) (t : Totals) : Type 0 where
  pub presses : (key : ℕ) → key < key_count → get_or t.presses key 0 ≤ l.count
  pub packets : t.packets ≤ l.count
  pub x_low : l.low ≤ℤ t.x
  pub x_high : t.x ≤ℤ l.high
  pub y_low : l.low ≤ℤ t.y
  pub y_high : t.y ≤ℤ l.high
