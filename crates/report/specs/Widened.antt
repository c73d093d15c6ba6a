-- "Every old report must convert with no number changed."
use Rattle.std.specs.Prelude.{◌≡◌, List, ℕ, ◌<◌, get_or}
use Rattle.report.specs.Keys.{key_count}
use Rattle.report.specs.Totals.{Session}
use Rattle.report.specs.declared.Report.{Report}
use Rattle.report.specs.Runs.{narrow, after, accepted}
use Rattle.report.specs.declared.long.LongReport.{LongReport}
use Rattle.report.specs.Long.{wide, widened}

-- That two reports have the same numbers.
pub record SameNumbers (r : Report) (w : LongReport) : Type 0 where
  pub presses : (key : ℕ) → key < key_count → get_or w.totals.presses key 0 ≡ get_or r.presses key 0
  pub packets : w.totals.packets ≡ r.packets
  pub x : w.totals.x ≡ r.x
  pub y : w.totals.y ≡ r.y

-- That a run goes on after conversion as before it: what the old report accepts of these sessions,
-- the converted one accepts, and is left as the old one, converted.
pub record SameRun (r : Report) (ts : List Session) : Type 0 where
  pub sessions : accepted wide (widened r) (accepted narrow r ts) ≡ accepted narrow r ts
  pub report : after wide (widened r) (accepted narrow r ts) ≡ widened (after narrow r ts)
