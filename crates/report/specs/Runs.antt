-- Runs of `Season::add`: sessions added to a report one by
-- one, at any width, those that are refused among them.
use Rattle.std.specs.Prelude.{◌≡◌, true, List, [], ◌∷◌, Ok, Err}
use Rattle.report.specs.declared.sessions.Totals.{Totals}
use Rattle.report.specs.Totals.{Session}
use Rattle.report.specs.declared.Limits.{Limits}
use Rattle.report.specs.declared.Report.{Report}
use Rattle.report.specs.Adding.{Answer, plus, in_range, added, Reported, reported}
use Rattle.report.specs.Narrow.{narrow_limits, numbers, report_of}

-- A report's width: what its numbers may be, which they are, and the report that has given ones.
-- They are the three that `Season` asks of a type.
pub record Width (R : Type 0) : Type 0 where
  pub limits : Limits
  pub told : R → Totals
  pub having : Totals → R

-- "Unsigned 32-bit counts, and [..] signed 32-bit totals."
abbrev pub narrow : Width Report
narrow = record { limits = narrow_limits; told = numbers; having = report_of }

-- What is stored is read back: a report that a session left has just the numbers that it was given.
pub record ReadsBack {R : Type 0} (w : Width R) : Type 0 where
  pub read_back : (old more : Totals) → in_range w.limits (plus old more) ≡ true
      → w.told (w.having (plus old more)) ≡ plus old more

-- What `Season::add` answers, and the report after it.
abbrev pub add : {R : Type 0} → Width R → R → Session → Reported R
add w r s = reported w.having r (added w.limits (w.told r) s)

-- "Adding sessions one by one": the report after the last.
unfoldable pub after : {R : Type 0} → Width R → R → List Session → R
after w r [] = r
after w r (s ∷ more) = after w (add w r s).report more

-- Those of them that were accepted, in their order; 32 was answered to each of the others.
abbrev pub accepted_before : Answer → Session → List Session → List Session
accepted_before (Ok u) s more = s ∷ more
accepted_before (Err e) s more = more

unfoldable pub accepted : {R : Type 0} → Width R → R → List Session → List Session
accepted w r [] = []
accepted w r (s ∷ more) = accepted_before (add w r s).answer s (accepted w (add w r s).report more)
