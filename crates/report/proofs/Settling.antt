-- A session's end: each number that can be outside refuses, and where none is the new totals are taken.
use mathlib.Core.Path.{◌≡◌}
use mathlib.Core.Bool.{true, false, and-false}
use mathlib.Core.List.{List}
use Prim.Native.Nat.{ℕ}
use lib.Dec.{leb}
use lib.IntN.{ℤ}
use Rattle.report.specs.declared.sessions.Totals.{Totals}
use Rattle.report.specs.declared.Limits.{Limits}
use Rattle.std.specs.Prelude.{Ok, Err}
use Rattle.report.specs.Adding.{at_most, between, in_range, out_of_range, fitting, settled, reported}

module _ (l : Limits) (new : Totals) where
  abbrev Refuses : Type 0
  Refuses = in_range l new ≡ false

  pub presses_refuse : at_most l.count new.presses ≡ false → Refuses
  unfolding in_range
  presses_refuse e = rw e

  pub packets_refuse : leb new.packets l.count ≡ false → Refuses
  unfolding in_range
  packets_refuse e = rw (e, and-false (at_most l.count new.presses))

  pub x_refuses : between l.low l.high new.x ≡ false → Refuses
  unfolding in_range
  x_refuses e = rw (e, and-false (leb new.packets l.count), and-false (at_most l.count new.presses))

  pub y_refuses : between l.low l.high new.y ≡ false → Refuses
  unfolding in_range
  y_refuses e =
      rw (e, and-false (between l.low l.high new.x), and-false (leb new.packets l.count), and-false (at_most l.count new.presses))

  pub all_accept : at_most l.count new.presses ≡ true → leb new.packets l.count ≡ true → between l.low l.high new.x ≡ true → between l.low l.high new.y ≡ true → in_range l new ≡ true
  unfolding in_range
  all_accept p n x y = rw (p, n, x, y)

  pub accepts : {counts : List ℕ} {packets : ℕ} {x y : ℤ} → counts ≡ new.presses → packets ≡ new.packets → x ≡ new.x → y ≡ new.y
      → at_most l.count new.presses ≡ true → leb new.packets l.count ≡ true → between l.low l.high new.x ≡ true → between l.low l.high new.y ≡ true
      → Ok (record { presses = counts; packets = packets; x = x; y = y }) ≡ fitting l new
  accepts e f g h p n x y = rw (e, f, g, h, all_accept p n x y)

  pub refuses : Refuses → Err out_of_range ≡ fitting l new
  refuses e = rw e

-- ---- the ends of a session, at any width

module _ {R : Type 0} (of : Totals → R) (before : R) (l : Limits) (old new : Totals) where
  pub reported_in : in_range l new ≡ true → record { answer = Ok tt; report = of new } ≡ reported of before (settled l old new)
  reported_in e = rw e

  pub reported_outside : in_range l new ≡ false → record { answer = Err out_of_range; report = before } ≡ reported of before (settled l old new)
  reported_outside e = rw e
