-- A session of too many mouse bytes to be summed has more packets than a report counts.
use mathlib.Core.Path.{◌≡◌, refl}
use mathlib.Core.Bool.{Bool, true, false, cond, and-false}
use Prim.Native.Nat.{◌+◌, ◌<◌}
use native.Mathlib.Omega.{arith}
use lib.Dec.{leb, ltb}
use lib.ListN.{length}
use borrow.Author.Tests.{lt-leb, ltb-false}
use Rattle.report.specs.declared.sessions.Totals.{Totals}
use Rattle.std.specs.Prelude.{Some, None}
use Rattle.ps2_packet.specs.Packets.{packets_of}
use Rattle.report.specs.Totals.{Session, totals_of, tallied, tally_bytes}
use Rattle.report.proofs.Packets.{too_long_many}
use Rattle.report.specs.declared.Limits.{Limits}
use Rattle.report.specs.Adding.{plus, at_most, in_range}

by_length : (b : Bool) (s : Totals) {t : Totals} → cond b (Some s) None ≡ Some t → t ≡ s
by_length true s e = cc
by_length false s e = absurd (cc)

by_length_not : (b : Bool) (s : Totals) → cond b (Some s) None ≡ None → b ≡ false
by_length_not true s e = absurd (cc)
by_length_not false s e = refl

module _ (s : Session) where
  pub too_long_outside : (l : Limits) (old : Totals) → l.count < 4503599627370495 → tallied s ≡ None → in_range l (plus old (totals_of s)) ≡ false
  unfolding in_range
  too_long_outside l old h e =
      let n = too_long_many s.id s.mouse (ltb-false _ _ (by_length_not (ltb (length s.mouse) tally_bytes) (totals_of s) e)) in
      let p : leb (old.packets + length (packets_of s.id s.mouse)) l.count ≡ false = lt-leb (old.packets + length (packets_of s.id s.mouse)) l.count (omega arith) in
      rw (p, and-false (at_most l.count (plus old (totals_of s)).presses))
