-- A session, and what it brings: numbers without a width.
use Rattle.std.specs.Prelude.{cond, List, ℕ, ltb, pos, length, Option, Some, None}
use Rattle.ps2_bytes.specs.declared.response.MouseId.{MouseId}
use Rattle.ps2_packet.specs.Packet.{x_movement, y_movement}
use Rattle.report.specs.declared.sessions.Totals.{Totals}
use Rattle.report.specs.Keys.{for_each_key}
use Rattle.report.specs.Events.{presses}
use Rattle.ps2_packet.specs.Packets.{packets_of}
use Rattle.report.specs.Packets.{sum_of}

-- "A session is its events and its mouse bytes in packets of one identity."
pub record Session : Type 0 where
  pub id : MouseId
  pub events : List ℕ
  pub mouse : List ℕ

-- "Presses for each keycode and packets [..], and sums of x and y."
abbrev pub totals_of : Session → Totals
totals_of s =
    record {
      presses = for_each_key (λ key. presses key s.events);
      packets = length (packets_of s.id s.mouse);
      x = sum_of x_movement (packets_of s.id s.mouse);
      y = sum_of y_movement (packets_of s.id s.mouse);
    }

-- Nothing pressed and nothing moved.
abbrev pub no_totals : Totals
no_totals = record { presses = for_each_key (λ key. 0); packets = 0; x = pos 0; y = pos 0 }

-- 2 to the 54: sums over fewer bytes fit 64 bits, since a packet moves by at most 256.
abbrev pub tally_bytes : ℕ
tally_bytes = 18014398509481984

-- What a session is tallied to. One of so many mouse bytes is
-- not summed; it has more packets than a report can count.
abbrev pub tallied : Session → Option Totals
tallied s = cond (ltb (length s.mouse) tally_bytes) (Some (totals_of s)) None
