-- The two packet reads differ in the wheel of identity 4 alone: for every identity, script and log.
use Prim.Native.Nat.{ℕ}
use mathlib.Core.List.{List}
use Rattle.exchange.specs.Exchange.{play}
use Rattle.ps2_bytes.specs.declared.response.MouseId.{MouseId}
use Rattle.ps2_packet.specs.Packet.{signed_packet}
use Rattle.ps2_packet.specs.SignedWheel.{DiffersInWheel}
use Rattle.ps2_packet.proofs.SignedWheel.{differs_in_wheel}
use Rattle.ps2_packet_reading.specs.Alike.{Alike}
use Rattle.ps2_packet_reading.specs.Reading.{read_mouse_packet, read_signed_packet}
use Rattle.ps2_packet_reading.proofs.Alike.{given_alike}

pub signed_wheel_alone : (id : MouseId) (script log : List ℕ) → Alike DiffersInWheel (play (read_mouse_packet id) script log) (play (read_signed_packet id) script log)
unfolding read_signed_packet
signed_wheel_alone id script log = given_alike DiffersInWheel signed_packet differs_in_wheel (read_mouse_packet id) script log
