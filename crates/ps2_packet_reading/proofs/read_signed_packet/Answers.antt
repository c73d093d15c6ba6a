-- `read_signed_packet` meets its contract: what `read_packet` gives is given with its wheel signed.
use Rattle.exchange.specs.Exchange.{Exchange, done}
use Rattle.exchange.specs.Answer.{Answer, gives}
use Rattle.ps2_packet.specs.declared.MousePacket.{MousePacket}
use Rattle.ps2_packet.specs.declared.SignedPacket.{SignedPacket}
use Rattle.ps2_packet.specs.Packet.{signed_packet}
use Rattle.ps2_answers.proofs.Then.{exit}
use Rattle.ps2_answers.proofs.Reading.{read_first, read_first_stops, read_here}
use Rattle.ps2_packet_reading.specs.Reading.{read_mouse_packet, read_signed_packet}
use Rattle.ps2_packet_reading.proofs.read_signed_packet.Goals as goal

abbrev signed : MousePacket → Exchange (Answer SignedPacket)
signed packet = done (gives (signed_packet packet))

pub returns-in_err-read : goal.returns-in_err-read
unfolding read_signed_packet
returns-in_err-read c = rw (exit _ _ c.from_residual.ensures.1) (read_first_stops (read_mouse_packet _) signed _ _ c.in_err-read.ensures)

pub returns : goal.returns
unfolding read_signed_packet
returns c = rw c.with.ensures (read_here (read_first (read_mouse_packet _) signed _ _ c.in_ok-read.ensures))
