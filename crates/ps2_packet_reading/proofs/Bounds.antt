-- The reads of a packet.
use native.Mathlib.Omega.{arith}
use Rattle.exchange.specs.Answer.{gives}
use Rattle.exchange.specs.Attains.{attains_done, attains_read, Most}
use Rattle.exchange.specs.Bounds.{within_done, within_read}
use Rattle.ps2_bytes.specs.declared.response.MouseId.{MouseId}
use Rattle.ps2_bytes.specs.declared.response.MouseId.TheVariants.{Zero, Three, Four}
use Rattle.ps2_packet.specs.declared.MousePacket.TheVariants as Packet
use Rattle.ps2_packet.specs.Packet.{generic, packet3, packet4, packet_length}
use Rattle.ps2_packet_reading.specs.Reading.{read_mouse_packet}

-- as many as the identity's packet has bytes
pub most_read_mouse_packet : (id : MouseId) → Most (packet_length id) 0 (read_mouse_packet id)
unfolding read_mouse_packet
most_read_mouse_packet Zero =
    record {
      within = within_read (λ _. within_read (λ _. within_read (λ _. within_done)));
      yielded = gives (Packet.Zero (generic 0 0 0));
      attains = attains_read 0 (omega arith) (attains_read 0 (omega arith) (attains_read 0 (omega arith) attains_done));
    }
most_read_mouse_packet Three =
    record {
      within = within_read (λ _. within_read (λ _. within_read (λ _. within_read (λ _. within_done))));
      yielded = gives (Packet.Three (packet3 0 0 0 0));
      attains = attains_read 0 (omega arith) (attains_read 0 (omega arith) (attains_read 0 (omega arith) (attains_read 0 (omega arith) attains_done)));
    }
most_read_mouse_packet Four =
    record {
      within = within_read (λ _. within_read (λ _. within_read (λ _. within_read (λ _. within_done))));
      yielded = gives (Packet.Four (packet4 0 0 0 0));
      attains = attains_read 0 (omega arith) (attains_read 0 (omega arith) (attains_read 0 (omega arith) (attains_read 0 (omega arith) attains_done)));
    }
