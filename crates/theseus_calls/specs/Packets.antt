-- Packets as the Rust tells them.
use Rattle.std.specs.Prelude.{ℕ, List, pos, cond}
use Rattle.std.proofs.Math.Option.{Option}
use Rattle.bits.specs.Bits.{bit, weigh}
use Rattle.exchange.specs.Exchange.{End, told_end}
use Rattle.exchange.specs.Answer.{Answer, gives}
use Rattle.exchange.specs.Keeping.{Kept}
use Rattle.argument_words.specs.Arguments.{invalid_argument}
use Rattle.ps2_bytes.specs.declared.response.MouseId.{MouseId}
use Rattle.ps2_kept.specs.declared.KeptBytes.{KeptBytes}
use Rattle.ps2_kept.specs.Kept.{nothing_kept}
use Rattle.ps2_kept.specs.Added.{keeping_onto}
use Rattle.ps2_packet.specs.declared.MousePacket.{MousePacket}
use Rattle.ps2_packet.specs.Packet.{always_one, common, x_movement, y_movement, wheel}
use Rattle.ps2_packet_reading.specs.Reading.{read_mouse_packet}
use Rattle.port_words.specs.Tells.{TellsAt}
use Rattle.port_words.specs.Told.{given_or}
use Rattle.port_words.specs.ToldPacket.{buttons_of}
use Rattle.theseus_ps2.specs.declared.recording.Recording.{Recording}
use Rattle.theseus_calls.specs.declared.identity.PacketFields.{PacketFields}
use Rattle.theseus_calls.specs.declared.identity.PacketNotedWords.{PacketNotedWords}
use Rattle.theseus_calls.specs.Recorded.{refusing_noted, told_recorded, told_noted}

-- The buttons, the bit that is always one, and the movements,
-- of which the wheel is the Rust's: unsigned at identity 4.
abbrev pub packet_numbers : MousePacket → PacketFields
packet_numbers p =
    record {
      buttons = buttons_of p;
      always_one = weigh (bit always_one (common p).byte1);
      x = x_movement (common p);
      y = y_movement (common p);
      wheel = wheel p;
    }

abbrev pub no_packet : PacketFields
no_packet = record { buttons = 0; always_one = 0; x = pos 0; y = pos 0; wheel = pos 0 }

-- A packet is not told by one number.
abbrev pub packet_value : MousePacket → ℕ
packet_value p = 0

abbrev pub packet_recorded : MousePacket → Recording → PacketNotedWords
packet_recorded packet left = record {
  run = told_recorded packet_value (gives packet) left;
  packet = cond left.short no_packet (packet_numbers packet);
}

abbrev pub told_packet_noted : End (Kept KeptBytes (Answer MousePacket)) → ℕ → ℕ → PacketNotedWords
told_packet_noted end used pairs =
    record {
      run = told_noted packet_value end used pairs;
      packet = given_or no_packet packet_numbers (told_end (λ k. k.value) end);
    }

abbrev pub refusing_packet_noted : ℕ → PacketNotedWords
refusing_packet_noted n = record { run = refusing_noted n; packet = no_packet }

abbrev pub TellsPacketAt : Option MouseId → List ℕ → List ℕ → PacketNotedWords → List ℕ → Type 0
TellsPacketAt argument script log answer log' =
    TellsAt (refusing_packet_noted invalid_argument) told_packet_noted
    (λ id. keeping_onto nothing_kept (read_mouse_packet id)) argument script log answer log'
