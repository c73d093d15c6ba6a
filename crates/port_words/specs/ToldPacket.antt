-- The same of the reading of a mouse's packet, whose wheel is signed.
use Rattle.std.specs.Prelude.{ℕ, ◌+◌, ◌*◌, pos}
use Rattle.bits.specs.Bits.{bit, weigh}
use Rattle.exchange.specs.Exchange.{End}
use Rattle.exchange.specs.Answer.{Answer, number_ended}
use Rattle.ps2_packet.specs.declared.MousePacket.{MousePacket}
use Rattle.ps2_packet.specs.declared.SignedPacket.{SignedPacket}
use Rattle.ps2_packet.specs.Packet.{left_button, right_button, middle_button, button4, button5, common, side_button, x_movement, y_movement, signed_wheel}
use Rattle.port_words.specs.declared.PacketWords.{PacketWords}
use Rattle.port_words.specs.Told.{port_lacked, given_or}

-- The buttons that are pressed, a bit each, from bit 0: left, right, middle, fourth, fifth.
abbrev pub buttons_of : MousePacket → ℕ
buttons_of p =
    weigh (bit left_button (common p).byte1) + 2 * weigh (bit right_button (common p).byte1) + 4 *
    weigh (bit middle_button (common p).byte1)
    + 8 * weigh (side_button button4 p) + 16 * weigh (side_button button5 p)

-- A reading writes no pair, so no count of pairs is told.
abbrev pub told_packet : End (Answer SignedPacket) → ℕ → ℕ → PacketWords
told_packet end used pairs =
    record {
      refusal = number_ended end;
      port = port_lacked end;
      used = used;
      buttons = given_or 0 (λ p. buttons_of p.packet) end;
      x = given_or (pos 0) (λ p. x_movement (common p.packet)) end;
      y = given_or (pos 0) (λ p. y_movement (common p.packet)) end;
      wheel = given_or (pos 0) (λ p. signed_wheel p.packet) end;
    }

-- A refusal before anything is read.
abbrev pub refusing_packet : ℕ → PacketWords
refusing_packet n =
    record { refusal = n; port = 0; used = 0; buttons = 0; x = pos 0; y = pos 0; wheel = pos 0 }
