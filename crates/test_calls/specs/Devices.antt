-- Single data bytes to the devices, and a packet with the Rust's wheel, by numbers.
use Rattle.std.specs.Prelude.{ℕ, pos}
use Rattle.bits.specs.Bits.{bit, weigh}
use Rattle.exchange.specs.Exchange.{Exchange, End}
use Rattle.exchange.specs.Answer.{Answer, number_ended}
use Rattle.exchange.specs.Keeping.{Kept}
use Rattle.ps2_layouts.specs.declared.leds.LEDState.{LEDState}
use Rattle.ps2_bytes.specs.declared.data.MouseResolution.{MouseResolution}
use Rattle.ps2_bytes.specs.declared.data.MouseSampleRate.{MouseSampleRate}
use Rattle.ps2_bytes.specs.declared.data.ScancodeSet.{ScancodeSet}
use Rattle.ps2_bytes.specs.declared.writable.HostToKeyboardCommandOrData.{HostToKeyboardCommandOrData}
use Rattle.ps2_bytes.specs.declared.writable.HostToMouseCommandOrData.{HostToMouseCommandOrData}
use Rattle.ps2_answers.specs.Refusals.{Success}
use Rattle.ps2_kept.specs.declared.KeptBytes.{KeptBytes}
use Rattle.ps2_kept.specs.Kept.{keeping_thrown}
use Rattle.ps2_keyboard.specs.Keyboard.{command_to_keyboard}
use Rattle.ps2_mouse.specs.Mouse.{command_to_mouse}
use Rattle.ps2_packet.specs.declared.MousePacket.{MousePacket}
use Rattle.ps2_packet.specs.Packet.{always_one, common, x_movement, y_movement, wheel}
use Rattle.port_words.specs.declared.PacketWords.{PacketWords}
use Rattle.port_words.specs.Told.{port_lacked, given_or}
use Rattle.port_words.specs.ToldPacket.{buttons_of, refusing_packet}
use Rattle.test_calls.specs.declared.devices.RustPacketWords.{RustPacketWords}

-- A data byte, sent as a command is, which hands back the bytes that it threw away.
abbrev pub commanding_set : ScancodeSet → Exchange (Kept KeptBytes (Answer Success))
commanding_set set =
    keeping_thrown (command_to_keyboard (HostToKeyboardCommandOrData.ScancodeSet set))

abbrev pub commanding_lamps : LEDState → Exchange (Kept KeptBytes (Answer Success))
commanding_lamps leds =
    keeping_thrown (command_to_keyboard (HostToKeyboardCommandOrData.LEDState leds))

abbrev pub commanding_rate : MouseSampleRate → Exchange (Kept KeptBytes (Answer Success))
commanding_rate rate = keeping_thrown (command_to_mouse (HostToMouseCommandOrData.SampleRate rate))

abbrev pub commanding_resolution : MouseResolution → Exchange (Kept KeptBytes (Answer Success))
commanding_resolution resolution =
    keeping_thrown (command_to_mouse (HostToMouseCommandOrData.MouseResolution resolution))

-- A packet as the library tells it, but for the wheel, which is the Rust's.
abbrev pub told_unsigned : End (Answer MousePacket) → ℕ → ℕ → PacketWords
told_unsigned end used pairs =
    record {
      refusal = number_ended end;
      port = port_lacked end;
      used = used;
      buttons = given_or 0 buttons_of end;
      x = given_or (pos 0) (λ p. x_movement (common p)) end;
      y = given_or (pos 0) (λ p. y_movement (common p)) end;
      wheel = given_or (pos 0) wheel end;
    }

-- The same, with the bit that is always one.
abbrev pub told_read : End (Answer MousePacket) → ℕ → ℕ → RustPacketWords
told_read end used pairs = record {
  packet = told_unsigned end used pairs;
  always_one = given_or 0 (λ p. weigh (bit always_one (common p).byte1)) end;
}

-- A refusal before anything is read.
abbrev pub refusing_read : ℕ → RustPacketWords
refusing_read n = record { packet = refusing_packet n; always_one = 0 }
