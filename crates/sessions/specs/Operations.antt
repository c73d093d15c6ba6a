-- What can be run a byte at a time: each operation's talk, and the numbers that it hands back.
use Rattle.std.specs.Prelude.{ℕ, Result, Ok, Err}
use Rattle.std.specs.Int.{w64, cast_unsigned}
use Rattle.bits.specs.Bits.{weigh}
use Rattle.exchange.specs.Exchange.{yields}
use Rattle.exchange.specs.Answer.{gives}
use Rattle.ps2_bytes.specs.Data.{scancode_set_byte}
use Rattle.ps2_bytes.specs.Responses.{mouse_id_byte}
use Rattle.ps2_answers.specs.Refusals.{Success, number_of}
use Rattle.ps2_answers.specs.declared.Failure.{Failure}
use Rattle.ps2_ports.specs.declared.DevicePort.TheVariants.{Port1}
use Rattle.ps2_packet.specs.declared.SignedPacket.{SignedPacket}
use Rattle.port_words.specs.declared.PacketWords.{PacketWords}
use Rattle.port_words.specs.Told.{no_value, byte_value, type_number}
use Rattle.port_words.specs.ToldPacket.{told_packet}
use Rattle.talks.specs.declared.mouse.IdentityLeft.{IdentityLeft}
use Rattle.talks.specs.declared.controller.ControllerLeft.{ControllerLeft}
use Rattle.talks.specs.Talk.{Talk, tells, next}
use Rattle.talks.specs.Commands.{read_data}
use Rattle.talks.specs.Keyboard as keyboard
use Rattle.talks.specs.Mouse as mouse
use Rattle.talks.specs.Controller.{initialize}
use Rattle.talks.specs.Application.{apply_preferences}
use Rattle.sessions.specs.declared.Operation.{Operation}
use Rattle.sessions.specs.declared.Operation.TheVariants.{InitializeController, InitializeKeyboard, ResetKeyboard, CommandKeyboard, SetLamps, SetScancodeSet, GetScancodeSet, DetectKeyboard, SetRepeat, KeyboardWaits, ReadScancode, ResetMouse, StartPackets, StopPackets, GetIdentity, SetIdentity, CommandMouse, SetSamplingRate, SetResolution, MouseWaits, ReadPacket, ApplyPreferences}
use Rattle.sessions.specs.declared.Ending.{Ending}

-- The number of a refusal, 0 where there is none.
abbrev pub refused_as : Result Success Failure → ℕ
refused_as (Ok s) = 0
refused_as (Err f) = number_of f

-- What is handed back: a refusal alone; one number; the
-- identity that is left; the controller's record that is left.
abbrev pub refusal_told : Failure → Ending
refusal_told f = record { refusal = number_of f; first = 0; second = 0; third = 0; fourth = 0 }

abbrev pub one_number : ℕ → Ending
one_number n = record { refusal = 0; first = n; second = 0; third = 0; fourth = 0 }

abbrev pub value_told : {A : Type 0} → (A → ℕ) → A → Ending
value_told worth a = one_number (worth a)

abbrev pub identity_told : IdentityLeft → Ending
identity_told l = record {
  refusal = refused_as l.answer;
  first = mouse_id_byte l.id;
  second = 0;
  third = 0;
  fourth = 0;
}

abbrev pub controller_told : ControllerLeft → Ending
controller_told l =
    record {
      refusal = refused_as l.answer;
      first = weigh l.controller.initialized;
      second = weigh l.controller.keyboard_attached;
      third = weigh l.controller.mouse_attached;
      fourth = 0;
    }

-- A packet: the numbers of the one call's answer, of which a signed one is its 64 bits.
abbrev pub words_told : PacketWords → Ending
words_told w =
    record {
      refusal = w.refusal;
      first = w.buttons;
      second = cast_unsigned w64 w.x;
      third = cast_unsigned w64 w.y;
      fourth = cast_unsigned w64 w.wheel;
    }

abbrev pub packet_told : SignedPacket → Ending
packet_told p = words_told (told_packet (yields (gives p)) 0 0)

-- An operation, and the numbers of what it gives.
abbrev pub telling_number : {A : Type 0} → (A → ℕ) → Talk A → Talk Ending
telling_number worth t = next t (λ a. tells (Ok (value_told worth a)))

unfoldable pub talk_of : Operation → Talk Ending
talk_of (InitializeController passed) =
    next (initialize passed) (λ l. tells (Ok (controller_told l)))
talk_of InitializeKeyboard = telling_number no_value keyboard.keyboard_init
talk_of ResetKeyboard = telling_number no_value keyboard.reset_keyboard
talk_of (CommandKeyboard c) = telling_number no_value (keyboard.keyboard_command c)
talk_of (SetLamps leds) = telling_number no_value (keyboard.set_port_led Port1 leds)
talk_of (SetScancodeSet set) = telling_number no_value (keyboard.set_scancode_set set)
talk_of GetScancodeSet = telling_number scancode_set_byte keyboard.get_scancode_set
talk_of DetectKeyboard = telling_number type_number keyboard.keyboard_detect
talk_of (SetRepeat byte) = telling_number no_value (keyboard.set_keyboard_repeat byte)
talk_of KeyboardWaits = telling_number weigh keyboard.keyboard_waits
talk_of ReadScancode = telling_number byte_value read_data
talk_of ResetMouse = telling_number no_value mouse.reset_mouse
talk_of StartPackets = telling_number no_value mouse.enable_packet_streaming
talk_of StopPackets = telling_number no_value mouse.disable_packet_streaming
talk_of GetIdentity = telling_number mouse_id_byte mouse.mouse_id
talk_of (SetIdentity old) = next (mouse.set_mouse_id old) (λ l. tells (Ok (identity_told l)))
talk_of (CommandMouse c) = telling_number no_value (mouse.mouse_command c)
talk_of (SetSamplingRate rate) = telling_number no_value (mouse.set_sampling_rate rate)
talk_of (SetResolution resolution) = telling_number no_value (mouse.set_resolution resolution)
talk_of MouseWaits = telling_number weigh mouse.mouse_waits
talk_of (ReadPacket id) = next (mouse.read_packet id) (λ p. tells (Ok (packet_told p)))
talk_of (ApplyPreferences p) = telling_number no_value (apply_preferences p)
