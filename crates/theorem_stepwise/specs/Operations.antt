-- What can be run a byte at a time, by the definitions of the one call: each operation's tree, and
-- the numbers that it hands back.
use Rattle.std.specs.Prelude.{ℕ}
use Rattle.bits.specs.Bits.{weigh}
use Rattle.exchange.specs.Exchange.{p60, Exchange, done, yields, bind}
use Rattle.exchange.specs.Answer.{Answer, gives, refuses, number_answered}
use Rattle.exchange.specs.Left.{Left}
use Rattle.ps2_bytes.specs.Data.{scancode_set_byte}
use Rattle.ps2_bytes.specs.Responses.{mouse_id_byte}
use Rattle.ps2_answers.specs.Refusals.{Success}
use Rattle.ps2_ports.specs.Ports.{read_port}
use Rattle.ps2_keyboard.specs.Keyboard.{keyboard_command, reset_keyboard, set_keyboard_led, get_scancode_set, set_scancode_set, keyboard_output_buffer_full}
use Rattle.ps2_detect.specs.Detection.{keyboard_detect}
use Rattle.ps2_mouse.specs.declared.PS2Mouse.{PS2Mouse}
use Rattle.ps2_mouse.specs.Mouse.{mouse_command, reset_mouse, set_sampling_rate, set_resolution, disable_packet_streaming, enable_packet_streaming, mouse_id, mouse_output_buffer_full}
use Rattle.ps2_mouse_identity.specs.Identity.{set_mouse_id}
use Rattle.ps2_packet.specs.declared.SignedPacket.{SignedPacket}
use Rattle.ps2_packet_reading.specs.Reading.{read_signed_packet}
use Rattle.ps2_init.specs.declared.PS2Controller.{PS2Controller}
use Rattle.ps2_init.specs.Init.{initialize}
use Rattle.preferences_application.specs.Application.{set_keyboard_repeat, apply_preferences}
use Rattle.keyboard_init.specs.KeyboardInit.{keyboard_init}
use Rattle.port_words.specs.Told.{no_value, byte_value, type_number}
use Rattle.port_words.specs.ToldPacket.{told_packet}
use Rattle.sessions.specs.declared.Operation.{Operation}
use Rattle.sessions.specs.declared.Operation.TheVariants.{InitializeController, InitializeKeyboard, ResetKeyboard, CommandKeyboard, SetLamps, SetScancodeSet, GetScancodeSet, DetectKeyboard, SetRepeat, KeyboardWaits, ReadScancode, ResetMouse, StartPackets, StopPackets, GetIdentity, SetIdentity, CommandMouse, SetSamplingRate, SetResolution, MouseWaits, ReadPacket, ApplyPreferences}
use Rattle.sessions.specs.declared.Ending.{Ending}
use Rattle.sessions.specs.Operations.{words_told}

-- The numbers of an answer: the refusal's, or 0 and the number of what is given.
abbrev pub answer_numbers : {A : Type 0} → (A → ℕ) → Answer A → Ending
answer_numbers worth (gives a) =
    record { refusal = 0; first = worth a; second = 0; third = 0; fourth = 0 }
answer_numbers worth (refuses n) = record { refusal = n; first = 0; second = 0; third = 0; fourth = 0 }

abbrev pub numbers : {A : Type 0} → (A → ℕ) → Exchange (Answer A) → Exchange Ending
numbers worth t = bind t (λ a. done (answer_numbers worth a))

-- Those of an answer with a mouse's record, and with the controller's, as they are left.
abbrev pub mouse_numbers : Left PS2Mouse Success → Ending
mouse_numbers l = record {
  refusal = number_answered l.answer;
  first = mouse_id_byte l.now.id;
  second = 0;
  third = 0;
  fourth = 0;
}

abbrev pub controller_numbers : Left PS2Controller Success → Ending
controller_numbers l =
    record {
      refusal = number_answered l.answer;
      first = weigh l.now.initialized;
      second = weigh l.now.keyboard_attached;
      third = weigh l.now.mouse_attached;
      fourth = 0;
    }

-- Those of a packet: what the one call tells, as numbers.
abbrev pub packet_numbers : Answer SignedPacket → Ending
packet_numbers a = words_told (told_packet (yields a) 0 0)

-- Each operation, as its one call is defined.
unfoldable pub operation : Operation → Exchange Ending
operation (InitializeController passed) =
    bind (initialize passed) (λ l. done (controller_numbers l))
operation InitializeKeyboard = numbers no_value keyboard_init
operation ResetKeyboard = numbers no_value reset_keyboard
operation (CommandKeyboard c) = numbers no_value (keyboard_command c)
operation (SetLamps leds) = numbers no_value (set_keyboard_led leds)
operation (SetScancodeSet set) = numbers no_value (set_scancode_set set)
operation GetScancodeSet = numbers scancode_set_byte get_scancode_set
operation DetectKeyboard = numbers type_number keyboard_detect
operation (SetRepeat byte) = numbers no_value (set_keyboard_repeat byte)
operation KeyboardWaits = numbers weigh keyboard_output_buffer_full
operation ReadScancode = numbers byte_value (read_port p60)
operation ResetMouse = numbers no_value reset_mouse
operation StartPackets = numbers no_value enable_packet_streaming
operation StopPackets = numbers no_value disable_packet_streaming
operation GetIdentity = numbers mouse_id_byte mouse_id
operation (SetIdentity old) =
    bind (set_mouse_id (record { id = old })) (λ l. done (mouse_numbers l))
operation (CommandMouse c) = numbers no_value (mouse_command c)
operation (SetSamplingRate rate) = numbers no_value (set_sampling_rate rate)
operation (SetResolution resolution) = numbers no_value (set_resolution resolution)
operation MouseWaits = numbers weigh mouse_output_buffer_full
operation (ReadPacket id) = bind (read_signed_packet id) (λ a. done (packet_numbers a))
operation (ApplyPreferences p) = numbers no_value (apply_preferences p)
