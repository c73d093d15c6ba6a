-- The operation that two numbers stand for: which it is, and its argument.
use Rattle.std.specs.Prelude.{Bool, true, false, cond, ℕ, ◌^◌, eqb, ltb, Option, Some, None, get_or}
use Rattle.std.specs.Int.{w64, to_le_bytes}
use Rattle.bits.specs.Table.{decode}
use Rattle.ps2_bytes.specs.Commands.{to_keyboard_commands, to_mouse_commands}
use Rattle.ps2_bytes.specs.Data.{sample_rates, resolutions}
use Rattle.ps2_bytes.specs.Responses.{mouse_ids}
use Rattle.ps2_bytes.specs.declared.command.HostToKeyboardCommand.{HostToKeyboardCommand}
use Rattle.ps2_bytes.specs.declared.command.HostToMouseCommand.{HostToMouseCommand}
use Rattle.ps2_bytes.specs.declared.data.MouseResolution.{MouseResolution}
use Rattle.ps2_bytes.specs.declared.data.MouseSampleRate.{MouseSampleRate}
use Rattle.ps2_bytes.specs.declared.data.ScancodeSet.{ScancodeSet}
use Rattle.ps2_bytes.specs.declared.data.ScancodeSet.TheVariants.{Set1, Set2, Set3}
use Rattle.ps2_bytes.specs.declared.response.MouseId.{MouseId}
use Rattle.ps2_layouts.specs.declared.leds.LEDState.{LEDState}
use Rattle.ps2_init.specs.declared.PS2Controller.{PS2Controller}
use Rattle.preferences.specs.declared.Fields.{Fields}
use Rattle.preferences.specs.declared.Preferences.{Preferences}
use Rattle.preferences.specs.declared.Preferences.TheVariants.{Version1, Version2}
use Rattle.sessions.specs.declared.Operation.{Operation}
use Rattle.sessions.specs.declared.Operation.TheVariants.{InitializeController, InitializeKeyboard, ResetKeyboard, CommandKeyboard, SetLamps, SetScancodeSet, GetScancodeSet, DetectKeyboard, SetRepeat, KeyboardWaits, ReadScancode, ResetMouse, StartPackets, StopPackets, GetIdentity, SetIdentity, CommandMouse, SetSamplingRate, SetResolution, MouseWaits, ReadPacket, ApplyPreferences}
use Rattle.step_words.specs.Places.{onward, below}

-- No argument: 0.
abbrev pub plainly : ℕ → Operation → Option Operation
plainly a o = cond (eqb a 0) (Some o) None

-- The controller's record: 1 where it is initialised, 2 where
-- a keyboard is attached and 4 where a mouse is, added.
abbrev pub controller_of : Bool → Bool → Bool → PS2Controller
controller_of initialized keyboard mouse =
    record { initialized = initialized; keyboard_attached = keyboard; mouse_attached = mouse }

abbrev pub controller_in : ℕ → Option PS2Controller
controller_in a =
    cond (eqb a 0) (Some (controller_of false false false))
    (cond (eqb a 1) (Some (controller_of true false false))
    (cond (eqb a 2) (Some (controller_of false true false))
    (cond (eqb a 3) (Some (controller_of true true false))
    (cond (eqb a 4) (Some (controller_of false false true))
    (cond (eqb a 5) (Some (controller_of true false true))
    (cond (eqb a 6) (Some (controller_of false true true))
    (cond (eqb a 7) (Some (controller_of true true true)) None)))))))

abbrev pub keyboard_command_in : ℕ → Option HostToKeyboardCommand
keyboard_command_in a = decode Some None to_keyboard_commands a

abbrev pub mouse_command_in : ℕ → Option HostToMouseCommand
mouse_command_in a = decode Some None to_mouse_commands a

abbrev pub lamps_in : ℕ → Option LEDState
lamps_in a = cond (ltb a 8) (Some (record { bits = a })) None

abbrev pub set_in : ℕ → Option ScancodeSet
set_in a = cond (eqb a 1) (Some Set1) (cond (eqb a 2) (Some Set2) (cond (eqb a 3) (Some Set3) None))

abbrev pub identity_in : ℕ → Option MouseId
identity_in a = decode Some None mouse_ids a

abbrev pub rate_in : ℕ → Option MouseSampleRate
rate_in a = decode Some None sample_rates a

abbrev pub resolution_in : ℕ → Option MouseResolution
resolution_in a = decode Some None resolutions a

-- Preferences in six bytes, from the lowest: the version, and the fields in their order. Version 1
-- has no sixth, and it is not looked at.
abbrev pub byte_in : ℕ → ℕ → ℕ
byte_in k a = get_or (to_le_bytes w64 a) k 0

abbrev pub fields_in : ℕ → Fields
fields_in a =
    record { set = byte_in 1 a; rate = byte_in 2 a; resolution = byte_in 3 a; lamps = byte_in 4 a }

abbrev pub record_in : ℕ → Option Preferences
record_in a = cond (eqb (byte_in 0 a) 1) (Some (Version1 (fields_in a)))
    (cond (eqb (byte_in 0 a) 2) (Some (Version2 (fields_in a) (byte_in 5 a))) None)

abbrev pub preferences_in : ℕ → Option Preferences
preferences_in a = cond (ltb a (2 ^ 48)) (record_in a) None

-- The operations of the keyboard and of the mouse, by their numbers.
unfoldable pub keyboard_operation_in : ℕ → ℕ → Option Operation
keyboard_operation_in n a =
    cond (eqb n 3) (plainly a ResetKeyboard)
    (cond (eqb n 4) (onward (keyboard_command_in a) (λ c. Some (CommandKeyboard c)))
    (cond (eqb n 5) (onward (lamps_in a) (λ l. Some (SetLamps l)))
    (cond (eqb n 6) (onward (set_in a) (λ s. Some (SetScancodeSet s)))
    (cond (eqb n 7) (plainly a GetScancodeSet)
    (cond (eqb n 8) (plainly a DetectKeyboard)
    (cond (eqb n 9) (onward (below 256 a) (λ b. Some (SetRepeat b)))
    (cond (eqb n 10) (plainly a KeyboardWaits)
    (cond (eqb n 11) (plainly a ReadScancode) None))))))))

unfoldable pub mouse_operation_in : ℕ → ℕ → Option Operation
mouse_operation_in n a =
    cond (eqb n 12) (plainly a ResetMouse)
    (cond (eqb n 13) (plainly a StartPackets)
    (cond (eqb n 14) (plainly a StopPackets)
    (cond (eqb n 15) (plainly a GetIdentity)
    (cond (eqb n 16) (onward (identity_in a) (λ i. Some (SetIdentity i)))
    (cond (eqb n 17) (onward (mouse_command_in a) (λ c. Some (CommandMouse c)))
    (cond (eqb n 18) (onward (rate_in a) (λ r. Some (SetSamplingRate r)))
    (cond (eqb n 19) (onward (resolution_in a) (λ r. Some (SetResolution r)))
    (cond (eqb n 20) (plainly a MouseWaits)
    (cond (eqb n 21) (onward (identity_in a) (λ i. Some (ReadPacket i))) None)))))))))

unfoldable pub operation_in : ℕ → ℕ → Option Operation
operation_in n a =
    cond (eqb n 1) (onward (controller_in a) (λ c. Some (InitializeController c)))
    (cond (eqb n 2) (plainly a InitializeKeyboard)
    (cond (eqb n 22) (onward (preferences_in a) (λ p. Some (ApplyPreferences p)))
    (cond (ltb n 12) (keyboard_operation_in n a) (mouse_operation_in n a))))
