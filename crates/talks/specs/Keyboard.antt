-- The keyboard's operations as talks.
use Rattle.std.specs.Prelude.{Bool, true, false, ℕ, eqb, Result, Ok, Err}
use Rattle.bits.specs.Bits.{bit}
use Rattle.bits.specs.Table.{decode}
use Rattle.ps2_bytes.specs.Data.{scancode_sets}
use Rattle.ps2_bytes.specs.declared.command.HostToKeyboardCommand.{HostToKeyboardCommand}
use Rattle.ps2_bytes.specs.declared.command.HostToKeyboardCommand.TheVariants as Command
use Rattle.ps2_bytes.specs.declared.data.ScancodeSet.{ScancodeSet}
use Rattle.ps2_bytes.specs.declared.data.ScancodeSet.TheVariants as Set
use Rattle.ps2_bytes.specs.declared.response.KeyboardType.{KeyboardType}
use Rattle.ps2_bytes.specs.declared.response.KeyboardType.TheVariants.{AncientATKeyboard}
use Rattle.ps2_bytes.specs.declared.writable.HostToDevice.TheVariants.{Keyboard}
use Rattle.ps2_bytes.specs.declared.writable.HostToKeyboardCommandOrData.{HostToKeyboardCommandOrData}
use Rattle.ps2_bytes.specs.declared.writable.HostToKeyboardCommandOrData.TheVariants as Byte
use Rattle.ps2_layouts.specs.declared.leds.LEDState.{LEDState}
use Rattle.ps2_layouts.specs.Status.{output_buffer_full}
use Rattle.ps2_ports.specs.declared.DevicePort.{DevicePort}
use Rattle.ps2_ports.specs.declared.DevicePort.TheVariants.{Port1}
use Rattle.ps2_answers.specs.Refusals.{Success, success}
use Rattle.ps2_answers.specs.declared.Failure.{Failure}
use Rattle.ps2_answers.specs.declared.Failure.TheVariants.{NoSetOrIdentity, UnknownKeyboard, LedsNotSet, KeyboardNotDetected}
use Rattle.ps2_detect.specs.Detection.{second_bytes}
use Rattle.questions.specs.Asked.{further_polls}
use Rattle.questions.specs.declared.Sought.TheVariants as Sought
use Rattle.talks.specs.declared.Stop.{Stop}
use Rattle.talks.specs.Talk.{Talk, tells, next, failing_as, trying}
use Rattle.talks.specs.Heard.{said}
use Rattle.talks.specs.Commands.{seek, read_status, command, command_pair, self_test}

-- One of its commands.
abbrev pub keyboard_command : HostToKeyboardCommand → Talk Success
keyboard_command c = command (Keyboard (Byte.KeyboardCommand c))

-- A command of the keyboard of a port, and its byte.
abbrev pub keyboard_pair : DevicePort → HostToKeyboardCommand → HostToKeyboardCommandOrData
    → Talk Success
keyboard_pair port c byte = command_pair port (Keyboard (Byte.KeyboardCommand c)) (Keyboard byte)

-- "Reset sends FF by the command rule, then reads without status until a further AA."
unfoldable pub reset_keyboard : Talk Success
reset_keyboard = next (keyboard_command Command.ResetAndStartSelfTest) (λ _. self_test 262139)

-- "the lamp exchange (ED, then scroll 1, number 2, caps 4
-- added)". "Did the lamp exchange succeed? 14"
unfoldable pub set_port_led : DevicePort → LEDState → Talk Success
set_port_led port leds =
    failing_as LedsNotSet (keyboard_pair port Command.SetLEDStatus (Byte.LEDState leds))

-- F0 and its byte: 00 asks for the set, 1 to 3 set it.
unfoldable pub command_scancode_set : ScancodeSet → Talk Success
command_scancode_set set = keyboard_pair Port1 Command.ScancodeSet (Byte.ScancodeSet set)

-- "F0, 00, polls for a byte 0 to 3". "Did the scancode set
-- (0 to 3) .. come within 65,535 polls? 11"
abbrev pub set_given : ℕ → Result ScancodeSet Failure
set_given b = decode Ok (Err NoSetOrIdentity) scancode_sets b

unfoldable pub get_scancode_set : Talk ScancodeSet
get_scancode_set = next (command_scancode_set Set.Get)
    (λ _. next (seek Sought.ScancodeSet further_polls NoSetOrIdentity) (λ b. tells (set_given b)))

-- "F0, the set, F0, 00, polls for a byte 0 to 3; a different set still succeeds."
unfoldable pub set_scancode_set : ScancodeSet → Talk Success
set_scancode_set set =
    next (command_scancode_set set) (λ _. next get_scancode_set (λ _. tells (Ok success)))

-- F3 and the byte.
unfoldable pub set_keyboard_repeat : ℕ → Talk Success
set_keyboard_repeat byte =
    keyboard_pair Port1 Command.SetRepeatRateAndDelay (Byte.RepeatRateAndDelay byte)

-- Whether there is a byte to read: bit 0 of the status.
unfoldable pub keyboard_waits : Talk Bool
keyboard_waits = next read_status (λ status. tells (Ok (bit output_buffer_full status)))

-- ---- detection

-- "41 or C1 translated, 83 plain"
abbrev pub second_given : ℕ → Result KeyboardType Failure
second_given b = decode Ok (Err UnknownKeyboard) second_bytes b

unfoldable pub inner_search : Talk KeyboardType
inner_search =
    next (seek Sought.SecondOfIdentity further_polls UnknownKeyboard) (λ b. tells (second_given b))

-- 00 is the ancient type; AB starts the inner search.
abbrev pub type_after : Bool → Talk KeyboardType
type_after true = tells (Ok AncientATKeyboard)
type_after false = inner_search

unfoldable pub type_search : Talk KeyboardType
type_search =
    next (seek Sought.FirstOfIdentity further_polls UnknownKeyboard) (λ b. type_after (eqb b 0x00))

-- "F5, F2, up to 65,535 polls .. Then F4, whose failure outweighs the type."
unfoldable pub keyboard_detect : Talk KeyboardType
keyboard_detect =
    next (keyboard_command Command.DisableScanning)
    (λ _. next (keyboard_command Command.IdentifyKeyboard)
    (λ _. next (trying type_search)
    (λ type. next (keyboard_command Command.EnableScanning) (λ _. tells type))))

-- "`keyboard_detect`, then `set_keyboard_scancode_set` with set 1."
unfoldable pub keyboard_init : Talk Success
keyboard_init =
    next (failing_as KeyboardNotDetected keyboard_detect) (λ _. set_scancode_set Set.Set1)

-- What the code's parts say.
abbrev pub set_said : ℕ → Result ScancodeSet Stop
set_said b = said (set_given b)

abbrev pub second_said : ℕ → Result KeyboardType Stop
second_said b = said (second_given b)
