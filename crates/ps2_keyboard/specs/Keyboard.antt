-- The keyboard's operations, each as a tree of its reads and writes.
use Rattle.std.specs.Prelude.{Bool, ℕ}
use Rattle.bits.specs.Bits.{bit}
use Rattle.exchange.specs.Exchange.{Exchange, done}
use Rattle.exchange.specs.Answer.{Answer, gives, refuses, and_then, refusing_as}
use Rattle.exchange.specs.Repeat.{repeat}
use Rattle.ps2_bytes.specs.declared.command.HostToKeyboardCommand.{HostToKeyboardCommand}
use Rattle.ps2_bytes.specs.declared.command.HostToKeyboardCommand.TheVariants as Command
use Rattle.ps2_layouts.specs.declared.leds.LEDState.{LEDState}
use Rattle.ps2_bytes.specs.declared.data.ScancodeSet.{ScancodeSet}
use Rattle.ps2_bytes.specs.declared.data.ScancodeSet.TheVariants as Set
use Rattle.ps2_bytes.specs.declared.writable.HostToDevice.TheVariants.{Keyboard}
use Rattle.ps2_bytes.specs.declared.writable.HostToKeyboardCommandOrData.{HostToKeyboardCommandOrData}
use Rattle.ps2_bytes.specs.declared.writable.HostToKeyboardCommandOrData.TheVariants as Byte
use Rattle.ps2_bytes.specs.Data.{scancode_sets}
use Rattle.ps2_layouts.specs.Status.{output_buffer_full}
use Rattle.ps2_answers.specs.Refusals.{Success, success}
use Rattle.ps2_ports.specs.Ports.{read_data, read_status}
use Rattle.ps2_polling.specs.Polling.{poll_limit, poll}
use Rattle.ps2_command.specs.Command.{command, command_by}
use Rattle.ps2_ports.specs.declared.DevicePort.{DevicePort}
use Rattle.ps2_command.specs.Search.{listed_turn, self_test_within}

-- ---- commands

-- A byte for a keyboard, by the command rule.
unfoldable pub command_to_keyboard : HostToKeyboardCommandOrData → Exchange (Answer Success)
command_to_keyboard value = command (Keyboard value)

-- One of its commands.
abbrev pub keyboard_command : HostToKeyboardCommand → Exchange (Answer Success)
keyboard_command c = command_to_keyboard (Byte.KeyboardCommand c)

-- ---- reset

-- "did AA come within 262,140 (keyboard) .. data reads?"
abbrev pub reset_reads : ℕ
reset_reads = 262140

-- "Reset sends FF by the command rule, then reads without status until a further AA."
unfoldable pub reset_keyboard : Exchange (Answer Success)
reset_keyboard =
    and_then (keyboard_command Command.ResetAndStartSelfTest) (λ _. self_test_within reset_reads)

-- ---- lamps

-- "the lamp exchange (ED, then scroll 1, number 2, caps 4 added)", over some way to a keyboard.
-- "Did the lamp exchange succeed? 14"
unfoldable pub set_led_by : (HostToKeyboardCommandOrData → Exchange (Answer Success)) → LEDState
    → Exchange (Answer Success)
set_led_by way leds = refusing_as 14
    (and_then (way (Byte.KeyboardCommand Command.SetLEDStatus)) (λ _. way (Byte.LEDState leds)))

-- To the keyboard of the first port.
unfoldable pub set_keyboard_led : LEDState → Exchange (Answer Success)
set_keyboard_led leds = set_led_by command_to_keyboard leds

-- To the keyboard of either port; to the second's, bytes are "sent after D4 as mouse commands are".
unfoldable pub set_port_led : DevicePort → LEDState → Exchange (Answer Success)
set_port_led port leds = set_led_by (λ value. command_by port (Keyboard value)) leds

-- ---- scancode set

-- F0 and its byte: 00 asks for the set, 1 to 3 set it.
unfoldable pub command_scancode_set : ScancodeSet → Exchange (Answer Success)
command_scancode_set set = and_then (keyboard_command Command.ScancodeSet)
    (λ _. command_to_keyboard (Byte.ScancodeSet set))

-- "F0, 00, polls for a byte 0 to 3". "Did the scancode set
-- (0 to 3) .. come within 65,535 polls? 11"
unfoldable pub get_scancode_set : Exchange (Answer ScancodeSet)
get_scancode_set = and_then (command_scancode_set Set.Get)
    (λ _. repeat poll_limit (refuses 11) (poll (listed_turn scancode_sets)))

-- "F0, the set, F0, 00, polls for a byte 0 to 3; a different set still succeeds."
unfoldable pub set_scancode_set : ScancodeSet → Exchange (Answer Success)
set_scancode_set set =
    and_then (command_scancode_set set) (λ _. and_then get_scancode_set (λ _. done (gives success)))

-- ---- one byte

-- A scancode is read without asking the status.
unfoldable pub read_scancode : Exchange (Answer ℕ)
read_scancode = read_data

-- Whether there is a byte to read: bit 0 of the status.
unfoldable pub keyboard_output_buffer_full : Exchange (Answer Bool)
keyboard_output_buffer_full =
    and_then read_status (λ status. done (gives (bit output_buffer_full status.bits)))
