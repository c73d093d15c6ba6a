-- The most reads and writes of each of the keyboard's operations, and scripts that take them.
use native.Mathlib.Omega.{arith}
use mathlib.Core.Bool.{true}
use Rattle.bits.specs.Bits.{bit, odd}
use Rattle.bits.specs.Table.{decode}
use Prim.Native.Nat.{ℕ, ◌+◌}
use Rattle.exchange.specs.Exchange.{Exchange, done, bind}
use Rattle.exchange.specs.Answer.{Answer, gives, refuses, and_then}
use Rattle.exchange.specs.Attains.{Attains, attains_done, attains_read, Most}
use Rattle.exchange.specs.Bounds.{Within, within_done, within_read}
use Rattle.exchange.proofs.Attains.{attains_last}
use Rattle.exchange.proofs.Bounds.{within_repeat}
use Rattle.exchange.proofs.Then.{within_then, attains_then, within_as, attains_as}
use Rattle.ps2_command.specs.Command.{command_reads, command_by}
use Rattle.ps2_bytes.specs.declared.command.HostToKeyboardCommand.TheVariants as Command
use Rattle.ps2_layouts.specs.declared.leds.LEDState.{LEDState}
use Rattle.ps2_bytes.specs.declared.data.ScancodeSet.{ScancodeSet}
use Rattle.ps2_bytes.specs.declared.data.ScancodeSet.TheVariants as Set
use Rattle.ps2_bytes.specs.declared.writable.HostToDevice.TheVariants.{Keyboard}
use Rattle.ps2_bytes.specs.declared.writable.HostToKeyboardCommandOrData.{HostToKeyboardCommandOrData}
use Rattle.ps2_bytes.specs.declared.writable.HostToKeyboardCommandOrData.TheVariants as Byte
use Rattle.ps2_bytes.specs.Data.{scancode_sets}
use Rattle.ps2_answers.specs.Refusals.{Success, success}
use Rattle.ps2_ports.specs.declared.DevicePort.{DevicePort}
use Rattle.ps2_ports.specs.declared.DevicePort.TheVariants.{Port1, Port2}
use Rattle.ps2_ports.specs.Ports.{read_port, read_status}
use Rattle.ps2_polling.specs.Polling.{poll_limit}
use Rattle.ps2_polling.proofs.Bounds.{within_poll}
use Rattle.ps2_polling.proofs.Attained.{attains_poll}
use Rattle.ps2_command.specs.Search.{listed_turn, self_test_within}
use Rattle.ps2_command.proofs.Bounds.{within_command, attains_command, within_command_to_port2, attains_command_to_port2, within_self_test, attains_self_test}
use Rattle.ps2_keyboard.specs.Keyboard.{command_to_keyboard, reset_reads, reset_keyboard, set_led_by, set_keyboard_led, set_port_led, command_scancode_set, get_scancode_set, set_scancode_set, read_scancode, keyboard_output_buffer_full}

-- ---- a command: 525,300 reads and 4 writes

module _ (value : HostToKeyboardCommandOrData) where
  pub within_keyboard : Within command_reads 4 (command_to_keyboard value)
  unfolding command_to_keyboard
  within_keyboard = within_command (Keyboard value)

  pub attains_keyboard : Attains (gives success) command_reads 4 (command_to_keyboard value)
  unfolding command_to_keyboard
  attains_keyboard = attains_command (Keyboard value)

  pub most_command_to_keyboard : Most command_reads 4 (command_to_keyboard value)
  most_command_to_keyboard = record { within = within_keyboard; yielded = gives success; attains = attains_keyboard }

-- ---- reset

pub within_reset_keyboard : Within 787440 4 reset_keyboard
unfolding reset_keyboard
within_reset_keyboard = within_then (within_keyboard (Byte.KeyboardCommand Command.ResetAndStartSelfTest)) (λ _. within_self_test reset_reads)

pub attains_reset_keyboard : Attains (gives success) 787440 4 reset_keyboard
unfolding reset_keyboard
attains_reset_keyboard =
    attains_then (λ _. self_test_within reset_reads) (attains_keyboard (Byte.KeyboardCommand Command.ResetAndStartSelfTest)) (attains_self_test 262139)

pub most_reset_keyboard : Most 787440 4 reset_keyboard
most_reset_keyboard = record { within = within_reset_keyboard; yielded = gives success; attains = attains_reset_keyboard }

-- ---- lamps

-- over every way to a keyboard on which a byte takes so many reads and writes at the most
module _ (way : HostToKeyboardCommandOrData → Exchange (Answer Success)) {w : ℕ}
    (within : (value : HostToKeyboardCommandOrData) → Within command_reads w (way value))
    (attains : (value : HostToKeyboardCommandOrData) → Attains (gives success) command_reads w (way value)) where
  most_set_led_by : (leds : LEDState) → Most 1050600 (w + w) (set_led_by way leds)
  unfolding set_led_by
  most_set_led_by leds =
      record {
        within = within_as 14 (within_then (within (Byte.KeyboardCommand Command.SetLEDStatus)) (λ _. within (Byte.LEDState leds)));
        yielded = gives success;
        attains = attains_as 14 (attains_then (λ _. way (Byte.LEDState leds)) (attains (Byte.KeyboardCommand Command.SetLEDStatus)) (attains (Byte.LEDState leds)));
      }

pub most_set_keyboard_led : (leds : LEDState) → Most 1050600 8 (set_keyboard_led leds)
unfolding set_keyboard_led
most_set_keyboard_led = most_set_led_by command_to_keyboard within_keyboard attains_keyboard

-- 4 writes a byte on the first port; on the second the D4 before each byte more
abbrev pub led_writes : DevicePort → ℕ
led_writes Port1 = 8
led_writes Port2 = 10

pub most_set_port_led : (port : DevicePort) (leds : LEDState) → Most 1050600 (led_writes port) (set_port_led port leds)
unfolding set_port_led
most_set_port_led Port1 = most_set_led_by (λ value. command_by Port1 (Keyboard value)) (λ value. within_command (Keyboard value)) (λ value. attains_command (Keyboard value))
most_set_port_led Port2 = most_set_led_by (λ value. command_by Port2 (Keyboard value)) (λ value. within_command_to_port2 (Keyboard value)) (λ value. attains_command_to_port2 (Keyboard value))

-- ---- scancode set

module _ (set : ScancodeSet) where
  within_command_scancode_set : Within 1050600 8 (command_scancode_set set)
  unfolding command_scancode_set
  within_command_scancode_set = within_then (within_keyboard (Byte.KeyboardCommand Command.ScancodeSet)) (λ _. within_keyboard (Byte.ScancodeSet set))

  attains_command_scancode_set : Attains (gives success) 1050600 8 (command_scancode_set set)
  unfolding command_scancode_set
  attains_command_scancode_set =
      attains_then (λ _. command_to_keyboard (Byte.ScancodeSet set)) (attains_keyboard (Byte.KeyboardCommand Command.ScancodeSet)) (attains_keyboard (Byte.ScancodeSet set))

within_get_scancode_set : Within 1181670 8 get_scancode_set
unfolding get_scancode_set
within_get_scancode_set = within_then (within_command_scancode_set Set.Get) (λ _. within_repeat (within_poll (listed_turn scancode_sets)) (refuses 11) poll_limit)

attains_get_scancode_set : Attains (gives Set.Set1) 1181670 8 get_scancode_set
unfolding get_scancode_set decode
attains_get_scancode_set =
    attains_then _ (attains_command_scancode_set Set.Get)
    (attains_last (refuses 11) (attains_poll (listed_turn scancode_sets) 0xFA (omega arith)) 65534 (attains_poll (listed_turn scancode_sets) 1 (omega arith)))

pub most_get_scancode_set : Most 1181670 8 get_scancode_set
most_get_scancode_set = record { within = within_get_scancode_set; yielded = gives Set.Set1; attains = attains_get_scancode_set }

module _ (set : ScancodeSet) where
  pub attains_set_scancode_set : Attains (gives success) 2232270 16 (set_scancode_set set)
  unfolding set_scancode_set
  attains_set_scancode_set = attains_then _ (attains_command_scancode_set set) (attains_then (λ _. done (gives success)) attains_get_scancode_set attains_done)

  pub most_set_scancode_set : Most 2232270 16 (set_scancode_set set)
  unfolding set_scancode_set
  most_set_scancode_set =
      record {
        within = within_then (within_command_scancode_set set) (λ _. within_then within_get_scancode_set (λ _. within_done {r = 0} {w = 0}));
        yielded = gives success;
        attains = attains_set_scancode_set;
      }

-- ---- one byte

pub most_read_scancode : Most 1 0 read_scancode
unfolding read_scancode read_port
most_read_scancode = record { within = within_read (λ b. within_done); yielded = gives 0; attains = attains_read 0 (omega arith) attains_done }

pub most_keyboard_output_buffer_full : Most 1 0 keyboard_output_buffer_full
unfolding keyboard_output_buffer_full read_status and_then bind bit odd
most_keyboard_output_buffer_full =
    record { within = within_read (λ b. within_done); yielded = gives true; attains = attains_read 1 (omega arith) attains_done }
