-- What each of the keyboard's operations refuses with.
use Prim.Native.Nat.{ℕ}
use mathlib.Core.List.{[], ◌∷◌}
use Rattle.exchange.specs.Exchange.{Exchange}
use Rattle.exchange.specs.Answer.{Answer, and_then}
use Rattle.exchange.specs.Only.{only_done}
use Rattle.exchange.specs.Refuses.{RefusesWith, Refuses}
use Rattle.exchange.proofs.Then.{only_repeat, refuses_then, refuses_more, refuses_as}
use Rattle.ps2_bytes.specs.declared.command.HostToKeyboardCommand.TheVariants as Command
use Rattle.ps2_layouts.specs.declared.leds.LEDState.{LEDState}
use Rattle.ps2_bytes.specs.declared.data.ScancodeSet.{ScancodeSet}
use Rattle.ps2_bytes.specs.declared.data.ScancodeSet.TheVariants as Set
use Rattle.ps2_bytes.specs.declared.writable.HostToDevice.TheVariants.{Keyboard}
use Rattle.ps2_bytes.specs.declared.writable.HostToKeyboardCommandOrData.{HostToKeyboardCommandOrData}
use Rattle.ps2_bytes.specs.declared.writable.HostToKeyboardCommandOrData.TheVariants as Byte
use Rattle.ps2_bytes.specs.Data.{scancode_sets}
use Rattle.ps2_polling.specs.Polling.{poll_limit}
use Rattle.ps2_polling.proofs.Refuses.{only_poll, finds_listed}
use Rattle.ps2_answers.specs.Refusals.{Success}
use Rattle.ps2_ports.specs.declared.DevicePort.{DevicePort}
use Rattle.ps2_command.specs.Command.{command_by}
use Rattle.ps2_command.specs.Search.{listed_turn}
use Rattle.ps2_command.proofs.Refuses.{command_refusals, command_and, refuses_command, refuses_self_test}
use Rattle.ps2_keyboard.specs.Keyboard.{command_to_keyboard, reset_reads, reset_keyboard, set_led_by, set_keyboard_led, set_port_led, command_scancode_set, get_scancode_set, set_scancode_set}

-- 4 to 7, as every command
pub refuses_command_to_keyboard : (value : HostToKeyboardCommandOrData) → Refuses command_refusals (command_to_keyboard value)
unfolding command_to_keyboard
refuses_command_to_keyboard value = refuses_command (Keyboard value)

-- a command inside an operation with further numbers
pub also_refuses : (n : ℕ) (value : HostToKeyboardCommandOrData) → Refuses (command_and n) (command_to_keyboard value)
also_refuses n value = refuses_more command_refusals (command_and n) tt (refuses_command_to_keyboard value)

pub refuses_reset_keyboard : Refuses (4 ∷ 5 ∷ 6 ∷ 7 ∷ 10 ∷ []) reset_keyboard
unfolding reset_keyboard
refuses_reset_keyboard =
    refuses_then (command_and 10) (also_refuses 10 (Byte.KeyboardCommand Command.ResetAndStartSelfTest))
    (λ _. refuses_more (10 ∷ []) (command_and 10) tt (refuses_self_test reset_reads))

-- over every way to a keyboard: 14 and nothing else
pub refuses_set_led_by : (way : HostToKeyboardCommandOrData → Exchange (Answer Success)) (leds : LEDState) → Refuses (14 ∷ []) (set_led_by way leds)
unfolding set_led_by
refuses_set_led_by way leds = refuses_as 14 (and_then (way (Byte.KeyboardCommand Command.SetLEDStatus)) (λ _. way (Byte.LEDState leds)))

pub refuses_set_keyboard_led : (leds : LEDState) → Refuses (14 ∷ []) (set_keyboard_led leds)
unfolding set_keyboard_led
refuses_set_keyboard_led leds = refuses_set_led_by command_to_keyboard leds

pub refuses_set_port_led : (port : DevicePort) (leds : LEDState) → Refuses (14 ∷ []) (set_port_led port leds)
unfolding set_port_led
refuses_set_port_led port leds = refuses_set_led_by (λ value. command_by port (Keyboard value)) leds

-- ---- 11 is not replaced

pub refuses_command_scancode_set : (set : ScancodeSet) → Refuses (4 ∷ 5 ∷ 6 ∷ 7 ∷ []) (command_scancode_set set)
unfolding command_scancode_set
refuses_command_scancode_set set =
    refuses_then command_refusals (refuses_command_to_keyboard (Byte.KeyboardCommand Command.ScancodeSet)) (λ _. refuses_command_to_keyboard (Byte.ScancodeSet set))

pub refuses_get_scancode_set : Refuses (4 ∷ 5 ∷ 6 ∷ 7 ∷ 11 ∷ []) get_scancode_set
unfolding get_scancode_set
refuses_get_scancode_set =
    refuses_then (command_and 11) (refuses_more command_refusals (command_and 11) tt (refuses_command_scancode_set Set.Get))
    (λ _. only_repeat (only_poll (RefusesWith (command_and 11)) (listed_turn scancode_sets) (finds_listed (command_and 11) scancode_sets)) tt poll_limit)

pub refuses_set_scancode_set : (set : ScancodeSet) → Refuses (command_and 11) (set_scancode_set set)
unfolding set_scancode_set
refuses_set_scancode_set set =
    refuses_then (command_and 11) (refuses_more command_refusals (command_and 11) tt (refuses_command_scancode_set set))
    (λ _. refuses_then (command_and 11) refuses_get_scancode_set (λ _. only_done tt))
