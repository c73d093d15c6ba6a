-- Closed runs of initialisation, by computation.
use Prim.Native.Nat.{ℕ}
use mathlib.Core.Bool.{Bool, true, false}
use mathlib.Core.List.{List, [], ◌∷◌, ◌++◌}
use mathlib.Core.Path.{◌≡◌, refl}
use Rattle.bits.specs.Bits.{bit, odd, put_bit}
use Rattle.bits.specs.Table.{decode}
use Rattle.exchange.specs.Exchange.{bind, yields, played, play}
use Rattle.exchange.specs.Answer.{gives, refuses, and_then}
use Rattle.exchange.specs.Left.{left, record_after}
use Rattle.exchange.specs.Refuses.{succeeds}
use Rattle.exchange.specs.Repeat.{repeat}
use Rattle.ps2_answers.specs.Refusals.{success}
use Rattle.ps2_ports.specs.Ports.{flush_output_buffer, write_port, read_config, write_config}
use Rattle.ps2_polling.specs.Polling.{send_try, polling_send, poll, polling_receive, polling_send_receive, controller_test_result, test_controller, port_test_result, test_port}
use Rattle.ps2_command.specs.Command.{attempt, command, command_to_port2}
use Rattle.ps2_command.specs.Search.{self_test_within}
use Rattle.ps2_command.proofs.Runs.{room}
use Rattle.ps2_keyboard.specs.Keyboard.{command_to_keyboard, reset_keyboard}
use Rattle.ps2_mouse.specs.Mouse.{command_to_mouse, reset_mouse}
use Rattle.ps2_init.specs.declared.PS2Controller.{PS2Controller}
use Rattle.ps2_setup.specs.SetUp.{disable_devices, test_with, test_ports, enable_ports}
use Rattle.ps2_init.specs.Init.{reset_devices, set_up, initialize}

abbrev controller : Bool → Bool → Bool → PS2Controller
controller i k m = record { initialized = i; keyboard_attached = k; mouse_attached = m }

-- what a controller with both devices reads as, up to its resets
abbrev until_resets : List ℕ
until_resets = 0x03 ∷ 0x33 ∷ 0x55 ∷ 0x1D ∷ 0x00 ∷ 0x1D ∷ 0x00 ∷ []

-- In order: QEMU's device model at its start; a keyboard whose reset is refused, on a record that said it was attached; no second port (bit 5 of the
-- configuration clear), and so no A9; a script that ends inside the mouse's reset; a controller that was initialised.
pub runs :
    (play (initialize (controller false false false))
    (until_resets ++ (0x1C ∷ 0x1D ∷ 0xFA ∷ 0xAA ∷ 0x1C ∷ 0x3D ∷ 0xFA ∷ 0xAA ∷ 0x00 ∷ 0x03 ∷ [])) (room 18)
    ≡ played (yields (left (gives success) (controller true true true))) 17 18
    (0x64 ∷ 0xAD ∷ 0x64 ∷ 0xA7 ∷ 0x64 ∷ 0x20 ∷ 0x64 ∷ 0x60 ∷ 0x60 ∷ 0x30 ∷ 0x64 ∷ 0xAA ∷ 0x64 ∷ 0x60 ∷ 0x60 ∷ 0x30 ∷ 0x64 ∷ 0xAB
    ∷ 0x64 ∷ 0xA9 ∷ 0x64 ∷ 0xAE ∷ 0x64 ∷ 0xA8 ∷ 0x64 ∷ 0x60 ∷ 0x60 ∷ 0x03 ∷ 0x60 ∷ 0xFF ∷ 0x64 ∷ 0xD4 ∷ 0x60 ∷ 0xFF ∷ 0x64 ∷ 0x20 ∷ []))
    × ((play (initialize (controller false true true))
    (until_resets ++ (0x1C ∷ 0x1D ∷ 0xFC ∷ 0x1C ∷ 0x3D ∷ 0xFA ∷ 0xAA ∷ 0x00 ∷ 0x03 ∷ [])) (room 18)).end
    ≡ yields (left (gives success) (controller true false true)))
    × (play (initialize (controller false false true))
    (0x00 ∷ 0x5D ∷ 0x55 ∷ 0x01 ∷ 0x00 ∷ 0x00 ∷ 0x01 ∷ 0xFA ∷ 0xAA ∷ 0x00 ∷ 0x01 ∷ 0xFD ∷ 0x0D ∷ []) (room 16)
    ≡ played (yields (left (gives success) (controller true true false))) 13 16
    (0x64 ∷ 0xAD ∷ 0x64 ∷ 0xA7 ∷ 0x64 ∷ 0x20 ∷ 0x64 ∷ 0x60 ∷ 0x60 ∷ 0x1C ∷ 0x64 ∷ 0xAA ∷ 0x64 ∷ 0x60 ∷ 0x60 ∷ 0x1C ∷ 0x64 ∷ 0xAB
    ∷ 0x64 ∷ 0xAE ∷ 0x64 ∷ 0x60 ∷ 0x60 ∷ 0x0D ∷ 0x60 ∷ 0xFF ∷ 0x64 ∷ 0xD4 ∷ 0x60 ∷ 0xFF ∷ 0x64 ∷ 0x20 ∷ []))
    × (record_after (controller false false true)
    (play (initialize (controller false false true)) (until_resets ++ (0x1C ∷ 0x1D ∷ 0xFA ∷ 0xAA ∷ 0x1C ∷ 0x3D ∷ 0xFA ∷ 0xAA ∷ [])) (room 18)).end
    ≡ controller false false true)
    × (play (initialize (controller true true false)) [] [] ≡ played (yields (left (refuses 1) (controller true true false))) 0 0 [])
unfolding play bind and_then succeeds repeat initialize set_up disable_devices test_with test_ports enable_ports reset_devices write_port flush_output_buffer read_config write_config test_controller controller_test_result test_port port_test_result reset_keyboard reset_mouse self_test_within command_to_keyboard command_to_mouse command_to_port2 command attempt polling_send_receive polling_send send_try polling_receive poll decode bit odd put_bit
runs = (refl, refl, refl, refl, refl)
