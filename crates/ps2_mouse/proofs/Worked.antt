-- Closed runs of the mouse's reset, by computation.
use mathlib.Core.List.{[], ◌∷◌}
use mathlib.Core.Path.{◌≡◌, refl}
use Rattle.bits.specs.Bits.{bit, odd}
use Rattle.bits.specs.Table.{decode}
use Rattle.exchange.specs.Exchange.{p60, bind, no_script, yields, lacks, played, play}
use Rattle.exchange.specs.Answer.{gives, and_then}
use Rattle.exchange.specs.Repeat.{repeat}
use Rattle.ps2_answers.specs.Refusals.{success}
use Rattle.ps2_ports.specs.Ports.{flush_output_buffer, write_port}
use Rattle.ps2_polling.specs.Polling.{send_try, polling_send, poll, polling_receive, polling_send_receive}
use Rattle.ps2_command.specs.Command.{attempt, command, command_to_port2}
use Rattle.ps2_command.specs.Search.{self_test_within}
use Rattle.ps2_command.proofs.Runs.{room}
use Rattle.ps2_mouse.specs.Mouse.{command_to_mouse, reset_mouse}

-- an AA that accepts FF is not the reset's own; after the reset's own one byte more is read
pub resets :
    (play reset_mouse (0x00 ∷ 0x01 ∷ 0xAA ∷ 0x00 ∷ []) (room 2) ≡ played (lacks (no_script p60)) 4 2 (0x64 ∷ 0xD4 ∷ 0x60 ∷ 0xFF ∷ []))
    × (play reset_mouse (0x00 ∷ 0x01 ∷ 0xAA ∷ 0x00 ∷ 0xAA ∷ 0x00 ∷ []) (room 2) ≡ played (yields (gives success)) 6 2 (0x64 ∷ 0xD4 ∷ 0x60 ∷ 0xFF ∷ []))
unfolding play bind and_then repeat reset_mouse self_test_within flush_output_buffer command_to_mouse command_to_port2 write_port command attempt polling_send_receive polling_send send_try polling_receive poll decode bit odd
resets = (refl, refl)
