-- Closed runs of `set_mouse_id`, by computation.
use Prim.Native.Nat.{ℕ}
use mathlib.Core.List.{List, [], ◌∷◌, ◌++◌}
use mathlib.Core.Path.{◌≡◌, refl}
use Rattle.bits.specs.Bits.{bit, odd}
use Rattle.bits.specs.Table.{decode}
use Rattle.exchange.specs.Exchange.{bind, yields, play}
use Rattle.exchange.specs.Answer.{gives, refuses, and_then, refusing_as}
use Rattle.exchange.specs.Left.{left, record_after}
use Rattle.exchange.specs.Repeat.{repeat, times}
use Rattle.ps2_bytes.specs.declared.response.MouseId.TheVariants.{Zero, Three, Four}
use Rattle.ps2_answers.specs.Refusals.{success}
use Rattle.ps2_ports.specs.Ports.{write_port}
use Rattle.ps2_polling.specs.Polling.{send_try, polling_send, poll, polling_receive, polling_send_receive}
use Rattle.ps2_command.specs.Command.{attempt, command, command_to_port2}
use Rattle.ps2_command.specs.Search.{poll_when}
use Rattle.ps2_command.proofs.Runs.{room, fa}
use Rattle.ps2_mouse.specs.Mouse.{command_to_mouse, set_sampling_rate, disable_packet_streaming, enable_packet_streaming, mouse_id}
use Rattle.ps2_mouse_identity.specs.Identity.{set_rates, second_identity, new_identity, set_mouse_id}

-- F5 and three rates, F2 and the identity 3, three rates, F2
abbrev until_second : List ℕ
until_second = times 7 fa ++ (fa ++ (0x21 ∷ 0x03 ∷ [])) ++ times 6 fa

-- the record's identity at the end, of a mouse that had 0: 4 is read; the second F2 is refused; F4 is refused; the script ends before F4; the first identity is 4
pub identities :
    ((play (set_mouse_id (record { id = Zero })) (until_second ++ (fa ++ (0x01 ∷ 0x21 ∷ 0x04 ∷ fa))) (room 32)).end ≡ yields (left (gives success) (record { id = Four })))
    × ((play (set_mouse_id (record { id = Zero })) (until_second ++ (0x00 ∷ 0x01 ∷ 0xFC ∷ fa)) (room 32)).end ≡ yields (left (gives success) (record { id = Zero })))
    × ((play (set_mouse_id (record { id = Zero })) (until_second ++ (fa ++ (0x21 ∷ 0x03 ∷ 0x00 ∷ 0x01 ∷ 0xFC ∷ []))) (room 32)).end ≡ yields (left (refuses 17) (record { id = Three })))
    × (record_after (record { id = Zero }) (play (set_mouse_id (record { id = Zero })) (until_second ++ (fa ++ (0x21 ∷ 0x03 ∷ []))) (room 32)).end ≡ record { id = Zero })
    × ((play (set_mouse_id (record { id = Zero })) (times 7 fa ++ (fa ++ (0x21 ∷ 0x04 ∷ []))) (room 32)).end ≡ yields (left (refuses 13) (record { id = Zero })))
unfolding play bind and_then refusing_as repeat set_mouse_id new_identity set_rates second_identity set_sampling_rate disable_packet_streaming enable_packet_streaming mouse_id poll_when command_to_mouse command_to_port2 write_port command attempt polling_send_receive polling_send send_try polling_receive poll decode bit odd
identities = (refl, refl, refl, refl, refl)
