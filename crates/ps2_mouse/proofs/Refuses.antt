-- What each of the mouse's operations refuses with.
use Prim.Native.Nat.{ℕ}
use mathlib.Core.List.{[], ◌∷◌}
use Rattle.exchange.specs.Answer.{and_then}
use Rattle.exchange.specs.Only.{only_done, only_read}
use Rattle.exchange.specs.Refuses.{RefusesWith, Refuses}
use Rattle.exchange.proofs.Then.{only_repeat, refuses_then, refuses_more, refuses_as}
use Rattle.ps2_bytes.specs.declared.command.HostToMouseCommand.TheVariants as Command
use Rattle.ps2_bytes.specs.declared.data.MouseResolution.{MouseResolution}
use Rattle.ps2_bytes.specs.declared.data.MouseSampleRate.{MouseSampleRate}
use Rattle.ps2_bytes.specs.declared.writable.HostToDevice.TheVariants.{Mouse}
use Rattle.ps2_bytes.specs.declared.writable.HostToMouseCommandOrData.{HostToMouseCommandOrData}
use Rattle.ps2_bytes.specs.declared.writable.HostToMouseCommandOrData.TheVariants as Byte
use Rattle.ps2_bytes.specs.Responses.{mouse_ids}
use Rattle.ps2_ports.specs.Ports.{flush_output_buffer}
use Rattle.ps2_polling.specs.Polling.{poll_limit}
use Rattle.ps2_polling.proofs.Refuses.{finds_listed}
use Rattle.ps2_command.specs.Search.{listed_turn}
use Rattle.ps2_command.proofs.Refuses.{command_refusals, command_and, refuses_command_to_port2, refuses_self_test, only_poll_when}
use Rattle.ps2_mouse.specs.Mouse.{command_to_mouse, mouse_command, reset_reads, reset_mouse, set_sampling_rate, set_resolution, disable_packet_streaming, enable_packet_streaming, mouse_byte_waits, mouse_id}

-- 4 to 7, as every command
pub refuses_command_to_mouse : (value : HostToMouseCommandOrData) → Refuses (4 ∷ 5 ∷ 6 ∷ 7 ∷ []) (command_to_mouse value)
unfolding command_to_mouse
refuses_command_to_mouse value = refuses_command_to_port2 (Mouse value)

-- a command inside an operation with one number more
also_refuses : (n : ℕ) (value : HostToMouseCommandOrData) → Refuses (command_and n) (command_to_mouse value)
also_refuses n value = refuses_more command_refusals (command_and n) tt (refuses_command_to_mouse value)

pub refuses_reset_mouse : Refuses (4 ∷ 5 ∷ 6 ∷ 7 ∷ 10 ∷ []) reset_mouse
unfolding reset_mouse flush_output_buffer
refuses_reset_mouse =
    refuses_then (command_and 10) (also_refuses 10 (Byte.MouseCommand Command.Reset))
    (λ _. refuses_then (command_and 10) (refuses_more (10 ∷ []) (command_and 10) tt (refuses_self_test reset_reads)) (λ _. only_read (λ b. only_done tt)))

-- ---- 15, 16 and 17 stand for whatever refused inside

pub refuses_set_sampling_rate : (rate : MouseSampleRate) → Refuses (15 ∷ []) (set_sampling_rate rate)
unfolding set_sampling_rate
refuses_set_sampling_rate rate = refuses_as 15 (and_then (mouse_command Command.SampleRate) (λ _. command_to_mouse (Byte.SampleRate rate)))

pub refuses_set_resolution : (resolution : MouseResolution) → Refuses (15 ∷ []) (set_resolution resolution)
unfolding set_resolution
refuses_set_resolution resolution = refuses_as 15 (and_then (mouse_command Command.SetResolution) (λ _. command_to_mouse (Byte.MouseResolution resolution)))

pub refuses_disable_packet_streaming : Refuses (16 ∷ []) disable_packet_streaming
unfolding disable_packet_streaming
refuses_disable_packet_streaming = refuses_as 16 (mouse_command Command.DisableDataReporting)

pub refuses_enable_packet_streaming : Refuses (17 ∷ []) enable_packet_streaming
unfolding enable_packet_streaming
refuses_enable_packet_streaming = refuses_as 17 (mouse_command Command.EnableDataReporting)

-- ---- 11 is not replaced

pub refuses_mouse_id : Refuses (4 ∷ 5 ∷ 6 ∷ 7 ∷ 11 ∷ []) mouse_id
unfolding mouse_id
refuses_mouse_id =
    refuses_then (command_and 11) (also_refuses 11 (Byte.MouseCommand Command.GetDeviceID))
    (λ _. only_repeat (only_poll_when (RefusesWith (command_and 11)) mouse_byte_waits (listed_turn mouse_ids) (finds_listed (command_and 11) mouse_ids)) tt poll_limit)
