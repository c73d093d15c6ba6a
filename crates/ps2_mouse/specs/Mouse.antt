-- The mouse's operations, each as a tree of its reads and writes.
use Rattle.std.specs.Prelude.{Bool, ◌&&◌, ℕ}
use Rattle.bits.specs.Bits.{bit}
use Rattle.exchange.specs.Exchange.{Exchange, done}
use Rattle.exchange.specs.Answer.{Answer, gives, refuses, and_then, refusing_as}
use Rattle.exchange.specs.Repeat.{repeat}
use Rattle.ps2_bytes.specs.declared.command.HostToMouseCommand.{HostToMouseCommand}
use Rattle.ps2_bytes.specs.declared.command.HostToMouseCommand.TheVariants as Command
use Rattle.ps2_bytes.specs.declared.data.MouseResolution.{MouseResolution}
use Rattle.ps2_bytes.specs.declared.data.MouseSampleRate.{MouseSampleRate}
use Rattle.ps2_bytes.specs.declared.response.MouseId.{MouseId}
use Rattle.ps2_bytes.specs.declared.writable.HostToDevice.TheVariants.{Mouse}
use Rattle.ps2_bytes.specs.declared.writable.HostToMouseCommandOrData.{HostToMouseCommandOrData}
use Rattle.ps2_bytes.specs.declared.writable.HostToMouseCommandOrData.TheVariants as Byte
use Rattle.ps2_bytes.specs.Responses.{mouse_ids}
use Rattle.ps2_layouts.specs.Status.{output_buffer_full, second_port_output_full}
use Rattle.ps2_answers.specs.Refusals.{Success}
use Rattle.ps2_ports.specs.Ports.{read_status, flush_output_buffer}
use Rattle.ps2_polling.specs.Polling.{poll_limit}
use Rattle.ps2_command.specs.Command.{command_to_port2}
use Rattle.ps2_command.specs.Search.{poll_when, listed_turn, self_test_within}

-- ---- commands

-- A byte for the mouse, which is on the second port, by the command rule.
unfoldable pub command_to_mouse : HostToMouseCommandOrData → Exchange (Answer Success)
command_to_mouse value = command_to_port2 (Mouse value)

-- One of its commands.
abbrev pub mouse_command : HostToMouseCommand → Exchange (Answer Success)
mouse_command c = command_to_mouse (Byte.MouseCommand c)

-- ---- reset

-- "did AA come within .. 196,605 (mouse) data reads?"
abbrev pub reset_reads : ℕ
reset_reads = 196605

-- "Reset sends FF by the command rule, then reads without status until a further AA; the mouse
-- reads one byte more and drops it."
unfoldable pub reset_mouse : Exchange (Answer Success)
reset_mouse = and_then (mouse_command Command.Reset)
    (λ _. and_then (self_test_within reset_reads) (λ _. flush_output_buffer))

-- ---- settings

-- "Did setting the sampling rate (F3, rate) or the resolution (E8, 0 to 3) succeed? 15"
unfoldable pub set_sampling_rate : MouseSampleRate → Exchange (Answer Success)
set_sampling_rate rate = refusing_as 15
    (and_then (mouse_command Command.SampleRate) (λ _. command_to_mouse (Byte.SampleRate rate)))

unfoldable pub set_resolution : MouseResolution → Exchange (Answer Success)
set_resolution resolution = refusing_as 15
    (and_then (mouse_command Command.SetResolution)
    (λ _. command_to_mouse (Byte.MouseResolution resolution)))

-- "Stopping packets? 16. Starting them? 17"
unfoldable pub disable_packet_streaming : Exchange (Answer Success)
disable_packet_streaming = refusing_as 16 (mouse_command Command.DisableDataReporting)

unfoldable pub enable_packet_streaming : Exchange (Answer Success)
enable_packet_streaming = refusing_as 17 (mouse_command Command.EnableDataReporting)

-- ---- identity

-- "Mouse identity polls need bits 0 and 5."
abbrev pub mouse_byte_waits : ℕ → Bool
mouse_byte_waits status = bit output_buffer_full status && bit second_port_output_full status

-- F2; "Did the .. mouse identity (0, 3, 4) come within 65,535 polls? 11"
unfoldable pub mouse_id : Exchange (Answer MouseId)
mouse_id = and_then (mouse_command Command.GetDeviceID)
    (λ _. repeat poll_limit (refuses 11) (poll_when mouse_byte_waits (listed_turn mouse_ids)))

-- Whether there is a byte of the mouse to read.
unfoldable pub mouse_output_buffer_full : Exchange (Answer Bool)
mouse_output_buffer_full =
    and_then read_status (λ status. done (gives (mouse_byte_waits status.bits)))
