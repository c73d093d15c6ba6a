-- The most reads and writes of each of the mouse's operations, and scripts that take them.
use Prim.Native.Nat.{ℕ}
use native.Mathlib.Omega.{arith}
use mathlib.Core.Bool.{true}
use Rattle.bits.specs.Bits.{bit, odd}
use Rattle.bits.specs.Table.{decode}
use Rattle.exchange.specs.Exchange.{bind}
use Rattle.exchange.specs.Answer.{gives, refuses, and_then, refusing_as}
use Rattle.exchange.specs.Attains.{Attains, attains_done, attains_read, Most}
use Rattle.exchange.specs.Bounds.{Within, within_done, within_read}
use Rattle.exchange.proofs.Attains.{attains_last}
use Rattle.exchange.proofs.Bounds.{within_repeat}
use Rattle.exchange.proofs.Then.{within_then, attains_then, within_as, attains_as}
use Rattle.ps2_command.specs.Command.{command_reads}
use Rattle.ps2_bytes.specs.declared.command.HostToMouseCommand.{HostToMouseCommand}
use Rattle.ps2_bytes.specs.declared.command.HostToMouseCommand.TheVariants as Command
use Rattle.ps2_bytes.specs.declared.data.MouseResolution.{MouseResolution}
use Rattle.ps2_bytes.specs.declared.data.MouseSampleRate.{MouseSampleRate}
use Rattle.ps2_bytes.specs.declared.response.MouseId.TheVariants.{Three}
use Rattle.ps2_bytes.specs.declared.writable.HostToDevice.TheVariants.{Mouse}
use Rattle.ps2_bytes.specs.declared.writable.HostToMouseCommandOrData.{HostToMouseCommandOrData}
use Rattle.ps2_bytes.specs.declared.writable.HostToMouseCommandOrData.TheVariants as Byte
use Rattle.ps2_bytes.specs.Responses.{mouse_ids}
use Rattle.ps2_answers.specs.Refusals.{success}
use Rattle.ps2_ports.specs.Ports.{read_status, flush_output_buffer}
use Rattle.ps2_polling.specs.Polling.{poll_limit}
use Rattle.ps2_command.specs.Search.{listed_turn}
use Rattle.ps2_command.proofs.Bounds.{within_command_to_port2, attains_command_to_port2, within_self_test, attains_self_test, within_poll_when, attains_poll_when}
use Rattle.ps2_mouse.specs.Mouse.{command_to_mouse, mouse_command, reset_reads, reset_mouse, set_sampling_rate, set_resolution, disable_packet_streaming, enable_packet_streaming, mouse_byte_waits, mouse_id, mouse_output_buffer_full}

-- ---- a command: 525,300 reads and 5 writes

module _ (value : HostToMouseCommandOrData) where
  pub within_mouse : Within command_reads 5 (command_to_mouse value)
  unfolding command_to_mouse
  within_mouse = within_command_to_port2 (Mouse value)

  pub attains_mouse : Attains (gives success) command_reads 5 (command_to_mouse value)
  unfolding command_to_mouse
  attains_mouse = attains_command_to_port2 (Mouse value)

  pub most_command_to_mouse : Most command_reads 5 (command_to_mouse value)
  most_command_to_mouse = record { within = within_mouse; yielded = gives success; attains = attains_mouse }

-- ---- reset

unfoldable pub most_reset_mouse : Most 721906 5 reset_mouse
unfolding reset_mouse flush_output_buffer
most_reset_mouse =
    record {
      within =
          within_then (within_mouse (Byte.MouseCommand Command.Reset))
          (λ _. within_then (within_self_test reset_reads) (λ _. within_read (λ b. within_done {r = 0} {w = 0})));
      yielded = gives success;
      attains =
          attains_then _ (attains_mouse (Byte.MouseCommand Command.Reset))
          (attains_then (λ _. flush_output_buffer) (attains_self_test 196604) (attains_read 0 (omega arith) attains_done));
    }

-- ---- settings: a command, or one and its data, with another number for its refusals

module _ (n : ℕ) (c : HostToMouseCommand) where
  abbrev pub most_as : Most command_reads 5 (refusing_as n (mouse_command c))
  most_as =
      record {
        within = within_as n (within_mouse (Byte.MouseCommand c));
        yielded = gives success;
        attains = attains_as n (attains_mouse (Byte.MouseCommand c));
      }

  abbrev pub most_data_as : (value : HostToMouseCommandOrData) → Most 1050600 10 (refusing_as n (and_then (mouse_command c) (λ _. command_to_mouse value)))
  most_data_as value =
      record {
        within = within_as n (within_then (within_mouse (Byte.MouseCommand c)) (λ _. within_mouse value));
        yielded = gives success;
        attains = attains_as n (attains_then (λ _. command_to_mouse value) (attains_mouse (Byte.MouseCommand c)) (attains_mouse value));
      }

unfoldable pub most_set_sampling_rate : (rate : MouseSampleRate) → Most 1050600 10 (set_sampling_rate rate)
unfolding set_sampling_rate
most_set_sampling_rate rate = most_data_as 15 Command.SampleRate (Byte.SampleRate rate)

pub most_set_resolution : (resolution : MouseResolution) → Most 1050600 10 (set_resolution resolution)
unfolding set_resolution
most_set_resolution resolution = most_data_as 15 Command.SetResolution (Byte.MouseResolution resolution)

unfoldable pub most_disable_packet_streaming : Most command_reads 5 disable_packet_streaming
unfolding disable_packet_streaming
most_disable_packet_streaming = most_as 16 Command.DisableDataReporting

unfoldable pub most_enable_packet_streaming : Most command_reads 5 enable_packet_streaming
unfolding enable_packet_streaming
most_enable_packet_streaming = most_as 17 Command.EnableDataReporting

-- ---- identity

-- identity 3 with the last poll
unfoldable pub most_mouse_id : Most 656370 5 mouse_id
unfolding mouse_id decode bit odd
most_mouse_id =
    record {
      within =
          within_then (within_mouse (Byte.MouseCommand Command.GetDeviceID))
          (λ _. within_repeat (within_poll_when mouse_byte_waits (listed_turn mouse_ids)) (refuses 11) poll_limit);
      yielded = gives Three;
      attains =
          attains_then _ (attains_mouse (Byte.MouseCommand Command.GetDeviceID))
          (attains_last (refuses 11) (attains_poll_when mouse_byte_waits (listed_turn mouse_ids) 0x21 0xFA tt (omega arith) (omega arith)) 65534
          (attains_poll_when mouse_byte_waits (listed_turn mouse_ids) 0x21 0x03 tt (omega arith) (omega arith)));
    }

pub most_mouse_output_buffer_full : Most 1 0 mouse_output_buffer_full
unfolding mouse_output_buffer_full read_status and_then bind bit odd
most_mouse_output_buffer_full =
    record { within = within_read (λ b. within_done); yielded = gives true; attains = attains_read 0x21 (omega arith) attains_done }
