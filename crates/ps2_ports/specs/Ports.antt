-- The registers of the controller, as operations on its
-- ports. Data is port 60; status and commands are port 64.
use Rattle.std.specs.Prelude.{ℕ}
use Rattle.exchange.specs.Exchange.{Port, p60, p64, Exchange, done, read, write}
use Rattle.exchange.specs.Answer.{Answer, gives}
use Rattle.ps2_bytes.specs.declared.command.HostToControllerCommand.{HostToControllerCommand}
use Rattle.ps2_bytes.specs.declared.command.HostToControllerCommand.TheVariants.{ReadFromInternalRAMByte0, WriteToInternalRAMByte0}
use Rattle.ps2_layouts.specs.declared.configuration.ControllerConfigurationByte.{ControllerConfigurationByte}
use Rattle.ps2_layouts.specs.declared.status.ControllerToHostStatus.{ControllerToHostStatus}
use Rattle.ps2_bytes.specs.declared.writable.WritableData.{WritableData}
use Rattle.ps2_bytes.specs.Commands.{controller_byte}
use Rattle.ps2_bytes.specs.Writable.{written}
use Rattle.ps2_answers.specs.Refusals.{Success, success}

-- One byte from a port; one byte to a port.
unfoldable pub read_port : Port → Exchange (Answer ℕ)
read_port p = read p (λ b. done (gives b))

unfoldable pub write_port : Port → ℕ → Exchange (Answer Success)
write_port p v = write p v (done (gives success))

-- One byte of data; the status; a byte of data that is dropped. None of them asks the status first.
abbrev pub read_data : Exchange (Answer ℕ)
read_data = read_port p60

unfoldable pub read_status : Exchange (Answer ControllerToHostStatus)
read_status = read p64 (λ b. done (gives (record { bits = b })))

unfoldable pub flush_output_buffer : Exchange (Answer Success)
flush_output_buffer = read p60 (λ b. done (gives success))

-- A controller command goes to port 64; a configuration or a byte for a device goes to port 60.
-- Neither asks the status first.
abbrev pub write_command : HostToControllerCommand → Exchange (Answer Success)
write_command c = write_port p64 (controller_byte c)

abbrev pub write_data : WritableData → Exchange (Answer Success)
write_data d = write_port p60 (written d)

-- The configuration byte: command 20 and one read of data; command 60 and the byte.
unfoldable pub read_config : Exchange (Answer ControllerConfigurationByte)
read_config = write p64 (controller_byte ReadFromInternalRAMByte0)
    (read p60 (λ b. done (gives (record { bits = b }))))

unfoldable pub write_config : ControllerConfigurationByte → Exchange (Answer Success)
write_config c =
    write p64 (controller_byte WriteToInternalRAMByte0) (write p60 c.bits (done (gives success)))
