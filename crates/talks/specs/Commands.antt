-- Writing, waiting, searching and the command rule, as talks.
--
use Rattle.std.specs.Prelude.{Bool, true, false, ℕ, Option, Some, None, Result, Ok, Err}
use Rattle.bits.specs.Table.{decode}
use Rattle.ps2_bytes.specs.Commands.{controller_byte}
use Rattle.ps2_bytes.specs.declared.command.HostToControllerCommand.{HostToControllerCommand}
use Rattle.ps2_bytes.specs.declared.command.HostToControllerCommand.TheVariants.{WriteByteToPort2InputBuffer}
use Rattle.ps2_bytes.specs.declared.response.DeviceToHostResponse.{DeviceToHostResponse}
use Rattle.ps2_bytes.specs.declared.response.DeviceToHostResponse.TheVariants.{KeyDetectionErrorOrInternalBufferOverrun1, SelfTestPassed, ResponseToEcho, Acknowledge, SelfTestFailed1, SelfTestFailed2, ResendCommand, KeyDetectionErrorOrInternalBufferOverrun2}
use Rattle.ps2_bytes.specs.declared.writable.HostToDevice.{HostToDevice}
use Rattle.ps2_bytes.specs.Responses.{responses}
use Rattle.ps2_bytes.specs.Writable.{to_device}
use Rattle.ps2_ports.specs.declared.DevicePort.{DevicePort}
use Rattle.ps2_ports.specs.declared.DevicePort.TheVariants.{Port1, Port2}
use Rattle.ps2_answers.specs.Refusals.{Success, success}
use Rattle.ps2_answers.specs.declared.ReadPort.{ReadPort}
use Rattle.ps2_answers.specs.declared.ReadPort.TheVariants as Port
use Rattle.ps2_answers.specs.declared.Failure.{Failure}
use Rattle.ps2_answers.specs.declared.Failure.TheVariants.{InputBufferFull, NoResponse, SelfTestFailed, NotAcknowledged, ResetFailed}
use Rattle.ps2_command.specs.Command.{attempts}
use Rattle.questions.specs.declared.Question.TheVariants.{Write, Seek, Attempt}
use Rattle.questions.specs.declared.Sought.{Sought}
use Rattle.questions.specs.declared.Sought.TheVariants.{Byte, Data, Status}
use Rattle.talks.specs.declared.Stop.{Stop}
use Rattle.talks.specs.Heard.{said}
use Rattle.talks.specs.Talk.{Talk, tells, asks, next, attempting}

-- A write.
unfoldable pub write : ReadPort → ℕ → Talk Success
write p v = next (asks (Write p v)) (λ _. tells (Ok success))

abbrev pub write_command : HostToControllerCommand → Talk Success
write_command c = write Port.Status (controller_byte c)

-- A wait with so many turns behind its first, which fails where no turn finds what is sought.
abbrev pub or_fails : Failure → Option ℕ → Result ℕ Failure
or_fails f None = Err f
or_fails f (Some b) = Ok b

unfoldable pub seek : Sought → ℕ → Failure → Talk ℕ
seek s further f = next (asks (Seek s further)) (λ r. tells (or_fails f r))

-- One read of data, and one of the status, whatever it brings; neither fails.
abbrev pub read_data : Talk ℕ
read_data = seek Data 0 NoResponse

abbrev pub read_status : Talk ℕ
read_status = seek Status 0 NoResponse

-- "FA and AA succeed, FC and FD give 6; FE, 00, EE and FF try again."
abbrev pub verdict : DeviceToHostResponse → Result Bool Failure
verdict Acknowledge = Ok true
verdict SelfTestPassed = Ok true
verdict SelfTestFailed1 = Err SelfTestFailed
verdict SelfTestFailed2 = Err SelfTestFailed
verdict ResendCommand = Ok false
verdict KeyDetectionErrorOrInternalBufferOverrun1 = Ok false
verdict ResponseToEcho = Ok false
verdict KeyDetectionErrorOrInternalBufferOverrun2 = Ok false

-- What the reply to an attempt says. "Sending: was bit 1 of the status clear in one of 255 status
-- reads? 4" "Receiving: did one of 65,535 polls bring 00, AA, EE, FA, FC, FD, FE or FF? 5"
abbrev pub attempt_told : Option ℕ → Result Bool Failure
attempt_told None = Err NoResponse
attempt_told (Some b) = decode verdict (Err InputBufferFull) responses b

unfoldable pub attempt : HostToDevice → Talk Bool
attempt value = next (asks (Attempt (to_device value))) (λ r. tells (attempt_told r))

-- "Did one of four attempts bring FA or AA? 7"
unfoldable pub command : HostToDevice → Talk Success
command value = attempting attempts NotAcknowledged (attempt value)

-- "The mouse's D4 goes to port 64 once, before the attempts."
unfoldable pub command_by : DevicePort → HostToDevice → Talk Success
command_by Port1 value = command value
command_by Port2 value = next (write_command WriteByteToPort2InputBuffer) (λ _. command value)

-- Two commands to a device, the second only where the first was accepted.
unfoldable pub command_pair : DevicePort → HostToDevice → HostToDevice → Talk Success
command_pair port first second = next (command_by port first) (λ _. command_by port second)

-- "Reset: did AA come within so many data reads? 10"
unfoldable pub self_test : ℕ → Talk Success
self_test further = next (seek (Byte 0xAA) further ResetFailed) (λ _. tells (Ok success))

-- What the code's parts say.
abbrev pub verdict_said : DeviceToHostResponse → Result Bool Stop
verdict_said r = said (verdict r)

abbrev pub attempt_said : Option ℕ → Result Bool Stop
attempt_said r = said (attempt_told r)
