-- The command rule: one byte to a device, in up to four attempts.
use Rattle.std.specs.Prelude.{ℕ, Bool, true, false, Result, Ok, Err}
use Rattle.exchange.specs.Exchange.{Exchange, done, bind}
use Rattle.exchange.specs.Answer.{Answer, gives, refuses, and_then}
use Rattle.exchange.specs.Repeat.{Turn, found, again, repeat}
use Rattle.ps2_bytes.specs.declared.command.HostToControllerCommand.TheVariants.{WriteByteToPort2InputBuffer}
use Rattle.ps2_bytes.specs.declared.response.DeviceToHostResponse.{DeviceToHostResponse}
use Rattle.ps2_bytes.specs.declared.response.DeviceToHostResponse.TheVariants.{KeyDetectionErrorOrInternalBufferOverrun1, SelfTestPassed, ResponseToEcho, Acknowledge, SelfTestFailed1, SelfTestFailed2, ResendCommand, KeyDetectionErrorOrInternalBufferOverrun2}
use Rattle.ps2_bytes.specs.declared.writable.HostToDevice.{HostToDevice}
use Rattle.ps2_ports.specs.declared.DevicePort.{DevicePort}
use Rattle.ps2_ports.specs.declared.DevicePort.TheVariants.{Port1, Port2}
use Rattle.ps2_answers.specs.Refusals.{Success, success, number_of}
use Rattle.ps2_answers.specs.declared.Failure.{Failure}
use Rattle.ps2_ports.specs.Ports.{write_command}
use Rattle.ps2_polling.specs.Polling.{polling_send_receive}

-- "FA and AA succeed, FC and FD give 6; FE, 00, EE and FF try again."
abbrev pub verdict : DeviceToHostResponse → Turn (Answer Success)
verdict Acknowledge = found (gives success)
verdict SelfTestPassed = found (gives success)
verdict SelfTestFailed1 = found (refuses 6)
verdict SelfTestFailed2 = found (refuses 6)
verdict ResendCommand = again
verdict KeyDetectionErrorOrInternalBufferOverrun1 = again
verdict ResponseToEcho = again
verdict KeyDetectionErrorOrInternalBufferOverrun2 = again

-- "4 and 5 end it without a further attempt."
abbrev pub settled : Answer DeviceToHostResponse → Turn (Answer Success)
settled (gives response) = verdict response
settled (refuses n) = found (refuses n)

-- "four attempts in all"
abbrev pub attempts : ℕ
attempts = 4

-- "One attempt sends, then receives."
unfoldable pub attempt : HostToDevice → Exchange (Turn (Answer Success))
attempt value = bind (polling_send_receive value) (λ a. done (settled a))

-- "Did one of four attempts bring FA or AA? 7" To the device of the first port.
unfoldable pub command : HostToDevice → Exchange (Answer Success)
command value = repeat attempts (refuses 7) (attempt value)

-- "A keyboard command makes at most 525,300 reads and 4 writes, a mouse
-- command as many reads and 5 writes": four attempts, each a sending of
-- 255 status reads and a receiving of 65,535 polls of two reads.
abbrev pub command_reads : ℕ
command_reads = 525300

-- "The mouse's D4 goes to port 64 once, before the attempts." To the device of the second port.
unfoldable pub command_to_port2 : HostToDevice → Exchange (Answer Success)
command_to_port2 value = and_then (write_command WriteByteToPort2InputBuffer) (λ _. command value)

-- A byte for the device of either port.
abbrev pub command_by : DevicePort → HostToDevice → Exchange (Answer Success)
command_by Port1 value = command value
command_by Port2 value = command_to_port2 value

-- What the code's attempt is worth: it is accepted, or another is to be made.
abbrev pub accepted : Bool → Turn (Answer Success)
accepted true = found (gives success)
accepted false = again

-- What the code says of a response.
abbrev pub said_verdict : Result Bool Failure → Turn (Answer Success)
said_verdict (Ok b) = accepted b
said_verdict (Err f) = found (refuses (number_of f))
