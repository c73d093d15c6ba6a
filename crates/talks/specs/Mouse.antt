-- The mouse's operations as talks.
use Rattle.std.specs.Prelude.{Bool, ℕ, Result, Ok, Err}
use Rattle.bits.specs.Table.{decode}
use Rattle.ps2_bytes.specs.Responses.{mouse_ids}
use Rattle.ps2_bytes.specs.declared.command.HostToMouseCommand.{HostToMouseCommand}
use Rattle.ps2_bytes.specs.declared.command.HostToMouseCommand.TheVariants as Command
use Rattle.ps2_bytes.specs.declared.data.MouseResolution.{MouseResolution}
use Rattle.ps2_bytes.specs.declared.data.MouseSampleRate.{MouseSampleRate}
use Rattle.ps2_bytes.specs.declared.data.MouseSampleRate.TheVariants.{_80, _100, _200}
use Rattle.ps2_bytes.specs.declared.response.MouseId.{MouseId}
use Rattle.ps2_bytes.specs.declared.response.MouseId.TheVariants.{Zero, Three, Four}
use Rattle.ps2_bytes.specs.declared.writable.HostToDevice.TheVariants.{Mouse}
use Rattle.ps2_bytes.specs.declared.writable.HostToMouseCommandOrData.{HostToMouseCommandOrData}
use Rattle.ps2_bytes.specs.declared.writable.HostToMouseCommandOrData.TheVariants as Byte
use Rattle.ps2_ports.specs.declared.DevicePort.TheVariants.{Port2}
use Rattle.ps2_answers.specs.Refusals.{Success, success}
use Rattle.ps2_answers.specs.declared.Failure.{Failure}
use Rattle.ps2_answers.specs.declared.Failure.TheVariants.{NoSetOrIdentity, FirstIdentityFour, RateOrResolutionNotSet, PacketsNotStopped, PacketsNotStarted}
use Rattle.ps2_mouse.specs.Mouse.{mouse_byte_waits}
use Rattle.ps2_packet.specs.declared.SignedPacket.{SignedPacket}
use Rattle.ps2_packet.specs.declared.MousePacket.TheVariants as Packet
use Rattle.ps2_packet.specs.Packet.{generic, packet3, packet4, signed_packet}
use Rattle.questions.specs.Asked.{further_polls}
use Rattle.questions.specs.declared.Sought.TheVariants.{MouseIdentity}
use Rattle.talks.specs.declared.Stop.{Stop}
use Rattle.talks.specs.declared.mouse.IdentityLeft.{IdentityLeft}
use Rattle.talks.specs.Talk.{Talk, tells, next, failing_as, trying}
use Rattle.talks.specs.Heard.{said}
use Rattle.talks.specs.Commands.{seek, read_data, read_status, command_by, command_pair, self_test}

-- One of its commands.
abbrev pub mouse_command : HostToMouseCommand → Talk Success
mouse_command c = command_by Port2 (Mouse (Byte.MouseCommand c))

-- "Reset sends FF by the command rule, then reads without status until a further AA; the mouse
-- reads one byte more and drops it."
unfoldable pub reset_mouse : Talk Success
reset_mouse = next (mouse_command Command.Reset)
    (λ _. next (self_test 196604) (λ _. next read_data (λ _. tells (Ok success))))

-- "Did setting the sampling rate (F3, rate) or the resolution (E8, 0 to 3) succeed? 15"
unfoldable pub setting : HostToMouseCommand → HostToMouseCommandOrData → Talk Success
setting c byte = failing_as RateOrResolutionNotSet
    (command_pair Port2 (Mouse (Byte.MouseCommand c)) (Mouse byte))

unfoldable pub set_sampling_rate : MouseSampleRate → Talk Success
set_sampling_rate rate = setting Command.SampleRate (Byte.SampleRate rate)

unfoldable pub set_resolution : MouseResolution → Talk Success
set_resolution resolution = setting Command.SetResolution (Byte.MouseResolution resolution)

-- "Stopping packets? 16. Starting them? 17"
unfoldable pub disable_packet_streaming : Talk Success
disable_packet_streaming = failing_as PacketsNotStopped (mouse_command Command.DisableDataReporting)

unfoldable pub enable_packet_streaming : Talk Success
enable_packet_streaming = failing_as PacketsNotStarted (mouse_command Command.EnableDataReporting)

-- F2; "Did the .. mouse identity (0, 3, 4) come within 65,535 polls? 11"
abbrev pub identity_given : ℕ → Result MouseId Failure
identity_given b = decode Ok (Err NoSetOrIdentity) mouse_ids b

unfoldable pub mouse_id : Talk MouseId
mouse_id = next (mouse_command Command.GetDeviceID)
    (λ _. next (seek MouseIdentity further_polls NoSetOrIdentity) (λ b. tells (identity_given b)))

-- Whether there is a byte of the mouse to read.
unfoldable pub mouse_waits : Talk Bool
mouse_waits = next read_status (λ status. tells (Ok (mouse_byte_waits status)))

-- "A packet is 3 bytes at identity 0, 4 at 3 and 4, read
-- without asking the status." Its wheel is signed.
abbrev pub after_three : MouseId → ℕ → ℕ → ℕ → Talk SignedPacket
after_three Zero b1 b2 b3 = tells (Ok (signed_packet (Packet.Zero (generic b1 b2 b3))))
after_three Three b1 b2 b3 =
    next read_data (λ b4. tells (Ok (signed_packet (Packet.Three (packet3 b1 b2 b3 b4)))))
after_three Four b1 b2 b3 =
    next read_data (λ b4. tells (Ok (signed_packet (Packet.Four (packet4 b1 b2 b3 b4)))))

unfoldable pub read_packet : MouseId → Talk SignedPacket
read_packet id = next read_data (λ b1. next read_data (λ b2. next read_data (after_three id b1 b2)))

-- ---- `set_mouse_id`

-- Three rates, one after another.
unfoldable pub set_rates : MouseSampleRate → MouseSampleRate → MouseSampleRate → Talk Success
set_rates a b c = next (set_sampling_rate a)
    (λ _. next (set_sampling_rate b) (λ _. next (set_sampling_rate c) (λ _. tells (Ok success))))

-- Rates, and then the identity, if it could be read.
unfoldable pub identity_after : MouseSampleRate → MouseSampleRate → MouseSampleRate
    → Talk (Result MouseId Failure)
identity_after a b c = next (set_rates a b c) (λ _. trying mouse_id)

abbrev pub read_or : MouseId → Result MouseId Failure → MouseId
read_or old (Ok id) = id
read_or old (Err f) = old

unfoldable pub button_identity : MouseId → Talk MouseId
button_identity old =
    next (identity_after _200 _200 _80) (λ second. tells (Ok (read_or old second)))

-- "A failed first identity is forgiven. It, and a first identity of 0,
-- leave the record's identity as it was. On 3: rates 200, 200, 80,
-- identity." "Was the first identity in `set_mouse_id` other than 4? 13"
abbrev pub after_first : MouseId → Result MouseId Failure → Talk MouseId
after_first old (Err f) = tells (Ok old)
after_first old (Ok Zero) = tells (Ok old)
after_first old (Ok Three) = button_identity old
after_first old (Ok Four) = tells (Err FirstIdentityFour)

-- "F5; rates 200, 100, 80; identity (F2)", and what follows
-- it: the identity that the mouse is to have.
unfoldable pub new_identity : MouseId → Talk MouseId
new_identity old =
    next disable_packet_streaming (λ _. next (identity_after _200 _100 _80) (after_first old))

-- "Then F4." "After 17 the mouse has the identity that success
-- would have left; after 13, 15 and 16 the one it had."
abbrev pub identity_left : Result Success Failure → MouseId → IdentityLeft
identity_left answer id = record { answer = answer; id = id }

abbrev pub start_packets : MouseId → Result MouseId Failure → Talk IdentityLeft
start_packets old (Ok id) =
    next (trying enable_packet_streaming) (λ started. tells (Ok (identity_left started id)))
start_packets old (Err f) = tells (Ok (identity_left (Err f) old))

unfoldable pub new_identity_tried : MouseId → Talk (Result MouseId Failure)
new_identity_tried old = trying (new_identity old)

unfoldable pub set_mouse_id : MouseId → Talk IdentityLeft
set_mouse_id old = next (new_identity_tried old) (start_packets old)

-- What the code's part says.
abbrev pub identity_said : ℕ → Result MouseId Stop
identity_said b = said (identity_given b)
