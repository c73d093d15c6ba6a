-- Polling: sending a byte to a device, receiving a response,
-- and the controller's tests, as operations on the ports.
use Rattle.std.specs.Prelude.{cond, ℕ, eqb, Option, Some, None}
use Rattle.bits.specs.Bits.{bit}
use Rattle.bits.specs.Table.{decode}
use Rattle.exchange.specs.Exchange.{p60, p64, Exchange, done, read, write}
use Rattle.exchange.specs.Answer.{Answer, gives, refuses, and_then}
use Rattle.exchange.specs.Repeat.{Turn, found, again, repeat}
use Rattle.ps2_bytes.specs.declared.command.HostToControllerCommand.TheVariants.{TestController}
use Rattle.ps2_bytes.specs.declared.command.HostToControllerCommand.{HostToControllerCommand}
use Rattle.ps2_bytes.specs.declared.response.DeviceToHostResponse.{DeviceToHostResponse}
use Rattle.ps2_bytes.specs.declared.response.PortTestResult.TheVariants.{Passed}
use Rattle.ps2_bytes.specs.declared.writable.HostToDevice.{HostToDevice}
use Rattle.ps2_bytes.specs.Responses.{responses, port_test_result_byte}
use Rattle.ps2_layouts.specs.Status.{output_buffer_full, input_buffer_full}
use Rattle.ps2_bytes.specs.Writable.{to_device}
use Rattle.ps2_answers.specs.Refusals.{Success, success}
use Rattle.ps2_ports.specs.Ports.{write_command}
use Rattle.ps2_polling.specs.declared.Waiting.{Waiting}

-- The limits: 255 status reads of a sending; 65,535 polls
-- of a receiving, and data reads of the controller's test.
abbrev pub send_tries : ℕ
send_tries = 255

abbrev pub poll_limit : ℕ
poll_limit = 65535

-- "Sending: was bit 1 of the status clear in one of 255 status reads? 4" The byte goes to port 60
-- as soon as the input buffer is empty.
unfoldable pub send_try : ℕ → Exchange (Turn (Answer Success))
send_try byte = read p64 (λ status.
    cond (bit input_buffer_full status) (done again)
    (write p60 byte (done (found (gives success)))))

unfoldable pub polling_send : HostToDevice → Exchange (Answer Success)
polling_send value = repeat send_tries (refuses 4) (send_try (to_device value))

-- A read of data; what the byte is worth decides whether the repetition is over.
abbrev pub data_turn : {A : Type 0} → (ℕ → Turn A) → Exchange (Turn A)
data_turn worth = read p60 (λ b. done (worth b))

-- "A poll reads the status; if bit 0 is set it reads data."
-- An unlisted byte is thrown away and uses up the poll.
unfoldable pub poll : {A : Type 0} → (ℕ → Turn A) → Exchange (Turn A)
poll worth =
    read p64 (λ status. cond (bit output_buffer_full status) (data_turn worth) (done again))

-- The poll by itself: whatever byte it brings ends it.
abbrev pub poll_data : Exchange (Turn (Answer ℕ))
poll_data = poll (λ b. found (gives b))

-- A turn of a wait, by how the byte is waited for.
abbrev pub turn_of : {A : Type 0} → Waiting → (ℕ → Turn A) → Exchange (Turn A)
turn_of Waiting.Polls worth = poll worth
turn_of Waiting.DataReads worth = data_turn worth

-- "Receiving: did one of 65,535 polls bring 00, AA, EE, FA, FC, FD, FE or FF? 5"
abbrev pub response_turn : ℕ → Turn (Answer DeviceToHostResponse)
response_turn b = decode (λ r. found (gives r)) again responses b

unfoldable pub polling_receive : Exchange (Answer DeviceToHostResponse)
polling_receive = repeat poll_limit (refuses 5) (poll response_turn)

-- "One attempt sends, then receives."
unfoldable pub polling_send_receive : HostToDevice → Exchange (Answer DeviceToHostResponse)
polling_send_receive value = and_then (polling_send value) (λ _. polling_receive)

-- "Did 55 come within 65,535 data reads of the controller test? 8"
abbrev pub controller_test_passed : ℕ
controller_test_passed = 0x55

abbrev pub passed_turn : ℕ → ℕ → Turn (Answer Success)
passed_turn good b = cond (eqb b good) (found (gives success)) again

unfoldable pub controller_test_result : Exchange (Answer Success)
controller_test_result =
    repeat poll_limit (refuses 8) (data_turn (passed_turn controller_test_passed))

unfoldable pub test_controller : Exchange (Answer Success)
test_controller = and_then (write_command TestController) (λ _. controller_test_result)

-- "Port test: did 00 come within 65,535 polls? 9"
unfoldable pub port_test_result : Exchange (Answer Success)
port_test_result = repeat poll_limit (refuses 9) (poll (passed_turn (port_test_result_byte Passed)))

unfoldable pub test_port : HostToControllerCommand → Exchange (Answer Success)
test_port command = and_then (write_command command) (λ _. port_test_result)

-- What one poll is worth by itself: the byte that it brought ends it.
abbrev pub polled : Option ℕ → Turn (Answer ℕ)
polled None = again
polled (Some b) = found (gives b)
