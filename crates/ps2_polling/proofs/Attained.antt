-- Polling and the controller's tests can take their most reads and writes and still succeed: what is waited for comes with the last turn.
use Prim.Native.Nat.{ℕ, ◌<◌}
use native.Mathlib.Omega.{arith}
use mathlib.Core.Path.{◌≡◌}
use Rattle.bits.specs.Bits.{bit, odd}
use Rattle.bits.specs.Table.{decode}
use Rattle.exchange.specs.Answer.{gives, refuses}
use Rattle.exchange.specs.Attains.{Attains, attains_done, attains_read, attains_write}
use Rattle.exchange.specs.Repeat.{Turn, found, again}
use Rattle.exchange.proofs.Attains.{attains_last}
use Rattle.exchange.proofs.Then.{attains_then}
use Rattle.ps2_bytes.specs.declared.command.HostToControllerCommand.{HostToControllerCommand}
use Rattle.ps2_bytes.specs.declared.response.DeviceToHostResponse.{DeviceToHostResponse}
use Rattle.ps2_bytes.specs.declared.writable.HostToDevice.{HostToDevice}
use Rattle.ps2_bytes.specs.declared.command.HostToControllerCommand.TheVariants.{TestController}
use Rattle.ps2_bytes.specs.declared.response.PortTestResult.TheVariants.{Passed}
use Rattle.ps2_bytes.specs.Responses.{port_test_result_byte}
use Rattle.ps2_bytes.specs.Writable.{to_device}
use Rattle.ps2_answers.specs.Refusals.{success}
use Rattle.ps2_ports.specs.Ports.{write_port, write_command}
use Rattle.ps2_polling.specs.Polling.{send_try, polling_send, poll, response_turn, polling_receive, polling_send_receive, controller_test_passed, passed_turn, controller_test_result, test_controller, port_test_result, test_port}

-- ---- sending: 255 reads and 1 write

module _ (v : ℕ) where
  attains_busy : Attains again 1 0 (send_try v)
  unfolding send_try bit odd
  attains_busy = attains_read 2 (omega arith) attains_done

  attains_sent : Attains (found (gives success)) 1 1 (send_try v)
  unfolding send_try bit odd
  attains_sent = attains_read 0 (omega arith) (attains_write attains_done)

module _ (value : HostToDevice) where
  pub attains_send : Attains (gives success) 255 1 (polling_send value)
  unfolding polling_send
  attains_send = attains_last (refuses 4) (attains_busy (to_device value)) 254 (attains_sent (to_device value))

-- ---- polls: 2 reads each

module _ {A : Type 0} (worth : ℕ → Turn A) where
  -- a poll that brings the byte b
  pub attains_poll : (b : ℕ) → b < 256 → Attains (worth b) 2 0 (poll worth)
  unfolding poll bit odd
  attains_poll b h = attains_read 1 (omega arith) (attains_read b h attains_done)

-- ---- receiving: 65,535 polls

-- each listed byte can come with the last poll; before it a byte of no meaning, 01
pub attains_receive : (b : ℕ) → b < 256 → (r : DeviceToHostResponse) → response_turn b ≡ found (gives r) → Attains (gives r) 131070 0 polling_receive
unfolding polling_receive decode
attains_receive b h r e = attains_last (refuses 5) (attains_poll response_turn 1 (omega arith)) 65534 (rw e at (attains_poll response_turn b h))

module _ (value : HostToDevice) where
  pub attains_send_receive : (b : ℕ) → b < 256 → (r : DeviceToHostResponse) → response_turn b ≡ found (gives r) → Attains (gives r) 131325 1 (polling_send_receive value)
  unfolding polling_send_receive
  attains_send_receive b h r e = attains_then (λ _. polling_receive) (attains_send value) (attains_receive b h r e)

-- ---- the controller's tests

attains_command : (c : HostToControllerCommand) → Attains (gives success) 0 1 (write_command c)
unfolding write_port
attains_command c = attains_write attains_done

pub attains_test : Attains (gives success) 65535 1 test_controller
unfolding test_controller controller_test_result
attains_test =
    attains_then (λ _. controller_test_result) (attains_command TestController)
    (attains_last (refuses 8) (attains_read 0 (omega arith) attains_done) 65534 (attains_read controller_test_passed (omega arith) attains_done))

module _ (command : HostToControllerCommand) where
  pub attains_test_port : Attains (gives success) 131070 1 (test_port command)
  unfolding test_port port_test_result
  attains_test_port =
      attains_then (λ _. port_test_result) (attains_command command)
      (attains_last (refuses 9) (attains_poll (passed_turn (port_test_result_byte Passed)) 1 (omega arith)) 65534 (attains_poll (passed_turn (port_test_result_byte Passed)) 0 (omega arith)))
