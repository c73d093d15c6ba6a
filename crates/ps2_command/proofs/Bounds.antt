-- The most reads and writes of a command (525,300 and 4, or 5 where D4 goes before it) and of the search for AA.
use Prim.Native.Nat.{ℕ, suc, ◌+◌, ◌*◌, ◌<◌}
use native.Mathlib.Omega.{arith}
use mathlib.Core.Bool.{Bool, true, false, cond}
use mathlib.Core.Path.{refl}
use lib.Dec.{T}
use Rattle.bits.specs.Table.{decode}
use Rattle.exchange.specs.Exchange.{p60, done, read}
use Rattle.exchange.specs.Answer.{gives, refuses}
use Rattle.exchange.specs.Attains.{Attains, attains_done, attains_read, attains_write}
use Rattle.exchange.specs.Bounds.{Within, within_done, within_read, within_write}
use Rattle.exchange.specs.Repeat.{Turn, again}
use Rattle.exchange.proofs.Attains.{attains_last}
use Rattle.exchange.proofs.Bounds.{within_repeat, within_more}
use Rattle.exchange.proofs.Then.{on_cond, within_then, attains_then, within_told, attains_told}
use Rattle.ps2_bytes.specs.declared.response.DeviceToHostResponse.TheVariants.{Acknowledge, ResendCommand}
use Rattle.ps2_bytes.specs.declared.writable.HostToDevice.{HostToDevice}
use Rattle.ps2_answers.specs.Refusals.{success}
use Rattle.ps2_ports.specs.Ports.{write_port}
use Rattle.ps2_ports.specs.declared.DevicePort.{DevicePort}
use Rattle.ps2_ports.specs.declared.DevicePort.TheVariants.{Port1, Port2}
use Rattle.ps2_polling.proofs.Bounds.{within_send_receive}
use Rattle.ps2_polling.proofs.Attained.{attains_send_receive}
use Rattle.ps2_command.specs.Command.{command_reads, settled, attempts, attempt, command, command_to_port2, command_by}
use Rattle.ps2_command.specs.Search.{poll_when, self_test_within}

module _ (value : HostToDevice) where
  pub within_command : Within command_reads 4 (command value)
  unfolding command attempt
  within_command = within_repeat (within_told (λ a. settled a) (within_send_receive value)) (refuses 7) attempts

  -- FE three times and then FA, each with the last poll
  pub attains_command : Attains (gives success) command_reads 4 (command value)
  unfolding command attempt decode
  attains_command =
      attains_last (refuses 7) (attains_told (λ a. settled a) (attains_send_receive value 0xFE (omega arith) ResendCommand refl)) 3
      (attains_told (λ a. settled a) (attains_send_receive value 0xFA (omega arith) Acknowledge refl))

  pub within_command_to_port2 : Within command_reads 5 (command_to_port2 value)
  unfolding command_to_port2 write_port
  within_command_to_port2 = within_then (within_write {r = 0} {w = 0} within_done) (λ _. within_command)

  pub attains_command_to_port2 : Attains (gives success) command_reads 5 (command_to_port2 value)
  unfolding command_to_port2 write_port
  attains_command_to_port2 = attains_then (λ _. command value) (attains_write attains_done) attains_command

-- to either port
pub within_command_by : (port : DevicePort) (value : HostToDevice) → Within command_reads 5 (command_by port value)
within_command_by Port1 value = within_more (within_command value) command_reads 5 (omega arith) (omega arith)
within_command_by Port2 value = within_command_to_port2 value

-- ---- the self test's AA: as many reads as are allowed

pub within_self_test : (n : ℕ) → Within (n * 1) (n * 0) (self_test_within n)
unfolding self_test_within
within_self_test n = within_repeat (within_read (λ b. within_done {r = 0} {w = 0})) (refuses 10) n

pub attains_self_test : (n : ℕ) → Attains (gives success) (n * 1 + 1) (n * 0 + 0) (self_test_within (suc n))
unfolding self_test_within
attains_self_test n = attains_last (refuses 10) (attains_read 0 (omega arith) attains_done) n (attains_read 0xAA (omega arith) attains_done)

-- ---- polls: 2 reads each

module _ {A : Type 0} (ready : ℕ → Bool) (worth : ℕ → Turn A) where
  pub within_poll_when : Within 2 0 (poll_when ready worth)
  unfolding poll_when
  within_poll_when = within_read (λ s. on_cond (λ x. Within {A = Turn A} 1 0 x) (ready s) (within_read (λ b. within_done)) within_done)

  -- a poll that brings the byte b
  pub attains_poll_when : (status b : ℕ) → T (ready status) → status < 256 → b < 256 → Attains (worth b) 2 0 (poll_when ready worth)
  unfolding poll_when
  attains_poll_when status b t h k = attains_read status h (there (ready status) t)
    where
      there : (ok : Bool) → T ok → Attains (worth b) 1 0 (cond ok (read p60 (λ b. done (worth b))) (done again))
      there true t = attains_read b k attains_done
      there false t = absurd t
