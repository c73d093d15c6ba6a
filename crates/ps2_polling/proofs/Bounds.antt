-- The most reads and writes of sending, receiving and the tests, and scripts that reach them.
use mathlib.Core.Bool.{Bool, true, false, cond}
use Prim.Native.Nat.{ℕ, zero, suc, ◌+◌}
use mathlib.Core.List.{List, [], ◌∷◌, ◌++◌}
use mathlib.Core.Path.{◌≡◌, refl, ◌∙◌}
use Rattle.bits.specs.Bits.{bit, odd}
use Rattle.bits.specs.Table.{decode}
use Rattle.exchange.specs.Exchange.{p60, Exchange, done, write, bind, yields, played, play}
use Rattle.exchange.specs.Answer.{Answer, gives, refuses, on_given, and_then}
use Rattle.exchange.specs.Bounds.{Within, within_done, within_read, within_write}
use Rattle.exchange.specs.Repeat.{Turn, found, again, turned, repeat, times}
use Rattle.exchange.proofs.Bounds.{within_bind, within_repeat}
use Rattle.exchange.proofs.Longer.{play-append}
use Rattle.exchange.proofs.Silence.{repeat_attains_reads}
use Rattle.ps2_bytes.specs.Commands.{controller_byte}
use Rattle.ps2_bytes.specs.Responses.{port_test_result_byte}
use Rattle.ps2_bytes.specs.declared.response.PortTestResult.TheVariants.{Passed}
use Rattle.ps2_layouts.specs.Status.{input_buffer_full, output_buffer_full}
use Rattle.ps2_bytes.specs.Writable.{to_device}
use Rattle.ps2_bytes.specs.declared.command.HostToControllerCommand.{HostToControllerCommand}
use Rattle.ps2_bytes.specs.declared.command.HostToControllerCommand.TheVariants.{TestController}
use Rattle.ps2_bytes.specs.declared.writable.HostToDevice.{HostToDevice}
use Rattle.ps2_answers.specs.Refusals.{Success, success}
use Rattle.ps2_ports.specs.Ports.{write_port, write_command}
use Rattle.ps2_polling.specs.Polling.{send_tries, poll_limit, send_try, polling_send, data_turn, poll, response_turn, polling_receive, polling_send_receive, controller_test_passed, passed_turn, controller_test_result, test_controller, port_test_result, test_port}

-- ---- sending: each try reads one status, and the write ends it

within_try : (byte n : ℕ) (full : Bool) (rest : Exchange (Answer Success)) → Within n 1 rest
    → Within n 1 (bind (cond full (done again) (write p60 byte (done (found (gives success))))) (λ r. turned r rest))
unfolding bind
within_try byte n true rest h = h
within_try byte n false rest h = within_write within_done

within_tries : (byte n : ℕ) → Within n 1 (repeat n (refuses 4) (send_try byte))
unfolding send_try repeat bind
within_tries byte zero = within_done
within_tries byte (suc n) = within_read (λ status. within_try byte n (bit input_buffer_full status) (repeat n (refuses 4) (send_try byte)) (within_tries byte n))

pub within_send : (value : HostToDevice) → Within 255 1 (polling_send value)
unfolding polling_send
within_send value = within_tries (to_device value) send_tries

-- ---- polling: at most two reads to a poll

within_data : {A : Type 0} (worth : ℕ → Turn A) (full : Bool) → Within 1 0 (cond full (data_turn worth) (done again))
within_data worth true = within_read (λ b. within_done)
within_data worth false = within_done

pub within_poll : {A : Type 0} (worth : ℕ → Turn A) → Within 2 0 (poll worth)
unfolding poll
within_poll worth = within_read (λ status. within_data worth (bit output_buffer_full status))

pub within_receive : Within 131070 0 polling_receive
unfolding polling_receive
within_receive = within_repeat (within_poll response_turn) (refuses 5) poll_limit

within_port_result : Within 131070 0 port_test_result
unfolding port_test_result
within_port_result = within_repeat (within_poll (passed_turn (port_test_result_byte Passed))) (refuses 9) poll_limit

pub within_controller_result : Within 65535 0 controller_test_result
unfolding controller_test_result
within_controller_result = within_repeat (within_data (passed_turn controller_test_passed) true) (refuses 8) poll_limit

-- ---- one after the other

within_given : {A B : Type 0} {r w r' w' : ℕ} {t : Exchange (Answer A)} {rest : Exchange (Answer B)} → Within r w t → Within r' w' rest
    → Within (r + r') (w + w') (and_then t (λ _. rest))
unfolding and_then
within_given {A = A} {r' = r'} {w' = w'} {rest = rest} h k = within_bind h on_answer
  where
    on_answer : (a : Answer A) → Within r' w' (on_given (λ _. rest) a)
    on_answer (gives a) = k
    on_answer (refuses n) = within_done

within_command : (c : HostToControllerCommand) → Within 0 1 (write_command c)
unfolding write_port
within_command c = within_write within_done

pub within_send_receive : (value : HostToDevice) → Within (255 + 131070) 1 (polling_send_receive value)
unfolding polling_send_receive
within_send_receive value = within_given (within_send value) within_receive

pub within_test : Within 65535 1 test_controller
unfolding test_controller
within_test = within_given (within_command TestController) within_controller_result

pub within_test_port : (c : HostToControllerCommand) → Within 131070 1 (test_port c)
unfolding test_port
within_test_port c = within_given (within_command c) within_port_result

-- ---- the bounds are reached

-- 254 busy status bytes, then one that lets the byte be written
abbrev late_ready : List ℕ
late_ready = times 254 (0x02 ∷ []) ++ (0x00 ∷ [])

pub send_attains : (value : HostToDevice) → play (polling_send value) late_ready (0 ∷ 0 ∷ []) ≡ played (yields (gives success)) 255 1 (0x60 ∷ to_device value ∷ [])
unfolding polling_send send_try repeat bind play bit odd
send_attains value = refl

-- 65,535 polls, each of which brings a byte that is no response, 01
pub receive_attains : play polling_receive (times 65535 (0x01 ∷ 0x01 ∷ [])) [] ≡ played (yields (refuses 5)) 131070 0 []
unfolding polling_receive poll play decode bit odd
receive_attains = repeat_attains_reads (poll response_turn) (refuses 5) (0x01 ∷ 0x01 ∷ []) 2 refl refl 65535

pub send_receive_attains : (value : HostToDevice)
    → play (polling_send_receive value) (late_ready ++ times 65535 (0x01 ∷ 0x01 ∷ [])) (0 ∷ 0 ∷ []) ≡ played (yields (refuses 5)) 131325 1 (0x60 ∷ to_device value ∷ [])
unfolding polling_send_receive and_then
send_receive_attains value =
    play-append (polling_send value) (on_given (λ (_ : Success). polling_receive)) late_ready (0 ∷ 0 ∷ []) (0x60 ∷ to_device value ∷ []) 255 1 (send_attains value) refl refl (times 65535 (0x01 ∷ 0x01 ∷ [])) []
    ∙ rw receive_attains

-- 65,535 data bytes other than 55
pub test_attains : play test_controller (times 65535 (0x00 ∷ [])) (0 ∷ 0 ∷ []) ≡ played (yields (refuses 8)) 65535 1 (0x64 ∷ 0xAA ∷ [])
unfolding test_controller controller_test_result and_then write_port bind play
test_attains = rw (repeat_attains_reads (data_turn (passed_turn controller_test_passed)) (refuses 8) (0x00 ∷ []) 1 refl refl 65535)

-- 65,535 polls, each of which brings a byte other than 00
pub test_port_attains : (c : HostToControllerCommand)
    → play (test_port c) (times 65535 (0x01 ∷ 0x01 ∷ [])) (0 ∷ 0 ∷ []) ≡ played (yields (refuses 9)) 131070 1 (0x64 ∷ controller_byte c ∷ [])
unfolding test_port port_test_result and_then write_port poll bind play bit odd
test_port_attains c = rw (repeat_attains_reads (poll (passed_turn (port_test_result_byte Passed))) (refuses 9) (0x01 ∷ 0x01 ∷ []) 2 refl refl 65535)
