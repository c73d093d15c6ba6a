-- What polling and the controller's tests refuse with, and what they write.
use Prim.Native.Nat.{ℕ}
use mathlib.Core.List.{List, [], ◌∷◌}
use mathlib.Core.Path.{◌≡◌, refl}
use lib.Dec.{eqb}
use Rattle.bits.specs.Bits.{bit}
use Rattle.bits.specs.Table.{decode}
use Rattle.exchange.specs.Exchange.{Port, p60}
use Rattle.exchange.specs.Answer.{Answer, gives, refuses}
use Rattle.exchange.specs.Only.{Only, only_done, only_read, only_write}
use Rattle.exchange.specs.Refuses.{RefusesWith, Refuses}
use Rattle.exchange.specs.Repeat.{Turn, found, again}
use Rattle.exchange.specs.Sends.{Sends, sends_done, sends_read, sends_write}
use Rattle.exchange.proofs.Sends.{sends_repeat}
use Rattle.exchange.proofs.Then.{on_cond, Finds, only_repeat, refuses_then, refuses_more, sends_then}
use Rattle.ps2_bytes.specs.declared.command.HostToControllerCommand.{HostToControllerCommand}
use Rattle.ps2_bytes.specs.declared.command.HostToControllerCommand.TheVariants.{TestController}
use Rattle.ps2_bytes.specs.declared.response.PortTestResult.TheVariants.{Passed}
use Rattle.ps2_bytes.specs.declared.writable.HostToDevice.{HostToDevice}
use Rattle.ps2_bytes.specs.Responses.{responses, port_test_result_byte}
use Rattle.ps2_layouts.specs.Status.{output_buffer_full, input_buffer_full}
use Rattle.ps2_bytes.specs.Writable.{to_device}
use Rattle.ps2_answers.specs.Refusals.{Success}
use Rattle.ps2_ports.specs.Ports.{write_port, write_command}
use Rattle.ps2_polling.specs.Polling.{send_tries, send_try, polling_send, poll_limit, poll, response_turn, polling_receive, polling_send_receive, controller_test_passed, passed_turn, controller_test_result, test_controller, port_test_result, test_port}

-- ---- one turn

pub only_poll : {A : Type 0} (P : A → Type 0) (worth : ℕ → Turn A) → ((b : ℕ) → Finds P (worth b)) → Only (Finds P) (poll worth)
unfolding poll
only_poll {A} P worth h =
    only_read (λ s. on_cond (λ x. Only {A = Turn A} (Finds P) x) (bit output_buffer_full s) (only_read (λ b. only_done (h b))) (only_done tt))

-- a byte that is listed is given, and no byte is refused
pub finds_listed : {A : Type 0} (ns : List ℕ) (table : List (ℕ × A)) (b : ℕ) → Finds (RefusesWith ns) (decode (λ a. found (gives a)) again table b)
unfolding decode
finds_listed ns [] b = tt
finds_listed {A} ns (row ∷ table) b = on_cond (λ (x : Turn (Answer A)). Finds (RefusesWith ns) x) (eqb b row.0) tt (finds_listed ns table b)

pub finds_passed : (ns : List ℕ) (good b : ℕ) → Finds (RefusesWith {A = Success} ns) (passed_turn good b)
finds_passed ns good b = on_cond (λ x. Finds (RefusesWith {A = Success} ns) x) (eqb b good) tt tt

pub sends_poll : {A : Type 0} {W : Port → ℕ → Type 0} (worth : ℕ → Turn A) → Sends W (poll worth)
unfolding poll
sends_poll {A} {W} worth = sends_read (λ s. on_cond (λ x. Sends {A = Turn A} W x) (bit output_buffer_full s) (sends_read (λ b. sends_done)) sends_done)

-- ---- sending and receiving

-- the writes of a byte to port 60
abbrev pub DataByte : ℕ → Port → ℕ → Type 0
DataByte v p x = (p ≡ p60) × (x ≡ v)

only_send_try : (v : ℕ) → Only (Finds (RefusesWith (4 ∷ []))) (send_try v)
unfolding send_try
only_send_try v =
    only_read (λ s. on_cond (λ x. Only {A = Turn (Answer Success)} (Finds (RefusesWith (4 ∷ []))) x) (bit input_buffer_full s) (only_done tt) (only_write (only_done tt)))

sends_send_try : (v : ℕ) → Sends (DataByte v) (send_try v)
unfolding send_try
sends_send_try v =
    sends_read (λ s. on_cond (λ x. Sends {A = Turn (Answer Success)} (DataByte v) x) (bit input_buffer_full s) sends_done (sends_write (refl, refl) sends_done))

module _ (value : HostToDevice) where
  pub refuses_send : Refuses (4 ∷ []) (polling_send value)
  unfolding polling_send
  refuses_send = only_repeat (only_send_try (to_device value)) tt send_tries

  pub sends_send : Sends (DataByte (to_device value)) (polling_send value)
  unfolding polling_send
  sends_send = sends_repeat (sends_send_try (to_device value)) (refuses 4) send_tries

pub refuses_receive : Refuses (5 ∷ []) polling_receive
unfolding polling_receive
refuses_receive = only_repeat (only_poll (RefusesWith (5 ∷ [])) response_turn (finds_listed (5 ∷ []) responses)) tt poll_limit

pub sends_receive : {W : Port → ℕ → Type 0} → Sends W polling_receive
unfolding polling_receive
sends_receive = sends_repeat (sends_poll response_turn) (refuses 5) poll_limit

module _ (value : HostToDevice) where
  pub refuses_send_receive : Refuses (4 ∷ 5 ∷ []) (polling_send_receive value)
  unfolding polling_send_receive
  refuses_send_receive =
      refuses_then (4 ∷ 5 ∷ []) (refuses_more (4 ∷ []) (4 ∷ 5 ∷ []) tt (refuses_send value))
      (λ _. refuses_more (5 ∷ []) (4 ∷ 5 ∷ []) tt refuses_receive)

  pub sends_send_receive : Sends (DataByte (to_device value)) (polling_send_receive value)
  unfolding polling_send_receive
  sends_send_receive = sends_then (sends_send value) (λ _. sends_receive)

-- ---- the controller's tests

only_command : (ns : List ℕ) (c : HostToControllerCommand) → Refuses ns (write_command c)
unfolding write_port
only_command ns c = only_write (only_done tt)

pub refuses_test : Refuses (8 ∷ []) test_controller
unfolding test_controller controller_test_result
refuses_test =
    refuses_then (8 ∷ []) (only_command (8 ∷ []) TestController)
    (λ _. only_repeat (only_read (λ b. only_done (finds_passed (8 ∷ []) controller_test_passed b))) tt poll_limit)

pub refuses_test_port : (command : HostToControllerCommand) → Refuses (9 ∷ []) (test_port command)
unfolding test_port port_test_result
refuses_test_port command =
    refuses_then (9 ∷ []) (only_command (9 ∷ []) command)
    (λ _. only_repeat (only_poll (RefusesWith (9 ∷ [])) (passed_turn (port_test_result_byte Passed)) (finds_passed (9 ∷ []) (port_test_result_byte Passed))) tt poll_limit)
