-- What a command, and the search for AA, refuse with.
use Prim.Native.Nat.{ℕ}
use mathlib.Core.Bool.{Bool}
use mathlib.Core.List.{List, [], ◌∷◌}
use Rattle.exchange.specs.Answer.{Answer, gives, refuses}
use Rattle.exchange.specs.Only.{Only, only_done, only_read, only_write}
use Rattle.exchange.specs.Refuses.{RefusesWith, Refuses}
use Rattle.exchange.specs.Repeat.{Turn}
use Rattle.exchange.proofs.Only.{only_bind}
use Rattle.exchange.proofs.Then.{on_cond, Finds, only_repeat, refuses_then, refuses_more}
use Rattle.ps2_bytes.specs.declared.response.DeviceToHostResponse.{DeviceToHostResponse}
use Rattle.ps2_bytes.specs.declared.response.DeviceToHostResponse.TheVariants.{KeyDetectionErrorOrInternalBufferOverrun1, SelfTestPassed, ResponseToEcho, Acknowledge, SelfTestFailed1, SelfTestFailed2, ResendCommand, KeyDetectionErrorOrInternalBufferOverrun2}
use Rattle.ps2_bytes.specs.declared.writable.HostToDevice.{HostToDevice}
use Rattle.ps2_bytes.specs.Responses.{response_byte}
use Rattle.ps2_ports.specs.Ports.{write_port}
use Rattle.ps2_polling.proofs.Refuses.{finds_passed, refuses_send_receive}
use Rattle.ps2_command.specs.Command.{verdict, settled, attempts, attempt, command, command_to_port2}
use Rattle.ps2_command.specs.Search.{poll_when, self_test_within}

-- the refusals of a command
abbrev pub command_refusals : List ℕ
command_refusals = 4 ∷ 5 ∷ 6 ∷ 7 ∷ []

-- and one number more
abbrev pub command_and : ℕ → List ℕ
command_and n = 4 ∷ 5 ∷ 6 ∷ 7 ∷ n ∷ []

verdict_finds : (r : DeviceToHostResponse) → Finds (RefusesWith command_refusals) (verdict r)
verdict_finds KeyDetectionErrorOrInternalBufferOverrun1 = tt
verdict_finds SelfTestPassed = tt
verdict_finds ResponseToEcho = tt
verdict_finds Acknowledge = tt
verdict_finds SelfTestFailed1 = tt
verdict_finds SelfTestFailed2 = tt
verdict_finds ResendCommand = tt
verdict_finds KeyDetectionErrorOrInternalBufferOverrun2 = tt

settled_finds : (a : Answer DeviceToHostResponse) → RefusesWith command_refusals a → Finds (RefusesWith command_refusals) (settled a)
settled_finds (gives r) h = verdict_finds r
settled_finds (refuses n) h = h

module _ (value : HostToDevice) where
  pub refuses_command : Refuses command_refusals (command value)
  unfolding command attempt
  refuses_command =
      only_repeat (only_bind (refuses_more (4 ∷ 5 ∷ []) command_refusals tt (refuses_send_receive value)) (λ a h. only_done (settled_finds a h))) tt attempts

  pub refuses_command_to_port2 : Refuses command_refusals (command_to_port2 value)
  unfolding command_to_port2 write_port
  refuses_command_to_port2 = refuses_then command_refusals (only_write (only_done tt)) (λ _. refuses_command)

pub refuses_self_test : (n : ℕ) → Refuses (10 ∷ []) (self_test_within n)
unfolding self_test_within
refuses_self_test n = only_repeat (only_read (λ b. only_done (finds_passed (10 ∷ []) (response_byte SelfTestPassed) b))) tt n

pub only_poll_when : {A : Type 0} (P : A → Type 0) (ready : ℕ → Bool) (worth : ℕ → Turn A) → ((b : ℕ) → Finds P (worth b)) → Only (Finds P) (poll_when ready worth)
unfolding poll_when
only_poll_when {A} P ready worth h =
    only_read (λ s. on_cond (λ x. Only {A = Turn A} (Finds P) x) (ready s) (only_read (λ b. only_done (h b))) (only_done tt))
