-- One attempt, from what the code's sending and receiving answered.
use Prim.Native.Nat.{ℕ}
use mathlib.Core.List.{List}
use mathlib.Core.Path.{◌≡◌, refl}
use Rattle.std.specs.Prelude.{Bool, Result, Ok, Err}
use Rattle.exchange.specs.Exchange.{yields, told_end, played, play}
use Rattle.exchange.specs.Answer.{Answer, gives}
use Rattle.exchange.specs.Keeping.{kept_end}
use Rattle.exchange.specs.Repeat.{Turn, found_end}
use Rattle.exchange.proofs.Keeping.{kept_told}
use Rattle.ps2_bytes.specs.declared.response.DeviceToHostResponse.{DeviceToHostResponse}
use Rattle.ps2_bytes.specs.declared.writable.HostToDevice.{HostToDevice}
use Rattle.ps2_answers.specs.declared.Counted.{Counted}
use Rattle.ps2_answers.specs.declared.Failure.{Failure}
use Rattle.ps2_answers.specs.declared.Refusal.{Refusal}
use Rattle.ps2_answers.specs.declared.Refusal.TheVariants.{Lacking, Failed}
use Rattle.ps2_answers.specs.Refusals.{refused, Success}
use Rattle.ps2_answers.specs.Answers.{turn_end, used_of, pairs_of, concluded}
use Rattle.ps2_kept.specs.declared.KeptBytes.{KeptBytes}
use Rattle.ps2_kept.specs.Added.{added_thrown, keeping_onto}
use Rattle.ps2_kept.specs.Promises.{told_kept}
use Rattle.ps2_polling.specs.Polling.{polling_send_receive}
use Rattle.ps2_command.specs.Command.{verdict, settled, attempt, accepted, said_verdict}

refused-settled : (x : Refusal) → told_end settled (refused x) ≡ found_end (refused x)
refused-settled (Lacking x) = refl
refused-settled (Failed f) = refl

module _ (value : HostToDevice) (k k₂ : KeptBytes) (s l : List ℕ) {l' : List ℕ} where
  -- a response came
  pub attempt_response : (x : Counted DeviceToHostResponse) → told_kept (Ok x) k₂ l' ≡ play (keeping_onto k (polling_send_receive value)) s l → {t : Turn (Answer Success)} → t ≡ verdict x.value
      → played (kept_end (yields t) k₂) x.used x.pairs l' ≡ play (keeping_onto k (attempt value)) s l
  unfolding attempt
  attempt_response x r q = rw q (kept_told added_thrown settled k k₂ (polling_send_receive value) s l (yields (gives x.value)) r)

  -- none did: that settles the command
  pub attempt_refused : (e : Counted Refusal) → told_kept {T = DeviceToHostResponse} (Err e) k₂ l' ≡ play (keeping_onto k (polling_send_receive value)) s l
      → played (kept_end (found_end (refused e.value)) k₂) e.used e.pairs l' ≡ play (keeping_onto k (attempt value)) s l
  unfolding attempt
  attempt_refused e r = rw (refused-settled e.value) at (kept_told added_thrown settled k k₂ (polling_send_receive value) s l (refused e.value) r)

  -- one did, and the code's judgement of it is what it is worth
  pub attempt_concluded : (x : Counted DeviceToHostResponse) (o : Result Bool Failure) → told_kept (Ok x) k₂ l' ≡ play (keeping_onto k (polling_send_receive value)) s l → said_verdict o ≡ verdict x.value
      → played (kept_end (turn_end accepted (concluded x o)) k₂) (used_of (concluded x o)) (pairs_of (concluded x o)) l' ≡ play (keeping_onto k (attempt value)) s l
  attempt_concluded x (Ok b) r q = attempt_response x r q
  attempt_concluded x (Err f) r q = attempt_response x r q
