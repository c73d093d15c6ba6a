-- Searches for a byte: polls of the status, and reads of data without it.
use Rattle.std.specs.Prelude.{ℕ, Bool, true, false, cond, List, ◌∷◌, ◌≡◌}
use Rattle.bits.specs.Table.{decode}
use Rattle.exchange.specs.Exchange.{p64, Exchange, done, read}
use Rattle.exchange.specs.Answer.{Answer, gives, refuses}
use Rattle.exchange.specs.Repeat.{Turn, found, again, repeat}
use Rattle.ps2_bytes.specs.declared.response.DeviceToHostResponse.TheVariants.{SelfTestPassed}
use Rattle.ps2_bytes.specs.Responses.{response_byte}
use Rattle.ps2_answers.specs.Refusals.{Success}
use Rattle.ps2_polling.specs.Polling.{data_turn, passed_turn}

-- A poll that reads data only where the status says that a byte is there.
unfoldable pub poll_when : {A : Type 0} → (ℕ → Bool) → (ℕ → Turn A) → Exchange (Turn A)
poll_when ready worth = read p64 (λ status. cond (ready status) (data_turn worth) (done again))

-- A byte that is in a table ends the search; any other is thrown away and uses up the poll.
abbrev pub listed_turn : {A : Type 0} → List (ℕ × A) → ℕ → Turn (Answer A)
listed_turn table b = decode (λ a. found (gives a)) again table b

-- "Reset: did AA come within so many data reads? 10"
abbrev pub self_test_turn : ℕ → Turn (Answer Success)
self_test_turn b = passed_turn (response_byte SelfTestPassed) b

unfoldable pub self_test_within : ℕ → Exchange (Answer Success)
self_test_within reads = repeat reads (refuses 10) (data_turn self_test_turn)

-- ---- what a script brings to them

-- A poll on this script comes to x and leaves the rest.
pub data PollBrings {A : Type 0} (ready : ℕ → Bool) (worth : ℕ → Turn A) : List ℕ → Turn A → List ℕ
    → Type 0 where
  nothing_there : {status : ℕ} {script : List ℕ} → ready status ≡ false
      → PollBrings ready worth (status ∷ script) again script
  brought : {status b : ℕ} {script : List ℕ} → ready status ≡ true
      → PollBrings ready worth (status ∷ b ∷ script) (worth b) script

-- A read of data on this script comes to x and leaves the rest.
pub data DataBrings {A : Type 0} (worth : ℕ → Turn A) : List ℕ → Turn A → List ℕ → Type 0 where
  taken : {b : ℕ} {script : List ℕ} → DataBrings worth (b ∷ script) (worth b) script
