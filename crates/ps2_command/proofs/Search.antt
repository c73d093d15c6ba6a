-- What a script must have brought where a search gives a byte, or refuses.
use Prim.Native.Nat.{ℕ}
use mathlib.Core.Bool.{Bool, true, false, cond}
use mathlib.Core.List.{List, [], ◌∷◌}
use mathlib.Core.Path.{◌≡◌, refl}
use lib.ListN.{drop}
use Rattle.bits.specs.Bits.{bit}
use Rattle.exchange.specs.Exchange.{p60, done, read, yields, play}
use Rattle.exchange.specs.Answer.{gives, refuses}
use Rattle.exchange.specs.Refuses.{RefusesWith}
use Rattle.exchange.specs.Repeat.{Turn, found, again, repeat}
use Rattle.exchange.specs.Search.{Search, script_after}
use Rattle.exchange.proofs.Search.{search_gives, search_refuses}
use Rattle.exchange.proofs.Steps.{lacks_yields}
use Rattle.exchange.proofs.Then.{Finds}
use Rattle.ps2_bytes.specs.declared.response.DeviceToHostResponse.TheVariants.{SelfTestPassed}
use Rattle.ps2_bytes.specs.Responses.{response_byte}
use Rattle.ps2_layouts.specs.Status.{output_buffer_full}
use Rattle.ps2_answers.specs.Refusals.{success}
use Rattle.ps2_polling.specs.Polling.{data_turn, poll}
use Rattle.ps2_polling.proofs.Refuses.{finds_listed, finds_passed}
use Rattle.ps2_command.specs.Search.{poll_when, listed_turn, self_test_turn, self_test_within, PollBrings, nothing_there, brought, DataBrings, taken}

-- ---- one turn

module _ {A : Type 0} (ready : ℕ → Bool) (worth : ℕ → Turn A) where
  after_status : (status : ℕ) (ok : Bool) → ready status ≡ ok → (s l : List ℕ) (x : Turn A)
      → (play (cond ok (read p60 (λ b. done (worth b))) (done again)) s l).end ≡ yields x
      → PollBrings ready worth (status ∷ s) x (drop (play (cond ok (read p60 (λ b. done (worth b))) (done again)) s l).used s)
  unfolding play
  after_status status true e [] l x h = absurd (lacks_yields h)
  after_status status true e (b ∷ s) l x h =
      let q : worth b ≡ x = cc in
      rw (← q) (brought e)
  after_status status false e s l x h =
      let q : again ≡ x = cc in
      rw (← q) (nothing_there e)

  pub brings_poll : (s l : List ℕ) (x : Turn A) → (play (poll_when ready worth) s l).end ≡ yields x → PollBrings ready worth s x (drop (play (poll_when ready worth) s l).used s)
  unfolding poll_when play
  brings_poll [] l x h = absurd (lacks_yields h)
  brings_poll (status ∷ s) l x h = after_status status (ready status) refl s l x h

  pub polled_finds : (P : A → Type 0) → ((b : ℕ) → Finds P (worth b)) → (s : List ℕ) (x : Turn A) (rest : List ℕ) → PollBrings ready worth s x rest → Finds P x
  polled_finds P h s x rest (nothing_there e) = tt
  polled_finds P h s x rest (brought {b = b} e) = h b

module _ {A : Type 0} (worth : ℕ → Turn A) where
  -- a poll that needs bit 0 alone
  pub brings_any_poll : (s l : List ℕ) (x : Turn A) → (play (poll worth) s l).end ≡ yields x → PollBrings (bit output_buffer_full) worth s x (script_after (poll worth) s l)
  unfolding poll poll_when
  brings_any_poll = brings_poll (bit output_buffer_full) worth

  brings_data : (s l : List ℕ) (x : Turn A) → (play (data_turn worth) s l).end ≡ yields x → DataBrings worth s x (drop (play (data_turn worth) s l).used s)
  unfolding play
  brings_data [] l x h = absurd (lacks_yields h)
  brings_data (b ∷ s) l x h =
      let q : worth b ≡ x = cc in
      rw (← q) taken

  taken_finds : (P : A → Type 0) → ((b : ℕ) → Finds P (worth b)) → (s : List ℕ) (x : Turn A) (rest : List ℕ) → DataBrings worth s x rest → Finds P x
  taken_finds P h s x rest (taken {b = b}) = h b

-- ---- the self test's AA

module _ (n : ℕ) (s l : List ℕ) where
  -- AA came, and no later than with the n-th data read
  pub self_test_gives : (play (self_test_within n) s l).end ≡ yields (gives success)
      → Search (DataBrings self_test_turn) n (found (gives success)) s (script_after (self_test_within n) s l)
  unfolding self_test_within
  self_test_gives h = search_gives (DataBrings self_test_turn) (data_turn self_test_turn) 10 (brings_data self_test_turn) n s l success h

  -- 10: n data reads, none of which brought AA
  pub self_test_refuses : (play (self_test_within n) s l).end ≡ yields (refuses 10)
      → Search (DataBrings self_test_turn) n again s (script_after (self_test_within n) s l)
  unfolding self_test_within
  self_test_refuses h =
      search_refuses (DataBrings self_test_turn) (data_turn self_test_turn) 10 (brings_data self_test_turn) n s l (taken_finds self_test_turn (RefusesWith []) (finds_passed [] (response_byte SelfTestPassed))) h

-- ---- polls for a byte of a table

-- n polls, none of which brought a listed byte
pub listed_refuses : {A : Type 0} (ready : ℕ → Bool) (table : List (ℕ × A)) (k n : ℕ) (s l : List ℕ)
    → (play (repeat n (refuses k) (poll_when ready (listed_turn table))) s l).end ≡ yields (refuses k)
    → Search (PollBrings ready (listed_turn table)) n again s (script_after (repeat n (refuses k) (poll_when ready (listed_turn table))) s l)
listed_refuses ready table k n s l h =
    search_refuses (PollBrings ready (listed_turn table)) (poll_when ready (listed_turn table)) k (brings_poll ready (listed_turn table)) n s l
    (polled_finds ready (listed_turn table) (RefusesWith []) (finds_listed [] table)) h

pub listed_refuses_any : {A : Type 0} (table : List (ℕ × A)) (k n : ℕ) (s l : List ℕ)
    → (play (repeat n (refuses k) (poll (listed_turn table))) s l).end ≡ yields (refuses k)
    → Search (PollBrings (bit output_buffer_full) (listed_turn table)) n again s (script_after (repeat n (refuses k) (poll (listed_turn table))) s l)
unfolding poll poll_when
listed_refuses_any table k n s l h = listed_refuses (bit output_buffer_full) table k n s l h
