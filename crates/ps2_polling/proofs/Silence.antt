-- No 4, 5, 8 or 9 before the script held the full number of status bytes, polls or data bytes, all of them in vain.
use Rattle.std.specs.Prelude.{Result, Ok, Err}
use Rattle.ps2_bytes.specs.declared.response.DeviceToHostResponse.{DeviceToHostResponse}
use Rattle.ps2_bytes.specs.declared.Unlisted.{Unlisted}
use mathlib.Core.Bool.{Bool, true, false, cond}
use Prim.Native.Nat.{ℕ, zero, suc, ◌<◌}
use native.Mathlib.Omega.{arith}
use mathlib.Core.List.{List, [], ◌∷◌}
use mathlib.Core.Path.{◌≡◌, refl, sym, ap, ◌∙◌}
use lib.Dec.{eqb}
use borrow.Author.Tests.{eq-eqb}
use lib.ListN.{get_or, drop}
use Rattle.bits.specs.Bits.{bit}
use Rattle.exchange.specs.Exchange.{p60, Exchange, done, write, bind, yields, play}
use Rattle.exchange.specs.Answer.{Answer, gives, refuses, and_then}
use Rattle.exchange.specs.Only.{Only, only_done, only_read, only_write}
use Rattle.exchange.specs.Repeat.{Turn, found, again, repeat, Silent, over, silent}
use Rattle.exchange.proofs.Bounds.{within_used}
use Rattle.exchange.proofs.Only.{only_play}
use Rattle.exchange.proofs.Silence.{silence, silent_used}
use Rattle.exchange.proofs.Steps.{lacks_yields}
use Rattle.ps2_bytes.proofs.ReadBack.{response_read_back}
use Rattle.ps2_bytes.specs.Responses.{response_byte, response_read, port_test_result_byte}
use Rattle.ps2_layouts.specs.Status.{input_buffer_full, output_buffer_full}
use Rattle.ps2_bytes.specs.Writable.{to_device}
use Rattle.ps2_bytes.specs.declared.command.HostToControllerCommand.{HostToControllerCommand}
use Rattle.ps2_bytes.specs.declared.command.HostToControllerCommand.TheVariants.{TestController}
use Rattle.ps2_bytes.specs.declared.response.PortTestResult.TheVariants.{Passed}
use Rattle.ps2_bytes.specs.declared.writable.HostToDevice.{HostToDevice}
use Rattle.ps2_answers.specs.Refusals.{success}
use Rattle.ps2_ports.specs.Ports.{write_port, write_command}
use Rattle.ps2_polling.specs.Polling.{send_try, polling_send, data_turn, poll, response_turn, polling_receive, controller_test_passed, passed_turn, controller_test_result, test_controller, port_test_result, test_port}
use Rattle.ps2_polling.specs.Silence.{FirstBytes, SilentPolls, no_data, thrown_away, NoResponse}
use Rattle.ps2_polling.specs.Silence as polls
use Rattle.ps2_polling.proofs.Bounds.{within_send, within_controller_result}
use Rattle.ps2_polling.proofs.Polls.{heard, response_turn_lem, passed_yes}

-- ---- a turn that reads one byte and either goes on or not

first_more : (P : ℕ → Type 0) (n : ℕ) (b : ℕ) (s : List ℕ) → P b → FirstBytes P n s → FirstBytes P (suc n) (b ∷ s)
first_more P n b s h f = record { there = omega (arith, f.there); each = at }
  where
    at : (i : ℕ) → i < suc n → P (get_or (b ∷ s) i 0)
    at zero k = h
    at (suc i) k = f.each i (omega arith)

-- where each silent turn uses one byte, which has P
pub silent_bytes : {A : Type 0} (t : Exchange (Turn A)) (P : ℕ → Type 0)
    → ((s l : List ℕ) → (play t s l).end ≡ yields again → ((play t s l).used ≡ 1) × FirstBytes P 1 s)
    → (n : ℕ) (s l : List ℕ) → Silent t n s l → FirstBytes P n s
silent_bytes t P one zero s l over = record { there = omega arith; each = λ i h. absurd (omega arith) }
silent_bytes t P one (suc n) [] l (silent q k) = absurd (omega (arith, (one [] l q).1.there))
silent_bytes t P one (suc n) (b ∷ s) l (silent q k) =
    let c = one (b ∷ s) l q in
    first_more P n b s (c.1.each 0 (omega arith)) (silent_bytes t P one n s _ (rw c.0 at k))

one_byte : (P : ℕ → Type 0) (b : ℕ) (s : List ℕ) → P b → FirstBytes P 1 (b ∷ s)
one_byte P b s h = first_more P 0 b s h (record { there = omega arith; each = λ i k. absurd (omega arith) })

-- a turn that goes on, or finds what it is for, finds no refusal
again_refuses : {A : Type 0} {n : ℕ} → ◌≡◌ {A = Turn (Answer A)} again (found (refuses n)) → ⊥
again_refuses q = let z : ◌≡◌ {A = ℕ} 0 1 = cc in omega arith

gives_refuses : {A : Type 0} {a : A} {n : ℕ} → found (gives a) ≡ found (refuses n) → ⊥
gives_refuses q = let z : ◌≡◌ {A = ℕ} 0 1 = cc in omega arith

found_again : {A : Type 0} {a : A} → found a ≡ again → ⊥
found_again q = let z : ◌≡◌ {A = ℕ} 0 1 = cc in omega arith

-- ---- sending

module _ (byte : ℕ) where
  full_again : (full : Bool) (s l : List ℕ) → (play (cond full (done again) (write p60 byte (done (found (gives success))))) s l).end ≡ yields again
      → (full ≡ true) × ((play (cond full (done again) (write p60 byte (done (found (gives success))))) s l).used ≡ 0)
  unfolding play
  full_again true s l q = (refl, refl)
  full_again false s [] q = absurd (lacks_yields q)
  full_again false s (x ∷ []) q = absurd (lacks_yields q)
  full_again false s (x ∷ y ∷ l) q = absurd (let z : ◌≡◌ {A = ℕ} 0 1 = cc in omega arith)

  try_again : (s l : List ℕ) → (play (send_try byte) s l).end ≡ yields again
      → ((play (send_try byte) s l).used ≡ 1) × FirstBytes (λ status. bit input_buffer_full status ≡ true) 1 s
  unfolding send_try play
  try_again [] l q = absurd (lacks_yields q)
  try_again (status ∷ s) l q =
      let c = full_again (bit input_buffer_full status) s l q in
      (omega (arith, c.1), one_byte (λ x. bit input_buffer_full x ≡ true) status s c.0)

  full_only : (full : Bool) → Only (λ r. r ≡ found (refuses 4) → ⊥) (cond full (done again) (write p60 byte (done (found (gives success)))))
  full_only true = only_done again_refuses
  full_only false = only_write (only_done gives_refuses)

  try_only : Only (λ r. r ≡ found (refuses 4) → ⊥) (send_try byte)
  unfolding send_try
  try_only = only_read (λ status. full_only (bit input_buffer_full status))

-- 4 only after 255 busy status bytes, and no further read
pub refused_4 : (value : HostToDevice) (s l : List ℕ) → (play (polling_send value) s l).end ≡ yields (refuses 4)
    → ((play (polling_send value) s l).used ≡ 255) × FirstBytes (λ status. bit input_buffer_full status ≡ true) 255 s
unfolding polling_send
refused_4 value s l q =
    let t = send_try (to_device value) in
    let k = silence t (refuses 4) (λ s l h. only_play (try_only (to_device value)) s l _ h refl) 255 s l q in
    let most = within_used (within_send value) s l in
    let least = silent_used t (refuses 4) 1 (λ s l h. omega (arith, (try_again (to_device value) s l h).0)) 255 s l k in
    (omega arith, silent_bytes t (λ status. bit input_buffer_full status ≡ true) (try_again (to_device value)) 255 s l k)

-- ---- polls

module _ {A : Type 0} (worth : ℕ → Turn A) (P : ℕ → Type 0) (each : (b : ℕ) → worth b ≡ again → P b) where
  one_poll : (n status : ℕ) (full : Bool) → bit output_buffer_full status ≡ full → (s l : List ℕ) → (play (cond full (data_turn worth) (done again)) s l).end ≡ yields again
      → SilentPolls P n (drop (play (cond full (data_turn worth) (done again)) s l).used s) → SilentPolls P (suc n) (status ∷ s)
  unfolding play
  one_poll n status true e [] l q k = absurd (lacks_yields q)
  one_poll n status true e (b ∷ s) l q k = thrown_away e (each b (cc)) k
  one_poll n status false e s l q k = no_data e k

  silent_polls : (n : ℕ) (s l : List ℕ) → Silent (poll worth) n s l → SilentPolls P n s
  unfolding poll play
  silent_polls zero s l over = polls.over
  silent_polls (suc n) [] l (silent q k) = absurd (lacks_yields q)
  silent_polls (suc n) (status ∷ s) l (silent q k) = one_poll n status (bit output_buffer_full status) refl s l q (silent_polls n _ _ k)

module _ {A : Type 0} (worth : ℕ → Turn (Answer A)) (number : ℕ) (never : (b : ℕ) → worth b ≡ found (refuses number) → ⊥) where
  data_only : Only (λ r. r ≡ found (refuses number) → ⊥) (data_turn worth)
  data_only = only_read (λ b. only_done (never b))

  poll_data_only : (full : Bool) → Only (λ r. r ≡ found (refuses number) → ⊥) (cond full (data_turn worth) (done again))
  poll_data_only true = data_only
  poll_data_only false = only_done again_refuses

  poll_only : Only (λ r. r ≡ found (refuses number) → ⊥) (poll worth)
  unfolding poll
  poll_only = only_read (λ status. poll_data_only (bit output_buffer_full status))

  -- the refusal of a polling that found nothing comes only after all its polls
  pub refused_polls : (P : ℕ → Type 0) → ((b : ℕ) → worth b ≡ again → P b) → (n : ℕ) (s l : List ℕ) → (play (repeat n (refuses number) (poll worth)) s l).end ≡ yields (refuses number)
      → SilentPolls P n s
  refused_polls P each n s l q = silent_polls worth P each n s l (silence (poll worth) (refuses number) (λ s l h. only_play poll_only s l _ h refl) n s l q)

heard_never : (x : Result DeviceToHostResponse Unlisted) → heard x ≡ found (refuses 5) → ⊥
heard_never (Ok r) q = gives_refuses q
heard_never (Err e) q = again_refuses q

unlisted : (b : ℕ) → response_turn b ≡ again → NoResponse b
unlisted b q r e =
    let z : response_turn (response_byte r) ≡ heard (Ok r) = response_turn_lem (response_byte r) refl (response_read_back r) in
    found_again (sym z ∙ ap response_turn (sym e) ∙ q)

-- 5 only after 65,535 polls that brought no response
pub refused_5 : (s l : List ℕ) → (play polling_receive s l).end ≡ yields (refuses 5) → SilentPolls NoResponse 65535 s
unfolding polling_receive
refused_5 s l q =
    refused_polls response_turn 5 (λ b h. heard_never (response_read b) (sym (response_turn_lem b refl refl) ∙ h)) NoResponse unlisted 65535 s l q

-- ---- tests

passed_never : (number : ℕ) (good : Bool) → cond good (found (gives success)) again ≡ found (refuses number) → ⊥
passed_never number true q = gives_refuses q
passed_never number false q = again_refuses q

other : (good b : ℕ) → passed_turn good b ≡ again → b ≡ good → ⊥
other good b q e = found_again (sym (passed_yes good b (eq-eqb b good e)) ∙ q)

-- a test is its command, and then what reads its result from the same script
after_command : {A : Type 0} (c : HostToControllerCommand) (t : Exchange (Answer A)) (s l : List ℕ) {a : Answer A} → (play (and_then (write_command c) (λ _. t)) s l).end ≡ yields a
    → (m : List ℕ) × ((play t s m).end ≡ yields a) × ((play (and_then (write_command c) (λ _. t)) s l).used ≡ (play t s m).used)
unfolding and_then write_port bind play
after_command c t s [] q = absurd (lacks_yields q)
after_command c t s (x ∷ []) q = absurd (lacks_yields q)
after_command c t s (x ∷ y ∷ l) q = (l, q, refl)

data_again : {A : Type 0} (worth : ℕ → Turn A) (P : ℕ → Type 0) → ((b : ℕ) → worth b ≡ again → P b) → (s l : List ℕ) → (play (data_turn worth) s l).end ≡ yields again
    → ((play (data_turn worth) s l).used ≡ 1) × FirstBytes P 1 s
unfolding play
data_again worth P each [] l q = absurd (lacks_yields q)
data_again worth P each (b ∷ s) l q = (refl, one_byte P b s (each b (cc)))

refused_result : (s l : List ℕ) → (play controller_test_result s l).end ≡ yields (refuses 8)
    → ((play controller_test_result s l).used ≡ 65535) × FirstBytes (λ b. b ≡ 0x55 → ⊥) 65535 s
unfolding controller_test_result
refused_result s l q =
    let t = data_turn (passed_turn controller_test_passed) in
    let one = data_again (passed_turn controller_test_passed) (λ b. b ≡ 0x55 → ⊥) (other controller_test_passed) in
    let k = silence t (refuses 8) (λ s l h. only_play (data_only (passed_turn controller_test_passed) 8 (λ b. passed_never 8 (eqb b controller_test_passed))) s l _ h refl) 65535 s l q in
    let most = within_used within_controller_result s l in
    let least = silent_used t (refuses 8) 1 (λ s l h. omega (arith, (one s l h).0)) 65535 s l k in
    (omega arith, silent_bytes t (λ b. b ≡ 0x55 → ⊥) one 65535 s l k)

-- 8 only after 65,535 data bytes other than 55, and no further read
pub refused_8 : (s l : List ℕ) → (play test_controller s l).end ≡ yields (refuses 8)
    → ((play test_controller s l).used ≡ 65535) × FirstBytes (λ b. b ≡ 0x55 → ⊥) 65535 s
unfolding test_controller
refused_8 s l q =
    let c = after_command TestController controller_test_result s l q in
    let z = refused_result s c.0 c.1 in
    (c.2 ∙ z.0, z.1)

-- 9 only after 65,535 polls that did not bring 00
pub refused_9 : (c : HostToControllerCommand) (s l : List ℕ) → (play (test_port c) s l).end ≡ yields (refuses 9) → SilentPolls (λ b. b ≡ 0x00 → ⊥) 65535 s
unfolding test_port port_test_result
refused_9 c s l q =
    let r = after_command c port_test_result s l q in
    refused_polls (passed_turn (port_test_result_byte Passed)) 9 (λ b. passed_never 9 (eqb b (port_test_result_byte Passed))) (λ b. b ≡ 0x00 → ⊥) (other (port_test_result_byte Passed)) 65535 s r.0 r.1
