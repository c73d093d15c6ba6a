-- One turn of a polling, from what the code's one read or one poll answers.
use Rattle.ps2_bytes.specs.declared.Unlisted.{Unlisted}
use mathlib.Core.Bool.{Bool, true, false, cond, true≢false}
use Prim.Native.Nat.{ℕ}
use lib.Dec.{eqb}
use mathlib.Core.List.{List}
use mathlib.Core.Path.{◌≡◌, refl, sym, ap, ◌∙◌, fun_ext}
use Rattle.bits.specs.Bits.{bit}
use Rattle.bits.proofs.Table.{decode_map}
use Rattle.std.specs.Prelude.{Option, Some, None, Result, Ok, Err}
use Rattle.std.specs.Option.{option_eq}
use Rattle.exchange.specs.Exchange.{p64, done, read, bind, yields, told_end, Reads}
use Rattle.exchange.specs.Answer.{Answer, gives, refuses}
use Rattle.exchange.specs.Repeat.{Turn, found, again, found_end}
use Rattle.exchange.proofs.Calls.{reads_done}
use Rattle.exchange.proofs.Told.{bind_told}
use Rattle.ps2_bytes.specs.declared.response.DeviceToHostResponse.{DeviceToHostResponse}
use Rattle.ps2_bytes.specs.Responses.{responses, response_read}
use Rattle.ps2_layouts.specs.Status.{output_buffer_full}
use Rattle.ps2_answers.specs.Refusals.{success, refused}
use Rattle.ps2_ports.specs.Ports.{read_port, read_data}
use Rattle.ps2_answers.specs.Answers.{ended, turn_end}
use Rattle.ps2_answers.specs.declared.Counted.{Counted}
use Rattle.ps2_answers.specs.declared.Refusal.{Refusal}
use Rattle.ps2_answers.specs.declared.Refusal.TheVariants.{Lacking, Failed}
use Rattle.ps2_answers.proofs.Refusals.{on_answer, reads_refused_turn}
use Rattle.ps2_polling.specs.Polling.{data_turn, poll, poll_data, turn_of, response_turn, passed_turn, polled}
use Rattle.ps2_polling.specs.declared.Waiting.{Waiting}

-- ---- a poll, by the byte that the poll by itself brings

-- what such a byte is worth, and what a refusal is, which a poll by itself never has
module _ {A : Type 0} (worth other : ℕ → Turn A) where
  abbrev pub judged : Turn (Answer ℕ) → Turn A
  judged (found (gives b)) = worth b
  judged (found (refuses n)) = other n
  judged again = again

  judged_data : (full : Bool) → bind (cond full (data_turn (λ b. found (gives b))) (done again)) (λ r. done (judged r)) ≡ cond full (data_turn worth) (done again)
  unfolding bind
  judged_data true = refl
  judged_data false = refl

  pub poll_judged : bind poll_data (λ r. done (judged r)) ≡ poll worth
  unfolding poll bind
  poll_judged = ap (read p64) (fun_ext (λ status. judged_data (bit output_buffer_full status)))

  turn_judged : (w : Waiting) → bind (turn_of w (λ b. found (gives b))) (λ r. done (judged r)) ≡ turn_of w worth
  unfolding bind
  turn_judged Waiting.Polls = poll_judged
  turn_judged Waiting.DataReads = refl

module _ {A : Type 0} (worth : ℕ → Turn (Answer A)) where
  -- ---- a read of data

  pub read_turn : (s : List ℕ) (a : Result (Counted ℕ) (Counted Refusal)) {u w : ℕ} → Reads read_data s (ended a) u w → Reads (data_turn worth) s (turn_end worth a) u 0
  unfolding read_port bind
  read_turn s (Ok b) r = reads_done read_data (on_answer (λ b. done (worth b))) s r refl refl
  read_turn s (Err e) r = reads_refused_turn read_data (λ b. done (worth b)) s r e.value refl

  -- ---- a turn of a wait

  -- what a poll's byte is worth, where there is one
  abbrev pub of_poll : Option ℕ → Turn (Answer A)
  of_poll None = again
  of_poll (Some b) = worth b

  -- a refusal is passed on
  abbrev passed : Turn (Answer ℕ) → Turn (Answer A)
  passed = judged worth (λ n. found (refuses n))

  passed_value : (v : Option ℕ) → passed (polled v) ≡ of_poll v
  passed_value None = refl
  passed_value (Some b) = refl

  passed_refusal : (x : Refusal) → told_end (λ r. passed r) (found_end (refused {A = ℕ} x)) ≡ found_end (refused {A = A} x)
  passed_refusal (Lacking l) = refl
  passed_refusal (Failed f) = refl

  passed_told : (a : Result (Counted (Option ℕ)) (Counted Refusal)) → told_end (λ r. passed r) (turn_end polled a) ≡ turn_end of_poll a
  passed_told (Ok a) = ap (λ t. yields t) (passed_value a.value)
  passed_told (Err e) = passed_refusal e.value

  pub taken_turn : (w : Waiting) (s : List ℕ) (a : Result (Counted (Option ℕ)) (Counted Refusal)) {u v : ℕ}
      → Reads (turn_of w (λ b. found (gives b))) s (turn_end polled a) u v → Reads (turn_of w worth) s (turn_end of_poll a) u 0
  taken_turn w s a r =
      record {
        with_any =
            λ l. rw (passed_told a, turn_judged worth (λ n. found (refuses n)) w) at (bind_told (turn_of w (λ b. found (gives b))) (λ r. passed r) s l (r.with_any l) refl);
        no_pairs = refl;
      }

  pub poll_turn : (s : List ℕ) (a : Result (Counted (Option ℕ)) (Counted Refusal)) {u v : ℕ}
      → Reads poll_data s (turn_end polled a) u v → Reads (poll worth) s (turn_end of_poll a) u 0
  poll_turn s a r = taken_turn Waiting.Polls s a r

-- ---- a device's response

abbrev pub heard : Result DeviceToHostResponse Unlisted → Turn (Answer DeviceToHostResponse)
heard (Ok r) = found (gives r)
heard (Err e) = again

pub response_turn_lem : (b : ℕ) {x y : Result DeviceToHostResponse Unlisted} → x ≡ response_read b → x ≡ y → response_turn b ≡ heard y
response_turn_lem b p q = decode_map heard Ok (Err (record { 0 = b })) responses b ∙ ap heard (sym p ∙ q)

-- ---- a test's answer

pub passed_yes : (good b : ℕ) → eqb b good ≡ true → passed_turn good b ≡ found (gives success)
passed_yes good b q = rw q

-- the code asks whether the turn brought this byte
pub passed_heard : (good : ℕ) (v : Option ℕ) → true ≡ option_eq eqb v (Some good) → of_poll (passed_turn good) v ≡ found (gives success)
passed_heard good None q = absurd (true≢false q)
passed_heard good (Some b) q = passed_yes good b (sym q)

pub passed_unheard : (good : ℕ) (v : Option ℕ) → false ≡ option_eq eqb v (Some good) → of_poll (passed_turn good) v ≡ again
passed_unheard good None q = refl
passed_unheard good (Some b) q = rw (sym q)
