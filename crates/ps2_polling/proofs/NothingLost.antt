-- A receiving loses no data byte: each that it read is the response, or is among the bytes that it threw away.
use Rattle.std.specs.Prelude.{Result, Ok, Err}
use Rattle.ps2_bytes.specs.declared.Unlisted.{Unlisted}
use Prim.Native.Nat.{ℕ, zero, suc}
use native.Mathlib.Omega.{arith}
use mathlib.Core.Bool.{Bool, true, false, cond}
use mathlib.Core.List.{List, [], ◌∷◌}
use mathlib.Core.Path.{◌≡◌, refl, ap, ◌∙◌}
use Rattle.bits.specs.Bits.{bit}
use Rattle.bits.proofs.Table.{decode_map}
use Rattle.exchange.specs.Exchange.{p60, p64, Exchange, done, read, bind}
use Rattle.exchange.specs.Answer.{Answer, gives, refuses}
use Rattle.exchange.specs.Repeat.{again, turned, repeat}
use Rattle.exchange.specs.Trace.{Access, brought, Makes, nothing, by_read}
use Rattle.ps2_bytes.specs.declared.response.DeviceToHostResponse.{DeviceToHostResponse}
use Rattle.ps2_bytes.specs.Responses.{responses, response_read}
use Rattle.ps2_layouts.specs.Status.{output_buffer_full}
use Rattle.ps2_kept.specs.Thrown.{unlisted}
use Rattle.ps2_polling.specs.Polling.{poll_limit, data_turn, poll, response_turn, polling_receive}
use Rattle.ps2_polling.specs.Received.{by_response, by_none, NothingLost}
use Rattle.ps2_polling.proofs.Polls.{heard, response_turn_lem}
use Rattle.ps2_polling.proofs.Receiving.{is_unlisted}

-- a read is not done
read_done : {A : Type 0} {f : ℕ → Exchange A} {a : A} → read p64 f ≡ done a → ⊥
read_done h = let z : ◌≡◌ {A = ℕ} 0 1 = cc in omega arith

data_done : {A : Type 0} {f : ℕ → Exchange A} {a : A} → read p60 f ≡ done a → ⊥
data_done h = let z : ◌≡◌ {A = ℕ} 0 1 = cc in omega arith

abbrev Answers : Type 0
Answers = Answer DeviceToHostResponse

-- what n polls are
abbrev polls : ℕ → Exchange Answers
polls n = repeat n (refuses 5) (poll response_turn)

-- nothing more is read once there is an answer
ended : (x a : Answers) {made : List Access} {rest : Exchange Answers} → Makes (done x) made rest → rest ≡ done a → (made ≡ []) × (x ≡ a)
ended x a nothing q = (refl, cc)

-- a byte more that was thrown away
one_more : (b : ℕ) (made : List Access) (a : Answers) → unlisted b ≡ true → NothingLost made a → NothingLost (brought p60 b ∷ made) a
one_more b made a q h = record { last = h.last; answered = h.answered; all = rw q (ap (λ (l : List ℕ). b ∷ l) h.all) }

module _ (a : Answers) where
  -- an operation loses nothing, if it answers a
  abbrev Loses : Exchange Answers → Type 0
  Loses t = (made : List Access) (rest : Exchange Answers) → Makes t made rest → rest ≡ done a → NothingLost made a

  -- the byte that a poll brought
  on_byte : (n b : ℕ) (y : Result DeviceToHostResponse Unlisted) → response_read b ≡ y → Loses (polls n)
      → (made : List Access) (rest : Exchange Answers) → Makes (turned (heard y) (polls n)) made rest → rest ≡ done a → NothingLost (brought p60 b ∷ made) a
  on_byte n b (Ok r) p further made rest m q =
      let e = ended (gives r) a m q in
      let u : unlisted b ≡ false = decode_map is_unlisted Ok (Err (record { 0 = b })) responses b ∙ ap is_unlisted p in
      rw (← e.1, e.0) (record { last = b ∷ []; answered = by_response p; all = rw u })
  on_byte n b (Err e) p further made rest m q =
      one_more b made a (decode_map is_unlisted Ok (Err (record { 0 = b })) responses b ∙ ap is_unlisted p) (further made rest m q)

  -- what the status said
  on_status : (n : ℕ) (full : Bool) → Loses (polls n) → Loses (bind (cond full (data_turn response_turn) (done again)) (λ r. turned r (polls n)))
  unfolding bind
  on_status n true further made rest nothing q = absurd (data_done q)
  on_status n true further made rest (by_read {b = b} {more = more} m) q =
      on_byte n b (response_read b) refl further more rest (rw (response_turn_lem b refl refl) at m) q
  on_status n false further made rest m q = further made rest m q

  polls_lose_nothing : (n : ℕ) → Loses (polls n)
  unfolding repeat poll bind
  polls_lose_nothing zero made rest m q =
      let e = ended (refuses 5) a m q in
      rw (← e.1, e.0) (record { last = []; answered = by_none; all = refl })
  polls_lose_nothing (suc n) made rest nothing q = absurd (read_done q)
  polls_lose_nothing (suc n) made rest (by_read {b = status} {more = more} m) q =
      let h = on_status n (bit output_buffer_full status) (polls_lose_nothing n) more rest m q in
      record { last = h.last; answered = h.answered; all = h.all }

-- "the earliest 16 unlisted bytes it threw away": the list that they are the first of has every data byte but the response
pub receive_loses_nothing : {a : Answers} {made : List Access} → Makes polling_receive made (done a) → NothingLost made a
unfolding polling_receive
receive_loses_nothing {a} {made} m = polls_lose_nothing a poll_limit made (done a) m refl
