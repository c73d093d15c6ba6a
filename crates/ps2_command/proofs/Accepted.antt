-- Two commands to a device that acknowledges both before it sends any other byte, by computation.
use mathlib.Core.Bool.{Bool, true, false, cond}
use mathlib.Core.List.{List, [], ◌∷◌, ◌++◌}
use mathlib.Core.Logic.{◌⊎◌, inl, inr, ⊎_elim}
use mathlib.Core.Path.{◌≡◌, refl, sym, ap, ◌∙◌}
use Prim.Native.Nat.{ℕ, zero, suc, ◌+◌, ◌*◌, ◌-◌, ◌<◌, ◌≤◌}
use native.Mathlib.Omega.{arith}
use lib.Dec.{eqb, leb}
use Rattle.std.specs.Prelude.{Option, Some, None}
use Rattle.std.specs.Option.{option_map}
use Rattle.std.specs.List.{list_any}
use Rattle.std.proofs.lemmas.Option.{none-some, cond_some}
use Rattle.std.proofs.lemmas.List.{get_or-take, get_or-drop, length-take-le}
use Rattle.std.proofs.lemmas.List.Folds.{list_any_at}
use lib.ListN.{length, get_or, take, drop, length-drop}
use borrow.Author.Tests.{leb-true, leb-false, le-leb, lt-leb, eqb-true}
use Rattle.bits.specs.Bits.{bit}
use Rattle.bits.specs.Table.{decode}
use Rattle.exchange.specs.Exchange.{Exchange, bind, yields, played, play, after_read, Writes}
use Rattle.exchange.specs.Answer.{Answer, gives, refuses, on_given, and_then}
use Rattle.exchange.specs.Keeping.{Kept, keeping, kept, kept_end, NoData, no_data_done, no_data_write}
use Rattle.exchange.specs.Parts.{part}
use Rattle.exchange.specs.Repeat.{Turn, found, turned, repeat}
use Rattle.exchange.proofs.Calls.{bind_done}
use Rattle.exchange.proofs.Keeping.{keeping-bind, keeping-done}
use Rattle.exchange.proofs.Parts.{part_drop, restored_append}
use Rattle.exchange.proofs.Repeat.{repeat_step, bind_ended}
use Rattle.ps2_layouts.specs.Status.{input_buffer_full, output_buffer_full}
use Rattle.ps2_bytes.specs.declared.command.HostToControllerCommand.TheVariants.{WriteByteToPort2InputBuffer}
use Rattle.ps2_bytes.specs.declared.response.DeviceToHostResponse.{DeviceToHostResponse}
use Rattle.ps2_bytes.specs.declared.response.DeviceToHostResponse.TheVariants.{Acknowledge}
use Rattle.ps2_bytes.specs.declared.writable.HostToDevice.{HostToDevice}
use Rattle.ps2_bytes.specs.Writable.{to_device}
use Rattle.ps2_answers.specs.Refusals.{Success, success}
use Rattle.ps2_answers.specs.Answers.{counted}
use Rattle.ps2_answers.specs.declared.Counted.{Counted}
use Rattle.ps2_kept.specs.declared.KeptBytes.{KeptBytes}
use Rattle.ps2_kept.specs.Added.{added_thrown, keeping_onto}
use Rattle.ps2_kept.specs.Promises.{ReadsKept, PlaysKept}
use Rattle.ps2_kept.proofs.Sequence.{onto_then, no_data_then_reads, writes_then_keeps}
use Rattle.ps2_ports.specs.declared.DevicePort.{DevicePort}
use Rattle.ps2_ports.specs.declared.DevicePort.TheVariants.{Port1, Port2}
use Rattle.ps2_ports.specs.Ports.{write_port, write_command}
use Rattle.ps2_polling.specs.Polling.{poll_limit, send_try, polling_send, poll, response_turn, polling_receive, polling_send_receive}
use Rattle.ps2_polling.proofs.Receiving.{no_data_send}
use Rattle.ps2_command.specs.Command.{attempt, command, command_to_port2, command_by}
use Rattle.ps2_command.specs.Answering.{heard_within, acknowledged, pairs_to, with_two, TwoWritten, TwoAcknowledged}
use Rattle.ps2_command.proofs.Attempts.{attempt_response}

-- ---- what the numbers of bytes are made of

mapped : {B : Type 0} (f : ℕ → B) (o : Option ℕ) (y : B) → option_map f o ≡ Some y → (v : ℕ) × (o ≡ Some v) × (f v ≡ y)
mapped f None y h = absurd (none-some y h)
mapped f (Some v) y h = (v, refl, cc)

mapped_none : {B : Type 0} (f : ℕ → B) (o : Option ℕ) → option_map f o ≡ None → o ≡ None
mapped_none f None h = refl
mapped_none f (Some v) h = absurd (none-some (f v) (sym h))

mapped_cond : {B : Type 0} (f : ℕ → B) (b : Bool) (a : ℕ) → option_map f (cond b (Some a) None) ≡ cond b (Some (f a)) None
mapped_cond f true a = refl
mapped_cond f false a = refl

-- ---- polls, of which the last brings FA

module _ (k : KeptBytes) where
  abbrev polls_left : ℕ → Exchange (Kept KeptBytes (Answer DeviceToHostResponse))
  polls_left n = keeping_onto k (repeat n (refuses 5) (poll response_turn))

  module _ (n : ℕ) (came b : ℕ) (l : List ℕ) (u : ℕ) where
    heard_now : bit output_buffer_full came ≡ true → cond (eqb b 0xFA) (Some 2) None ≡ Some u → (log : List ℕ)
        → played (yields (kept (gives Acknowledge) k)) u 0 log ≡ play (polls_left (suc n)) (came ∷ b ∷ l) log
    unfolding repeat poll keeping bind play decode
    heard_now q h log = let z = cond_some (eqb b 0xFA) 2 u h in rw (← z.1, eqb-true b 0xFA z.0, q)

    heard_later : bit output_buffer_full came ≡ false → (v : ℕ) → suc v ≡ u → (log : List ℕ) → played (yields (kept (gives Acknowledge) k)) v 0 log ≡ play (polls_left n) (b ∷ l) log
        → played (yields (kept (gives Acknowledge) k)) u 0 log ≡ play (polls_left (suc n)) (came ∷ b ∷ l) log
    unfolding repeat poll keeping bind play
    heard_later q v e log r = rw (← e, q) (ap (λ o. after_read o) r)

  abbrev Hears : ℕ → List ℕ → Type 0
  Hears n l = (u : ℕ) → heard_within n l ≡ Some u → (log : List ℕ) → played (yields (kept (gives Acknowledge) k)) u 0 log ≡ play (polls_left n) l log

  hears_by : (n : ℕ) (came b : ℕ) (l : List ℕ) (u : ℕ) (full : Bool) → Hears n (b ∷ l) → bit output_buffer_full came ≡ full
      → cond full (cond (eqb b 0xFA) (Some 2) None) (option_map suc (heard_within n (b ∷ l))) ≡ Some u → (log : List ℕ)
      → played (yields (kept (gives Acknowledge) k)) u 0 log ≡ play (polls_left (suc n)) (came ∷ b ∷ l) log
  hears_by n came b l u true more q h log = heard_now n came b l u q h log
  hears_by n came b l u false more q h log = let m = mapped suc (heard_within n (b ∷ l)) u h in heard_later n came b l u q m.0 m.2 log (more m.0 m.1 log)

  hears : (n : ℕ) (l : List ℕ) → Hears n l
  unfolding heard_within
  hears zero l u h log = absurd (none-some u h)
  hears (suc n) [] u h log = absurd (none-some u h)
  hears (suc n) (came ∷ []) u h log = absurd (none-some u h)
  hears (suc n) (came ∷ b ∷ l) u h log = hears_by n came b l u (bit output_buffer_full came) (hears n (b ∷ l)) refl h log

-- ---- how the code comes to them, place by place

-- a poll and what follows it
opened : (s : List ℕ) (i m : ℕ) → suc i < length s
    → heard_within (suc m) (drop i s) ≡ cond (bit output_buffer_full (get_or s i 0)) (cond (eqb (get_or s (suc i) 0) 0xFA) (Some 2) None) (option_map suc (heard_within m (drop (suc i) s)))
unfolding heard_within
opened [] i m h = absurd (omega (arith, h))
opened (x ∷ []) i m h = absurd (omega (arith, h))
opened (x ∷ y ∷ s) zero m h = refl
opened (x ∷ y ∷ s) (suc i) m h = opened (y ∷ s) i m (omega (arith, h))

-- the first one brings FA
pub first_heard : (s : List ℕ) → 2 ≤ length s → bit output_buffer_full (get_or s 0 0) ≡ true → eqb (get_or s 1 0) 0xFA ≡ true → heard_within poll_limit s ≡ Some 2
first_heard s h q e =
    let z : poll_limit ≡ suc 65534 = omega arith in
    ap (λ n. heard_within n s) z ∙ (opened s 0 65534 (omega (arith, h)) ∙ rw (q, e))

-- none is left, or no byte for one
none_left : (n : ℕ) (l : List ℕ) → n ≤ 0 → heard_within n l ≡ None
unfolding heard_within
none_left zero l h = refl
none_left (suc n) l h = absurd (omega (arith, h))

short : (n : ℕ) (l : List ℕ) → length l ≤ 1 → heard_within n l ≡ None
unfolding heard_within
short zero l h = refl
short (suc n) [] h = refl
short (suc n) (x ∷ []) h = refl
short (suc n) (x ∷ y ∷ l) h = absurd (omega (arith, h))

-- the first i polls find nothing
abbrev pub Waits : List ℕ → ℕ → Type 0
Waits s i = heard_within poll_limit s ≡ option_map (λ u. i + u) (heard_within (poll_limit - i) (drop i s))

further : (i : ℕ) (o : Option ℕ) → option_map (λ u. i + u) (option_map suc o) ≡ option_map (λ u. suc i + u) o
further i None = refl
further i (Some u) = ap (λ n. Some n) (omega arith)

module _ (s : List ℕ) (i : ℕ) (w : Waits s i) where
  module _ (h : suc i < length s) (l : i < poll_limit) where
    at_place : heard_within poll_limit s
        ≡ option_map (λ u. i + u) (cond (bit output_buffer_full (get_or s i 0)) (cond (eqb (get_or s (suc i) 0) 0xFA) (Some 2) None) (option_map suc (heard_within (poll_limit - suc i) (drop (suc i) s))))
    at_place =
        let e : poll_limit - i ≡ suc (poll_limit - suc i) = omega (arith, l) in
        w ∙ ap (λ n. option_map (λ u. i + u) (heard_within n (drop i s))) e ∙ ap (λ o. option_map (λ u. i + u) o) (opened s i (poll_limit - suc i) h)

    pub waits_next : bit output_buffer_full (get_or s i 0) ≡ false → (j : ℕ) → j ≡ suc i → Waits s j
    waits_next q j e = rw e (rw q at at_place ∙ further i (heard_within (poll_limit - suc i) (drop (suc i) s)))

    pub waits_heard : bit output_buffer_full (get_or s i 0) ≡ true → (j : ℕ) → j ≡ suc i → heard_within poll_limit s ≡ cond (eqb (get_or s j 0) 0xFA) (Some (i + 2)) None
    waits_heard q j e = rw e (rw q at at_place ∙ mapped_cond (λ u. i + u) (eqb (get_or s (suc i) 0) 0xFA) 2)

  over_by : (b : Bool) → leb poll_limit i ≡ b → (i < poll_limit → length s ≤ suc i) → heard_within (poll_limit - i) (drop i s) ≡ None
  over_by true q h = none_left (poll_limit - i) (drop i s) (omega (arith, leb-true poll_limit i q))
  over_by false q h = short (poll_limit - i) (drop i s) (omega (arith, h (leb-false poll_limit i q), length-drop i s))

  pub waits_over : (i < poll_limit → length s ≤ suc i) → heard_within poll_limit s ≡ None
  waits_over h = w ∙ ap (λ o. option_map (λ u. i + u) o) (over_by (leb poll_limit i) refl h)

-- and so do n more, where no status of theirs says that there are data
further_waits : (s : List ℕ) (i n : ℕ) → Waits s i → i + n < length s → i + n ≤ poll_limit → ((k : ℕ) → k < n → bit output_buffer_full (get_or s (i + k) 0) ≡ false) → Waits s (i + n)
further_waits s i zero w h l q = let e : i + 0 ≡ i = omega arith in rw e w
further_waits s i (suc n) w h l q =
    waits_next s (i + n) (further_waits s i n w (omega (arith, h)) (omega (arith, l)) (λ k b. q k (omega (arith, b)))) (omega (arith, h)) (omega (arith, l)) (q n (omega arith)) (i + suc n)
    (omega arith)

silent_at : (l : List ℕ) (k : ℕ) → list_any (bit output_buffer_full) l ≡ false → k < length l → (b : Bool) → bit output_buffer_full (get_or l k 0) ≡ b → bit output_buffer_full (get_or l k 0) ≡ false
silent_at l k none h true q = let e : true ≡ false = sym (list_any_at (bit output_buffer_full) l k 0 h q) ∙ none in cc
silent_at l k none h false q = q

-- the same of a part of the script that is asked as one list
pub waits_block : (s l : List ℕ) (i n m : ℕ) → Waits s i → i + n < length s → i + n ≤ poll_limit → m ≡ n → l ≡ take m (drop i s) → list_any (bit output_buffer_full) l ≡ false → Waits s (i + n)
waits_block s l i n m w h b e same none =
    let long : length l ≡ m = ap length same ∙ length-take-le m (drop i s) (omega (arith, length-drop i s, h, e)) in
    further_waits s i n w h b
    (λ k q.
    let at : get_or l k 0 ≡ get_or s (i + k) 0 = ap (λ (t : List ℕ). get_or t k 0) same ∙ get_or-take m (drop i s) k 0 (omega (arith, q, e)) ∙ get_or-drop i s k 0 in
    ap (bit output_buffer_full) (sym at) ∙ silent_at l k none (omega (arith, q, e, long)) (bit output_buffer_full (get_or l k 0)) refl)

-- ---- one command

module _ (k : KeptBytes) (value : HostToDevice) (sent : ℕ) (a : bit input_buffer_full sent ≡ false) (rest : List ℕ) (u : ℕ) (h : heard_within poll_limit rest ≡ Some u) (x y : ℕ) (log : List ℕ) where
  abbrev script : List ℕ
  script = sent ∷ rest

  abbrev logged : List ℕ
  logged = 0x60 ∷ to_device value ∷ log

  -- the byte goes at the first status read
  try : played (yields (found (gives success))) 1 1 logged ≡ play (send_try (to_device value)) script (x ∷ y ∷ log)
  unfolding send_try play
  try = rw a

  sends : played (yields (gives success)) 1 1 logged ≡ play (polling_send value) script (x ∷ y ∷ log)
  unfolding polling_send
  sends =
      rw (repeat_step 255 254 (refuses 4) (send_try (to_device value)) refl)
      (bind_ended (send_try (to_device value)) (repeat 254 (refuses 4) (send_try (to_device value))) script (x ∷ y ∷ log) (yields (gives success)) try)

  receives : ReadsKept (keeping_onto k polling_receive) rest (yields (gives Acknowledge)) u 0 k
  unfolding polling_receive
  receives = record { reads = record { with_any = λ l. hears k poll_limit rest u h l; no_pairs = refl }; ended = refl }

  abbrev once_settled : Kept KeptBytes (Turn (Answer Success)) → Exchange (Kept KeptBytes (Answer Success))
  once_settled z = keeping_onto z.bytes (turned z.value (repeat 3 (refuses 7) (attempt value)))

  -- so the first attempt settles the command
  settles : played (kept_end (yields (found (gives success))) k) (1 + u) 1 logged ≡ play (keeping_onto k (attempt value)) script (x ∷ y ∷ log)
  unfolding polling_send_receive and_then
  settles =
      let r : ReadsKept (keeping_onto k polling_receive) (part 1 script) (yields (gives Acknowledge)) u 0 k = rw (part_drop 1 script) receives in
      let q : PlaysKept (keeping_onto k (polling_send_receive value)) script (x ∷ y ∷ log) (yields (gives Acknowledge)) (1 + u) 1 logged k =
      no_data_then_reads (polling_send value) (λ (_ : Success). polling_receive) (no_data_send value) k script (x ∷ y ∷ log) sends refl r in
      attempt_response value k k script (x ∷ y ∷ log) (counted Acknowledge (1 + u) 1) q.plays refl

  accepted : PlaysKept (keeping_onto k (command value)) script (x ∷ y ∷ log) (yields (gives success)) (1 + u) 1 logged k
  unfolding command
  accepted =
      record {
        plays =
            rw (repeat_step 4 3 (refuses 7) (attempt value) refl, keeping-bind added_thrown (λ r. turned r (repeat 3 (refuses 7) (attempt value))) k (attempt value))
            (bind_done (keeping_onto k (attempt value)) once_settled script (x ∷ y ∷ log) settles refl (keeping-done added_thrown k (gives success)));
        ended = refl;
      }

  accepted_as : (s : List ℕ) (n : ℕ) → s ≡ script → n ≡ 1 + u → PlaysKept (keeping_onto k (command value)) s (x ∷ y ∷ log) (yields (gives success)) n 1 logged k
  accepted_as s n e f = rw (e, f) accepted

-- by what a script begins with
record Begins (l : List ℕ) (u : ℕ) : Type 0 where
  sent : ℕ
  rest : List ℕ
  polls : ℕ
  is : l ≡ sent ∷ rest
  used : u ≡ 1 + polls
  empty : bit input_buffer_full sent ≡ false
  heard : heard_within poll_limit rest ≡ Some polls

begins_by : (sent : ℕ) (rest : List ℕ) (u : ℕ) (b : Bool) → bit input_buffer_full sent ≡ b → cond b None (option_map suc (heard_within poll_limit rest)) ≡ Some u → Begins (sent ∷ rest) u
begins_by sent rest u true q h = absurd (none-some u h)
begins_by sent rest u false q h =
    let m = mapped suc (heard_within poll_limit rest) u h in
    record { sent = sent; rest = rest; polls = m.0; is = refl; used = omega (arith, m.2); empty = q; heard = m.1 }

begins : (l : List ℕ) (u : ℕ) → acknowledged l ≡ Some u → Begins l u
begins [] u h = absurd (none-some u h)
begins (sent ∷ rest) u h = begins_by sent rest u (bit input_buffer_full sent) refl h

command_accepted : (k : KeptBytes) (value : HostToDevice) (s : List ℕ) (u : ℕ) → acknowledged s ≡ Some u → (x y : ℕ) (log : List ℕ)
    → PlaysKept (keeping_onto k (command value)) s (x ∷ y ∷ log) (yields (gives success)) u 1 (0x60 ∷ to_device value ∷ log) k
command_accepted k value s u h x y log = let a = begins s u h in accepted_as k value a.sent a.empty a.rest a.polls a.heard x y log s u a.is a.used

-- to the second port's device, after D4
no_data_d4 : NoData (write_command WriteByteToPort2InputBuffer)
unfolding write_port
no_data_d4 = no_data_write no_data_done

module _ (k : KeptBytes) (value : HostToDevice) (script : List ℕ) (u : ℕ) (h : acknowledged script ≡ Some u) (w x y z : ℕ) (log : List ℕ) where
  d4 : Writes (write_command WriteByteToPort2InputBuffer) (w ∷ x ∷ y ∷ z ∷ log) (yields (gives success)) 0 1 (0x64 ∷ 0xD4 ∷ y ∷ z ∷ log)
  unfolding write_port play
  d4 = record { with_any = λ script. refl; no_bytes = refl }

  accepted_2 : PlaysKept (keeping_onto k (command_to_port2 value)) script (w ∷ x ∷ y ∷ z ∷ log) (yields (gives success)) u 2 (0x64 ∷ 0xD4 ∷ 0x60 ∷ to_device value ∷ log) k
  unfolding command_to_port2 and_then
  accepted_2 =
      let told : List ℕ = 0x64 ∷ 0xD4 ∷ y ∷ z ∷ log in
      let r : PlaysKept (keeping_onto k (command value)) script (part 2 told) (yields (gives success)) u 1 (0x60 ∷ to_device value ∷ log) k = rw (part_drop 2 told) (command_accepted k value script u h y z log) in
      rw (restored_append 2 told (0x60 ∷ to_device value ∷ log)) at
      (writes_then_keeps (write_command WriteByteToPort2InputBuffer) (λ (_ : Success). command value) no_data_d4 k script (w ∷ x ∷ y ∷ z ∷ log) d4 refl refl r)

-- ---- two commands, one behind the other

module _ (k : KeptBytes) (t g : Exchange (Answer Success)) (n u v : ℕ) (script log : List ℕ) {l' m : List ℕ} where
  pair : PlaysKept (keeping_onto k t) script log (yields (gives success)) u n l' k → PlaysKept (keeping_onto k g) (drop u script) (drop (2 * n) l') (yields (gives success)) v n m k
      → PlaysKept (keeping_onto k (and_then t (λ _. g))) script log (yields (gives success)) (u + v) (n + n) (take (2 * n) l' ++ m) k
  unfolding and_then
  pair r q =
      let x : PlaysKept (keeping_onto k g) (part u script) (part (2 * n) l') (yields (gives success)) v n m k = rw (part_drop u script, part_drop (2 * n) l') q in
      rw (restored_append (2 * n) l' m) at (onto_then t (on_given (λ _. g)) k script log r refl {at = 2 * n} refl x)

-- ---- by what a log begins with

record Room (l : List ℕ) : Type 0 where
  first : ℕ
  second : ℕ
  rest : List ℕ
  is : l ≡ first ∷ second ∷ rest

room : (l : List ℕ) → 2 ≤ length l → Room l
room [] h = absurd (omega (arith, h))
room (x ∷ []) h = absurd (omega (arith, h))
room (x ∷ y ∷ l) h = record { first = x; second = y; rest = l; is = refl }

left_room : (l : List ℕ) (r : Room l) {n : ℕ} → suc (suc n) ≤ length l → n ≤ length r.rest
left_room l r h = let e : suc (suc _) ≤ length (r.first ∷ r.second ∷ r.rest) = rw r.is at h in omega (arith, e)

-- the pairs of two commands are written, or not, by the log's room
abbrev Written : DevicePort → ℕ → ℕ → List ℕ → Option ℕ → List ℕ → Type 0
Written port first second log n log' =
    ((2 * pairs_to port ≤ length log) × ((n ≡ Some (pairs_to port)) × (log' ≡ with_two port first second log))) ⊎ ((length log < 2 * pairs_to port) × ((n ≡ None) × (log' ≡ log)))

by_room : (port : DevicePort) (first second : ℕ) (log : List ℕ) {n : Option ℕ} {log' : List ℕ} → TwoWritten port first second log n log' → (b : Bool) → leb (2 * pairs_to port) (length log) ≡ b
    → Written port first second log n log'
by_room port first second log t true h = let i = leb-true (2 * pairs_to port) (length log) h in inl (i, t.fits i)
by_room port first second log t false h = let i = leb-false (2 * pairs_to port) (length log) h in inr (i, t.full i)

pairs_written : (port : DevicePort) (first second : ℕ) (log : List ℕ) {n : Option ℕ} {log' : List ℕ} → TwoWritten port first second log n log'
    → (n ≡ cond (leb (2 * pairs_to port) (length log)) (Some (pairs_to port)) None) × (n ≡ None → log' ≡ log)
pairs_written port first second log t =
    ⊎_elim
    (λ r. (rw (le-leb (2 * pairs_to port) (length log) r.0) r.1.0, λ z. let e : Some (pairs_to port) ≡ None = sym r.1.0 ∙ z in cc))
    (λ r. (rw (lt-leb (2 * pairs_to port) (length log) r.0) r.1.0, λ _. r.1.1))
    (by_room port first second log t (leb (2 * pairs_to port) (length log)) refl)

module _ (k : KeptBytes) (first second : HostToDevice) (script log : List ℕ) (u v : ℕ) (p : acknowledged script ≡ Some u) (q : acknowledged (drop u script) ≡ Some v) where
  port1_acknowledged : 4 ≤ length log
      → PlaysKept (keeping_onto k (and_then (command first) (λ _. command second))) script log (yields (gives success)) (u + v) 2 (with_two Port1 (to_device first) (to_device second) log) k
  port1_acknowledged h =
      let x = room log (omega (arith, h)) in
      let y = room x.rest (left_room log x (omega (arith, h))) in
      rw (x.is, y.is)
      (pair k (command first) (command second) 1 u v script (x.first ∷ x.second ∷ y.first ∷ y.second ∷ y.rest)
      (command_accepted k first script u p x.first x.second (y.first ∷ y.second ∷ y.rest))
      (command_accepted k second (drop u script) v q y.first y.second y.rest))

  port2_acknowledged : 8 ≤ length log
      → PlaysKept (keeping_onto k (and_then (command_to_port2 first) (λ _. command_to_port2 second))) script log (yields (gives success)) (u + v) 4 (with_two Port2 (to_device first) (to_device second) log) k
  port2_acknowledged h =
      let w = room log (omega (arith, h)) in
      let i = left_room log w {n = 6} (omega (arith, h)) in
      let x = room w.rest (omega (arith, i)) in
      let j = left_room w.rest x {n = 4} (omega (arith, i)) in
      let y = room x.rest (omega (arith, j)) in
      let z = room y.rest (left_room x.rest y (omega (arith, j))) in
      rw (w.is, x.is, y.is, z.is)
      (pair k (command_to_port2 first) (command_to_port2 second) 2 u v script (w.first ∷ w.second ∷ x.first ∷ x.second ∷ y.first ∷ y.second ∷ z.first ∷ z.second ∷ z.rest)
      (accepted_2 k first script u p w.first w.second x.first x.second (y.first ∷ y.second ∷ z.first ∷ z.second ∷ z.rest))
      (accepted_2 k second (drop u script) v q y.first y.second z.first z.second z.rest))

  at_port : (port : DevicePort) → 2 * pairs_to port ≤ length log
      → PlaysKept (keeping_onto k (and_then (command_by port first) (λ _. command_by port second))) script log (yields (gives success)) (u + v) (pairs_to port) (with_two port (to_device first) (to_device second) log) k
  at_port Port1 h = port1_acknowledged h
  at_port Port2 h = port2_acknowledged h

  -- to either port's device, where the pairs were written
  both_made : (port : DevicePort) {n : Option ℕ} {log' : List ℕ} → TwoWritten port (to_device first) (to_device second) log n log'
      → (m : ℕ) → n ≡ Some m → PlaysKept (keeping_onto k (and_then (command_by port first) (λ _. command_by port second))) script log (yields (gives success)) (u + v) m log' k
  both_made port t m some =
      ⊎_elim (λ r. let e : m ≡ pairs_to port = cc in rw (e, r.1.1) (at_port port r.0)) (λ r. let e : Some m ≡ None = sym some ∙ r.1.0 in cc)
      (by_room port (to_device first) (to_device second) log t (leb (2 * pairs_to port) (length log)) refl)

module _ (port : DevicePort) (first second : HostToDevice) (script log : List ℕ) where
  abbrev both : Exchange (Answer Success)
  both = and_then (command_by port first) (λ _. command_by port second)

  module _ (u v : ℕ) (p : acknowledged script ≡ Some u) (q : acknowledged (drop u script) ≡ Some v) {n : Option ℕ} {log' : List ℕ} (t : TwoWritten port (to_device first) (to_device second) log n log') where
    pub both_heard : (made : Option (Counted Success)) → made ≡ option_map (λ m. counted success (u + v) m) n → TwoAcknowledged port both script log made log'
    both_heard made e =
        let w = pairs_written port (to_device first) (to_device second) log t in
        record {
          writes = rw (e, p, q, w.0) (mapped_cond (λ m. counted success (u + v) m) (leb (2 * pairs_to port) (length log)) (pairs_to port));
          undone = λ z. w.1 (mapped_none (λ m. counted success (u + v) m) n (sym e ∙ z));
          plays =
              λ c some k.
              let m = mapped (λ m. counted success (u + v) m) n c (sym e ∙ some) in
              rw (← m.2) (both_made k first second script log u v p q port t m.0 m.1);
        }
