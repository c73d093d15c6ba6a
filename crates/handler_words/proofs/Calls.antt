-- A handler call on a record's numbers is the call on the record that they stand for.
use mathlib.Core.Path.{◌≡◌, refl, sym, ap, subst, ◌∙◌}
use mathlib.Core.Bool.{Bool, true, false, cond, true≢false}
use mathlib.Core.Logic.{⊎_elim}
use mathlib.Core.List.{List}
use mathlib.Core.Option.{Option, some}
use Prim.Native.Nat.{ℕ, ◌+◌, ◌%◌}
use lib.Dec.{eqb}
use lib.ListN.{length, get_or, set, length-set}
use Rattle.exchange.specs.Answer.{number_answered, number_ended}
use Rattle.keycodes_ascii.specs.declared.KeyEvent.{KeyEvent}
use Rattle.keyboard_scancodes.specs.declared.KeyboardState.{KeyboardState}
use Rattle.keyboard_scancodes.specs.Remembered.{fresh_keyboard}
use Rattle.keyboard_scancodes.specs.Waiting.{bytes_from}
use Rattle.keyboard_scancodes.proofs.Tests.{which}
use Rattle.keyboard_sides.specs.declared.Side.{Side}
use Rattle.keyboard_record.specs.declared.HandlerState.{HandlerState}
use Rattle.keyboard_record.specs.declared.KeyboardHandler.{KeyboardHandler}
use Rattle.keyboard_record.specs.Queue.{places_with, free_place, one_more}
use Rattle.keyboard_record.specs.Record.{keyboard_at, with_keyboard, call_formed}
use Rattle.keyboard_record.proofs.AtSides.{keyboard_at_with, keyboard_at_more}
use Rattle.keyboard_record.proofs.WellFormed.{WellFormed, call_is}
use Rattle.keyboard.specs.declared.Effect.{Effect}
use Rattle.keyboard.specs.Answers.{said_call, said_lamps, ends2_3_21}
use Rattle.keyboard.specs.Handler.{Effects, called_with, effects, log_left, handled}
use Rattle.keyboard.specs.KeyboardLamps.{keyboard_lamps}
use Rattle.keyboard.specs.Outcomes.{said_event, said_effect}
use Rattle.keyboard.proofs.Effects.{queued_well}
use Rattle.keyboard.proofs.Refused.{record_as_passed, malformed_effects}
use Rattle.port_words.specs.Told.{port_lacked}
use Rattle.handler_words.specs.declared.HandledWords.{HandledWords}
use Rattle.handler_words.specs.Layout.{keyboard_from, words_length}
use Rattle.handler_words.specs.Words.{bytes_in, event_at, word_of, keyboard_in, state_of, record_of}
use Rattle.handler_words.specs.Calls.{numbers_of, with_keyboard_at, with_event, words_left, SideHandled}
use Rattle.handler_words.specs.Parts.{Narrow, Placed, reread}
use Rattle.handler_words.proofs.Passing.{well_names}
use Rattle.handler_words.proofs.Words.{keyboard_stored, with_queue, event_stored}
use Rattle.handler_words.proofs.Left.{StateLeft, same, more, state_left}

-- the waiting bytes that numbers stand for have 16 places
bytes_in_lem : (side : Side) (ws : List ℕ) → length (keyboard_at side (state_of ws)).waiting.bytes ≡ 16
unfolding state_of keyboard_in bytes_in bytes_from
bytes_in_lem Side.First ws = refl
bytes_in_lem Side.Second ws = by_two (eqb (get_or ws 10 0) 2)
  where
    by_two : (two : Bool) → length (cond two (keyboard_in ws 5) fresh_keyboard).waiting.bytes ≡ 16
    by_two true = refl
    by_two false = refl

some_is : {d e : KeyEvent} → ◌≡◌ {A = Option KeyEvent} (some d) (some e) → d ≡ e
some_is q = cc

long : (side : Side) (k : KeyboardState) (ws : List ℕ) → length ws ≡ words_length → length (with_keyboard_at (keyboard_from side) k ws) ≡ words_length
long side k ws h = rw (length-set, length-set, length-set, length-set, length-set) h

-- ---- the numbers left stand for the record left

module _ (side : Side) (ws : List ℕ) (h : length ws ≡ words_length) (g : call_formed side (state_of ws) ≡ true) where
  at_stored : (k : KeyboardState) → Narrow k → length k.waiting.bytes ≡ 16
      → record_of (with_keyboard_at (keyboard_from side) k ws) ≡ record { state = with_keyboard side k (state_of ws); places = (record_of ws).places }
  at_stored k a w = keyboard_stored k a w side ws h (well_names ws (call_is side (state_of ws) g).1) (call_is side (state_of ws) g).0

  abbrev Leaves : HandlerState → Option KeyEvent → Type 0
  Leaves s n =
      record_of (with_event (free_place (state_of ws)) s n (with_keyboard_at (keyboard_from side) (keyboard_at side s) ws)) ≡ record { state = s; places = places_with (record_of ws) n }

  stands : {s : HandlerState} {n : Option KeyEvent} → StateLeft side (state_of ws) s n → Narrow (keyboard_at side s) → reread n ≡ n → Leaves s n
  stands (same k w q v) m r =
      let a : Narrow k = rw (q, keyboard_at_with side k (state_of ws)) at m in
      rw (v, q, keyboard_at_with side k (state_of ws)) (at_stored k a w)
  stands (more k w e q v) m r =
      let s = with_keyboard side k (state_of ws) in
      let a : Narrow k = rw (q, keyboard_at_more side side s, keyboard_at_with side k (state_of ws)) at m in
      let i : event_at (word_of e) ≡ e = some_is (rw v at r) in
      let c = (one_more side s).count in
      let sides = (one_more side s).sides in
      let place = free_place (state_of ws) in
      rw (v, q, keyboard_at_more side side s, keyboard_at_with side k (state_of ws))
      (event_stored place (one_more side s) e i (with_keyboard_at (keyboard_from side) k ws) (long side k ws h)
      ∙ ap (λ (r : KeyboardHandler). record { state = with_queue c sides r.state; places = set r.places place e }) (at_stored k a w))

-- ---- a call, by what it gives back

module _ (side : Side) (ws s l : List ℕ) (y : Effects) {l' : List ℕ} (made : (y ≡ effects keyboard_lamps side (state_of ws) s l) × (l' ≡ log_left keyboard_lamps side (state_of ws) s l))
    {refusal lamps port : ℕ} (a : refusal ≡ number_ended y.end) (b : lamps ≡ number_answered y.lamps) (c : port ≡ port_lacked y.end) where
  abbrev answer : HandledWords
  answer = record { refusal = refusal; lamps = lamps; used = y.used; pairs = y.pairs; dropped = y.dropped; port = port }

  answer_is : answer ≡ numbers_of (handled keyboard_lamps side (record_of ws) s l)
  unfolding handled
  answer_is = rw (a, b, c) (ap (λ (z : Effects). numbers_of (called_with (record_of ws) z)) made.0)

  pub as_passed : ends2_3_21 y.end ≡ true → SideHandled side ws s l answer ws l'
  unfolding words_left handled
  as_passed t =
      let e : ends2_3_21 (effects keyboard_lamps side (state_of ws) s l).end ≡ true = ap (λ (z : Effects). ends2_3_21 z.end) (sym made.0) ∙ t in
      record { answered = answer_is; leaves = sym (record_as_passed keyboard_lamps side (record_of ws) s l e); writes = rw e; logged = made.1 }

  -- a call that is not ended by 21 found its record well formed
  was_formed : ends2_3_21 (effects keyboard_lamps side (state_of ws) s l).end ≡ false → call_formed side (state_of ws) ≡ true
  was_formed e =
      ⊎_elim (λ g. g) (λ n. absurd (true≢false (ap (λ (x : Effects). ends2_3_21 x.end) (sym (malformed_effects keyboard_lamps side (state_of ws) s l n)) ∙ e)))
      (which (call_formed side (state_of ws)))

  module _ (h : length ws ≡ words_length) where
    pub moved_on : ends2_3_21 y.end ≡ false → {k : KeyboardState} → k ≡ keyboard_at side y.state
        → {us : List ℕ} → (us ≡ with_keyboard_at (keyboard_from side) k ws) × Narrow k
        → {ws' : List ℕ} → (ws' ≡ with_event (free_place (state_of ws)) y.state y.event us) × (reread y.event ≡ y.event)
        → SideHandled side ws s l answer ws' l'
    unfolding words_left handled
    moved_on t q {us} u {ws'} v =
        let x = effects keyboard_lamps side (state_of ws) s l in
        let e : ends2_3_21 x.end ≡ false = ap (λ (z : Effects). ends2_3_21 z.end) (sym made.0) ∙ t in
        let g : ws' ≡ with_event (free_place (state_of ws)) x.state x.event (with_keyboard_at (keyboard_from side) (keyboard_at side x.state) ws) =
        v.0 ∙ (rw (u.0, q) (ap (λ (z : Effects). with_event (free_place (state_of ws)) z.state z.event (with_keyboard_at (keyboard_from side) (keyboard_at side z.state) ws)) made.0)) in
        let m : Narrow (keyboard_at side x.state) = subst (λ (z : Effects). Narrow (keyboard_at side z.state)) made.0 (rw q at u.1) in
        let r : reread x.event ≡ x.event = subst (λ (z : Effects). reread z.event ≡ z.event) made.0 v.1 in
        record {
          answered = answer_is;
          leaves = ap record_of g ∙ stands side ws h (was_formed e) (state_left side (state_of ws) keyboard_lamps (bytes_in_lem side ws) s l) m r;
          writes = rw e g;
          logged = made.1;
        }

-- ---- by the effect that the code's call on the state gives back

module _ (side : Side) (ws s l : List ℕ) (x : Effect) {left state : HandlerState} (is : state ≡ state_of ws) {l' : List ℕ} (made : (said_effect x left ≡ effects keyboard_lamps side state s l) × (l' ≡ log_left keyboard_lamps side state s l)) where
  effect_is : (said_effect x left ≡ effects keyboard_lamps side (state_of ws) s l) × (l' ≡ log_left keyboard_lamps side (state_of ws) s l)
  effect_is = (rw is at made.0, rw is at made.1)

  -- where there is a new event, there is a place for it
  pub placed : Placed state.start state.count x.event
  placed = record {
    at = λ e n.
        let w : WellFormed state = queued_well keyboard_lamps side s l state x n made.0 in
        (w.start_in, w.count_in);
  }

  module _ {refusal lamps port : ℕ} (a : refusal ≡ number_ended (said_call x.call.answer)) (b : lamps ≡ number_answered (said_lamps x.call.lamps_failed)) (c : port ≡ port_lacked (said_call x.call.answer)) where
    pub left_alone : ends2_3_21 (said_call x.call.answer) ≡ true
        → SideHandled side ws s l (record { refusal = refusal; lamps = lamps; used = x.call.used; pairs = x.call.pairs; dropped = x.call.dropped; port = port }) ws l'
    left_alone t = as_passed side ws s l (said_effect x left) effect_is a b c t

    module _ (h : length ws ≡ words_length) where
      pub written : ends2_3_21 (said_call x.call.answer) ≡ false → {k : KeyboardState} → k ≡ keyboard_at side left
          → {us : List ℕ} → (us ≡ with_keyboard_at (keyboard_from side) k ws) × Narrow k
          → {ws' : List ℕ} → (ws' ≡ with_event ((state.start + state.count) % 128) left (said_event x.event) us) × (reread (said_event x.event) ≡ said_event x.event)
          → SideHandled side ws s l (record { refusal = refusal; lamps = lamps; used = x.call.used; pairs = x.call.pairs; dropped = x.call.dropped; port = port }) ws' l'
      written t q u v = moved_on side ws s l (said_effect x left) effect_is a b c h t q u (rw is at v)
