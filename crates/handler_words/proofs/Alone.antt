-- A call whose byte is a key's and asks for no lamp exchange, where none waits: what it gives back.
use mathlib.Core.Path.{◌≡◌, refl, sym, ap, subst, ◌∙◌}
use mathlib.Core.Bool.{Bool, true, false, cond, ◌||◌, true≢false}
use mathlib.Core.Logic.{⊎_elim}
use mathlib.Core.List.{List, [], ◌∷◌}
use mathlib.Core.Option.{Option, none, some}
use Prim.Native.Nat.{ℕ, ◌+◌, ◌*◌, ◌/◌, ◌%◌, ◌<◌}
use native.Mathlib.Omega.{arith}
use lib.Dec.{eqb}
use lib.ListN.{length, get_or, drop}
use borrow.Author.Tests.{ltb-true, ltb-false, leb-true, ne_eqb}
use Rattle.exchange.specs.Exchange.{yields, after_read, played, play}
use Rattle.exchange.specs.Answer.{Answer, gives, refuses}
use Rattle.ps2_answers.specs.Refusals.{Success, success}
use Rattle.ps2_kept.specs.Kept.{kept_of}
use Rattle.ps2_ports.specs.declared.DevicePort.{DevicePort}
use Rattle.keycodes_ascii.specs.declared.KeyAction.{KeyAction}
use Rattle.keycodes_ascii.specs.declared.KeyEvent.{KeyEvent}
use Rattle.keyboard_scancodes.specs.declared.KeyboardState.{KeyboardState}
use Rattle.keyboard_scancodes.specs.declared.Profile.{Profile}
use Rattle.keyboard_scancodes.specs.Events.{last_keycode, is_known, event_of}
use Rattle.keyboard_scancodes.specs.FlagsAfter.{flags_after, flags_then}
use Rattle.keyboard_scancodes.specs.Profile.{allows, followed, presses_followed}
use Rattle.keyboard_scancodes.specs.Strokes.{low_part, is_press, stroke, is_silent}
use Rattle.keyboard_scancodes.specs.Remembered.{fresh_keyboard}
use Rattle.keyboard_scancodes.specs.Waiting.{bytes_from}
use Rattle.keyboard_scancodes.proofs.Tests.{which}
use Rattle.keyboard_sides.specs.declared.Side.{Side}
use Rattle.keyboard_record.specs.declared.HandlerState.{HandlerState}
use Rattle.keyboard_record.specs.Queue.{waiting_sides, room, place as at, one_more, if_given, free_place}
use Rattle.keyboard_record.specs.Record.{keyboard_at, with_keyboard, call_formed}
use Rattle.keyboard_record.proofs.AtSides.{keyboard_at_with, start_with, count_with, keyboard_at_more}
use Rattle.keyboard_record.proofs.Meeting.{admits_allowed}
use Rattle.keyboard.specs.Byte.{key_event, after_lamps, on_byte, key_call, key_effects}
use Rattle.keyboard.specs.Handler.{Outcome, queued, Effects, effects, log_left}
use Rattle.keyboard.specs.KeyboardLamps.{port_of, port_rules, keyboard_lamps}
use Rattle.keyboard.specs.Outcomes.{key_effects_of}
use Rattle.keyboard.proofs.Outcomes.{call_back, no_lamps, key_byte}
use Rattle.keyboard.proofs.Effects.{formed_call}
use Rattle.keyboard.proofs.Refused.{malformed_effects, malformed_log}
use Rattle.theorem_history.proofs.Meaning.{keycode_number}
use Rattle.handler_words.specs.declared.HandledWords.{HandledWords}
use Rattle.handler_words.specs.Layout.{keyboard_from, words_length}
use Rattle.handler_words.specs.Words.{action_number, word_of, keyboard_in, state_of}
use Rattle.handler_words.specs.Calls.{refusing, with_keyboard_at, with_event}
use Rattle.handler_words.specs.Parts.{Narrow, reread, Says, KeyAlone, followed_by, byte_used, KeyQueued, KeyHandled}
use Rattle.handler_words.proofs.Calls.{as_passed, moved_on}

-- for its keyboard
module _ (port : DevicePort) (k : KeyboardState) (b : ℕ) (e : k.waiting.count ≡ 0) (loud : is_silent b ≡ false) (steady : presses_followed Profile.Any b ≡ false)
    {flags : ℕ} (f : flags ≡ flags_after (followed Profile.Any) (stroke b k.prefix) k.modifiers.bits) (script log : List ℕ) where
  plays : played (yields (after_lamps b flags (kept_of []) (gives success))) 1 0 log ≡ play (key_call (port_rules Profile.Any port) k) (b ∷ script) log
  unfolding key_call play bytes_from on_byte flags_then
  plays =
      rw e
      (ap after_read
      (no_lamps (port_rules Profile.Any port) k b flags [] script log refl steady ∙ ap (λ t. play t script log) (key_byte (port_rules Profile.Any port) k b [] f loud)))

  key_alone : (key_effects_of (after_lamps b flags (kept_of []) (gives success)) 1 0 ≡ key_effects (port_rules Profile.Any port) k (b ∷ script) log)
      × (log ≡ (play (key_call (port_rules Profile.Any port) k) (b ∷ script) log).log)
  key_alone = call_back (port_rules Profile.Any port) k (b ∷ script) log plays

-- for the record: its event is queued, or is not
queued_lamps : (side : Side) (s : HandlerState) (g : Answer (Option KeyEvent)) (lit : Answer Success) (n : ℕ) → (queued side s g lit n).lamps ≡ lit
queued_lamps side s (gives none) lit n = refl
queued_lamps side s (gives (some e)) lit n = refl
queued_lamps side s (refuses m) lit n = refl

queued_dropped : (side : Side) (s : HandlerState) (g : Answer (Option KeyEvent)) (lit : Answer Success) (n : ℕ) → (queued side s g lit n).dropped ≡ n
queued_dropped side s (gives none) lit n = refl
queued_dropped side s (gives (some e)) lit n = refl
queued_dropped side s (refuses m) lit n = refl

abbrev pub outcome_alone : Side → HandlerState → ℕ → ℕ → Outcome
outcome_alone side s b flags = queued side (with_keyboard side (followed_by flags) s) (key_event b flags) (gives success) 0

abbrev pub effects_alone : Side → HandlerState → ℕ → ℕ → Effects
effects_alone side s b flags =
    let o = outcome_alone side s b flags in
    record { end = yields o.answer; lamps = gives success; used = 1; pairs = 0; state = o.state; event = o.event; dropped = 0 }

-- none of the side's bytes waits where its number says so, and any key is allowed
none_waiting : (side : Side) (ws : List ℕ) → get_or ws (keyboard_from side + 2) 0 ≡ 0 → (keyboard_at side (state_of ws)).waiting.count ≡ 0
unfolding state_of keyboard_in
none_waiting Side.First ws e = e
none_waiting Side.Second ws e = by_two (eqb (get_or ws 10 0) 2)
  where
    by_two : (two : Bool) → (cond two (keyboard_in ws 5) fresh_keyboard).waiting.count ≡ 0
    by_two true = e
    by_two false = refl

pub any_key_in : (ws : List ℕ) → get_or ws 11 0 ≡ 0 → (state_of ws).table.profile ≡ Profile.Any
unfolding state_of
any_key_in ws e = rw e

first_byte : (l : List ℕ) → 0 < length l → l ≡ get_or l 0 0 ∷ drop 1 l
first_byte [] h = absurd (omega (arith, h))
first_byte (b ∷ l) h = refl

module _ (side : Side) (ws script : List ℕ) (w : call_formed side (state_of ws) ≡ true) (a : KeyAlone side ws script) {flags : ℕ}
    (f : flags ≡ flags_after (followed Profile.Any) (stroke (get_or script 0 0) (keyboard_at side (state_of ws)).prefix) (keyboard_at side (state_of ws)).modifiers.bits) (log : List ℕ) where
  abbrev s : HandlerState
  s = state_of ws

  begun : (effects_alone side s (get_or script 0 0) flags ≡ effects keyboard_lamps side s (get_or script 0 0 ∷ drop 1 script) log) × (log ≡ log_left keyboard_lamps side s (get_or script 0 0 ∷ drop 1 script) log)
  begun =
      let b = get_or script 0 0 in
      let t = with_keyboard side (followed_by flags) s in
      formed_call side s (b ∷ drop 1 script) log w (sym (any_key_in ws a.taken.any_key)) refl refl
      (key_alone (port_of side) (keyboard_at side s) b (none_waiting side ws a.taken.none_waits) a.not_silent a.no_lamps f (drop 1 script) log)
      (rw (queued_lamps side t (key_event b flags) (gives success) 0, queued_dropped side t (key_event b flags) (gives success) 0))

  pub alone_effects : (effects_alone side s (get_or script 0 0) flags ≡ effects keyboard_lamps side s script log) × (log ≡ log_left keyboard_lamps side s script log)
  alone_effects =
      subst (λ (l : List ℕ). (effects_alone side s (get_or script 0 0) flags ≡ effects keyboard_lamps side s l log) × (log ≡ log_left keyboard_lamps side s l log))
      (sym (first_byte script a.taken.some_byte)) begun

-- ---- the event of a key's byte

press_number : (b : ℕ) → b < 256 → action_number (cond (is_press b) KeyAction.Pressed KeyAction.Released) ≡ b / 128
press_number b h =
    ⊎_elim (λ e. rw e (let l = ltb-true b 128 e in omega (arith, l))) (λ e. rw e (let l = ltb-false b 128 e in omega (arith, l, h))) (which (is_press b))

pub key_number : (b flags : ℕ) → b < 256 → is_known b ≡ true → b % 128 + 256 * (b / 128) + 65536 * flags ≡ word_of (event_of b flags)
unfolding word_of event_of
key_number b flags h k = rw (press_number b h, keycode_number (low_part b) (leb-true (low_part b) last_keycode k))

-- it is queued, or is not
module _ (side : Side) (s : HandlerState) (b flags place : ℕ) (ws : List ℕ) where
  abbrev outcome : Outcome
  outcome = queued side s (key_event b flags) (gives success) 0

  pub unknown : is_known b ≡ false → KeyQueued outcome place ws 19 ws
  unfolding key_event
  unknown k = rw k (record { answers = refl; moves = refl; writes = refl; reads = refl })

  module _ (k : is_known b ≡ true) (any : s.table.profile ≡ Profile.Any) where
    place_is : at side (event_of b flags).keycode s ≡ room side s
    unfolding allows
    place_is = admits_allowed s.table side (waiting_sides s) (event_of b flags).keycode (rw any refl)

    pub kept_out : {n : ℕ} → refuses n ≡ room side s → eqb n 2 || (eqb n 3 || eqb n 21) ≡ false → KeyQueued outcome place ws n ws
    unfolding key_event
    kept_out r m = rw (k, place_is, ← r) (record { answers = refl; moves = m; writes = refl; reads = refl })

    pub joins : gives success ≡ room side s → {ws' : List ℕ} → (ws' ≡ with_event place (one_more side s) (some (event_of b flags)) ws) × (reread (some (event_of b flags)) ≡ some (event_of b flags))
        → KeyQueued outcome place ws 0 ws'
    unfolding key_event
    joins r w = rw (k, place_is, ← r) (record { answers = refl; moves = refl; writes = w.0; reads = w.1 })

-- ---- whether a call is of a key alone, by its numbers

pub says_no : {P : Type 0} → (P → ⊥) → Says P false
says_no n = record { is_so = λ e. absurd (true≢false (sym e)); is_not = λ _. n }

-- ---- such a call

keyboard_left : (side : Side) (t : HandlerState) (g : Answer (Option KeyEvent)) → keyboard_at side (queued side t g (gives success) 0).state ≡ keyboard_at side t
keyboard_left side t (gives none) = refl
keyboard_left side t (gives (some e)) = by_answer (at side e.keycode t)
  where
    by_answer : (a : Answer Success) → keyboard_at side (if_given a (one_more side t) t) ≡ keyboard_at side t
    by_answer (gives x) = keyboard_at_more side side t
    by_answer (refuses n) = refl
keyboard_left side t (refuses n) = refl

free_place_with : (side : Side) (k : KeyboardState) (t : HandlerState) → free_place (with_keyboard side k t) ≡ free_place t
free_place_with side k t = rw (start_with side k t, count_with side k t)

module _ (side : Side) (ws script : List ℕ) where
  pub malformed_alone : call_formed side (state_of ws) ≡ false → {r : HandledWords} → r ≡ refusing 21 → KeyHandled side ws script r ws
  malformed_alone f e =
      rw e
      (record {
        with_any = λ log.
            as_passed side ws script log (record { end = yields (refuses 21); lamps = gives success; used = 0; pairs = 0; state = state_of ws; event = none; dropped = 0 })
            (sym (malformed_effects keyboard_lamps side (state_of ws) script log f), sym (malformed_log keyboard_lamps side (state_of ws) script log f)) refl refl refl refl;
      })

  module _ (h : length ws ≡ words_length) (w : call_formed side (state_of ws) ≡ true) (a : KeyAlone side ws script) {flags : ℕ}
      (f : flags ≡ flags_after (followed Profile.Any) (stroke (get_or script 0 0) (keyboard_at side (state_of ws)).prefix) (keyboard_at side (state_of ws)).modifiers.bits) where
    pub handled_alone : {k : KeyboardState} → k ≡ followed_by flags → {us : List ℕ} → (us ≡ with_keyboard_at (keyboard_from side) k ws) × Narrow k
        → {left : HandlerState} → left ≡ with_keyboard side (followed_by flags) (state_of ws)
        → {n : ℕ} {ws' : List ℕ} → KeyQueued (queued side left (key_event (get_or script 0 0) flags) (gives success) 0) (free_place left) us n ws'
        → KeyHandled side ws script (byte_used n) ws'
    handled_alone q u l {n} {ws'} x =
        let s = state_of ws in
        let b = get_or script 0 0 in
        let y : KeyQueued (outcome_alone side s b flags) (free_place s) _ n ws' = rw (l, free_place_with side (followed_by flags) s) at x in
        record {
          with_any = λ log.
              moved_on side ws script log (effects_alone side s b flags) (alone_effects side ws script w a f log) y.answers refl refl h (rw y.answers at y.moves)
              (q ∙ sym (keyboard_left side (with_keyboard side (followed_by flags) s) (key_event b flags) ∙ keyboard_at_with side (followed_by flags) s)) u (y.writes, y.reads);
        }
