-- A call of a listing: its record is as the counted bytes say, with an empty queue. What it answers, what is then taken, and that the record after it is so again.
use mathlib.Core.Path.{◌≡◌, refl, ap, sym, subst, ◌∙◌}
use mathlib.Core.Bool.{Bool, true, false, not, cond, true≢false}
use mathlib.Core.List.{List, [], ◌∷◌, map}
use mathlib.Core.Option.{Option, none, some}
use Prim.Native.Nat.{ℕ}
use native.Mathlib.Omega.{arith}
use Rattle.exchange.specs.Exchange.{Port, no_script, no_log, Exchange, End, yields, lacks}
use Rattle.exchange.specs.Answer.{Answer, gives, refuses}
use Rattle.ps2_answers.specs.Refusals.{Success, success}
use Rattle.exchange.proofs.Bounds.{within_room}
use Rattle.ps2_kept.specs.Kept.{kept_of}
use Rattle.keycodes_ascii.specs.declared.KeyEvent.{KeyEvent}
use Rattle.keycodes_ascii.specs.declared.Keycode.{Keycode}
use Rattle.keyboard_sides.specs.declared.Side.{Side}
use Rattle.keyboard_sides.specs.Named.{Sided, sides_in}
use Rattle.keyboard_scancodes.specs.declared.KeyboardState.{KeyboardState}
use Rattle.keyboard_scancodes.specs.Events.{event_of, gives_event}
use Rattle.keyboard_scancodes.specs.declared.Profile.{Profile}
use Rattle.keyboard_scancodes.specs.Profile.{allows}
use Rattle.keyboard_scancodes.specs.FlagsAfter.{flags_then}
use Rattle.keyboard_scancodes.specs.Strokes.{is_silent}
use Rattle.keyboard_scancodes.specs.Waiting.{waiting_bytes}
use Rattle.keyboard_scancodes.proofs.Silent.{silent_gives, key_gives}
use Rattle.keyboard_record.specs.declared.HandlerState.{HandlerState}
use Rattle.keyboard_record.specs.declared.KeyboardHandler.{KeyboardHandler}
use Rattle.keyboard_record.specs.declared.Table.{Table}
use Rattle.keyboard_record.specs.Queue.{meets, admits, place}
use Rattle.keyboard_record.specs.Record.{keyboard_at, with_keyboard}
use Rattle.keyboard_record.specs.Taking.{taken}
use Rattle.keyboard_record.proofs.AtSides.{place_with}
use Rattle.keyboard_record.proofs.WellFormed.{is_call}
use Rattle.keyboard.specs.Rules.{Rules, rules_of, rules_at}
use Rattle.keyboard.specs.Scancode.{Took, takes, scancode}
use Rattle.keyboard.specs.Byte.{Keyed, key_event, after_lamps}
use Rattle.keyboard.specs.Handler.{Outcome, queued, effects, handled}
use Rattle.keyboard.specs.KeyboardLamps.{keyboard_lamps}
use Rattle.keyboard.proofs.Bounds.{within_keyboard_handle}
use Rattle.keyboard.proofs.Queued.{Queued, is_unknown, is_met, is_queued, queued_way}
use Rattle.keyboard.proofs.Ways.{scanned as Ways·scanned, waits_after, lacking, at_silent, at_key}
use Rattle.keyboard.proofs.Calls.{call_end, CallCourse, malformed, formed, call_course}
use Rattle.keyboard.proofs.Counted.{answer_end}
use Rattle.theorem_history.specs.Past.{Past, nothing, ◌▸◌}
use Rattle.theorem_history.specs.Said.{flags_said, event_given}
use Rattle.theorem_history.specs.Counted.{count, scancode_after}
use Rattle.theorem_history.specs.Row.{less_met, given_to, event_of_call, first, rest}
use Rattle.theorem_history.proofs.AsKeyboard.{AsKeyboard, scanned_said}
use Rattle.theorem_history.proofs.AsSaid.{As, as_fresh, as_admits, as_taken, as_handled, own_keyboard, other_keyboard}
use Rattle.theorem_history.proofs.Row.{sided, given_none, given_one}
use Rattle.key_listing.specs.Listing.{table, free_log, at_first, call_on, record_after}
use Rattle.key_listing.specs.Listed.{waits_then, cut_short}
use Rattle.key_listing.proofs.Used.{same_took}

-- ---- a record of one keyboard, that is as its counted and waiting bytes say; the second side's is as in a fresh record

abbrev of_first : {A : Type 0} → A → A → Side → A
of_first a others Side.First = a
of_first a others Side.Second = others

abbrev events : List KeyEvent → List (Sided KeyEvent)
events es = map (sided Side.First) es

abbrev pub AsOne : KeyboardHandler → Past ℕ → List ℕ → List KeyEvent → Type 0
AsOne h bytes ws es = As table h (of_first bytes nothing) (of_first ws []) (events es)

pub one_fresh : AsOne at_first nothing [] []
one_fresh =
    let a = as_fresh table in
    record { laid = a.laid; at = at; places = a.places; formed = a.formed; waits = a.waits }
  where
    at : (side : Side) → AsKeyboard Profile.Any (keyboard_at side at_first.state) (of_first nothing nothing side) (of_first {A = List ℕ} [] [] side)
    at Side.First = (as_fresh table).at Side.First
    at Side.Second = (as_fresh table).at Side.Second

-- the ends of such a call, where it takes the byte t, with what the taking after it brings
pub data Step (h : KeyboardHandler) (bytes : Past ℕ) (ws s : List ℕ) (t : Took) : Type 0 where
  step_2 : (p : Port) → cut_short bytes t ≡ true → (call_on h s).end ≡ lacks (no_script p)
      → (taken (call_on h s).handler).answer ≡ gives none → Step h bytes ws s t
  step_19 : cut_short bytes t ≡ false → is_silent t.byte ≡ false → gives_event t.byte ≡ false → (call_on h s).end ≡ yields (refuses 19)
      → (taken (call_on h s).handler).answer ≡ gives none → AsOne (record_after h s) (bytes ▸ t.byte) (waits_then bytes ws s) [] → Step h bytes ws s t
  step_silent : cut_short bytes t ≡ false → is_silent t.byte ≡ true → (call_on h s).end ≡ yields (gives success)
      → (taken (call_on h s).handler).answer ≡ gives none → AsOne (record_after h s) (bytes ▸ t.byte) (waits_then bytes ws s) [] → Step h bytes ws s t
  step_event : cut_short bytes t ≡ false → gives_event t.byte ≡ true → (call_on h s).end ≡ yields (gives success)
      → (taken (call_on h s).handler).answer ≡ gives (some (sided Side.First (event_of t.byte (flags_said Profile.Any (bytes ▸ t.byte)))))
      → AsOne (record_after h s) (bytes ▸ t.byte) (waits_then bytes ws s) [] → Step h bytes ws s t

-- ---- the byte that is counted is the one that is taken, unless the lamp exchange of a lock runs out

none_cut : (c : Bool) (b : ℕ) → cond (not c) (some b) none ≡ none → c ≡ true
none_cut true b e = refl
none_cut false b e = cc

some_uncut : (c : Bool) (b : ℕ) → cond (not c) (some b) none ≡ some b → c ≡ false
some_uncut true b e = cc
some_uncut false b e = refl

-- every event joins an empty row
room_in_none : (key : Keycode) → admits table Side.First (sides_in {A = KeyEvent} []) key ≡ gives success
unfolding admits allows meets sides_in
room_in_none key = refl

all_join : (es : List KeyEvent) → less_met (given_to table Side.First [] es) ≡ events es
unfolding less_met given_to admits allows meets sides_in
all_join [] = refl
all_join (e ∷ es) = ap (λ (l : List (Sided KeyEvent)). sided Side.First e ∷ l) (all_join es)

module _ {h : KeyboardHandler} {bytes : Past ℕ} {ws : List ℕ} (a : AsOne h bytes ws []) (s : List ℕ) (t : Took) (g : takes ws s ≡ some t) where
  abbrev log : List ℕ
  log = free_log

  -- the keyboard that is called, its lamps, and its rules by the record and by the table
  abbrev keyboard : KeyboardState
  keyboard = h.state.first

  abbrev lamps : ℕ → Exchange (Answer Success)
  lamps = keyboard_lamps Side.First

  abbrev rules : Rules Success
  rules = rules_at h.state.table keyboard_lamps Side.First

  abbrev call_scanned_by : Rules Success → Option ℕ
  call_scanned_by x = Ways·scanned x keyboard s log

  abbrev b : ℕ
  b = t.byte

  abbrev scanned : Option ℕ
  scanned = scancode_after (rules_of Profile.Any lamps) bytes ws s log

  lock_cut : scanned ≡ none → cut_short bytes t ≡ true
  unfolding scancode_after scancode
  lock_cut e = none_cut (cut_short bytes t) b (rw g at e)

  not_cut : scanned ≡ some b → cut_short bytes t ≡ false
  unfolding scancode_after scancode
  not_cut e = some_uncut (cut_short bytes t) b (rw g at e)

  -- the event of the counted byte, if it gives one, waits alone
  after : (side : Side) → AsKeyboard Profile.Any (keyboard_at side (call_on h s).handler.state) (of_first (count bytes scanned) nothing side) (of_first (waits_then bytes ws s) [] side)
  after Side.First = own_keyboard a Side.First keyboard_lamps s log refl
  after Side.Second = other_keyboard a Side.First keyboard_lamps s log refl Side.Second refl

  waits : AsOne (call_on h s).handler (count bytes scanned) (waits_then bytes ws s) (event_of_call Profile.Any bytes scanned)
  waits =
      rw (← all_join (event_of_call Profile.Any bytes scanned))
      (as_handled a Side.First keyboard_lamps s log refl (of_first (count bytes scanned) nothing) (of_first (waits_then bytes ws s) []) after)

  -- and is taken
  took_none : scanned ≡ none → (taken (call_on h s).handler).answer ≡ gives none
  took_none e = (as_taken waits).1 ∙ ap (λ (sc : Option ℕ). first (events (event_of_call Profile.Any bytes sc))) e

  module _ (e : scanned ≡ some b) where
    took : {es : List KeyEvent} → event_given Profile.Any bytes b ≡ es → (taken (call_on h s).handler).answer ≡ first (events es)
    took q = (as_taken waits).1 ∙ ap (λ (sc : Option ℕ). first (events (event_of_call Profile.Any bytes sc))) e ∙ ap (λ (es : List KeyEvent). first (events es)) q

    abbrev Left : Past ℕ → List (Sided KeyEvent) → Type 0
    Left counted row = As table (taken (call_on h s).handler).now (of_first counted nothing) (of_first (waits_then bytes ws s) []) row

    left : {es : List KeyEvent} → event_given Profile.Any bytes b ≡ es → Left (bytes ▸ b) (rest (events es))
    left q =
        subst (λ (es : List KeyEvent). Left (bytes ▸ b) (rest (events es))) q
        (subst (λ (sc : Option ℕ). Left (count bytes sc) (rest (events (event_of_call Profile.Any bytes sc)))) e (as_taken waits).0)

  -- what the end of the call's play says of its answer
  by_answer : {x : End Outcome} → call_end keyboard_lamps Side.First h.state s log ≡ x → (call_on h s).end ≡ answer_end x
  unfolding handled effects
  by_answer e = ap answer_end e

  -- the flags just after a byte
  abbrev then : ℕ → ℕ
  then x = flags_then h.state.table.profile keyboard x

  -- the state with the keyboard as it is after the byte: there is room
  abbrev moved : Keyed → HandlerState
  moved o = with_keyboard Side.First o.keyboard h.state

  has_room : (o : Keyed) (key : Keycode) → place Side.First key (moved o) ≡ gives success
  has_room o key = place_with Side.First Side.First key o.keyboard h.state ∙ as_admits a Side.First key ∙ room_in_none key

  gives_no_refusal : {n : ℕ} → ◌≡◌ {A = Answer Success} (refuses n) (gives success) → ⊥
  gives_no_refusal q = let z : ◌≡◌ {A = ℕ} 0 1 = cc in omega arith

  by_way : (o : Keyed) (failed : Answer Success) (d : ℕ) → is_silent b ≡ false → scanned ≡ some b → Queued Side.First (moved o) b (then b)
      → (call_on h s).end ≡ yields (queued Side.First (moved o) (key_event b (then b)) failed d).answer → Step h bytes ws s t
  unfolding record_after
  by_way o failed d q n (is_unknown c e) x =
      let v = key_gives b q false c in
      let w = given_none Profile.Any bytes b v in
      step_19 (not_cut n) q v (x ∙ ap (λ (p : Outcome). yields p.answer) (e failed d)) (took n w) (left n w)
  by_way o failed d q n (is_met c m r e) x = absurd (gives_no_refusal (sym r ∙ has_room o _))
  by_way o failed d q n (is_queued c r e) x =
      let v = key_gives b q true c in
      let w = given_one Profile.Any bytes b v in
      step_event (not_cut n) v (x ∙ ap (λ (p : Outcome). yields p.answer) (e failed d)) (took n w) (left n w)

  at_silent_byte : is_silent b ≡ true → scanned ≡ some b → (call_on h s).end ≡ yields (gives success) → Step h bytes ws s t
  unfolding record_after
  at_silent_byte q n x =
      let w = given_none Profile.Any bytes b (silent_gives b q) in
      step_silent (not_cut n) q x (took n w) (left n w)

  -- the scancode that the call counts by its record is the one that the bytes say
  said_so : {n : Option ℕ} → call_scanned_by rules ≡ n → scanned ≡ n
  said_so m =
      sym (ap (λ (x : Table). call_scanned_by (rules_at x keyboard_lamps Side.First)) a.laid ∙ scanned_said (a.at Side.First) lamps s log) ∙ m

  -- the byte of the call's course is t
  same : (u : Took) → takes (waiting_bytes keyboard.waiting) s ≡ some u → u ≡ t
  same u v = same_took (sym v ∙ ap (λ (w : List ℕ). takes w s) (a.at Side.First).bytes_wait ∙ g)

  -- what a key's byte comes to
  abbrev keyed_at : Took → Answer Success → Keyed
  keyed_at x lit = after_lamps x.byte (then x.byte) (kept_of (waits_after rules keyboard x log)) lit

  by_course : CallCourse keyboard_lamps Side.First h.state s log → Step h bytes ws s t
  by_course (malformed w e n) = absurd (true≢false (sym (is_call Side.First h.state (rw a.laid) a.formed) ∙ w))
  by_course (formed w e n (lacking (no_script p) z m)) =
      let sc = said_so m in
      step_2 p (lock_cut sc) (by_answer (rw z at e)) (took_none sc)
  by_course (formed w e n (lacking no_log z m)) =
      absurd (within_room (within_keyboard_handle Side.First h.state) s log (omega arith) (rw z at e))
  by_course (formed w e n (at_silent u q v z m)) =
      let i = same u v in
      at_silent_byte (subst (λ (x : Took). is_silent x.byte ≡ true) i q)
      (subst (λ (x : Took). scanned ≡ some x.byte) i (said_so m)) (by_answer (rw z at e))
  by_course (formed w e n (at_key u lit q v z m)) =
      let i = same u v in
      by_way (keyed_at t lit) lit (keyed_at t lit).dropped (subst (λ (x : Took). is_silent x.byte ≡ false) i q)
      (subst (λ (x : Took). scanned ≡ some x.byte) i (said_so m)) (queued_way Side.First (moved (keyed_at t lit)) b (then b))
      (subst (λ (x : Took). (call_on h s).end ≡ yields (queued Side.First (moved (keyed_at x lit)) (keyed_at x lit).given lit (keyed_at x lit).dropped).answer) i (by_answer (rw z at e)))

  pub step : Step h bytes ws s t
  step = by_course (call_course keyboard_lamps Side.First h.state s log)
