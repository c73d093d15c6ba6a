-- What a call makes of its keyboard's part, and what a call with a new event, or with none, makes of the places.
use Rattle.std.specs.Prelude.{Option as Maybe, Some, Err}
use mathlib.Core.Path.{◌≡◌, refl, sym, ap, ◌∙◌}
use mathlib.Core.Bool.{true}
use mathlib.Core.List.{List}
use mathlib.Core.Logic.{⊎_elim}
use mathlib.Core.Option.{Option, none, some}
use Prim.Native.Nat.{ℕ}
use native.Mathlib.Omega.{arith}
use Rattle.exchange.specs.Exchange.{Exchange, End, yields, lacks, told_end, Played, played, play}
use Rattle.exchange.specs.Answer.{Answer, gives, refuses}
use Rattle.ps2_answers.specs.Refusals.{Success, success}
use Rattle.ps2_ports.specs.declared.DevicePort.{DevicePort}
use Rattle.keyboard_scancodes.specs.declared.KeyboardState.{KeyboardState}
use Rattle.keyboard_scancodes.specs.declared.Profile.{Profile}
use Rattle.keycodes_ascii.specs.declared.KeyEvent.{KeyEvent}
use Rattle.keyboard_scancodes.proofs.Tests.{which}
use Rattle.keyboard_record.specs.declared.HandlerState.{HandlerState}
use Rattle.keyboard_record.specs.declared.KeyboardHandler.{KeyboardHandler}
use Rattle.keyboard_record.specs.Record.{keyboard_at, with_keyboard, call_formed}
use Rattle.keyboard_record.specs.declared.NoRoom.{NoRoom}
use Rattle.keyboard_record.specs.Queue.{place, if_given, joined, said_room}
use Rattle.keyboard_record.proofs.AtSides.{with_keyboard_same}
use Rattle.keyboard_sides.specs.declared.Side.{Side}
use Rattle.keyboard_record.proofs.WellFormed.{WellFormed, call_is}
use Rattle.keyboard.specs.declared.Effect.{Effect}
use Rattle.keyboard.specs.declared.HandlerRefusal.{HandlerRefusal}
use Rattle.keyboard.specs.Answers.{said_call, no_event}
use Rattle.keyboard.specs.KeyboardLamps.{port_of, port_rules, keyboard_lamps}
use Rattle.keyboard.specs.Byte.{Keyed, KeyEffects, key_effects_by, key_call, key_effects}
use Rattle.keyboard.specs.Handler.{Outcome, queued, after_byte, Effects, effects_by, called_with, effects, log_left, handled}
use Rattle.keyboard.specs.Outcomes.{said_event, said_effect}
use Rattle.keyboard.proofs.Calls.{key_play, formed_play}
use Rattle.keyboard.proofs.Refused.{malformed_effects}

-- ---- what the record makes of the keyboard's part

module _ (side : Side) (s : HandlerState) where
  -- by how that part ended; where it lacked a byte or room the keyboard is as it was
  abbrev by_end : KeyEffects → End (Answer (Option KeyEvent)) → Effects
  by_end x (yields g) =
      let o = queued side (with_keyboard side x.keyboard s) g x.lamps x.dropped in
      record { end = yields o.answer; lamps = o.lamps; used = x.used; pairs = x.pairs; state = o.state; event = o.event; dropped = o.dropped }
  by_end x (lacks l) =
      record { end = lacks l; lamps = x.lamps; used = x.used; pairs = x.pairs; state = with_keyboard side x.keyboard s; event = none; dropped = x.dropped }

  abbrev record_effects : KeyEffects → Effects
  record_effects x = by_end x x.end

  module _ (x : KeyEffects) {left : HandlerState} (is : left ≡ with_keyboard side x.keyboard s) where
    pub event_effects : {e : KeyEvent} → x.end ≡ yields (gives (some e)) → {a : Answer Success} {joint : HandlerState} → (a ≡ place side e.keycode left) × (joint ≡ joined side e.keycode left)
        → record { end = yields a; lamps = x.lamps; used = x.used; pairs = x.pairs; state = joint; event = if_given a (some e) none; dropped = x.dropped } ≡ record_effects x
    event_effects q j = rw (q, j.1, j.0, is)

    -- where it finds no place the call refuses as the queue does
    pub full_effects : {e : KeyEvent} → x.end ≡ yields (gives (some e)) → (full : NoRoom) (n : HandlerRefusal) → said_call (Err n) ≡ yields (said_room (Err full)) → {joint : HandlerState}
        → (said_room (Err full) ≡ place side e.keycode left) × (joint ≡ joined side e.keycode left)
        → record { end = said_call (Err n); lamps = x.lamps; used = x.used; pairs = x.pairs; state = joint; event = none; dropped = x.dropped } ≡ record_effects x
    full_effects q NoRoom.OutsideProfile n g j = rw g (event_effects q j)
    full_effects q NoRoom.SideFull n g j = rw g (event_effects q j)
    full_effects q NoRoom.QueueFull n g j = rw g (event_effects q j)

    -- the byte gave no event, or 19, or nothing at all
    pub no_event_effects : (a : End (Answer Success)) → x.end ≡ told_end no_event a
        → record { end = a; lamps = x.lamps; used = x.used; pairs = x.pairs; state = left; event = none; dropped = x.dropped } ≡ record_effects x
    no_event_effects (yields (gives success)) q = rw (q, is)
    no_event_effects (yields (refuses n)) q = rw (q, is)
    no_event_effects (lacks l) q = rw (q, is)

  -- and it is what the play of the whole call gives
  ended : (o : Played Keyed) (e : End Keyed) → o.end ≡ e
      → record_effects (key_effects_by (keyboard_at side s) o) ≡ effects_by s (played (told_end (after_byte side s) o.end) o.used o.pairs o.log)
  ended o (yields k) q = rw q
  ended o (lacks l) q = rw (q, with_keyboard_same side s)

module _ (side : Side) (s : HandlerState) (script log : List ℕ) (w : call_formed side s ≡ true) {profile : Profile} (f : profile ≡ s.table.profile) {port : DevicePort} (p : port ≡ port_of side) {k : KeyboardState} (r : k ≡ keyboard_at side s) where
  pub formed_call : {x : KeyEffects} {m : List ℕ} → (x ≡ key_effects (port_rules profile port) k script log) × (m ≡ (play (key_call (port_rules profile port) k) script log).log)
      → {y : Effects} → y ≡ record_effects side s x → (y ≡ effects keyboard_lamps side s script log) × (m ≡ log_left keyboard_lamps side s script log)
  unfolding effects key_effects log_left
  formed_call q z =
      let o = key_play keyboard_lamps side s script log in
      let g = formed_play keyboard_lamps side s script log w in (
        z ∙ ap (record_effects side s) (rw (f, p, r) at q.0) ∙ ended side s o o.end refl ∙ ap (effects_by s) (sym g),
        (rw (f, p, r) at q.1) ∙ ap (λ (u : Played Outcome). u.log) (sym g),
      )

-- ---- the places

-- an effect with this event in the place of its own
abbrev effect_with : Effect → Maybe KeyEvent → Effect
effect_with x n = record { call = x.call; event = n }

module _ {A : Type 0} (lamps : Side → ℕ → Exchange (Answer A)) (side : Side) (s l : List ℕ) where
  -- a call on the state, with its event known, as a call on the record
  pub called_with_lem : (h : KeyboardHandler) (x : Effect) {left : HandlerState} {n : Maybe KeyEvent} → x.event ≡ n → said_effect x left ≡ effects lamps side h.state s l
      → called_with h (said_effect (effect_with x n) left) ≡ handled lamps side h s l
  unfolding handled
  called_with_lem h x is made = rw (← is) (ap (called_with h) made)

  -- a call on a malformed state queues no event
  some_none : {e : KeyEvent} → ◌≡◌ {A = Option KeyEvent} (some e) none → ⊥
  some_none q = let z : ◌≡◌ {A = ℕ} 0 1 = cc in omega arith

  pub queued_well : (h : HandlerState) (x : Effect) {left : HandlerState} {e : KeyEvent} → x.event ≡ Some e → said_effect x left ≡ effects lamps side h s l → WellFormed h
  queued_well h x is made =
      ⊎_elim (λ w. (call_is side h w).1)
      (λ w. absurd (some_none (sym (ap said_event is) ∙ ap (λ (y : Effects). y.event) (made ∙ malformed_effects lamps side h s l w))))
      (which (call_formed side h))
