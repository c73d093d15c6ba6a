-- What a handler call leaves of a state: its side's keyboard, with 16 places for waiting bytes, and where an event joins the queue one more of its side.
use mathlib.Core.Path.{◌≡◌, refl, sym}
use mathlib.Core.List.{List, ◌++◌}
use mathlib.Core.Option.{Option, none, some}
use Prim.Native.Nat.{ℕ}
use native.Mathlib.Omega.{arith}
use lib.ListN.{length, replicate, length-append}
use lib.Seq.{length-take-le}
use Rattle.exchange.specs.Exchange.{Exchange}
use Rattle.exchange.specs.Answer.{Answer, gives, refuses}
use Rattle.ps2_answers.specs.Refusals.{Success, success}
use Rattle.ps2_kept.specs.Kept.{kept_of}
use Rattle.keycodes_ascii.specs.declared.KeyEvent.{KeyEvent}
use Rattle.keyboard_scancodes.specs.declared.KeyboardState.{KeyboardState}
use Rattle.keyboard_scancodes.specs.Strokes.{is_prefix}
use Rattle.keyboard_scancodes.specs.FlagsAfter.{flags_then}
use Rattle.keyboard_scancodes.specs.Waiting.{waiting_of}
use Rattle.keyboard_scancodes.specs.Remembered.{keyboard_of}
use Rattle.keyboard_sides.specs.declared.Side.{Side}
use Rattle.keyboard_record.specs.declared.HandlerState.{HandlerState}
use Rattle.keyboard_record.specs.Queue.{place, one_more}
use Rattle.keyboard_record.specs.Record.{keyboard_at, with_keyboard}
use Rattle.keyboard_record.proofs.AtSides.{with_keyboard_same}
use Rattle.keyboard.specs.Rules.{rules_at}
use Rattle.keyboard.specs.Byte.{Keyed, keyed, after_lamps}
use Rattle.keyboard.specs.Handler.{queued, after_byte, end_outcome, effects}
use Rattle.keyboard.proofs.Ways.{waits_after, lacking, at_silent, at_key}
use Rattle.keyboard.proofs.Calls.{call_end, CallCourse, malformed, formed, call_course}

-- kept bytes have 16 places
kept_length : (l : List ℕ) → length (kept_of l).bytes ≡ 16
kept_length l = length-take-le 16 (l ++ replicate 16 0) (omega (arith, length-append l (replicate 16 0)))

module _ (side : Side) (h : HandlerState) where
  pub data StateLeft (s : HandlerState) (n : Option KeyEvent) : Type 0 where
    same : (k : KeyboardState) → length k.waiting.bytes ≡ 16 → s ≡ with_keyboard side k h → n ≡ none → StateLeft s n
    more : (k : KeyboardState) → length k.waiting.bytes ≡ 16 → (e : KeyEvent) → s ≡ one_more side (with_keyboard side k h) → n ≡ some e → StateLeft s n

  module _ (k : KeyboardState) (w : length k.waiting.bytes ≡ 16) (lit : Answer Success) (d : ℕ) where
    by_place : (e : KeyEvent) (a : Answer Success) → place side e.keycode (with_keyboard side k h) ≡ a
        → StateLeft (queued side (with_keyboard side k h) (gives (some e)) lit d).state (queued side (with_keyboard side k h) (gives (some e)) lit d).event
    by_place e (gives success) q = more k w e (rw q) (rw q)
    by_place e (refuses n) q = same k w (rw q) (rw q)

    by_event : (g : Answer (Option KeyEvent)) → StateLeft (queued side (with_keyboard side k h) g lit d).state (queued side (with_keyboard side k h) g lit d).event
    by_event (gives none) = same k w refl refl
    by_event (gives (some e)) = by_place e (place side e.keycode (with_keyboard side k h)) refl
    by_event (refuses n) = same k w refl refl

  by_keyed : (o : Keyed) → length o.keyboard.waiting.bytes ≡ 16 → StateLeft (after_byte side h o).state (after_byte side h o).event
  by_keyed o w = by_event o.keyboard w o.lamps o.dropped o.given

  module _ {A : Type 0} (lamps : Side → ℕ → Exchange (Answer A)) (w : length (keyboard_at side h).waiting.bytes ≡ 16) where
    unmoved : StateLeft h none
    unmoved = same (keyboard_at side h) w (sym (with_keyboard_same side h)) refl

    by_course : {s l : List ℕ} → CallCourse lamps side h s l → StateLeft (end_outcome h (call_end lamps side h s l)).state (end_outcome h (call_end lamps side h s l)).event
    by_course (malformed m e n) = rw e unmoved
    by_course (formed c e n (lacking x q m)) = rw (e, q) unmoved
    by_course (formed c e n (at_silent t q g u m)) =
        rw (e, u) (by_keyed (keyed (gives none) (gives success) (keyboard_of (is_prefix t.byte) (keyboard_at side h).modifiers.bits (waiting_of t.waiting)) 0) (kept_length t.waiting))
    by_course {s} {l} (formed c e n (at_key t lit q g u m)) =
        let k = keyboard_at side h in
        rw (e, u) (by_keyed (after_lamps t.byte (flags_then (rules_at h.table lamps side).profile k t.byte) (kept_of (waits_after (rules_at h.table lamps side) k t l)) lit) (kept_length (waits_after (rules_at h.table lamps side) k t l)))

    pub state_left : (s l : List ℕ) → StateLeft (effects lamps side h s l).state (effects lamps side h s l).event
    unfolding effects
    state_left s l = by_course (call_course lamps side h s l)
