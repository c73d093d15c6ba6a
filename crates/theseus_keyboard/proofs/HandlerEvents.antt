-- The event of a scancode, by the keycode that its adjusted code reads as; and the queue with it.
use mathlib.Core.Path.{◌≡◌, refl, sym, ap, ◌∙◌}
use mathlib.Core.Bool.{Bool, true, false, cond}
use mathlib.Core.List.{List, [], ◌∷◌}
use Prim.Native.Nat.{ℕ, ◌%◌}
use native.Mathlib.Omega.{arith}
use lib.Dec.{leb, ltb}
use lib.ListN.{length}
use Rattle.std.specs.Prelude.{◌++◌, Option, Some, None, Result, Ok, Err}
use Rattle.std.proofs.lemmas.List.{length-map, map-append}
use Rattle.bits.proofs.Every.{agree_bool}
use Rattle.keycodes_ascii.specs.declared.KeyEvent.{KeyEvent as OurEvent}
use Rattle.keycodes_ascii.specs.declared.KeyAction.{KeyAction as OurAction}
use Rattle.keycodes_ascii.specs.declared.Keycode.{Keycode as Ours}
use Rattle.keycodes_ascii.specs.Keycode.{keycodes, numbered, keycode_of}
use Rattle.keyboard_scancodes.specs.Strokes.{low_part, is_press}
use Rattle.keyboard_scancodes.specs.Events.{the_keycode, keycode_at, last_keycode, event_of}
use Rattle.theseus_keycodes.specs.declared.KeyAction.{KeyAction}
use Rattle.theseus_keycodes.specs.declared.KeyEvent.{KeyEvent}
use Rattle.theseus_keycodes.specs.declared.Keycode.{Keycode}
use Rattle.theseus_keycodes.specs.declared.KeyboardModifiers.{KeyboardModifiers}
use Rattle.theseus_keycodes.specs.declared.NoKeycode.{NoKeycode}
use Rattle.theseus_keycodes.specs.Events.{our_action, our_event}
use Rattle.theseus_keycodes.specs.Flags.{renumbered}
use Rattle.theseus_keycodes.specs.Keycode.{ours, read_as_ours}
use Rattle.theseus_keyboard.specs.Handler.{our_events, pushed, room_in}

abbrev is_found : Option Ours → Bool
is_found (Some k) = true
is_found None = false

low_found : (b : ℕ) → is_found (keycode_of (low_part b)) ≡ leb (low_part b) last_keycode
unfolding keycode_of numbered keycodes
low_found b = agree_bool (λ n. is_found (keycode_of n)) (λ n. leb n last_keycode) 128 tt (low_part b) (omega arith)

pressed_is : (c : Bool) → our_action (cond c KeyAction.Pressed KeyAction.Released) ≡ cond c OurAction.Pressed OurAction.Released
pressed_is true = refl
pressed_is false = refl

module _ (b a : ℕ) (adjusted : a ≡ b % 128) where
  of_low : (t : Result Keycode NoKeycode) → read_as_ours t ≡ keycode_of a → read_as_ours t ≡ keycode_of (low_part b)
  of_low t e = e ∙ ap keycode_of adjusted

  pub known : {t : Result Keycode NoKeycode} {k : Keycode} → read_as_ours t ≡ keycode_of a → t ≡ Ok k → leb (low_part b) last_keycode ≡ true
  known {t} e q = sym (low_found b) ∙ ap is_found (sym (of_low t e) ∙ ap read_as_ours q)

  pub unknown : {t : Result Keycode NoKeycode} {x : NoKeycode} → read_as_ours t ≡ keycode_of a → t ≡ Err x → leb (low_part b) last_keycode ≡ false
  unknown {t} e q = sym (low_found b) ∙ ap is_found (sym (of_low t e) ∙ ap read_as_ours q)

  known_keycode : {t : Result Keycode NoKeycode} {k : Keycode} → read_as_ours t ≡ keycode_of a → t ≡ Ok k → keycode_at (low_part b) ≡ ours k
  unfolding keycode_at
  known_keycode {t} e q = ap the_keycode (sym (of_low t e) ∙ ap read_as_ours q)

  pub event_is : {t : Result Keycode NoKeycode} → read_as_ours t ≡ keycode_of a → (m : KeyboardModifiers) (event : KeyEvent) {k : Keycode} → t ≡ Ok k → event.keycode ≡ k → event.action ≡ cond (is_press b) KeyAction.Pressed KeyAction.Released
      → event.modifiers ≡ m → our_event event ≡ event_of b (renumbered m.bits)
  unfolding event_of
  event_is {t} e m event q p r s =
      ap (λ (k : Ours). record { keycode = k; action = our_action event.action; modifiers = record { bits = renumbered event.modifiers.bits } }) (ap ours p ∙ sym (known_keycode e q))
      ∙ ap (λ (x : OurAction). record { keycode = keycode_at (low_part b); action = x; modifiers = record { bits = renumbered event.modifiers.bits } }) (ap our_action r ∙ pressed_is (is_press b))
      ∙ ap (λ (y : KeyboardModifiers). record { keycode = keycode_at (low_part b); action = cond (is_press b) OurAction.Pressed OurAction.Released; modifiers = record { bits = renumbered y.bits } }) s

pub room_same : (q : List KeyEvent) → room_in q ≡ room_in (our_events q)
room_same q = rw (length-map q our_event) refl

push_cases : (q : List KeyEvent) (e : KeyEvent) (c : Bool)
    → our_events (cond c (q ++ (e ∷ [])) q) ≡ cond c (our_events q ++ (our_event e ∷ [])) (our_events q)
push_cases q e true = map-append our_event q (e ∷ [])
push_cases q e false = refl

-- the queue after a push, as ours
pub queue_with : (q q' : List KeyEvent) (e : KeyEvent) {e' : OurEvent} → q' ≡ pushed q e → our_event e ≡ e' → our_events q' ≡ pushed (our_events q) e'
queue_with q q' e p r =
    ap our_events p ∙ push_cases q e (ltb (length q) 128)
    ∙ rw (length-map q our_event, r) refl
