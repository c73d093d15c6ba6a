-- The number of an event stands for it.
use mathlib.Core.Path.{◌≡◌, refl, ap, subst, ◌∙◌}
use Prim.Native.Nat.{ℕ, ◌+◌, ◌*◌, ◌/◌, ◌%◌, ◌<◌}
use native.Mathlib.Omega.{arith}
use mathlib.Core.Bool.{Bool, true, false, cond, not}
use lib.Dec.{eqb, ltb, ltb→lt}
use Rattle.std.specs.Prelude.{Option, Result, Ok, Err}
use Rattle.std.specs.Int.{from_bool}
use Rattle.keycodes_ascii.specs.declared.Keycode.{Keycode}
use Rattle.keycodes_ascii.specs.declared.KeyAction.{KeyAction}
use Rattle.keycodes_ascii.specs.declared.KeyEvent.{KeyEvent}
use Rattle.keycodes_ascii.specs.declared.NoKeycode.{NoKeycode}
use Rattle.keycodes_ascii.specs.Keycode.{number_of, keycodes, keycode_of, keycode_read}
use Rattle.keycodes_ascii.proofs.Codes.{every_keycode, keycode_number, Has, keycode_has, read_ok, read_err}
use Rattle.keyboard_scancodes.specs.Events.{the_keycode, keycode_at}
use Rattle.handler_words.specs.Words.{flags_limit, action_of, action_number, event_at, word_of}

pub number_in : (k : Keycode) → number_of k < 256
unfolding keycodes
number_in k = ltb→lt (number_of k) 256 (every_keycode (λ j. ltb (number_of j) 256) tt tt k)

pub action_in : (a : KeyAction) → action_number a < 2
action_in KeyAction.Pressed = omega arith
action_in KeyAction.Released = omega arith

action_back : (a : KeyAction) → action_of (action_number a) ≡ a
action_back KeyAction.Pressed = refl
action_back KeyAction.Released = refl

-- an action's number is 1 where the byte above the keycode's is not 0
by_release : (b : Bool) → from_bool (not b) ≡ action_number (cond b KeyAction.Pressed KeyAction.Released)
by_release true = refl
by_release false = refl

pub action_weighed : (w : ℕ) → from_bool (not (eqb (w / 256 % 256) 0)) ≡ action_number (action_of (w / 256 % 256))
action_weighed w = by_release (eqb (w / 256 % 256) 0)

pub event_at_lem : (v : KeyEvent) → v.modifiers.bits < flags_limit → event_at (word_of v) ≡ v
unfolding event_at word_of keycode_at
event_at_lem v h =
    let k = v.keycode in
    let a = v.action in
    let m = v.modifiers.bits in
    let w = number_of k + 256 * action_number a + 65536 * m in
    let l : number_of k < 256 = number_in k in
    let i : action_number a < 2 = action_in a in
    let e : w % 256 ≡ number_of k = omega arith in
    let d : w / 256 ≡ action_number a + 256 * m = omega arith in
    let f : (action_number a + 256 * m) % 256 ≡ action_number a = omega arith in
    let g : w / 65536 ≡ m = omega arith in
    let b : m % 65536 ≡ m = omega arith in
    rw (e, d, f, g, b, keycode_number k, action_back a)

-- ---- a keycode by its number

module _ (w : ℕ) {f : Result Keycode NoKeycode} {b : ℕ} (q : f ≡ keycode_read b) (r : b ≡ w % 256) where
  pub found_in : {k : Keycode} → f ≡ Ok k → w % 256 ≡ number_of (event_at w).keycode
  unfolding event_at keycode_at
  found_in e =
      subst (λ (o : Option Keycode). Has (w % 256) o → w % 256 ≡ number_of (the_keycode o)) (read_ok b q e ∙ ap keycode_of r) (λ h. h) (keycode_has (w % 256))

  pub none_in : {x : NoKeycode} → f ≡ Err x → 0 ≡ number_of (event_at w).keycode
  unfolding event_at keycode_at
  none_in e = ap (λ (g : Option Keycode). number_of (the_keycode g)) (read_err b q e ∙ ap keycode_of r)
