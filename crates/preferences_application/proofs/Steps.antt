-- The steps of an application: in field order, and those of version 2 are version 1's and then the repeat byte's.
use mathlib.Core.List.{List, [], ◌∷◌, ◌++◌}
use mathlib.Core.Path.{◌≡◌, refl, sym, ◌∙◌, ap, fun_ext}
use Prim.Native.Nat.{ℕ}
use Rattle.exchange.specs.Exchange.{Exchange, done, bind, Played, play}
use Rattle.exchange.specs.Answer.{Answer, gives, refuses, and_then, on_given}
use Rattle.exchange.proofs.Grouping.{and_then_assoc}
use Rattle.exchange.proofs.Sequence.{done-bind, bind_identity}
use Rattle.ps2_answers.specs.Refusals.{Success, success}
use Rattle.ps2_keyboard.specs.Keyboard.{set_scancode_set, set_keyboard_led}
use Rattle.ps2_mouse.specs.Mouse.{set_sampling_rate, set_resolution}
use Rattle.preferences.specs.declared.Fields.{Fields}
use Rattle.preferences.specs.declared.Preferences.TheVariants.{Version1, Version2}
use Rattle.preferences_application.specs.declared.Setting.{Setting}
use Rattle.preferences_application.specs.Settings.{set_of, rate_of, resolution_of, lamps_of, four_settings, settings_of}
use Rattle.preferences_application.specs.Application.{set_keyboard_repeat, apply_setting, apply_settings}

-- ---- after a success, and before nothing but success

given_then : {A : Type 0} (g : Success → Exchange (Answer A)) → and_then (done (gives success)) g ≡ g success
unfolding and_then
given_then g = done-bind (on_given g) (gives success)

succeeding : (a : Answer Success) → on_given (λ _. done (gives success)) a ≡ done a
succeeding (gives success) = refl
succeeding (refuses n) = refl

then_success : (t : Exchange (Answer Success)) → and_then t (λ _. done (gives success)) ≡ t
unfolding and_then
then_success t = ap (λ k. bind t k) (fun_ext succeeding) ∙ bind_identity t

-- ---- settings one after another

-- the settings of two lists, then those of the second after the first
pub applied_joined : (first second : List Setting) → apply_settings (first ++ second) ≡ and_then (apply_settings first) (λ _. apply_settings second)
unfolding apply_settings
applied_joined [] second = sym (given_then (λ _. apply_settings second))
applied_joined (setting ∷ first) second =
    ap (λ t. and_then (apply_setting setting) (λ _. t)) (applied_joined first second)
    ∙ sym (and_then_assoc (apply_setting setting) (λ _. apply_settings first) (λ _. apply_settings second))

-- a setting alone
pub applied_one : (setting : Setting) → apply_settings (setting ∷ []) ≡ apply_setting setting
unfolding apply_settings
applied_one setting = then_success (apply_setting setting)

-- ---- the steps of a record

-- "in field order": the scancode set, the sampling rate, the resolution, the lamps
pub field_order : (four : Fields)
    → apply_settings (settings_of (Version1 four))
    ≡ and_then (set_scancode_set (set_of four.set)) (λ _.
    and_then (set_sampling_rate (rate_of four.rate)) (λ _.
    and_then (set_resolution (resolution_of four.resolution)) (λ _.
    set_keyboard_led (lamps_of four.lamps))))
unfolding apply_settings apply_setting
field_order four =
    ap (λ t. and_then (set_scancode_set (set_of four.set)) (λ _. and_then (set_sampling_rate (rate_of four.rate)) (λ _. and_then (set_resolution (resolution_of four.resolution)) (λ _. t))))
    (then_success (set_keyboard_led (lamps_of four.lamps)))

-- version 1 makes the first four steps of version 2, which then sends the repeat byte
pub version_two_steps : (four : Fields) (again : ℕ)
    → apply_settings (settings_of (Version2 four again)) ≡ and_then (apply_settings (settings_of (Version1 four))) (λ _. set_keyboard_repeat again)
unfolding apply_setting
version_two_steps four again =
    applied_joined (four_settings four) (Setting.RepeatRateAndDelay again ∷ [])
    ∙ ap (λ t. and_then (apply_settings (four_settings four)) (λ _. t)) (applied_one (Setting.RepeatRateAndDelay again))

-- the same of a play of theirs, with the repeat byte in the form that it was sent in
pub plays_two : (four : Fields) (again : ℕ) (s l : List ℕ) {byte : ℕ} → byte ≡ again → {o : Played (Answer Success)}
    → o ≡ play (and_then (apply_settings (four_settings four)) (λ _. set_keyboard_repeat byte)) s l → o ≡ play (apply_settings (settings_of (Version2 four again))) s l
plays_two four again s l q r = rw (version_two_steps four again, ← q) r
