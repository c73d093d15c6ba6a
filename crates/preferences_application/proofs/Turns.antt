-- Settings, one after another, from the place in the list that has been reached.
use Prim.Native.Nat.{ℕ, ◌+◌, ◌≤◌, ◌<◌}
use native.Mathlib.Numerals.{add-one}
use mathlib.Core.List.{List}
use mathlib.Core.Path.{◌≡◌}
use lib.ListN.{length, get_or, drop, drop_of_length-le}
use lib.Seq.{drop-cons}
use Rattle.exchange.specs.Exchange.{done, Played, play}
use Rattle.exchange.specs.Answer.{Answer, gives, and_then}
use Rattle.ps2_answers.specs.Refusals.{Success, success}
use Rattle.preferences_application.specs.declared.Setting.{Setting}
use Rattle.preferences_application.specs.Application.{apply_setting, apply_settings}

-- a setting that is known to be x is set as x is
pub plays_as : (s l : List ℕ) {x y : Setting} {o : Played (Answer Success)} → y ≡ x → o ≡ play (apply_setting x) s l → o ≡ play (apply_setting y) s l
plays_as s l q r = rw q r

-- the next setting
pub settings_next : (settings : List Setting) (i : ℕ) (d : Setting) → i < length settings
    → apply_settings (drop i settings) ≡ and_then (apply_setting (get_or settings i d)) (λ _. apply_settings (drop (i + 1) settings))
unfolding apply_settings
settings_next settings i d h = rw (add-one, drop-cons settings i d)

-- none left
pub settings_over : (settings : List Setting) (i : ℕ) → length settings ≤ i → apply_settings (drop i settings) ≡ done (gives success)
unfolding apply_settings
settings_over settings i h = rw (drop_of_length-le settings h)
