-- A record with a field outside its values is refused with 28 before any read or write; one within its values is applied, and never refused with 28.
use mathlib.Core.Bool.{true, false}
use mathlib.Core.List.{List}
use mathlib.Core.Path.{◌≡◌}
use Prim.Native.Nat.{ℕ}
use Rattle.exchange.specs.Exchange.{done, yields, Played, played, play}
use Rattle.exchange.specs.Answer.{Answer, refuses}
use Rattle.exchange.proofs.Steps.{play-done}
use Rattle.ps2_answers.specs.Refusals.{Success}
use Rattle.preferences.specs.declared.Preferences.{Preferences}
use Rattle.preferences.specs.Record.{within_values}
use Rattle.preferences_application.specs.Settings.{settings_of}
use Rattle.preferences_application.specs.Application.{apply_settings, apply_preferences}

module _ (p : Preferences) where
  pub within_applied : within_values p ≡ true → apply_preferences p ≡ apply_settings (settings_of p)
  unfolding apply_preferences
  within_applied q = rw q

  pub outside_refused : within_values p ≡ false → apply_preferences p ≡ done (refuses 28)
  unfolding apply_preferences
  outside_refused q = rw q

  -- the same of plays
  pub plays_within : (s l : List ℕ) → within_values p ≡ true → {o : Played (Answer Success)} → o ≡ play (apply_settings (settings_of p)) s l → o ≡ play (apply_preferences p) s l
  plays_within s l q r = rw (within_applied q) r

  pub plays_outside : within_values p ≡ false → (s l : List ℕ) → play (apply_preferences p) s l ≡ played (yields (refuses 28)) 0 0 l
  plays_outside q s l = rw (outside_refused q) (play-done (refuses 28) s l)
