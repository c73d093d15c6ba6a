-- What referees are promised of rated games: the events that they are shown.
use Rattle.std.specs.Prelude.{true, false, List, [], ◌∷◌, ◌≡◌}
use Rattle.bits.specs.Bits.{bit}
use Rattle.keyboard_modifiers.specs.Flags.{caps_lock, num_lock, scroll_lock}
use Rattle.keycodes_ascii.specs.declared.KeyEvent.{KeyEvent}
use Rattle.keyboard_scancodes.specs.declared.Profile.{Profile}
use Rattle.keyboard_scancodes.specs.Profile.{allows}
use Rattle.keyboard_sides.specs.Named.{Sided}

-- An event of a rated game: its key is inside the profile, and it has no lock's flag, since "under
-- the profile the lock rule reads "off"".
pub record Rated (e : KeyEvent) : Type 0 where
  pub key_inside : allows Profile.Tournament e.keycode ≡ true
  pub no_caps_lock : bit caps_lock e.modifiers.bits ≡ false
  pub no_num_lock : bit num_lock e.modifiers.bits ≡ false
  pub no_scroll_lock : bit scroll_lock e.modifiers.bits ≡ false

-- Every event of a list is one.
pub data AllRated : List (Sided KeyEvent) → Type 0 where
  no_event : AllRated []
  one_event : {e : Sided KeyEvent} {es : List (Sided KeyEvent)} → Rated e.one → AllRated es
      → AllRated (e ∷ es)
