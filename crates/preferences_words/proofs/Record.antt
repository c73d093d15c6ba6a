-- The numbers of a record stand for it.
use mathlib.Core.Option.{some}
use mathlib.Core.Path.{◌≡◌, refl}
use Rattle.preferences.specs.declared.Preferences.{Preferences}
use Rattle.preferences.specs.declared.Preferences.TheVariants.{Version1, Version2}
use Rattle.preferences_words.specs.Record.{preferences_at, words_of}

pub at_words_of : (p : Preferences) → preferences_at (words_of p) ≡ some p
unfolding preferences_at
at_words_of (Version1 four) = refl
at_words_of (Version2 four again) = refl
