-- A writing by numbers, from that of the record that they stand for.
use mathlib.Core.List.{List}
use mathlib.Core.Option.{none}
use mathlib.Core.Path.{◌≡◌}
use Prim.Native.Nat.{ℕ}
use Rattle.argument_words.specs.Arguments.{invalid_argument}
use Rattle.preferences.specs.Writing.{written}
use Rattle.preferences_words.specs.declared.PreferencesWords.{PreferencesWords}
use Rattle.preferences_words.specs.Record.{preferences_at}
use Rattle.preferences_words.specs.Writing.{WordsWritten}

module _ {w : PreferencesWords} {out : List ℕ} where
  pub written_nothing : preferences_at w ≡ none → WordsWritten w out (record { refusal = invalid_argument; written = 0 }) out
  written_nothing stands = record { answered = rw stands; output = rw stands }
