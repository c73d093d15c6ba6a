-- A record's numbers written into an output as bytes.
use Rattle.std.specs.Prelude.{List, ◌≡◌, length, ℕ}
use Rattle.std.proofs.Math.Option.{Option, none, some}
use Rattle.exchange.specs.Answer.{refuses, number_answered}
use Rattle.argument_words.specs.Arguments.{invalid_argument}
use Rattle.preferences.specs.NumberWriting.{Outcome, outcome}
use Rattle.preferences.specs.declared.Preferences.{Preferences}
use Rattle.preferences.specs.Writing.{written, leaves}
use Rattle.preferences_words.specs.declared.PreferencesWords.{PreferencesWords}
use Rattle.preferences_words.specs.declared.PreferencesWrittenWords.{PreferencesWrittenWords}
use Rattle.preferences_words.specs.Record.{preferences_at}

-- What a writing leaves: that of the record, or nothing is
-- written where the numbers stand for none.
abbrev pub words_leave : List ℕ → Option Preferences → Outcome
words_leave out none = outcome (refuses invalid_argument) 0 out
words_leave out (some p) = leaves out (written (length out) p)

-- The numbers of a writing's answer: the refusal's, 0 where
-- there is none, and the count of bytes written.
abbrev pub told_written : Outcome → PreferencesWrittenWords
told_written x = record { refusal = number_answered x.end; written = x.count }

-- Answer and output, each number and byte of them.
pub record WordsWritten (w : PreferencesWords) (out : List ℕ) (answer : PreferencesWrittenWords)
    (out' : List ℕ) : Type 0 where
  pub answered : answer ≡ told_written (words_leave out (preferences_at w))
  pub output : out' ≡ (words_leave out (preferences_at w)).output
