-- What is written of a record is read back as its numbers.
use mathlib.Core.Bool.{true}
use mathlib.Core.Path.{◌≡◌, ap}
use Rattle.preferences.specs.declared.Preferences.{Preferences}
use Rattle.preferences.specs.Record.{within_values}
use Rattle.preferences.specs.Format.{record_bytes}
use Rattle.preferences.specs.Reading.{read2}
use Rattle.preferences.proofs.Readers.{written_read2}
use Rattle.preferences_words.specs.Record.{words_of}
use Rattle.preferences_words.specs.Reading.{told_read}

pub words_read2 : (p : Preferences) → within_values p ≡ true → told_read (read2 (record_bytes p)) ≡ record { refusal = 0; preferences = words_of p }
words_read2 p within = ap told_read (written_read2 p within)
