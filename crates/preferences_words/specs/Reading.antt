-- What a reader answers, as numbers.
use Rattle.std.specs.Prelude.{List, [], ◌∷◌, ℕ}
use Rattle.exchange.specs.Answer.{Answer, gives, refuses}
use Rattle.preferences.specs.Format.{field_count}
use Rattle.preferences_words.specs.declared.PreferencesReadWords.{PreferencesReadWords}
use Rattle.preferences_words.specs.Record.{words_in}

-- The refusal's number, 0 where there is none, and the record's numbers: "Refused reading yields no
-- field", and each of them is 0.
abbrev pub told_read : Answer (List ℕ) → PreferencesReadWords
told_read (gives ns) = record { refusal = 0; preferences = words_in ns }
told_read (refuses k) = record { refusal = k; preferences = words_in [] }

-- The four fields that the version 1 reader shows are given back as a record of version 1.
abbrev pub as_version1 : Answer (List ℕ) → Answer (List ℕ)
as_version1 (gives four) = gives (1 ∷ field_count 1 ∷ four)
as_version1 (refuses k) = refuses k
