-- The six numbers of a record: its version, then its fields in order.
use Rattle.std.specs.Prelude.{cond, List, ℕ, eqb, get_or}
use Rattle.std.proofs.Math.Option.{Option, none, some}
use Rattle.preferences.specs.declared.Fields.{Fields}
use Rattle.preferences.specs.declared.Preferences.{Preferences}
use Rattle.preferences.specs.declared.Preferences.TheVariants.{Version1, Version2}
use Rattle.preferences.specs.Format.{numbers_of}
use Rattle.preferences_words.specs.declared.PreferencesWords.{PreferencesWords}

-- The fields that every record has.
abbrev pub fields_in : PreferencesWords → Fields
fields_in w = record { set = w.set; rate = w.rate; resolution = w.resolution; lamps = w.lamps }

-- "Version 1 has 4 fields. Version 2 adds a fifth, the repeat byte": the record that six numbers
-- stand for. Any other version stands for nothing.
unfoldable pub preferences_at : PreferencesWords → Option Preferences
preferences_at w = cond (eqb w.version 1) (some (Version1 (fields_in w)))
    (cond (eqb w.version 2) (some (Version2 (fields_in w) w.repeat)) none)

-- The numbers of a record as it is written, version and count first, as six: the count goes by the
-- version, and a field that is not there is 0.
abbrev pub words_in : List ℕ → PreferencesWords
words_in ns =
    record {
      version = get_or ns 0 0;
      set = get_or ns 2 0;
      rate = get_or ns 3 0;
      resolution = get_or ns 4 0;
      lamps = get_or ns 5 0;
      repeat = get_or ns 6 0;
    }

abbrev pub words_of : Preferences → PreferencesWords
words_of p = words_in (numbers_of p)
