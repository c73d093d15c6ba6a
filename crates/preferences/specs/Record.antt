-- What a record holds: its version, and its fields in order.
use Rattle.std.specs.Prelude.{Bool, List, [], ◌∷◌, ◌++◌, ℕ}
use Rattle.preferences.specs.Values.{is_repeat_byte, four_values, each_within}
use Rattle.preferences.specs.declared.Fields.{Fields}
use Rattle.preferences.specs.declared.Preferences.{Preferences}
use Rattle.preferences.specs.declared.Preferences.TheVariants.{Version1, Version2}

abbrev pub version_of : Preferences → ℕ
version_of (Version1 four) = 1
version_of (Version2 four again) = 2

-- "scancode set, sampling rate, resolution and lamps .. in that order"
abbrev pub four_fields : Fields → List ℕ
four_fields four = four.set ∷ four.rate ∷ four.resolution ∷ four.lamps ∷ []

-- "Version 1 has 4 fields. Version 2 adds a fifth, the repeat byte"
abbrev pub fields_of : Preferences → List ℕ
fields_of (Version1 four) = four_fields four
fields_of (Version2 four again) = four_fields four ++ again ∷ []

-- The questions of a record's fields, in their order.
abbrev pub values_of : Preferences → List (ℕ → Bool)
values_of (Version1 four) = four_values
values_of (Version2 four again) = four_values ++ is_repeat_byte ∷ []

-- No field is "outside the values".
abbrev pub within_values : Preferences → Bool
within_values p = each_within (values_of p) (fields_of p)
