-- The bytes of a record: "version, field count, then the fields in that order, each a number".
use Rattle.std.specs.Prelude.{cond, List, [], ◌∷◌, ◌++◌, ℕ, eqb}
use Rattle.preferences.specs.Coding.{coding}
use Rattle.preferences.specs.declared.Preferences.{Preferences}
use Rattle.preferences.specs.Record.{version_of, fields_of}

-- The codings of numbers, one after another.
unfoldable pub codings : List ℕ → List ℕ
codings [] = []
codings (n ∷ ns) = coding n ++ codings ns

-- "Version 1 has 4 fields. Version 2 adds a fifth"
abbrev pub field_count : ℕ → ℕ
field_count version = cond (eqb version 1) 4 5

-- The numbers of a record, in reading order.
abbrev pub numbers_of : Preferences → List ℕ
numbers_of p = version_of p ∷ field_count (version_of p) ∷ fields_of p

abbrev pub record_bytes : Preferences → List ℕ
record_bytes p = codings (numbers_of p)
