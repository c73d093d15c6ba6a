-- How the characters stand in the table of src/layout.rt,
-- and when such a table agrees with the rule.
use Rattle.std.specs.Prelude.{◌≡◌, Bool, true, false, List, [], ℕ, zero, suc, get_or, Option, Some, None}
use Rattle.keycodes_ascii.specs.declared.Keycode.{Keycode}
use Rattle.keycodes_ascii.specs.Keycode.{number_of}
use Rattle.keycodes_ascii.specs.Characters.{writes, character}

-- "Four combinations of Shift and Caps Lock": the columns
-- without either, with Shift, with Caps Lock, with both.
abbrev pub column_of : Bool → Bool → ℕ
column_of false false = 0
column_of true false = 1
column_of false true = 2
column_of true true = 3

-- "With 0 for no character": the character that an entry stands for.
abbrev pub entry_character : ℕ → Option ℕ
entry_character zero = None
entry_character (suc n) = Some (suc n)

-- The character that a table has in a row and a column; past its end there is none.
abbrev pub table_character : List (List ℕ) → ℕ → ℕ → Option ℕ
table_character table row column = entry_character (get_or (get_or table row []) column 0)

-- "The rule is shown once for the whole table": at each key's number, with Shift or without, with
-- Caps Lock or without, stands what the key writes.
pub record Agrees (table : List (List ℕ)) : Type 0 where
  pub entry : (k : Keycode) (shift caps : Bool)
      → table_character table (number_of k) (column_of shift caps) ≡ character (writes k) shift caps
