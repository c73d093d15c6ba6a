-- The keys that have no flag.
use Rattle.std.specs.Prelude.{Bool, false, not, ◌&&◌, ◌||◌, List, [], ◌∷◌, ℕ, eqb, leb, ltb}
use Rattle.keyboard_scancodes.specs.Strokes.{low_part}
use Rattle.keyboard_scancodes.specs.FlagTable.{FlagRow, flag_table}
use Rattle.keyboard_scancodes.specs.Events.{last_keycode}

-- Whether a row of a table of flags is of this press code.
unfoldable pub has_flag : List FlagRow → ℕ → Bool
has_flag [] code = false
has_flag (r ∷ rows) code = eqb code r.code || has_flag rows code

-- A keycode that events have, but for 00, and that no flag follows.
unfoldable pub is_plain_code : ℕ → Bool
is_plain_code code = ltb 0x00 code && (leb code last_keycode && not (has_flag flag_table code))

-- A byte of such a key, whether it is pressed or released.
abbrev pub is_plain : ℕ → Bool
is_plain b = is_plain_code (low_part b)
