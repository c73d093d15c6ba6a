-- The table of flags: which key each flag follows, and how.
use Rattle.std.specs.Prelude.{Bool, true, false, not, ◌&&◌, ◌||◌, List, [], ◌∷◌, ℕ, ◌^◌, eqb, length}
use Rattle.keyboard_modifiers.specs.Flags.{shift_left, shift_right, control_left, control_right, alt, super_key_left, super_key_right, caps_lock, num_lock, scroll_lock, alt_right}
use Rattle.keyboard_scancodes.specs.Strokes.{Stroke}

-- A lock goes on and off with its presses. A held key is on from its press
-- to its release, after a prefix or not. Of two keys with one code, the
-- right one has the strokes directly after a prefix, the left one the rest.
pub data Kind : Type 0 where
  lock held left right : Kind

-- A row: the flag's number, its kind of key, and the key's press code; the release code is 80 more.
pub record FlagRow : Type 0 where
  pub flag : ℕ
  pub kind : Kind
  pub code : ℕ

-- A row by its parts.
abbrev pub flag_row : ℕ → Kind → ℕ → FlagRow
flag_row flag kind code = record { flag = flag; kind = kind; code = code }

-- The list of flags, in order, and flag 10: "on when the
-- last of 38 and B8 directly after E0 or E1 was 38".
unfoldable pub flag_table : List FlagRow
flag_table =
    flag_row shift_left held 0x2A ∷
    flag_row shift_right held 0x36 ∷
    flag_row control_left left 0x1D ∷
    flag_row control_right right 0x1D ∷
    flag_row alt held 0x38 ∷
    flag_row super_key_left held 0x5B ∷
    flag_row super_key_right held 0x5C ∷
    flag_row caps_lock lock 0x3A ∷
    flag_row num_lock lock 0x45 ∷
    flag_row scroll_lock lock 0x46 ∷
    flag_row alt_right right 0x38 ∷ []

-- The words that have no flag above the table's last are those below this: one bit for each row.
unfoldable pub flag_limit : ℕ
flag_limit = 2 ^ length flag_table

-- Which strokes of its code a kind of key has: "right Control judging only bytes directly after E0
-- or E1, left Control the rest".
abbrev pub has : Kind → Stroke → Bool
has lock s = s.pressed
has held s = true
has left s = not s.prefixed
has right s = s.prefixed

-- Whether a stroke is one of the row's key.
unfoldable pub is_of : FlagRow → Stroke → Bool
is_of r s = eqb s.code r.code && has r.kind s

-- The kind that has a lamp: "locks run the lamp exchange".
abbrev pub is_lock : Kind → Bool
is_lock lock = true
is_lock held = false
is_lock left = false
is_lock right = false

-- Whether a stroke is the press of a lock of the table.
unfoldable pub presses_lock : List FlagRow → Stroke → Bool
presses_lock [] s = false
presses_lock (r ∷ rows) s = is_lock r.kind && is_of r s || presses_lock rows s
