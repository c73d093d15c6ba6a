-- What one stroke does to the flags, by the table.
use Rattle.std.specs.Prelude.{Bool, true, false, not, cond, ◌&&◌, List, [], ◌∷◌, ℕ}
use Rattle.bits.specs.Bits.{bit, put_bit}
use Rattle.keyboard_scancodes.specs.declared.KeyboardState.{KeyboardState}
use Rattle.keyboard_scancodes.specs.Strokes.{Stroke, stroke}
use Rattle.keyboard_scancodes.specs.FlagTable.{Kind, lock, held, left, right, FlagRow, is_of, is_lock}
use Rattle.keyboard_scancodes.specs.declared.Profile.{Profile}
use Rattle.keyboard_scancodes.specs.Profile.{followed}

-- A flag after a stroke of its key: a lock's press turns it
-- over, another key's stroke sets it to "is pressed".
abbrev pub flag_after : Kind → Bool → Bool → Bool
flag_after lock pressed old = not old
flag_after held pressed old = pressed
flag_after left pressed old = pressed
flag_after right pressed old = pressed

-- A word of flags after a stroke: the flag of each row whose key it is of changes.
abbrev pub row_after : FlagRow → Stroke → ℕ → ℕ
row_after r s flags =
    cond (is_of r s) (put_bit r.flag (flag_after r.kind s.pressed (bit r.flag flags)) flags) flags

unfoldable pub flags_after : List FlagRow → Stroke → ℕ → ℕ
flags_after [] s flags = flags
flags_after (r ∷ rows) s flags = row_after r s (flags_after rows s flags)

-- The flags of the rows that have strokes of a key, by its press code and whether a prefix came
-- directly before: those that it holds down, and those of a lock.
abbrev pub flags_of : (FlagRow → Bool) → List FlagRow → ℕ
flags_of which [] = 0
flags_of which (r ∷ rows) =
    cond (which r) (put_bit r.flag true (flags_of which rows)) (flags_of which rows)

abbrev pub holds : Stroke → FlagRow → Bool
holds s r = not (is_lock r.kind) && is_of r s

abbrev pub locks : Stroke → FlagRow → Bool
locks s r = is_lock r.kind && is_of r s

abbrev pub held_flags : List FlagRow → ℕ → Bool → ℕ
held_flags rows code prefixed =
    flags_of (holds (record { code = code; pressed = true; prefixed = prefixed })) rows

abbrev pub lock_flags : List FlagRow → ℕ → ℕ
lock_flags rows code =
    flags_of (locks (record { code = code; pressed = true; prefixed = false })) rows

-- The flags of a keyboard just after a byte, under a profile.
unfoldable pub flags_then : Profile → KeyboardState → ℕ → ℕ
flags_then profile k b = flags_after (followed profile) (stroke b k.prefix) k.modifiers.bits
