-- The tournament profile: which keys are queued under it, and which flags are followed.
use Rattle.std.specs.Prelude.{Bool, true, false, cond, ◌||◌, List, [], ◌∷◌, ℕ, eqb}
use Rattle.keycodes_ascii.specs.declared.Keycode.{Keycode}
use Rattle.keycodes_ascii.specs.Keycode.{number_of}
use Rattle.keyboard_scancodes.specs.declared.Profile.{Profile}
use Rattle.keyboard_scancodes.specs.Strokes.{stroke}
use Rattle.keyboard_scancodes.specs.FlagTable.{FlagRow, flag_table, is_lock, presses_lock}

-- "Rated games allow the keycodes of letters, digits (02 to 0B),
-- Enter, Escape, the four arrows, both Shifts and Control."
unfoldable pub tournament_keys : List Keycode
tournament_keys =
    Keycode.A ∷ Keycode.B ∷ Keycode.C ∷ Keycode.D ∷ Keycode.E ∷ Keycode.F ∷ Keycode.G ∷ Keycode.H
    ∷ Keycode.I ∷ Keycode.J ∷ Keycode.K ∷ Keycode.L ∷ Keycode.M
    ∷ Keycode.N ∷ Keycode.O ∷ Keycode.P ∷ Keycode.Q ∷ Keycode.R ∷ Keycode.S ∷ Keycode.T ∷ Keycode.U
    ∷ Keycode.V ∷ Keycode.W ∷ Keycode.X ∷ Keycode.Y ∷ Keycode.Z
    ∷ Keycode.Num1 ∷ Keycode.Num2 ∷ Keycode.Num3 ∷ Keycode.Num4 ∷ Keycode.Num5 ∷ Keycode.Num6
    ∷ Keycode.Num7 ∷ Keycode.Num8 ∷ Keycode.Num9 ∷ Keycode.Num0
    ∷ Keycode.Enter ∷ Keycode.Escape ∷ Keycode.Up ∷ Keycode.Down ∷ Keycode.Left ∷ Keycode.Right
    ∷ Keycode.LeftShift ∷ Keycode.RightShift ∷ Keycode.Control ∷ []

-- Whether a number is that of one of some keys.
unfoldable pub code_among : ℕ → List Keycode → Bool
code_among code [] = false
code_among code (k ∷ keys) = eqb code (number_of k) || code_among code keys

abbrev pub is_tournament_code : ℕ → Bool
is_tournament_code code = code_among code tournament_keys

-- Question 33: whether the key is inside the profile. "Without it all is as before."
unfoldable pub allows : Profile → Keycode → Bool
allows Profile.Any key = true
allows Profile.Tournament key = is_tournament_code (number_of key)

-- The rows of a table of flags without its locks.
abbrev pub without_locks : List FlagRow → List FlagRow
without_locks [] = []
without_locks (r ∷ rows) = cond (is_lock r.kind) (without_locks rows) (r ∷ without_locks rows)

-- The flags that are followed: "Shift, Control, Alt and Super are still followed. Lock bytes
-- neither toggle nor light anything, so under the profile the lock rule reads "off"."
unfoldable pub followed : Profile → List FlagRow
followed Profile.Any = flag_table
followed Profile.Tournament = without_locks flag_table

-- Whether a byte is the press of a lock that is followed; a prefix before it makes no difference.
abbrev pub presses_followed : Profile → ℕ → Bool
presses_followed profile b = presses_lock (followed profile) (stroke b false)
