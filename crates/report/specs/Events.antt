-- Key events, as a report counts them.
use Rattle.std.specs.Prelude.{Bool, false, List, [], ◌∷◌, ℕ, ◌+◌, ◌%◌, eqb}
use Rattle.bits.specs.Bits.{weigh}
use Rattle.keycodes_ascii.specs.Keycode.{number_of}
use Rattle.keycodes_ascii.specs.declared.KeyAction.{KeyAction}
use Rattle.keycodes_ascii.specs.declared.KeyAction.TheVariants.{Pressed, Released}
use Rattle.keycodes_ascii.specs.declared.KeyEvent.{KeyEvent}

-- Whether an event is the press of the key with this number.
abbrev pub is_press : ℕ → KeyAction → ℕ → Bool
is_press key Pressed number = eqb number key
is_press key Released number = false

abbrev pub press_of : ℕ → KeyEvent → Bool
press_of key e = is_press key e.action (number_of e.keycode)

-- "Presses for each keycode": how many of the events are presses of the key.
unfoldable pub press_events : ℕ → List KeyEvent → ℕ
press_events key [] = 0
press_events key (e ∷ events) = weigh (press_of key e) + press_events key events

-- ---- events as bytes

-- What a report needs of an event, in one byte, as scan code set 1 has it: the keycode's number for
-- a press, and from 128 on for a release.
abbrev pub code_of : KeyAction → ℕ → ℕ
code_of Pressed number = number
code_of Released number = number % 128 + 128

abbrev pub event_code : KeyEvent → ℕ
event_code e = code_of e.action (number_of e.keycode)

-- How many of some codes are presses of the key.
unfoldable pub presses : ℕ → List ℕ → ℕ
presses key [] = 0
presses key (code ∷ codes) = weigh (eqb code key) + presses key codes
