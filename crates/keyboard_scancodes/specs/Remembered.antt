-- What is remembered of one keyboard.
use Rattle.std.specs.Prelude.{Bool, false, [], ℕ}
use Rattle.keyboard_scancodes.specs.declared.KeyboardState.{KeyboardState}
use Rattle.keyboard_scancodes.specs.declared.WaitingBytes.{WaitingBytes}
use Rattle.keyboard_scancodes.specs.Waiting.{waiting_of}

-- A keyboard with this prefix, these flags and these waiting bytes.
abbrev pub keyboard_of : Bool → ℕ → WaitingBytes → KeyboardState
keyboard_of prefix flags waiting =
    record { prefix = prefix; modifiers = record { bits = flags }; waiting = waiting }

-- "No prefix, no flag"; of waiting bytes "a fresh record has none".
abbrev pub fresh_keyboard : KeyboardState
fresh_keyboard = keyboard_of false 0 (waiting_of [])
