-- A key's character, and an event's byte in a report, where key, flags and action are numbers.
use Rattle.std.specs.Prelude.{cond, ℕ, eqb, ltb, Option, None, Some}
use Rattle.argument_words.specs.Arguments.{invalid_argument}
use Rattle.keyboard_modifiers.specs.declared.KeyboardModifiers.{KeyboardModifiers}
use Rattle.keycodes_ascii.specs.declared.Keycode.{Keycode}
use Rattle.keycodes_ascii.specs.declared.KeyAction.{KeyAction}
use Rattle.keycodes_ascii.specs.Characters.{character_of}
use Rattle.keycodes_ascii.specs.Keycode.{number_of}
use Rattle.report.specs.Events.{code_of}

-- ---- arguments: a keycode is passed as its number (`keycode_of` says which has one)

-- Flags are 16 bits.
abbrev pub flags_limit : ℕ
flags_limit = 65536

abbrev pub flags_at : ℕ → Option KeyboardModifiers
flags_at n = cond (ltb n flags_limit) (Some (record { bits = n })) None

-- A press is 0, a release 1.
abbrev pub action_at : ℕ → Option KeyAction
action_at n =
    cond (eqb n 0) (Some KeyAction.Pressed) (cond (eqb n 1) (Some KeyAction.Released) None)

-- ---- answers

-- A character is its number, and 0 where there is none, as in the table of the characters.
abbrev pub character_number : Option ℕ → ℕ
character_number (Some c) = c
character_number None = 0

-- The character of a key under some flags.
abbrev pub character_at : Option Keycode → Option KeyboardModifiers → ℕ
character_at (Some k) (Some m) = character_number (character_of k m)
character_at (Some k) None = invalid_argument
character_at None m = invalid_argument

-- The byte by which a report takes the press or the release of a key.
abbrev pub event_code_at : Option Keycode → Option KeyAction → ℕ
event_code_at (Some k) (Some a) = code_of a (number_of k)
event_code_at (Some k) None = invalid_argument
event_code_at None a = invalid_argument
