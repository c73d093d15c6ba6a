-- The event that a scancode makes.
use Rattle.std.specs.Prelude.{Bool, not, cond, ◌&&◌, ℕ, eqb, leb}
use Rattle.std.specs.Prelude.{Option, Some, None}
use Rattle.keycodes_ascii.specs.declared.KeyAction.{KeyAction}
use Rattle.keycodes_ascii.specs.declared.KeyEvent.{KeyEvent}
use Rattle.keycodes_ascii.specs.declared.Keycode.{Keycode}
use Rattle.keycodes_ascii.specs.Keycode.{keycode_of}
use Rattle.keyboard_scancodes.specs.Strokes.{low_part, is_press}

-- The keycode of a number. Each number up to 5D has one;
-- what this says of the others is never asked.
abbrev pub the_keycode : Option Keycode → Keycode
the_keycode (Some k) = k
the_keycode None = Keycode.OverflowError

unfoldable pub keycode_at : ℕ → Keycode
keycode_at code = the_keycode (keycode_of code)

-- "An event is a Keycode 00 to 5D, Pressed or Released (byte 80 up), and the flags."
unfoldable pub event_of : ℕ → ℕ → KeyEvent
event_of b flags =
    record {
      keycode = keycode_at (low_part b);
      action = cond (is_press b) KeyAction.Pressed KeyAction.Released;
      modifiers = record { bits = flags };
    }

-- A key event's keycodes are 00 to 5D. Question 19: "Is the
-- scancode's low part (its low seven bits) at most 5D?"
abbrev pub last_keycode : ℕ
last_keycode = 0x5D

abbrev pub is_known : ℕ → Bool
is_known b = leb (low_part b) last_keycode

-- "Every byte but 00 whose low seven bits are at most 5D gives an event."
abbrev pub gives_event : ℕ → Bool
gives_event b = not (eqb b 0x00) && is_known b
