-- The lines that are printed of an event and of a refusal.
use Rattle.std.specs.Prelude.{cond, List, [], ◌++◌, ℕ, eqb}
use Rattle.std.proofs.Math.Option.{Option, none, some}
use Rattle.exchange.specs.Answer.{Answer, gives, refuses}
use Rattle.std.specs.Prelude.{Some, None}
use Rattle.std.specs.Prelude as prelude
use Rattle.keycodes_ascii.specs.declared.KeyAction.{KeyAction}
use Rattle.keycodes_ascii.specs.declared.KeyEvent.{KeyEvent}
use Rattle.keycodes_ascii.specs.Keycode.{number_of}
use Rattle.keycodes_ascii.specs.Characters.{character_of}
use Rattle.keyboard_sides.specs.Named.{Sided}
use Rattle.key_listing.specs.Text.{ascii, digits, decimal}

-- "P or R".
abbrev pub action_text : KeyAction → List ℕ
action_text KeyAction.Pressed = ascii "P"
action_text KeyAction.Released = ascii "R"

-- "ASCII in decimal or -".
abbrev pub character_text : prelude.Option ℕ → List ℕ
character_text (Some c) = decimal c
character_text None = ascii "-"

-- An event: "keycode (two capital hex digits), P or R,
-- flags (three capital hex digits), ASCII in decimal or -".
unfoldable pub event_line : KeyEvent → List ℕ
event_line e =
    digits 16 2 (number_of e.keycode) ++ ascii " " ++ action_text e.action ++ ascii " "
    ++ digits 16 3 e.modifiers.bits ++ ascii " "
    ++ character_text (character_of e.keycode e.modifiers) ++ ascii "\n"

-- What a taking prints: the event taken, if there was one.
-- Its side is not printed: there is one keyboard.
abbrev pub taken_line : Answer (Option (Sided KeyEvent)) → List ℕ
taken_line (gives (some e)) = event_line e.one
taken_line (gives none) = []
taken_line (refuses n) = []

-- What a handler call's answer prints: its number, where it is refused; 0 is none. A failed lamp
-- exchange is no refusal of the call.
unfoldable pub refusal_line : ℕ → List ℕ
refusal_line number = cond (eqb number 0) [] (ascii "refused " ++ decimal number ++ ascii "\n")
