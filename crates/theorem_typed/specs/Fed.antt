-- A handler that is fed the bytes of one side, and whose events are taken at once.
use Rattle.std.specs.Prelude.{List, [], ◌∷◌, ◌++◌, ℕ}
use Rattle.std.specs.Prelude.{Option, Some, None}
use Rattle.keycodes_ascii.specs.declared.KeyAction.{KeyAction}
use Rattle.keycodes_ascii.specs.declared.KeyEvent.{KeyEvent}
use Rattle.keycodes_ascii.specs.Characters.{character_of}
use Rattle.keyboard_sides.specs.declared.Side.{Side}
use Rattle.theorem_history.specs.Past.{Past, nothing, ◌▸◌}
use Rattle.theorem_history.specs.Counted.{Call, handling, taking}

-- The calls feed these bytes, one handler call of the side for each, and
-- a taking follows each: "whose events are taken at once". Behind its
-- byte a call's script may have more, and its log may have any room.
pub data Feeds (side : Side) : Past ℕ → Past Call → Type 0 where
  nothing_fed : Feeds side nothing nothing
  one_fed : {bytes : Past ℕ} {calls : Past Call} (b : ℕ) (more log : List ℕ)
      → Feeds side bytes calls → Feeds side (bytes ▸ b)
      (calls ▸ handling side (b ∷ more) log ▸ taking)

-- "Press events whose characters, those without one passed over".
abbrev pub or_passed_over : Option ℕ → List ℕ
or_passed_over (Some c) = c ∷ []
or_passed_over None = []

abbrev pub of_press : KeyAction → List ℕ → List ℕ
of_press KeyAction.Pressed characters = characters
of_press KeyAction.Released characters = []

unfoldable pub characters : List KeyEvent → List ℕ
characters [] = []
characters (e ∷ es) =
    of_press e.action (or_passed_over (character_of e.keycode e.modifiers)) ++ characters es
