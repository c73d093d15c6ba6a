-- A taken event, given on by its numbers.
use Rattle.std.specs.Prelude.{◌≡◌}
use Rattle.keycodes_ascii.specs.declared.KeyEvent.{KeyEvent}
use Rattle.keycodes_ascii.specs.Characters.{character_of}
use Rattle.keycodes_ascii.specs.Keycode.{keycode_of}
use Rattle.report.specs.Events.{event_code}
use Rattle.handler_words.specs.declared.TakenWords.{TakenWords}
use Rattle.bytes_words.specs.Keys.{flags_at, action_at, character_number, character_at, event_code_at}

-- The numbers of a taking that gave an event stand for it as arguments: `vd_character` answers the
-- event's character, and `vd_event_code` its byte for a report.
pub record GivenOn (e : KeyEvent) (taken : TakenWords) : Type 0 where
  pub character : character_at (keycode_of taken.keycode) (flags_at taken.flags)
      ≡ character_number (character_of e.keycode e.modifiers)
  pub code : event_code_at (keycode_of taken.keycode) (action_at taken.action) ≡ event_code e
