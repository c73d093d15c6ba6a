-- Characters, and the handler's interrupt, by numbers.
use Rattle.std.specs.Prelude.{◌≡◌, ◌&&◌, Bool, cond, ℕ, List, take, replicate, get_or, ltb, Option, Some, None}
use Rattle.bits.specs.Bits.{weigh}
use Rattle.exchange.specs.Answer.{gives}
use Rattle.argument_words.specs.Arguments.{invalid_argument}
use Rattle.bytes_words.specs.Keys.{character_number}
use Rattle.keycodes_ascii.specs.declared.Keycode.{Keycode as OurKeycode}
use Rattle.keycodes_ascii.specs.Characters.{character_of}
use Rattle.keycodes_ascii.specs.Keycode.{number_of}
use Rattle.port_words.specs.Told.{no_value}
use Rattle.ps2_answers.specs.Refusals.{success}
use Rattle.theseus_keycodes.specs.declared.KeyAction.{KeyAction}
use Rattle.theseus_keycodes.specs.declared.Keycode.{Keycode}
use Rattle.theseus_keycodes.specs.declared.KeyEvent.{KeyEvent}
use Rattle.theseus_keycodes.specs.Flags.{renumbered}
use Rattle.theseus_keycodes.specs.Keycode.{ours}
use Rattle.theseus_keyboard.specs.Handler.{Interrupted, our_events}
use Rattle.theseus_ps2.specs.Comparison.{Starts}
use Rattle.theseus_ps2.specs.Controller.{on_controller}
use Rattle.theseus_ps2.specs.Recording.{recording}
use Rattle.theseus_ps2.specs.declared.PS2Controller.{PS2Controller}
use Rattle.theseus_ps2.specs.declared.recording.Recording.{Recording}
use Rattle.theseus_calls.specs.Recorded.{told_recorded}
use Rattle.theseus_calls.specs.declared.queue.Places.{Places}
use Rattle.theseus_calls.specs.declared.queue.EventWords.{EventWords}
use Rattle.theseus_calls.specs.declared.queue.InterruptWords.{InterruptWords}

-- The character of a key under flags that have the Rust's numbers.
abbrev pub character_under : Option OurKeycode → ℕ → ℕ
character_under (Some k) flags =
    character_number (character_of k (record { bits = renumbered flags }))
character_under None flags = invalid_argument

-- ---- the queue of 128 places

abbrev pub waiting_in : Places → List KeyEvent
waiting_in q = take q.count q.events

abbrev pub empty_place : KeyEvent
empty_place = record {
  keycode = Keycode.OverflowError;
  action = KeyAction.Pressed;
  modifiers = record { bits = 0 };
}

-- So many places are filled; which events stand there is not asked.
abbrev pub filled : ℕ → Places
filled n = record { events = replicate 128 empty_place; count = n }

-- ---- events as numbers

abbrev pub action_number : KeyAction → ℕ
action_number KeyAction.Pressed = 0
action_number KeyAction.Released = 1

abbrev pub event_numbers : KeyEvent → EventWords
event_numbers e = record {
  keycode = number_of (ours e.keycode);
  released = action_number e.action;
  flags = e.modifiers.bits;
}

abbrev pub no_event : EventWords
no_event = record { keycode = 0; released = 0; flags = 0 }

-- The event that stands behind so many, where there is one.
abbrev pub last_numbers : Places → ℕ → EventWords
last_numbers q n =
    cond (ltb n q.count && ltb n 128) (event_numbers (get_or q.events n empty_place)) no_event

-- ---- the interrupt

abbrev pub interrupt_numbers : Recording → Bool → ℕ → Places → ℕ → InterruptWords
interrupt_numbers left prefix flags queue waited =
    record {
      run = told_recorded no_value (gives success) left;
      prefix = weigh prefix;
      flags = flags;
      count = queue.count;
      event = last_numbers queue waited;
    }

-- The numbers tell what the Rust's handler leaves, of which `Interrupted` says all, on a recording
-- of this script and this log; the log is the recording's.
pub record InterruptMade (prefix : Bool) (flags waited : ℕ) (script log : List ℕ)
    (words : InterruptWords) (log' : List ℕ) : Type 0 where
  pub begun : PS2Controller Recording
  pub left : PS2Controller Recording
  pub prefix_left : Bool
  pub flags_left : ℕ
  pub queue : Places
  pub before : Places
  pub starts : Starts script log begun.hardware
  pub filled_are : before ≡ filled waited
  pub interrupted : Interrupted (on_controller recording) begun prefix (renumbered flags)
      (our_events (waiting_in before))
      left prefix_left (renumbered flags_left) (our_events (waiting_in queue))
  pub answered : words ≡ interrupt_numbers left.hardware prefix_left flags_left queue waited
  pub logged : log' ≡ left.hardware.log.now
