-- What it is that the Rust's handler and ours agree, at a table with one keyboard, under any
-- profile but the tournament's, where no byte waits.
use Rattle.std.specs.Prelude.{◌≡◌, Bool, true, false, cond, List, [], map, length, ℕ, get_or}
use Rattle.bits.specs.Bits.{put_bit}
use Rattle.exchange.specs.Exchange.{End, yields, lacks}
use Rattle.exchange.specs.Answer.{Answer, gives}
use Rattle.ps2_answers.specs.Refusals.{Success, success}
use Rattle.keyboard_modifiers.specs.Flags.{alt_right}
use Rattle.keycodes_ascii.specs.declared.KeyEvent.{KeyEvent}
use Rattle.keyboard_scancodes.specs.declared.Profile.{Profile}
use Rattle.keyboard_scancodes.specs.Strokes.{is_silent}
use Rattle.keyboard_record.specs.declared.KeyboardHandler.{KeyboardHandler}
use Rattle.keyboard_record.specs.declared.Keyboards.{Keyboards}
use Rattle.keyboard_record.specs.Queue.{round}
use Rattle.keyboard_record.specs.Record.{well_formed}
use Rattle.keyboard.specs.Handler.{Called}
use Rattle.theseus_keycodes.specs.Flags.{renumbered}
use Rattle.theseus_ps2.specs.Comparison.{number_lacked}
use Rattle.theseus_ps2.specs.declared.recording.Recording.{Recording}
use Rattle.theseus_keyboard.specs.Handler.{key_answer}

-- A well-formed record of one keyboard, under any profile but the tournament's, in which no byte
-- waits; of its 128 places each record has as many, by its type.
pub record Base (h : KeyboardHandler) : Type 0 where
  pub formed : well_formed h.state ≡ true
  pub one : h.state.table ≡ (record { keyboards = Keyboards.One; profile = Profile.Any })
  pub none_wait : h.state.first.waiting.count ≡ 0
  pub places_are : length h.places ≡ 128

-- Flags, and an event, without the right Alt's own flag,
-- which is added to the Rust's: the Rust never sets its own.
abbrev pub base_flags : ℕ → ℕ
base_flags flags = put_bit alt_right false flags

abbrev pub base_event : KeyEvent → KeyEvent
base_event e = record {
  keycode = e.keycode;
  action = e.action;
  modifiers = record { bits = base_flags e.modifiers.bits };
}

-- The events that wait in a record, the oldest first.
abbrev pub base_events : KeyboardHandler → List KeyEvent
base_events h = map base_event (round h.places h.state.start h.state.count)

-- A record says what the Rust has: the prefix, the flags in our numbers, the queue as our events.
pub record Alike (h : KeyboardHandler) (prefix : Bool) (flags : ℕ) (queue : List KeyEvent)
    : Type 0 where
  pub prefix_is : prefix ≡ h.state.first.prefix
  pub flags_are : flags ≡ base_flags h.state.first.modifiers.bits
  pub queue_is : queue ≡ base_events h

-- What the Rust's handler answers to a byte.
abbrev pub answer_to : ℕ → List KeyEvent → Answer Success
answer_to b queue = cond (is_silent b) (gives success) (key_answer b queue)

-- Where ours lacks a byte or room, so does the Rust's run, at the same read or write. Otherwise the
-- answers are equal, and what is left is alike.
abbrev pub AgreeEnd : End (Answer Success) → Answer Success → Type 0 → Recording → Type 0
AgreeEnd (yields a) rusts alike left = (a ≡ rusts) × alike × (left.short ≡ false)
AgreeEnd (lacks l) rusts alike left = (left.short ≡ true) × (left.asked ≡ number_lacked l)

-- Ours and the log that it left; the Rust's answer, what it left, and its recording: bytes used,
-- pairs and logs are equal, and the ends agree.
abbrev pub AgreeCall : Called → List ℕ → Answer Success → Bool → ℕ → List KeyEvent → Recording
    → Type 0
AgreeCall ours log answer prefix flags queue left =
    (left.used ≡ ours.used) × (left.pairs ≡ ours.pairs) × (left.log.now ≡ log)
    × AgreeEnd ours.end answer (Alike ours.handler prefix flags queue) left

-- The first byte of a script.
abbrev pub first_of : List ℕ → ℕ
first_of script = get_or script 0 0

-- What the Rust's statics begin with: no prefix, no flag, and an empty queue.
abbrev pub FreshAlike : KeyboardHandler → Type 0
FreshAlike h = Alike h false (renumbered 0) []
