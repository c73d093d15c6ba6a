-- What the parts of the code that have contracts of their own promise.
use Rattle.std.proofs.Math.Option.{Option, none, some}
use Rattle.std.specs.Prelude.{◌≡◌, ℕ, ◌+◌, ◌<◌, ◌≤◌, Bool, true, false, ◌&&◌, ◌||◌, List, [], eqb, ltb, length, get_or, Option as Maybe, Some, None}
use Rattle.exchange.specs.Answer.{number_answered}
use Rattle.keycodes_ascii.specs.declared.KeyEvent.{KeyEvent}
use Rattle.keyboard_scancodes.specs.declared.KeyboardState.{KeyboardState}
use Rattle.keyboard_scancodes.specs.declared.Profile.{Profile}
use Rattle.keyboard_scancodes.specs.Plain.{is_plain}
use Rattle.keyboard_scancodes.specs.Profile.{presses_followed}
use Rattle.keyboard_scancodes.specs.Remembered.{keyboard_of}
use Rattle.keyboard_scancodes.specs.Strokes.{is_silent}
use Rattle.keyboard_scancodes.specs.Waiting.{bytes_from, waiting_of}
use Rattle.keyboard_sides.specs.declared.Side.{Side}
use Rattle.keyboard_record.specs.declared.Table.{Table}
use Rattle.keyboard_record.specs.declared.HandlerState.{HandlerState}
use Rattle.keyboard_record.specs.Limits.{queue_length}
use Rattle.keyboard_record.specs.Record.{keyboard_formed, is_ready}
use Rattle.keyboard.specs.Handler.{Outcome}
use Rattle.handler_words.specs.declared.HandledWords.{HandledWords}
use Rattle.handler_words.specs.Calls.{with_event, SideHandled}
use Rattle.handler_words.specs.Layout.{keyboard_from, first_at, second_at, keyboards_at, profile_at}
use Rattle.handler_words.specs.Words.{byte_limit, flags_limit, bytes_in, number_of_bytes, event_at, word_of, low_bytes, high_bytes, keyboard_in, state_of}

-- The table that two numbers stand for, if any.
abbrev pub said_table : Maybe Table → Option Table
said_table (Some table) = some table
said_table None = none

-- The numbers of 16 bytes, in which they are found again: the first eight are in the first.
pub record InTwo (bytes : List ℕ) (low high : ℕ) : Type 0 where
  pub low_is : low ≡ number_of_bytes (bytes_from bytes 0 8)
  pub high_is : high ≡ number_of_bytes (bytes_from bytes 8 8)
  pub low_found : bytes_in 8 low ≡ bytes_from bytes 0 8
  pub high_found : bytes_in 8 high ≡ bytes_from bytes 8 8

-- A keyboard of the code: its numbers have their widths, so
-- that they are found again in the record's.
pub record Narrow (k : KeyboardState) : Type 0 where
  pub flags_in : k.modifiers.bits < flags_limit
  pub count_in : k.waiting.count < byte_limit
  pub low_is : bytes_in 8 (low_bytes k) ≡ bytes_from k.waiting.bytes 0 8
  pub high_is : bytes_in 8 (high_bytes k) ≡ bytes_from k.waiting.bytes 8 8

-- Where there is a new event, there is a place for it.
pub record Placed (start count : ℕ) (n : Maybe KeyEvent) : Type 0 where
  pub at : (e : KeyEvent) → n ≡ Some e → (start < queue_length) × (count ≤ queue_length)

-- The event that the number of an event stands for, if there is one.
abbrev pub reread : Option KeyEvent → Option KeyEvent
reread none = none
reread (some e) = some (event_at (word_of e))

-- What the answer to a question says: true that it is so, and false that it is not.
pub record Says (P : Type 0) (answer : Bool) : Type 0 where
  pub is_so : answer ≡ true → P
  pub is_not : answer ≡ false → P → ⊥

-- ---- what 21 asks of the numbers themselves

-- Whether the numbers of a side's keyboard pass it: a
-- prefix that is off or on, and what the record is asked.
abbrev pub keyboard_passes : ℕ → List ℕ → Bool
keyboard_passes at ws = ltb (get_or ws at 0) 2 && keyboard_formed (keyboard_in ws at)

-- Whether those of every side at the table do, and those of the table.
unfoldable pub sides_pass : List ℕ → Bool
sides_pass ws =
    let keyboards = get_or ws keyboards_at 0 in
    (keyboard_passes first_at ws && ltb (get_or ws profile_at 0) 2)
    && (eqb keyboards 1 || (eqb keyboards 2 && keyboard_passes second_at ws))

-- ---- the quick ways

-- A call that takes the script's first byte, since none waits, at a table without the profile.
pub record FromScript (side : Side) (ws script : List ℕ) : Type 0 where
  pub none_waits : get_or ws (keyboard_from side + 2) 0 ≡ 0
  pub some_byte : 0 < length script
  pub any_key : get_or ws profile_at 0 ≡ 0

-- Such a call, whose byte is a key's, and no lock's whose lamps would be set.
pub record KeyAlone (side : Side) (ws script : List ℕ) : Type 0 where
  pub taken : FromScript side ws script
  pub not_silent : is_silent (get_or script 0 0) ≡ false
  pub no_lamps : presses_followed Profile.Any (get_or script 0 0) ≡ false

-- What such a call makes of its keyboard, with these flags; and its answer, with this refusal.
abbrev pub followed_by : ℕ → KeyboardState
followed_by flags = keyboard_of false flags (waiting_of [])

abbrev pub byte_used : ℕ → HandledWords
byte_used n = record { refusal = n; lamps = 0; used = 1; pairs = 0; dropped = 0; port = 0 }

-- Such a call, whose byte is of a key that has no flag, where the record is ready for its event.
pub record PlainKey (side : Side) (ws script : List ℕ) : Type 0 where
  pub alone : KeyAlone side ws script
  pub plain : is_plain (get_or script 0 0) ≡ true
  pub ready : is_ready side (state_of ws) ≡ true

-- What an event comes to that is queued, or is not: the number answered, which is none of those
-- that leave the record as it was, and the numbers left.
pub record KeyQueued (o : Outcome) (place : ℕ) (ws : List ℕ) (n : ℕ) (ws' : List ℕ) : Type 0 where
  pub answers : n ≡ number_answered o.answer
  pub moves : eqb n 2 || (eqb n 3 || eqb n 21) ≡ false
  pub writes : ws' ≡ with_event place o.state o.event ws
  pub reads : reread o.event ≡ o.event

-- What such a call comes to with any log, which it leaves as it is.
pub record KeyHandled (side : Side) (ws script : List ℕ) (answer : HandledWords) (ws' : List ℕ)
    : Type 0 where
  pub with_any : (log : List ℕ) → SideHandled side ws script log answer ws' log
