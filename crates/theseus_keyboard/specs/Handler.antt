-- What the Rust's handler does with a scancode: flags in our numbers, lamps, event.
use Rattle.std.specs.Prelude.{◌≡◌, Bool, false, cond, ℕ, List, [], ◌∷◌, ◌++◌, ltb, length, map, Result, Ok, Err}
use Rattle.std.specs.Borrow.{Bor}
use Rattle.exchange.specs.Exchange.{p60}
use Rattle.exchange.specs.Answer.{Answer, gives, refuses}
use Rattle.ps2_answers.specs.Refusals.{Success, success}
use Rattle.ps2_keyboard.specs.Keyboard.{set_keyboard_led}
use Rattle.keycodes_ascii.specs.declared.KeyEvent.{KeyEvent}
use Rattle.theseus_keycodes.specs.declared.KeyEvent.{KeyEvent as Theirs}
use Rattle.theseus_keycodes.specs.Events.{our_event}
use Rattle.keyboard_modifiers.specs.Flags.{shift_left, shift_right, control_left, control_right, alt, super_key_left, super_key_right, caps_lock, num_lock, scroll_lock}
use Rattle.keyboard_scancodes.specs.Strokes.{stroke, is_prefix, is_silent}
use Rattle.keyboard_scancodes.specs.FlagsAfter.{flags_after}
use Rattle.keyboard_scancodes.specs.FlagTable.{FlagRow, flag_row, lock, held, left, right, presses_lock}
use Rattle.keyboard_scancodes.specs.Lamps.{lamps_lit}
use Rattle.keyboard_scancodes.specs.Events.{is_known, event_of}
use Rattle.theseus_ps2.specs.Hardware.{Device, run}
use Rattle.theseus_ps2.specs.Messages.{said}

-- The rows of the table of flags that the Rust has: all but the right Alt's own, which is added.
abbrev pub rusts_table : List FlagRow
rusts_table =
    flag_row shift_left held 0x2A ∷
    flag_row shift_right held 0x36 ∷
    flag_row control_left left 0x1D ∷
    flag_row control_right right 0x1D ∷
    flag_row alt held 0x38 ∷
    flag_row super_key_left held 0x5B ∷
    flag_row super_key_right held 0x5C ∷
    flag_row caps_lock lock 0x3A ∷
    flag_row num_lock lock 0x45 ∷
    flag_row scroll_lock lock 0x46 ∷ []

-- A queue of 128 places.
abbrev pub said_push : {E : Type 0} → Result (Unit {0}) E → Answer Success
said_push (Ok x) = gives success
said_push (Err e) = refuses 20

abbrev pub room_in : {E : Type 0} → List E → Answer Success
room_in waiting = cond (ltb (length waiting) 128) (gives success) (refuses 20)

abbrev pub pushed : {E : Type 0} → List E → E → List E
pushed waiting e = cond (ltb (length waiting) 128) (waiting ++ (e ∷ [])) waiting

-- The Rust's events as ours.
abbrev pub our_events : List Theirs → List KeyEvent
our_events events = map our_event events

-- The hardware after the lamp exchange of these flags, and
-- after the one that a byte has, if it has one.
abbrev pub lamps_of : {S : Type 0} → Device S → ℕ → S → S
lamps_of d flags s = (run d (set_keyboard_led (record { bits = lamps_lit flags })) s).now

abbrev pub lit : {S : Type 0} → Device S → ℕ → ℕ → S → S
lit d b flags s = cond (presses_lock rusts_table (stroke b false)) (lamps_of d flags s) s

-- What a key's byte is answered, and the queue after it.
abbrev pub said_key : Result (Unit {0}) (Bor (List ℕ)) → Answer Success
said_key r = said r

abbrev pub key_answer : ℕ → List KeyEvent → Answer Success
key_answer b waiting = cond (is_known b) (room_in waiting) (refuses 19)

abbrev pub key_queue : ℕ → ℕ → List KeyEvent → List KeyEvent
key_queue b flags waiting = cond (is_known b) (pushed waiting (event_of b flags)) waiting

-- The byte that an interrupt takes, and the hardware after
-- it; E0, E1, 00 and FA change nothing but the prefix.
abbrev pub next_byte : {S : Type 0} → Device S → S → ℕ
next_byte d s = d.brings s p60

abbrev pub past_byte : {S : Type 0} → Device S → S → S
past_byte d s = d.reading s p60

abbrev pub flags_of_byte : ℕ → Bool → ℕ → ℕ
flags_of_byte b x flags = cond (is_silent b) flags (flags_after rusts_table (stroke b x) flags)

abbrev pub lit_by_byte : {S : Type 0} → Device S → ℕ → ℕ → S → S
lit_by_byte d b flags s = cond (is_silent b) s (lit d b flags s)

abbrev pub queue_of_byte : ℕ → ℕ → List KeyEvent → List KeyEvent
queue_of_byte b flags waiting = cond (is_silent b) waiting (key_queue b flags waiting)

-- What an interrupt leaves: the prefix, the flags, the hardware after the lamp exchange, the queue.
abbrev pub Interrupted : {S : Type 0} → Device S → S → Bool → ℕ → List KeyEvent → S → Bool → ℕ
    → List KeyEvent → Type 0
Interrupted d s x m q s' x' m' q' =
    (x' ≡ is_prefix (next_byte d s)) × (m' ≡ flags_of_byte (next_byte d s) x m)
    × (s' ≡ lit_by_byte d (next_byte d s) m' (past_byte d s))
    × (q' ≡ queue_of_byte (next_byte d s) m' q)
