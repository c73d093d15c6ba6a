-- What stays equal of a keyboard at either side of any table, under either profile, whatever waits
-- for it, and of the Rust's handler for that keyboard alone.
use Rattle.std.specs.Prelude.{◌≡◌, Bool, true, false, not, ◌&&◌, cond, List, [], ◌∷◌, map, length, ℕ, zero, suc, eqb, ◌<◌}
use Rattle.bits.specs.Bits.{put_bit}
use Rattle.exchange.specs.Exchange.{End, yields, lacks}
use Rattle.exchange.specs.Answer.{Answer, gives, refuses}
use Rattle.ps2_answers.specs.Refusals.{Success, success}
use Rattle.keyboard_modifiers.specs.Flags.{caps_lock, num_lock, scroll_lock}
use Rattle.keycodes_ascii.specs.declared.KeyEvent.{KeyEvent}
use Rattle.keyboard_scancodes.specs.declared.Profile.{Profile}
use Rattle.keyboard_scancodes.specs.Events.{keycode_at, is_known}
use Rattle.keyboard_scancodes.specs.FlagTable.{presses_lock}
use Rattle.keyboard_scancodes.specs.Profile.{allows}
use Rattle.keyboard_scancodes.specs.Strokes.{stroke, low_part, is_silent}
use Rattle.keyboard_scancodes.specs.Waiting.{waiting_bytes}
use Rattle.keyboard_sides.specs.declared.Side.{Side}
use Rattle.keyboard_sides.specs.Named.{of_side}
use Rattle.keyboard_record.specs.declared.KeyboardHandler.{KeyboardHandler}
use Rattle.keyboard_record.specs.Queue.{waiting, room}
use Rattle.keyboard_record.specs.Record.{keyboard_at, call_formed}
use Rattle.keyboard.specs.Handler.{Called}
use Rattle.theseus_ps2.specs.Comparison.{number_lacked}
use Rattle.theseus_ps2.specs.declared.recording.Recording.{Recording}
use Rattle.theseus_keyboard.specs.Handler.{rusts_table}
use Rattle.theseus_keyboard.specs.Both.{base_flags, answer_to}

-- ---- bytes that wait

-- The bytes that wait at a side, the oldest first.
abbrev pub waiting_at : Side → KeyboardHandler → List ℕ
waiting_at side h = waiting_bytes (keyboard_at side h.state).waiting

-- The script that the Rust reads: ours takes the oldest waiting byte before any script byte, and
-- the Rust, which has thrown none away, reads it there. And the script bytes that it uses then.
abbrev pub with_oldest : List ℕ → List ℕ → List ℕ
with_oldest [] script = script
with_oldest (b ∷ waiting) script = b ∷ script

abbrev pub with_taken : List ℕ → ℕ → ℕ
with_taken [] used = used
with_taken (b ∷ waiting) used = suc used

-- ---- the profile

abbrev pub profile_of : KeyboardHandler → Profile
profile_of h = h.state.table.profile

-- The flags that both follow: all but the right Alt's own, and under the tournament's profile,
-- which follows no lock, all but the locks' too.
abbrev pub both_follow : Profile → ℕ → ℕ
both_follow Profile.Any flags = base_flags flags
both_follow Profile.Tournament flags =
    put_bit scroll_lock false (put_bit num_lock false (put_bit caps_lock false (base_flags flags)))

abbrev pub followed_event : Profile → KeyEvent → KeyEvent
followed_event profile e = record {
  keycode = e.keycode;
  action = e.action;
  modifiers = record { bits = both_follow profile e.modifiers.bits };
}

-- The events of keys inside the profile.
unfoldable pub inside : Profile → List KeyEvent → List KeyEvent
inside profile [] = []
inside profile (e ∷ rest) = cond (allows profile e.keycode)
    (followed_event profile e ∷ inside profile rest) (inside profile rest)

-- Whether a byte is that of a key outside of the profile, which 33 refuses.
abbrev pub is_outside : Profile → ℕ → Bool
is_outside profile b =
    not (is_silent b) && (is_known b && not (allows profile (keycode_at (low_part b))))

-- ---- what the two say of one keyboard

-- Prefix and flags.
pub record AlikeKeyboard (side : Side) (h : KeyboardHandler) (prefix : Bool) (flags : ℕ)
    : Type 0 where
  pub prefix_is : prefix ≡ (keyboard_at side h.state).prefix
  pub flags_are : both_follow (profile_of h) flags
      ≡ both_follow (profile_of h) (keyboard_at side h.state).modifiers.bits

-- The side's events that wait, the oldest first, are the Rust's of keys inside the profile.
abbrev pub AlikeQueue : Side → KeyboardHandler → List KeyEvent → Type 0
AlikeQueue side h queue =
    inside (profile_of h) queue ≡ map (followed_event (profile_of h)) (of_side side (waiting h))

-- A well-formed record with this side at its table, which says of its keyboard what the Rust has;
-- of its 128 places each record has as many, by its type. And the Rust's script, with the oldest
-- waiting byte in front of ours.
pub record BaseAlone (side : Side) (h : KeyboardHandler) (script rusts_script : List ℕ)
    (prefix : Bool) (flags : ℕ) : Type 0 where
  pub script_is : rusts_script ≡ with_oldest (waiting_at side h) script
  pub formed : call_formed side h.state ≡ true
  pub places_are : length h.places ≡ 128
  pub alike : AlikeKeyboard side h prefix flags

-- There is room for an event of the side here, and for one in the Rust's queue.
pub record BothRoom (side : Side) (h : KeyboardHandler) (queue : List KeyEvent) : Type 0 where
  pub ours : room side h.state ≡ gives success
  pub rusts : length queue < 128

-- ---- that the two agree

-- Unless ours lacks a byte or room, where it leaves the record as it was.
abbrev pub UnlessLacking : End (Answer Success) → (Answer Success → Type 0) → Type 0
UnlessLacking (yields a) holds = holds a
UnlessLacking (lacks l) holds = Unit {0}

-- Prefix and flags are followed alike.
abbrev pub AgreeFollowed : Side → Called → Bool → ℕ → Type 0
AgreeFollowed side ours prefix flags =
    UnlessLacking ours.end (λ a. AlikeKeyboard side ours.handler prefix flags)

-- The answers are equal, but for 33 at a key outside of the
-- profile, and so are the queues that are left.
abbrev pub AgreeQueued : Side → Profile → ℕ → List KeyEvent → Called → List KeyEvent → Type 0
AgreeQueued side profile b queue ours queue_left =
    UnlessLacking ours.end (λ a. (a ≡ cond (is_outside profile b) (refuses 33) (answer_to b queue))
    × AlikeQueue side ours.handler queue_left)

-- Lamps are lit alike: by the press of a lock, where the profile follows locks.
abbrev pub LampsAlike : Profile → ℕ → Type 0
LampsAlike profile b = presses_lock rusts_table (stroke b false) ≡ true → profile ≡ Profile.Any

-- Bytes used, but for the one that waited, pairs and log
-- are equal, and where one falls short so does the other.
abbrev pub AgreeShort : End (Answer Success) → Recording → Type 0
AgreeShort (yields a) left = left.short ≡ false
AgreeShort (lacks l) left = (left.short ≡ true) × (left.asked ≡ number_lacked l)

abbrev pub AgreePorts : List ℕ → Called → List ℕ → Recording → Type 0
AgreePorts waits ours log left =
    (left.used ≡ with_taken waits ours.used) × (left.pairs ≡ ours.pairs) × (left.log.now ≡ log)
    × AgreeShort ours.end left

-- The bytes that the first pairs of a log, so many, write to the data port.
unfoldable pub data_written : ℕ → List ℕ → List ℕ
data_written zero log = []
data_written (suc n) [] = []
data_written (suc n) (port ∷ []) = []
data_written (suc n) (port ∷ value ∷ log) = cond (eqb port 0x60) (value ∷ data_written n log) (data_written n log)

-- On either side, where neither falls short: the bytes used, and the bytes written to the data
-- port. The second side's lamp bytes come after D4, which goes to the other port.
abbrev pub AgreeSent : List ℕ → Called → List ℕ → Recording → Type 0
AgreeSent waits ours log left =
    UnlessLacking ours.end (λ a. left.short ≡ false
    → (left.used ≡ with_taken waits ours.used)
    × (data_written left.pairs left.log.now ≡ data_written ours.pairs log))
