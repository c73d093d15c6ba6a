-- What a list of bytes says of the keys, by the history rule: the flags, and the events given.
-- Which bytes are counted is said elsewhere.
use Rattle.std.specs.Prelude.{Bool, false, cond, List, [], ◌∷◌, ◌++◌, ℕ, suc}
use Rattle.bits.specs.Bits.{odd, put_bit}
use Rattle.keycodes_ascii.specs.declared.KeyEvent.{KeyEvent}
use Rattle.theorem_history.specs.Past.{Past, nothing, ◌▸◌}
use Rattle.keyboard_scancodes.specs.Events.{gives_event, event_of}
use Rattle.keyboard_scancodes.specs.Strokes.{Stroke, stroke, is_prefix}
use Rattle.keyboard_scancodes.specs.FlagTable.{Kind, lock, held, left, right, FlagRow, is_of}
use Rattle.keyboard_scancodes.specs.declared.Profile.{Profile}
use Rattle.keyboard_scancodes.specs.Profile.{followed}

-- ---- the strokes

-- The prefix is on exactly when the last byte was E0 or E1.
unfoldable pub prefix_said : Past ℕ → Bool
prefix_said nothing = false
prefix_said (past ▸ b) = is_prefix b

-- The strokes that the bytes say: "directly after" a prefix is next after it among these bytes.
unfoldable pub strokes : Past ℕ → Past Stroke
strokes nothing = nothing
strokes (past ▸ b) = strokes past ▸ stroke b (prefix_said past)

-- ---- the flags

-- How many times a stroke of the row's key came; of a lock's, its presses alone are counted.
unfoldable pub times : FlagRow → Past Stroke → ℕ
times r nothing = 0
times r (past ▸ s) = cond (is_of r s) (suc (times r past)) (times r past)

-- The last stroke of the row's key was its press.
unfoldable pub last_was_press : FlagRow → Past Stroke → Bool
last_was_press r nothing = false
last_was_press r (past ▸ s) = cond (is_of r s) s.pressed (last_was_press r past)

-- "A lock is on exactly when its press byte came an odd number of times; any other key is held
-- exactly when the last byte of its own press and release pair was the press."
unfoldable pub said_of : Kind → FlagRow → Past Stroke → Bool
said_of lock r past = odd (times r past)
said_of held r past = last_was_press r past
said_of left r past = last_was_press r past
said_of right r past = last_was_press r past

abbrev pub said : Past Stroke → FlagRow → Bool
said past r = said_of r.kind r past

-- The word in which the flag of each row is as f has it, and no other bit is set.
unfoldable pub word_of : (FlagRow → Bool) → List FlagRow → ℕ
word_of f [] = 0
word_of f (r ∷ rows) = put_bit r.flag (f r) (word_of f rows)

-- The flags that the bytes say, those that the profile
-- follows: "under the profile the lock rule reads "off"".
unfoldable pub flags_said : Profile → Past ℕ → ℕ
flags_said profile bytes = word_of (said (strokes bytes)) (followed profile)

-- ---- the events

-- The event, if any, that the byte b gives after the bytes of past, "with the flags just after it".
unfoldable pub event_given : Profile → Past ℕ → ℕ → List KeyEvent
event_given profile past b =
    cond (gives_event b) (event_of b (flags_said profile (past ▸ b)) ∷ []) []

-- The events that the bytes give, in byte order.
unfoldable pub events_given : Profile → Past ℕ → List KeyEvent
events_given profile nothing = []
events_given profile (past ▸ b) = events_given profile past ++ event_given profile past b
