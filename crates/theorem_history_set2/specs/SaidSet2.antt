-- What the codes of a set 2 stream say of the keys:
-- strokes, and by them the flags and the events given.
use Rattle.std.specs.Prelude.{Bool, true, false, cond, ◌||◌, List, [], ◌∷◌, ◌++◌, ℕ, eqb, leb}
use Rattle.keycodes_ascii.specs.declared.KeyAction.{KeyAction}
use Rattle.keycodes_ascii.specs.declared.KeyEvent.{KeyEvent}
use Rattle.scancode_set2.specs.Table.{entry_of, or_none}
use Rattle.scancode_set2.specs.Codes.{is_prefix, Code, alone, after_f0, ends_after_f0}
use Rattle.keyboard_scancodes.specs.Strokes.{Stroke}
use Rattle.keyboard_scancodes.specs.declared.Profile.{Profile}
use Rattle.keyboard_scancodes.specs.Profile.{followed}
use Rattle.keyboard_scancodes.specs.Events.{keycode_at, last_keycode}
use Rattle.theorem_history.specs.Past.{Past, nothing, ◌▸◌, onto}
use Rattle.theorem_history.specs.Said.{said, word_of}

-- ---- the strokes

-- Which codes are prefixes: E0 and E1, and "F0 47 and F0
-- 4F, which become E0 and E1, count as these".
abbrev pub is_prefix_code : Code → Bool
is_prefix_code (alone c) = is_prefix c
is_prefix_code (after_f0 c) = eqb c 0x47 || eqb c 0x4F
is_prefix_code ends_after_f0 = false

-- The prefix is on exactly when the last code was one.
unfoldable pub prefix_set2 : Past Code → Bool
prefix_set2 nothing = false
prefix_set2 (past ▸ c) = is_prefix_code c

-- A key is named by its press code in set 1, which is its code's entry.
abbrev pub key_of : ℕ → ℕ
key_of c = or_none (entry_of c)

-- "A code is its key's press, after F0 its release."
abbrev pub stroke_of : Code → Bool → List Stroke
stroke_of (alone c) x = record { code = key_of c; pressed = true; prefixed = x } ∷ []
stroke_of (after_f0 c) x = record { code = key_of c; pressed = false; prefixed = x } ∷ []
stroke_of ends_after_f0 x = []

-- The stroke, if any, of a code that came after these; a prefix is no key's. "F0 is passed over in
-- "directly after"": it belongs to its code.
unfoldable pub stroke_set2 : Past Code → Code → List Stroke
stroke_set2 past c = cond (is_prefix_code c) [] (stroke_of c (prefix_set2 past))

unfoldable pub strokes_set2 : Past Code → Past Stroke
strokes_set2 nothing = nothing
strokes_set2 (past ▸ c) = onto (strokes_set2 past) (stroke_set2 past c)

-- ---- the flags and the events, as the rule has them of
-- strokes, under a profile: with it the locks are off

unfoldable pub flags_set2 : Profile → Past Code → ℕ
flags_set2 profile codes = word_of (said (strokes_set2 codes)) (followed profile)

-- The event of a stroke, with these flags: every key whose code is at most 5D gives one.
abbrev pub event_of_stroke : ℕ → Stroke → List KeyEvent
event_of_stroke flags s =
    cond (leb s.code last_keycode)
    (record {
      keycode = keycode_at s.code;
      action = cond s.pressed KeyAction.Pressed KeyAction.Released;
      modifiers = record { bits = flags };
    } ∷ [])
    []

abbrev pub event_of_strokes : ℕ → List Stroke → List KeyEvent
event_of_strokes flags [] = []
event_of_strokes flags (s ∷ strokes) = event_of_stroke flags s ++ event_of_strokes flags strokes

-- The event, if any, that a code gives after these, "with the flags just after it".
unfoldable pub event_set2 : Profile → Past Code → Code → List KeyEvent
event_set2 profile past c = event_of_strokes (flags_set2 profile (past ▸ c)) (stroke_set2 past c)

-- The events that the codes give, in order.
unfoldable pub events_set2 : Profile → Past Code → List KeyEvent
events_set2 profile nothing = []
events_set2 profile (past ▸ c) = events_set2 profile past ++ event_set2 profile past c
