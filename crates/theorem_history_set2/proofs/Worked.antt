-- Closed examples of the rule over set 2, by computation; the first by the theorems, so that their premises are met by something.
use mathlib.Core.Path.{◌≡◌, refl, ◌∙◌}
use mathlib.Core.List.{List, [], ◌∷◌}
use Prim.Native.Nat.{ℕ}
use Rattle.bits.specs.Bits.{odd, put_bit}
use Rattle.exchange.specs.Exchange.{Exchange}
use Rattle.exchange.specs.Answer.{Answer, gives}
use Rattle.ps2_answers.specs.Refusals.{success}
use Rattle.keycodes_ascii.specs.declared.KeyAction.{KeyAction}
use Rattle.keycodes_ascii.specs.declared.KeyEvent.{KeyEvent}
use Rattle.keycodes_ascii.specs.declared.Keycode.{Keycode}
use Rattle.keycodes_ascii.specs.Keycode.{keycode_of, numbered, keycodes}
use Rattle.scancode_set2.specs.Table.{printed, entry_of}
use Rattle.scancode_set2.specs.Codes.{alone, after_f0, codes}
use Rattle.scancode_set2.specs.Convert.{becomes, convert_codes, convert_stream}
use Rattle.keyboard.specs.Scancode.{caught, scancode}
use Rattle.keyboard_sides.specs.declared.Side.{Side}
use Rattle.keyboard_sides.specs.Sides.{count_of}
use Rattle.keyboard_sides.specs.Named.{Sided, sides_in}
use Rattle.keyboard_record.specs.Queue.{meets, admits, waiting}
use Rattle.keyboard_scancodes.specs.declared.Profile.{Profile}
use Rattle.keyboard_scancodes.specs.Profile.{allows, followed}
use Rattle.keyboard_scancodes.specs.FlagTable.{flag_table, is_of, presses_lock}
use Rattle.keyboard_scancodes.specs.Events.{keycode_at, event_of}
use Rattle.theorem_history.specs.Past.{Past, nothing, ◌▸◌, onto}
use Rattle.theorem_history.specs.Said.{prefix_said, strokes, times, last_was_press, said_of, word_of, flags_said, event_given}
use Rattle.theorem_history.specs.Counted.{Call, handling, taking, own, scancode_after, thrown_after, behind_after, joined_after, counted, waits, counted_of, scancode_of, counts}
use Rattle.theorem_history.specs.Row.{less_met, given_to}
use Rattle.theorem_history.specs.Run.{after}
use Rattle.theorem_history.specs.Examples.{two, press, short_lamps}
use Rattle.theorem_history.proofs.Row.{sided}
use Rattle.theorem_history_set2.specs.SaidSet2.{prefix_set2, stroke_set2, strokes_set2, flags_set2, event_set2, events_set2}
use Rattle.theorem_history_set2.specs.Turns.{each_set2, each_said, turns, row_of}
use Rattle.theorem_history_set2.specs.HistorySet2.{codes_of, one_set2}
use Rattle.theorem_history_set2.proofs.HistorySet2.{history_set2, both_set2}

-- ---- Shift, A, and both released on the second side; meanwhile A on the first, and one event taken

abbrev lamps : Side → ℕ → Exchange (Answer ℕ)
lamps side = short_lamps

abbrev stream : List ℕ
stream = 0x12 ∷ 0x1C ∷ 0xF0 ∷ 0x1C ∷ 0xF0 ∷ 0x12 ∷ []

-- handler calls, each with a converted byte
abbrev calls : Past Call
calls =
    nothing ▸ handling Side.Second (0x2A ∷ []) [] ▸ handling Side.First (0x1E ∷ []) [] ▸ handling Side.Second (0x1E ∷ []) [] ▸ taking
    ▸ handling Side.Second (0x9E ∷ []) [] ▸ handling Side.First (0x9E ∷ []) [] ▸ handling Side.Second (0xAA ∷ []) []

abbrev release : Keycode → ℕ → KeyEvent
release key flags = record { keycode = key; action = KeyAction.Released; modifiers = record { bits = flags } }

-- The first side's A has no Shift: each side has its own flags.
abbrev left : List (Sided KeyEvent)
left =
    sided Side.First (press Keycode.A 0x000) ∷ sided Side.Second (press Keycode.A 0x001) ∷ sided Side.Second (release Keycode.A 0x001)
    ∷ sided Side.First (release Keycode.A 0x000) ∷ sided Side.Second (release Keycode.LeftShift 0x000) ∷ []

counted_bytes : counted_of two lamps Side.Second calls ≡ onto nothing (convert_stream stream 4).bytes
unfolding own counted waits behind_after joined_after thrown_after caught scancode_after scancode followed flag_table is_of presses_lock onto convert_codes codes becomes entry_of printed put_bit
counted_bytes = refl

converted_whole : (convert_stream stream 4).end ≡ gives success
unfolding convert_codes codes becomes entry_of printed put_bit
converted_whole = refl

-- what the codes of the second side and the bytes of the first say of the row
row_codes : row_of two (turns two lamps calls (one_set2 two lamps Side.Second stream calls)) ≡ left
unfolding row_of turns counts scancode_of own counted waits behind_after joined_after thrown_after caught scancode_after scancode less_met given_to admits allows meets count_of sides_in onto codes each_set2 each_said event_given event_of flags_said strokes prefix_said event_set2 flags_set2 stroke_set2 strokes_set2 prefix_set2 word_of said_of times last_was_press followed flag_table is_of presses_lock entry_of printed put_bit odd keycode_at keycode_of numbered keycodes
row_codes = refl

pub shift_a_waits : waiting (after two lamps calls) ≡ left
shift_a_waits = (history_set2 two lamps Side.Second calls stream 4 counted_bytes converted_whole).row.queue ∙ row_codes

-- ---- the same where the first side speaks set 2 too

abbrev streams : Side → List ℕ
streams Side.First = 0x1C ∷ 0xF0 ∷ 0x1C ∷ []
streams Side.Second = stream

counted_both : (side : Side) → counted_of two lamps side calls ≡ onto nothing (convert_stream (streams side) 4).bytes
unfolding own counted waits behind_after joined_after thrown_after caught scancode_after scancode followed flag_table is_of presses_lock onto convert_codes codes becomes entry_of printed put_bit
counted_both Side.First = refl
counted_both Side.Second = counted_bytes

converted_both : (side : Side) → (convert_stream (streams side) 4).end ≡ gives success
unfolding convert_codes codes becomes entry_of printed put_bit
converted_both Side.First = refl
converted_both Side.Second = converted_whole

row_both : row_of two (turns two lamps calls (λ side. each_set2 Profile.Any (codes_of (streams side)))) ≡ left
unfolding row_of turns counts scancode_of own counted waits behind_after joined_after thrown_after caught scancode_after scancode less_met given_to admits allows meets count_of sides_in onto codes each_set2 event_set2 flags_set2 stroke_set2 strokes_set2 prefix_set2 word_of said_of times last_was_press followed flag_table is_of presses_lock entry_of printed put_bit odd keycode_at keycode_of numbered keycodes
row_both = refl

pub both_wait : waiting (after two lamps calls) ≡ left
both_wait = (both_set2 two lamps calls streams (λ side. 4) counted_both converted_both).row.queue ∙ row_both

-- ---- what single codes say

-- E0 14 is right Control, and its release is E0 F0 14: F0 is passed over in "directly after".
pub right_control :
    (flags_set2 Profile.Any (nothing ▸ alone 0xE0 ▸ alone 0x14) ≡ 0x008)
    × (flags_set2 Profile.Any (nothing ▸ alone 0xE0 ▸ alone 0x14 ▸ alone 0xE0 ▸ after_f0 0x14) ≡ 0x000)
    × (flags_set2 Profile.Any (nothing ▸ alone 0xE0 ▸ alone 0x14 ▸ after_f0 0x14) ≡ 0x008)
unfolding flags_set2 stroke_set2 strokes_set2 prefix_set2 onto word_of said_of times last_was_press followed flag_table is_of entry_of printed put_bit odd
right_control = (refl, refl, refl)

-- F0 47 and F0 4F count as E0 and E1: the 14 behind them is right Control. 47 itself does not.
pub released_prefix :
    (flags_set2 Profile.Any (nothing ▸ after_f0 0x47 ▸ alone 0x14) ≡ 0x008)
    × (flags_set2 Profile.Any (nothing ▸ after_f0 0x4F ▸ alone 0x14) ≡ 0x008)
    × (flags_set2 Profile.Any (nothing ▸ alone 0x47 ▸ alone 0x14) ≡ 0x004)
unfolding flags_set2 stroke_set2 strokes_set2 prefix_set2 onto word_of said_of times last_was_press followed flag_table is_of entry_of printed put_bit odd
released_prefix = (refl, refl, refl)

-- Both Shifts, left Control, Alt, both Supers and the three locks, by their codes; under the tournament profile the locks are off.
pub every_flag :
    (flags_set2 Profile.Any (nothing ▸ alone 0x12 ▸ alone 0x59 ▸ alone 0x14 ▸ alone 0x11 ▸ alone 0xE0 ▸ alone 0x1F ▸ alone 0xE0 ▸ alone 0x27 ▸ alone 0x58 ▸ alone 0x77 ▸ alone 0x7E) ≡ 0x3F7)
    × (flags_set2 Profile.Tournament (nothing ▸ alone 0x12 ▸ alone 0x59 ▸ alone 0x14 ▸ alone 0x11 ▸ alone 0xE0 ▸ alone 0x1F ▸ alone 0xE0 ▸ alone 0x27 ▸ alone 0x58 ▸ alone 0x77 ▸ alone 0x7E) ≡ 0x077)
unfolding flags_set2 stroke_set2 strokes_set2 prefix_set2 onto word_of said_of times last_was_press followed flag_table is_of entry_of printed put_bit odd
every_flag = (refl, refl)

-- 83 and 02 are one key, F7; a key above 5D gives no event.
pub one_key :
    (events_set2 Profile.Any (nothing ▸ alone 0x83 ▸ after_f0 0x02) ≡ press Keycode.F7 0x000 ∷ release Keycode.F7 0x000 ∷ [])
    × (events_set2 Profile.Any (nothing ▸ alone 0x13 ▸ after_f0 0x13 ▸ after_f0 0x65) ≡ [])
unfolding events_set2 event_set2 flags_set2 stroke_set2 strokes_set2 prefix_set2 onto word_of said_of times last_was_press followed flag_table is_of entry_of printed put_bit odd keycode_at keycode_of numbered keycodes
one_key = (refl, refl)
