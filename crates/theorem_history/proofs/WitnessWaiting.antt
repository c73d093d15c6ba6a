-- The history rule speaks of bytes that wait: a letter typed during a lamp exchange, 17 of them, a lock among them, and a 2 that leaves one where it was. What the list says is computed; the record and the answers follow by the rule.
use mathlib.Core.Path.{◌≡◌, refl, ◌∙◌}
use mathlib.Core.Bool.{true, false}
use mathlib.Core.List.{[], ◌∷◌}
use Rattle.bits.specs.Bits.{odd, bit, put_bit}
use Rattle.bits.specs.Table.{decode}
use Rattle.exchange.specs.Exchange.{Exchange, play}
use Rattle.exchange.specs.Keeping.{keeping}
use Rattle.keycodes_ascii.specs.declared.Keycode.{Keycode}
use Rattle.keycodes_ascii.specs.Keycode.{keycode_of, numbered, keycodes}
use Rattle.keyboard_scancodes.specs.Profile.{allows, followed}
use Rattle.keyboard_scancodes.specs.FlagTable.{flag_table, is_of, presses_lock}
use Rattle.keyboard_scancodes.specs.Lamps.{lamps_lit}
use Rattle.keyboard_scancodes.specs.Events.{keycode_at, event_of}
use Rattle.keyboard_scancodes.specs.Waiting.{waiting_bytes}
use Prim.Native.Nat.{ℕ}
use Rattle.exchange.specs.Answer.{Answer}
use Rattle.keycodes_ascii.specs.declared.KeyEvent.{KeyEvent}
use Rattle.keyboard_sides.specs.declared.Side.{Side}
use Rattle.keyboard_sides.specs.Sides.{count_of}
use Rattle.keyboard_sides.specs.Named.{Sided, sides_in}
use Rattle.keyboard_record.specs.declared.Keyboards.{Keyboards}
use Rattle.keyboard_record.specs.Queue.{meets, admits, waiting}
use Rattle.keyboard.specs.Answers.{ends2_3_21}
use Rattle.keyboard.specs.Rules.{rules_at}
use Rattle.keyboard.specs.Scancode.{caught, scancode}
use Rattle.theorem_history.specs.Past.{nothing, ◌▸◌, each}
use Rattle.theorem_history.specs.Said.{prefix_said, strokes, times, last_was_press, said_of, word_of, flags_said, event_given}
use Rattle.theorem_history.specs.Counted.{own, scancode_after, thrown_after, behind_after, joined_after, dropped_after, counted, waits, counted_of, waits_of, scancode_of, counts}
use Rattle.theorem_history.specs.Waited.{dropped}
use Rattle.theorem_history.specs.Row.{less_met, given_to, newly, row}
use Rattle.theorem_history.specs.Run.{after, answers, reported}
use Rattle.theorem_history.specs.Examples.{one, press, until_fa, patient_lamps, letter_in_lamps, seventeen, lock_waits, lock_first_of16, waiting_cut, waiting_lit}
use Rattle.theorem_history.proofs.Row.{sided}
use Rattle.theorem_history.proofs.History.{history}

-- the patient lamp exchange, for either side, at a table with one keyboard
abbrev patient : Side → ℕ → Exchange (Answer ℕ)
patient side = patient_lamps

abbrev first_press : Keycode → ℕ → Sided KeyEvent
first_press key flags = sided Side.First (press key flags)

-- ---- a letter typed during Caps Lock's lamp exchange gives its event in the next call, which has no script

letter_row : row one patient letter_in_lamps ≡ first_press Keycode.CapsLock 0x80 ∷ first_press Keycode.A 0x80 ∷ []
unfolding row newly scancode_of own given_to sides_in count_of admits allows meets less_met counted waits behind_after joined_after thrown_after caught scancode_after scancode keeping decode play until_fa flags_said word_of said_of times last_was_press strokes prefix_said followed flag_table is_of presses_lock lamps_lit put_bit odd bit event_given event_of keycode_at keycode_of numbered keycodes
letter_row = refl

pub letter_waits : waiting (after one patient letter_in_lamps) ≡ first_press Keycode.CapsLock 0x80 ∷ first_press Keycode.A 0x80 ∷ []
letter_waits = (history one patient letter_in_lamps).queue ∙ letter_row

-- ---- 17 bytes come: the earliest 16 wait, and one is reported

seventeen_said :
    (waits_of one patient Side.First seventeen ≡ 0x10 ∷ 0x11 ∷ 0x12 ∷ 0x13 ∷ 0x14 ∷ 0x15 ∷ 0x16 ∷ 0x17 ∷ 0x18 ∷ 0x19 ∷ 0x1A ∷ 0x1B ∷ 0x1C ∷ 0x1D ∷ 0x1E ∷ 0x1F ∷ [])
    × (dropped (rules_at one patient Side.First) (own Keyboards.One Side.First seventeen) ≡ nothing ▸ (0x20 ∷ []))
unfolding own dropped dropped_after counted waits behind_after joined_after thrown_after caught scancode_after scancode keeping decode play until_fa followed flag_table is_of presses_lock
seventeen_said = (refl, refl)

pub seventeen_wait : waiting_bytes (after one patient seventeen).state.first.waiting
    ≡ 0x10 ∷ 0x11 ∷ 0x12 ∷ 0x13 ∷ 0x14 ∷ 0x15 ∷ 0x16 ∷ 0x17 ∷ 0x18 ∷ 0x19 ∷ 0x1A ∷ 0x1B ∷ 0x1C ∷ 0x1D ∷ 0x1E ∷ 0x1F ∷ []
seventeen_wait = (history one patient seventeen).bytes_waiting Side.First ∙ seventeen_said.0

pub seventeen-reported : reported one patient Side.First seventeen ≡ nothing ▸ 1
unfolding each
seventeen-reported = (history one patient seventeen).drops Side.First ∙ rw seventeen_said.1

-- ---- a lock waits among the bytes, and what its own lamp exchange catches waits behind those that waited

lock_row : row one patient lock_waits ≡ first_press Keycode.CapsLock 0x80 ∷ first_press Keycode.NumLock 0x180 ∷ first_press Keycode.A 0x180 ∷ first_press Keycode.B 0x180 ∷ []
unfolding row newly scancode_of own given_to sides_in count_of admits allows meets less_met counted waits behind_after joined_after thrown_after caught scancode_after scancode keeping decode play until_fa flags_said word_of said_of times last_was_press strokes prefix_said followed flag_table is_of presses_lock lamps_lit put_bit odd bit event_given event_of keycode_at keycode_of numbered keycodes
lock_row = refl

pub lock_waits_lem : waiting (after one patient lock_waits) ≡ first_press Keycode.CapsLock 0x80 ∷ first_press Keycode.NumLock 0x180 ∷ first_press Keycode.A 0x180 ∷ first_press Keycode.B 0x180 ∷ []
lock_waits_lem = (history one patient lock_waits).queue ∙ lock_row

-- ---- 16 wait, and the oldest is a lock: of two bytes that its exchange catches one finds its place, and one is reported

first_said :
    (waits_of one patient Side.First lock_first_of16 ≡ 0x10 ∷ 0x11 ∷ 0x12 ∷ 0x13 ∷ 0x14 ∷ 0x15 ∷ 0x16 ∷ 0x17 ∷ 0x18 ∷ 0x19 ∷ 0x1A ∷ 0x1B ∷ 0x1C ∷ 0x1D ∷ 0x1F ∷ 0x1E ∷ [])
    × (dropped (rules_at one patient Side.First) (own Keyboards.One Side.First lock_first_of16) ≡ nothing ▸ [] ▸ (0x30 ∷ []))
unfolding own dropped dropped_after counted waits behind_after joined_after thrown_after caught scancode_after scancode keeping decode play until_fa followed flag_table is_of presses_lock
first_said = (refl, refl)

pub first_wait : waiting_bytes (after one patient lock_first_of16).state.first.waiting
    ≡ 0x10 ∷ 0x11 ∷ 0x12 ∷ 0x13 ∷ 0x14 ∷ 0x15 ∷ 0x16 ∷ 0x17 ∷ 0x18 ∷ 0x19 ∷ 0x1A ∷ 0x1B ∷ 0x1C ∷ 0x1D ∷ 0x1F ∷ 0x1E ∷ []
first_wait = (history one patient lock_first_of16).bytes_waiting Side.First ∙ first_said.0

pub first_reported : reported one patient Side.First lock_first_of16 ≡ nothing ▸ 0 ▸ 1
unfolding each
first_reported = (history one patient lock_first_of16).drops Side.First ∙ rw first_said.1

-- ---- a call that ends in 2 inside the exchange of a lock that waited leaves it waiting, and drops nothing; the next call takes it

lock_cut_said :
    (counts one patient waiting_cut ≡ nothing ▸ true ▸ false) × (waits_of one patient Side.First waiting_cut ≡ 0x45 ∷ [])
    × (counted_of one patient Side.First waiting_lit ≡ nothing ▸ 0x3A ▸ 0x45) × (waits_of one patient Side.First waiting_lit ≡ [])
unfolding counts scancode_of own counted waits behind_after joined_after thrown_after caught scancode_after scancode keeping decode play until_fa followed flag_table is_of presses_lock
lock_cut_said = (refl, refl, refl, refl)

pub lock_cut_ends : each ends2_3_21 (answers one patient waiting_cut) ≡ nothing ▸ false ▸ true
unfolding each
lock_cut_ends = (history one patient waiting_cut).left_out ∙ rw lock_cut_said.0

pub lock_cut_waits : waiting_bytes (after one patient waiting_cut).state.first.waiting ≡ 0x45 ∷ []
lock_cut_waits = (history one patient waiting_cut).bytes_waiting Side.First ∙ lock_cut_said.1

pub lock_lit_waits : waiting_bytes (after one patient waiting_lit).state.first.waiting ≡ []
lock_lit_waits = (history one patient waiting_lit).bytes_waiting Side.First ∙ lock_cut_said.3
