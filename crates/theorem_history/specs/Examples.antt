-- Lists of calls that show that the history rule speaks of something.
use Rattle.std.specs.Prelude.{cond, List, [], ◌∷◌, ℕ, zero, suc, eqb}
use Rattle.exchange.specs.Exchange.{p60, Exchange, done, read, write}
use Rattle.exchange.specs.Answer.{Answer, gives, refuses}
use Rattle.keycodes_ascii.specs.declared.KeyAction.{KeyAction}
use Rattle.keycodes_ascii.specs.declared.KeyEvent.{KeyEvent}
use Rattle.keycodes_ascii.specs.declared.Keycode.{Keycode}
use Rattle.keyboard_scancodes.specs.declared.Profile.{Profile}
use Rattle.keyboard_sides.specs.declared.Side.{Side}
use Rattle.keyboard_record.specs.declared.Keyboards.{Keyboards}
use Rattle.keyboard_record.specs.declared.Table.{Table}
use Rattle.theorem_history.specs.Past.{Past, nothing, ◌▸◌}
use Rattle.theorem_history.specs.Counted.{Call, handling, taking}

-- A table with one keyboard, and one with two, without the
-- profile; and one with one keyboard for rated games.
abbrev pub one : Table
one = record { keyboards = Keyboards.One; profile = Profile.Any }

abbrev pub two : Table
two = record { keyboards = Keyboards.Two; profile = Profile.Any }

abbrev pub rated : Table
rated = record { keyboards = Keyboards.One; profile = Profile.Tournament }

-- A key pressed, with these flags.
abbrev pub press : Keycode → ℕ → KeyEvent
press key flags =
    record { keycode = key; action = KeyAction.Pressed; modifiers = record { bits = flags } }

-- n presses of A at a side, after some calls: n handler calls,
-- each with the byte 1E for its script and with an empty log.
unfoldable pub then_presses : Side → ℕ → Past Call → Past Call
then_presses side zero calls = calls
then_presses side (suc n) calls = then_presses side n calls ▸ handling side (0x1E ∷ []) []

-- Some calls, then n takings.
unfoldable pub then_takings : ℕ → Past Call → Past Call
then_takings zero calls = calls
then_takings (suc n) calls = then_takings n calls ▸ taking

-- A short lamp exchange: ED and the lamps are written, and one byte is read; any but FA refuses.
abbrev pub short_lamps : ℕ → Exchange (Answer ℕ)
short_lamps lamps = write p60 0xED
    (write p60 lamps (read p60 (λ b. done (cond (eqb b 0xFA) (gives b) (refuses 7)))))

-- One that goes on reading, at most 20 bytes, until FA comes: any other byte is passed over.
unfoldable pub until_fa : ℕ → Exchange (Answer ℕ)
until_fa zero = done (refuses 7)
until_fa (suc n) = read p60 (λ b. cond (eqb b 0xFA) (done (gives b)) (until_fa n))

abbrev pub patient_lamps : ℕ → Exchange (Answer ℕ)
patient_lamps lamps = write p60 0xED (write p60 lamps (until_fa 20))

-- A log with room for two pairs.
abbrev pub four_free : List ℕ
four_free = 0 ∷ 0 ∷ 0 ∷ 0 ∷ []

-- Caps Lock, whose lamp exchange fails.
abbrev pub failing_lamps : Past Call
failing_lamps = nothing ▸ handling Side.First (0x3A ∷ 0xFE ∷ []) four_free

-- Caps Lock, whose lamp exchange finds the script used up; Caps Lock again, whose lamps are lit; A.
abbrev pub cut_in_lamps : Past Call
cut_in_lamps = nothing ▸ handling Side.First (0x3A ∷ []) four_free
    ▸ handling Side.First (0x3A ∷ 0xFA ∷ []) four_free ▸ handling Side.First (0x1E ∷ []) []

-- Caps Lock, and A typed during its lamp exchange; then a call without script and log.
abbrev pub letter_in_lamps : Past Call
letter_in_lamps =
    nothing ▸ handling Side.First (0x3A ∷ 0x1E ∷ 0xFA ∷ []) four_free ▸ handling Side.First [] []

-- Caps Lock, and 17 keys during its lamp exchange.
abbrev pub seventeen : Past Call
seventeen =
    nothing ▸ handling Side.First
    (0x3A ∷ 0x10 ∷ 0x11 ∷ 0x12 ∷ 0x13 ∷ 0x14 ∷ 0x15 ∷ 0x16 ∷ 0x17 ∷ 0x18 ∷ 0x19 ∷ 0x1A ∷ 0x1B
    ∷ 0x1C ∷ 0x1D ∷ 0x1E ∷ 0x1F ∷ 0x20 ∷ 0xFA ∷ []) four_free

-- Caps Lock, and Num Lock and A during its lamp exchange; Num
-- Lock, and B during its own; then a call each for A and B.
abbrev pub lock_waits : Past Call
lock_waits = nothing ▸ handling Side.First (0x3A ∷ 0x45 ∷ 0x1E ∷ 0xFA ∷ []) four_free
    ▸ handling Side.First (0x30 ∷ 0xFA ∷ []) four_free ▸ handling Side.First [] []
    ▸ handling Side.First [] []

-- Caps Lock, and Num Lock and 15 keys during its lamp exchange; Num Lock, and A and B during its
-- own: its place is free for the first of them.
abbrev pub lock_first_of16 : Past Call
lock_first_of16 =
    nothing ▸ handling Side.First
    (0x3A ∷ 0x45 ∷ 0x10 ∷ 0x11 ∷ 0x12 ∷ 0x13 ∷ 0x14 ∷ 0x15 ∷ 0x16 ∷ 0x17 ∷ 0x18 ∷ 0x19 ∷ 0x1A
    ∷ 0x1B ∷ 0x1C ∷ 0x1D ∷ 0x1F ∷ 0xFA ∷ []) four_free
    ▸ handling Side.First (0x1E ∷ 0x30 ∷ 0xFA ∷ []) four_free

-- Caps Lock, and Num Lock during its lamp exchange; Num Lock, in whose own the script ends after B;
-- and Num Lock again, whose lamps are lit.
abbrev pub waiting_cut : Past Call
waiting_cut = nothing ▸ handling Side.First (0x3A ∷ 0x45 ∷ 0xFA ∷ []) four_free
    ▸ handling Side.First (0x30 ∷ []) four_free

abbrev pub waiting_lit : Past Call
waiting_lit = waiting_cut ▸ handling Side.First (0xFA ∷ []) four_free

-- For rated games: Caps Lock, A, Alt, the left Shift, B, and the release of Caps Lock, each with
-- its byte for the script and no room in the log.
abbrev pub rated_game : Past Call
rated_game =
    nothing ▸ handling Side.First (0x3A ∷ []) [] ▸ handling Side.First (0x1E ∷ []) []
    ▸ handling Side.First (0x38 ∷ []) [] ▸ handling Side.First (0x2A ∷ []) []
    ▸ handling Side.First (0x30 ∷ []) [] ▸ handling Side.First (0xBA ∷ []) []
