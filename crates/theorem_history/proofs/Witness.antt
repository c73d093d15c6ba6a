-- The history rule is not vacuous: lists of calls that fill the queue, or a side's share of it, go on and drain it; in which a lamp exchange fails; and that go on after a 2.
use mathlib.Core.Path.{◌≡◌, refl, ap, ap₂, sym, ◌∙◌}
use mathlib.Core.Bool.{Bool, true, false, true≢false}
use mathlib.Core.List.{List, [], ◌∷◌, ◌++◌, append-nil}
use mathlib.Core.Option.{Option, none, some}
use Prim.Native.Nat.{ℕ, zero, suc, ◌+◌, ◌<◌, ◌≤◌}
use native.Mathlib.Nat.{zero-add, suc-add}
use native.Mathlib.Numerals.{add-one}
use native.Mathlib.Omega.{arith}
use lib.ListN.{length, drop, replicate, length-replicate, replicate-append-replicate}
use Rattle.bits.specs.Bits.{odd, bit, put_bit}
use Rattle.bits.specs.Table.{decode}
use Rattle.exchange.specs.Exchange.{p60, no_script, Exchange, bind, yields, lacks, play}
use Rattle.exchange.specs.Answer.{Answer, gives, refuses}
use Rattle.exchange.specs.Keeping.{keeping}
use Rattle.ps2_answers.specs.Refusals.{Success, success}
use Rattle.keycodes_ascii.specs.declared.KeyEvent.{KeyEvent}
use Rattle.keycodes_ascii.specs.declared.Keycode.{Keycode}
use Rattle.keycodes_ascii.specs.Keycode.{keycode_of, numbered, keycodes}
use Rattle.keyboard_sides.specs.declared.Side.{Side}
use Rattle.keyboard_sides.specs.Sides.{bit_sides, count_of, with_side}
use Rattle.keyboard_sides.specs.Named.{Sided, named, sides_in}
use Rattle.keyboard_sides.proofs.Named.{sides_in-length}
use Rattle.theorem_history.specs.Past.{Past, nothing, ◌▸◌, each}
use Rattle.keyboard_record.specs.declared.Keyboards.{Keyboards}
use Rattle.keyboard_record.specs.declared.Table.{Table}
use Rattle.keyboard_record.specs.Queue.{meets, admits, round, waiting}
use Rattle.keyboard_record.proofs.Meeting.{meets_free, meets_31, meets_20, admits_allowed}
use Rattle.keyboard_scancodes.specs.Strokes.{stroke}
use Rattle.theorem_history.specs.Said.{prefix_said, flags_said, event_given}
use Rattle.keyboard_scancodes.specs.declared.Profile.{Profile}
use Rattle.keyboard_scancodes.specs.Profile.{allows, tournament_keys, code_among, followed, presses_followed}
use Rattle.keyboard_scancodes.specs.FlagTable.{flag_table, flag_limit, is_of, presses_lock}
use Rattle.keyboard_scancodes.specs.Lamps.{lamps_lit}
use Rattle.keyboard_scancodes.specs.Waiting.{bytes_from}
use Rattle.keyboard_scancodes.specs.Events.{keycode_at, event_of}
use Rattle.theorem_history.specs.Counted.{Call, handling, taking, own, scancode_after, thrown_after, behind_after, joined_after, waiting_after, counted, waits, counted_of, waits_of, scancode_of}
use Rattle.keyboard.specs.Rules.{rules_at}
use Rattle.keyboard.specs.Scancode.{caught, scancode}
use Rattle.theorem_history.specs.Row.{less_met, given_to, first, rest, newly, row, given, meets_with, removed}
use Rattle.keyboard_record.specs.Record.{at_table, fresh, keyboard_formed, well_formed, call_formed}
use Rattle.keyboard_scancodes.specs.FlagsAfter.{flags_after, flags_then}
use Rattle.keyboard.specs.Byte.{key_event, lamp_exchange, on_byte, key_call}
use Rattle.keyboard.specs.Handler.{handle, effects, handled, log_left}
use Rattle.theorem_history.specs.Run.{leaves, after, answers, takings, events_taken}
use Rattle.keyboard.specs.Answers.{ends_with}
use Rattle.theorem_history.specs.Examples.{one, two, press, then_presses, then_takings, short_lamps, four_free, failing_lamps, cut_in_lamps}
use Rattle.theorem_history.proofs.Row.{sided, less_room, less_full, met_one}
use Rattle.theorem_history.proofs.Own.{own_more}
use Rattle.theorem_history.proofs.Flags.{flags_none, flags_more}
use Rattle.theorem_history.proofs.History.{history}

-- ---- lists

replicate_more : {A : Type 0} (n : ℕ) (e : A) → replicate n e ++ (e ∷ []) ≡ replicate (suc n) e
replicate_more {A} n e = replicate-append-replicate n 1 e ∙ ap (λ (k : ℕ). replicate {A = A} k e) (add-one n)

drop_more : (n : ℕ) (l : List (Sided KeyEvent)) → rest (drop n l) ≡ drop (suc n) l
drop_more zero [] = refl
drop_more zero (e ∷ l) = refl
drop_more (suc n) [] = refl
drop_more (suc n) (e ∷ l) = drop_more n l

-- ---- presses of A, after which no flag is on and no byte waits

-- one byte more of a letter leaves the flags as they are
letter_flags : (profile : Profile) (x : Bool) (w : ℕ) → flags_after (followed profile) (stroke 0x1E x) w ≡ w
unfolding flags_after followed flag_table is_of
letter_flags Profile.Any x w = refl
letter_flags Profile.Tournament x w = refl

said_letter : (profile : Profile) (bytes : Past ℕ) → flags_said profile (bytes ▸ 0x1E) ≡ flags_said profile bytes
said_letter profile bytes = flags_more profile bytes 0x1E ∙ letter_flags profile (prefix_said bytes) (flags_said profile bytes)

-- nor is it the press of a lock
letter_no_lock : (profile : Profile) → presses_followed profile 0x1E ≡ false
unfolding followed flag_table is_of presses_lock
letter_no_lock Profile.Any = refl
letter_no_lock Profile.Tournament = refl

abbrev a_pressed : KeyEvent
a_pressed = press Keycode.A 0

letter_event : event_of 0x1E 0 ≡ a_pressed
unfolding event_of keycode_at keycode_of numbered keycodes
letter_event = refl

-- n of them, of a side
abbrev letters : Side → ℕ → List (Sided KeyEvent)
letters side n = replicate n (sided side a_pressed)

count_letters : (side : Side) (n : ℕ) → count_of side (sides_in (letters side n)) ≡ n
unfolding count_of sides_in
count_letters side zero = refl
count_letters Side.First (suc n) = omega (arith, count_letters Side.First n)
count_letters Side.Second (suc n) = omega (arith, count_letters Side.Second n)

length-letters : (side : Side) (n : ℕ) → length (sides_in (letters side n)) ≡ n
length-letters side n = sides_in-length (letters side n) ∙ length-replicate n (sided side a_pressed)

-- how many events of one side wait at the most, and the number that answers one more
abbrev pub most : Keyboards → ℕ
most Keyboards.One = 128
most Keyboards.Two = 96

abbrev pub one_more_meets : Keyboards → ℕ
one_more_meets Keyboards.One = 20
one_more_meets Keyboards.Two = 31

letters_room : (keyboards : Keyboards) (side : Side) (n : ℕ) → n < most keyboards → meets keyboards side (sides_in (letters side n)) ≡ gives success
letters_room Keyboards.One side n h = meets_free Keyboards.One side (sides_in (letters side n)) (λ e. absurd (true≢false (sym e))) (rw (length-letters side n) h)
letters_room Keyboards.Two side n h =
    meets_free Keyboards.Two side (sides_in (letters side n)) (λ e. rw (count_letters side n) h) (omega (arith, length-letters side n))

letters_no_room : (keyboards : Keyboards) (side : Side) → meets keyboards side (sides_in (letters side (most keyboards))) ≡ refuses (one_more_meets keyboards)
letters_no_room Keyboards.One side =
    meets_20 Keyboards.One side (sides_in (letters side 128)) (λ e. absurd (true≢false (sym e))) (omega (arith, length-letters side 128))
letters_no_room Keyboards.Two side = meets_31 Keyboards.Two side (sides_in (letters side 96)) refl (omega (arith, count_letters side 96))

-- A is inside every profile
letter_inside : (profile : Profile) → allows profile Keycode.A ≡ true
unfolding allows code_among tournament_keys
letter_inside Profile.Any = refl
letter_inside Profile.Tournament = refl

letter_admits : (table : Table) (side : Side) (l : List Side) → admits table side l Keycode.A ≡ meets table.keyboards side l
letter_admits table side l = admits_allowed table side l Keycode.A (letter_inside table.profile)

letters_free : (table : Table) (side : Side) (n : ℕ) → n < most table.keyboards → admits table side (sides_in (letters side n)) Keycode.A ≡ gives success
letters_free table side n h = letter_admits table side (sides_in (letters side n)) ∙ letters_room table.keyboards side n h

letters_full : (table : Table) (side : Side) → admits table side (sides_in (letters side (most table.keyboards))) Keycode.A ≡ refuses (one_more_meets table.keyboards)
letters_full table side = letter_admits table side (sides_in (letters side (most table.keyboards))) ∙ letters_no_room table.keyboards side

module _ {A : Type 0} (table : Table) (lamps : Side → ℕ → Exchange (Answer A)) (side : Side) (at : at_table table.keyboards side ≡ true) where
  -- calls after which the side has no flag on and no byte waiting
  pub record Quiet (calls : Past Call) : Type 0 where
    pub no_flags : flags_said table.profile (counted_of table lamps side calls) ≡ 0
    pub none_wait : waits_of table lamps side calls ≡ []

  pub quiet_none : Quiet nothing
  unfolding own counted waits
  quiet_none = record { no_flags = flags_none table.profile; none_wait = refl }

  abbrev letter : Past Call → Past Call
  letter calls = calls ▸ handling side (0x1E ∷ []) []

  -- a press of A is counted, and no byte comes to wait
  counts_letter : (bytes : Past ℕ) → scancode_after (rules_at table lamps side) bytes [] (0x1E ∷ []) [] ≡ some 0x1E
  unfolding scancode_after scancode
  counts_letter bytes = rw (letter_no_lock table.profile)

  none_caught : (bytes : Past ℕ) → waiting_after (rules_at table lamps side) bytes [] (0x1E ∷ []) [] ≡ []
  unfolding behind_after joined_after thrown_after caught scancode_after scancode
  none_caught bytes = rw (letter_no_lock table.profile)

  module _ {calls : Past Call} (q : Quiet calls) where
    pub quiet_letter : Quiet (letter calls)
    unfolding counted waits
    quiet_letter =
        let more = own_more table.keyboards calls side (0x1E ∷ []) [] at in
        record {
          no_flags = rw (more, q.none_wait, counts_letter (counted_of table lamps side calls)) (said_letter table.profile (counted_of table lamps side calls) ∙ q.no_flags);
          none_wait = rw (more, q.none_wait) (none_caught (counted_of table lamps side calls));
        }

    scanned_letter : scancode_of table lamps calls side (0x1E ∷ []) [] ≡ some 0x1E
    unfolding scancode_of
    scanned_letter = rw (at, q.none_wait) (counts_letter (counted_of table lamps side calls))

    new_letter : (es : List (Sided KeyEvent)) → newly table lamps calls es side (0x1E ∷ []) [] ≡ given_to table side es (a_pressed ∷ [])
    unfolding newly event_given
    new_letter es = rw (scanned_letter, said_letter table.profile (counted_of table lamps side calls), q.no_flags, letter_event)

    pub row-letter : {es : List (Sided KeyEvent)} → row table lamps calls ≡ es → row table lamps (letter calls) ≡ es ++ less_met (given_to table side es (a_pressed ∷ []))
    unfolding row
    row-letter e = rw (new_letter (row table lamps calls), e)

    pub meets_letter : (n : ℕ) {es : List (Sided KeyEvent)} → row table lamps calls ≡ es
        → meets_with table lamps n (letter calls) ≡ meets_with table lamps n calls ▸ ends_with n (yields (admits table side (sides_in es) Keycode.A))
    unfolding meets_with
    meets_letter n {es} e = rw (new_letter (row table lamps calls), e, met_one table side es a_pressed n)

    pub given-letter : {es : List (Sided KeyEvent)} → row table lamps calls ≡ es
        → given table lamps (letter calls) ≡ given table lamps calls ++ given_to table side es (a_pressed ∷ [])
    unfolding given
    given-letter e = rw (new_letter (row table lamps calls), e)

  -- ---- from a fresh record: a row that fills, and then takes no more

  abbrev presses : ℕ → Past Call
  presses n = then_presses side n nothing

  quiet_presses : (n : ℕ) → Quiet (presses n)
  unfolding then_presses
  quiet_presses zero = quiet_none
  quiet_presses (suc n) = quiet_letter (quiet_presses n)

  row_none : row table lamps (presses 0) ≡ []
  unfolding row then_presses
  row_none = refl

  -- up to 128 presses wait at a table with one keyboard, up to 96 at one with two
  pub row_fills : (n : ℕ) → n ≤ most table.keyboards → row table lamps (presses n) ≡ letters side n
  unfolding then_presses
  row_fills zero h = row_none
  row_fills (suc n) h =
      row-letter (quiet_presses n) (row_fills n (omega arith))
      ∙ rw (less_room table side (letters side n) a_pressed (letters_free table side n (omega arith))) (replicate_more n (sided side a_pressed))

  -- and no more: every further press meets 20, or 31
  pub row_full : (m : ℕ) → row table lamps (presses (m + most table.keyboards)) ≡ letters side (most table.keyboards)
  unfolding then_presses
  row_full zero = rw zero-add (row_fills (most table.keyboards) (omega arith))
  row_full (suc m) =
      rw suc-add (row-letter (quiet_presses (m + most table.keyboards)) (row_full m)
      ∙ rw (less_full table side (letters side (most table.keyboards)) a_pressed (letters_full table side)) (append-nil (letters side (most table.keyboards))))

  pub meets_full : (n m : ℕ) → meets_with table lamps n (presses (suc (m + most table.keyboards)))
      ≡ meets_with table lamps n (presses (m + most table.keyboards)) ▸ ends_with n (yields (refuses (one_more_meets table.keyboards)))
  unfolding then_presses
  meets_full n m = meets_letter (quiet_presses (m + most table.keyboards)) n (row_full m) ∙ rw (letters_full table side)

  no_takings : (n : ℕ) → takings table lamps (presses n) ≡ nothing
  unfolding takings then_presses
  no_takings zero = refl
  no_takings (suc n) = no_takings n

-- ---- takings

module _ {A : Type 0} (table : Table) (lamps : Side → ℕ → Exchange (Answer A)) where
  -- takings take the row's first ones, and give no event
  pub row_drained : (k : ℕ) (calls : Past Call) → row table lamps (then_takings k calls) ≡ drop k (row table lamps calls)
  unfolding row then_takings
  row_drained zero calls = refl
  row_drained (suc k) calls = ap rest (row_drained k calls) ∙ drop_more k (row table lamps calls)

  given_drained : (k : ℕ) (calls : Past Call) → given table lamps (then_takings k calls) ≡ given table lamps calls
  unfolding given then_takings
  given_drained zero calls = refl
  given_drained (suc k) calls = given_drained k calls

  own_drained : (t : Side) (k : ℕ) (calls : Past Call) → own table.keyboards t (then_takings k calls) ≡ own table.keyboards t calls
  unfolding own then_takings
  own_drained t zero calls = refl
  own_drained t (suc k) calls = own_drained t k calls

-- ---- one keyboard: 130 presses, of which 128 wait and two are refused; all are taken; after one taking a press takes the place that was freed

module _ {A : Type 0} (lamps : Side → ℕ → Exchange (Answer A)) where
  abbrev filled : Past Call
  filled = then_presses Side.First 130 nothing

  abbrev drained : Past Call
  drained = then_takings 128 filled

  filled-row : row one lamps filled ≡ letters Side.First 128
  filled-row = row_full one lamps Side.First refl 2

  -- the queue then holds 128 events
  pub full_waits : waiting (after one lamps filled) ≡ letters Side.First 128
  full_waits = (history one lamps filled).queue ∙ filled-row

  -- the last two presses were answered 20
  pub full_answers : each (ends_with 20) (answers one lamps filled) ≡ each (ends_with 20) (answers one lamps (then_presses Side.First 128 nothing)) ▸ true ▸ true
  full_answers =
      (history one lamps filled).answers_20 ∙ meets_full one lamps Side.First refl 20 1
      ∙ ap (λ (p : Past Bool). p ▸ true) (meets_full one lamps Side.First refl 20 0
      ∙ ap (λ (p : Past Bool). p ▸ true) (sym (history one lamps (then_presses Side.First 128 nothing)).answers_20))

  -- the takings bring the 128, and leave the queue empty
  pub drained_waits : waiting (after one lamps drained) ≡ []
  drained_waits = (history one lamps drained).queue ∙ row_drained one lamps 128 filled ∙ ap (drop 128) filled-row

  pub drained_taken : events_taken (takings one lamps drained) ≡ letters Side.First 128
  unfolding events_taken
  drained_taken =
      sym (append-nil (events_taken (takings one lamps drained)))
      ∙ ap (λ (l : List (Sided KeyEvent)). events_taken (takings one lamps drained) ++ l) (sym drained_waits)
      ∙ (history one lamps drained).taken_then_waiting
      ∙ ap less_met (given_drained one lamps 128 filled)
      ∙ sym (history one lamps filled).taken_then_waiting
      ∙ ap₂ {C = List (Sided KeyEvent)} (λ (t : Past (Answer (Option (Sided KeyEvent)))) (l : List (Sided KeyEvent)). events_taken t ++ l) (no_takings one lamps Side.First refl 130) full_waits

  -- a further taking answers none
  pub drained_none : takings one lamps (drained ▸ taking) ≡ takings one lamps drained ▸ gives none
  drained_none =
      (history one lamps (drained ▸ taking)).taking_answers ∙ removed_next
      ∙ ap₂ {C = Past (Answer (Option (Sided KeyEvent)))} (λ (p : Past (Answer (Option (Sided KeyEvent)))) (l : List (Sided KeyEvent)). p ▸ first l)
      (sym (history one lamps drained).taking_answers) (sym (history one lamps drained).queue ∙ drained_waits)
    where
      removed_next : removed one lamps (drained ▸ taking) ≡ removed one lamps drained ▸ first (row one lamps drained)
      removed_next = unfold removed in refl

  -- after one taking from the full queue, a press takes the place that was freed
  abbrev refilled : Past Call
  refilled = letter one lamps Side.First refl (then_takings 1 filled)

  row-one_off : row one lamps (then_takings 1 filled) ≡ letters Side.First 127
  row-one_off = row_drained one lamps 1 filled ∙ ap (drop 1) filled-row

  quiet_one_off : Quiet one lamps Side.First refl (then_takings 1 filled)
  quiet_one_off =
      let q = quiet_presses one lamps Side.First refl 130 in
      let o = own_drained one lamps Side.First 1 filled in
      record { no_flags = rw o q.no_flags; none_wait = rw o q.none_wait }

  pub refilled_waits : waiting (after one lamps refilled) ≡ letters Side.First 128
  refilled_waits =
      (history one lamps refilled).queue ∙ row-letter one lamps Side.First refl quiet_one_off row-one_off
      ∙ rw (less_room one Side.First (letters Side.First 127) a_pressed (letters_free one Side.First 127 (omega arith))) (replicate_more 127 (sided Side.First a_pressed))

-- ---- two keyboards: 200 presses of the first side, of which 96 wait, and then one of the second, which still gets its place

module _ {A : Type 0} (lamps : Side → ℕ → Exchange (Answer A)) where
  abbrev crowded : Past Call
  crowded = then_presses Side.First 200 nothing

  abbrev heard : Past Call
  heard = letter two lamps Side.Second refl crowded

  crowded-row : row two lamps crowded ≡ letters Side.First 96
  crowded-row = row_full two lamps Side.First refl 104

  -- the second side has sent nothing yet
  own_crowded : (n : ℕ) → own Keyboards.Two Side.Second (then_presses Side.First n nothing) ≡ nothing
  unfolding own then_presses
  own_crowded zero = refl
  own_crowded (suc n) = own_crowded n

  quiet_second : Quiet two lamps Side.Second refl crowded
  unfolding counted waits
  quiet_second = record { no_flags = rw (own_crowded 200) (flags_none Profile.Any); none_wait = rw (own_crowded 200) }

  none_of_second : (n : ℕ) → count_of Side.Second (sides_in (letters Side.First n)) ≡ 0
  unfolding count_of sides_in
  none_of_second zero = refl
  none_of_second (suc n) = omega (arith, none_of_second n)

  second_free : admits two Side.Second (sides_in (letters Side.First 96)) Keycode.A ≡ gives success
  second_free =
      letter_admits two Side.Second (sides_in (letters Side.First 96))
      ∙ meets_free Keyboards.Two Side.Second (sides_in (letters Side.First 96)) (λ e. omega (arith, none_of_second 96)) (omega (arith, length-letters Side.First 96))

  pub crowded_waits : waiting (after two lamps crowded) ≡ letters Side.First 96
  crowded_waits = (history two lamps crowded).queue ∙ crowded-row

  pub heard_waits : waiting (after two lamps heard) ≡ letters Side.First 96 ++ (sided Side.Second a_pressed ∷ [])
  heard_waits =
      (history two lamps heard).queue ∙ row-letter two lamps Side.Second refl quiet_second crowded-row
      ∙ rw (less_room two Side.Second (letters Side.First 96) a_pressed second_free)

  -- the 200th press was answered 31, the second side's neither 31 nor 20
  pub crowded_answers : each (ends_with 31) (answers two lamps heard) ≡ each (ends_with 31) (answers two lamps (then_presses Side.First 199 nothing)) ▸ true ▸ false
  crowded_answers =
      (history two lamps heard).answers_31 ∙ meets_letter two lamps Side.Second refl quiet_second 31 crowded-row
      ∙ ap₂ {C = Past Bool} (λ (p : Past Bool) (x : Answer Success). p ▸ ends_with 31 (yields x)) (meets_full two lamps Side.First refl 31 103) second_free
      ∙ ap (λ (p : Past Bool). p ▸ true ▸ false) (sym (history two lamps (then_presses Side.First 199 nothing)).answers_31)

-- ---- a side that is not at the table: its call ends in 21 and counts nothing

pub absent_answers : {A : Type 0} (lamps : Side → ℕ → Exchange (Answer A))
    → answers one lamps (nothing ▸ handling Side.Second (0x1E ∷ []) []) ≡ nothing ▸ yields (refuses 21)
unfolding answers after handled effects handle call_formed play
absent_answers lamps = refl

-- ---- closed examples, at a table with one keyboard

-- the short lamp exchange, for either side
abbrev one_short : Side → ℕ → Exchange (Answer ℕ)
one_short side = short_lamps

abbrev first_press : Keycode → ℕ → Sided KeyEvent
first_press key flags = sided Side.First (press key flags)

-- ---- a lamp exchange that fails: 14 is shown, the lock is on, its event waits

pub failing_handled : handled one_short Side.First (fresh one) (0x3A ∷ 0xFE ∷ []) four_free
    ≡ record { end = yields (gives success); lamps = refuses 14; used = 2; pairs = 2; handler = after one one_short failing_lamps; dropped = 0 }
unfolding after leaves handled effects handle call_formed keyboard_formed key_call on_byte key_event lamp_exchange keeping decode bytes_from play bind well_formed followed flag_table admits allows meets count_of bit_sides with_side named flag_limit is_of presses_lock
failing_handled = refl

pub failing_log : log_left one_short Side.First (fresh one).state (0x3A ∷ 0xFE ∷ []) four_free ≡ 0x60 ∷ 0xED ∷ 0x60 ∷ 0x04 ∷ []
unfolding log_left handle call_formed keyboard_formed key_call on_byte key_event lamp_exchange keeping decode bytes_from play bind well_formed followed flag_table admits allows meets count_of bit_sides with_side named flag_limit is_of presses_lock lamps_lit bit odd flags_then flags_after put_bit
failing_log = refl

pub failing_flags : (after one one_short failing_lamps).state.first.modifiers.bits ≡ 0x80
unfolding after leaves handled effects handle call_formed keyboard_formed key_call on_byte key_event lamp_exchange keeping decode bytes_from play bind well_formed followed flag_table admits allows meets count_of bit_sides with_side named flag_limit is_of presses_lock lamps_lit bit odd flags_then flags_after put_bit
failing_flags = refl

pub failing_waits : waiting (after one one_short failing_lamps) ≡ first_press Keycode.CapsLock 0x80 ∷ []
unfolding after leaves handled effects handle call_formed keyboard_formed key_call on_byte key_event lamp_exchange keeping decode bytes_from play bind well_formed followed flag_table admits allows meets count_of bit_sides with_side named flag_limit is_of presses_lock lamps_lit bit odd flags_then flags_after put_bit round event_of keycode_at keycode_of numbered keycodes
failing_waits = refl

-- an exchange that succeeds shows nothing
pub lit_handled : (handled one_short Side.First (fresh one) (0x3A ∷ 0xFA ∷ []) four_free).lamps ≡ gives success
unfolding handled effects handle call_formed keyboard_formed key_call on_byte key_event lamp_exchange keeping decode bytes_from play bind well_formed followed flag_table admits allows meets count_of bit_sides with_side named flag_limit is_of presses_lock
lit_handled = refl

-- ---- a call that ends in 2 inside its lamp exchange: its byte is left out, and the calls after it count as if it had not been made

pub cut_answers : answers one one_short cut_in_lamps ≡ nothing ▸ lacks (no_script p60) ▸ yields (gives success) ▸ yields (gives success)
unfolding answers after leaves handled effects handle call_formed keyboard_formed key_call on_byte key_event lamp_exchange keeping decode bytes_from play bind well_formed followed flag_table admits allows meets count_of bit_sides with_side named flag_limit is_of presses_lock lamps_lit bit odd flags_then flags_after put_bit
cut_answers = refl

pub cut_counted : counted_of one one_short Side.First cut_in_lamps ≡ nothing ▸ 0x3A ▸ 0x1E
unfolding own counted waits behind_after joined_after thrown_after caught scancode_after scancode keeping decode play followed flag_table is_of presses_lock
cut_counted = refl

pub cut_waits : waiting (after one one_short cut_in_lamps) ≡ first_press Keycode.CapsLock 0x80 ∷ first_press Keycode.A 0x80 ∷ []
unfolding after leaves handled effects handle call_formed keyboard_formed key_call on_byte key_event lamp_exchange keeping decode bytes_from play bind well_formed followed flag_table admits allows meets count_of bit_sides with_side named flag_limit is_of presses_lock lamps_lit bit odd flags_then flags_after put_bit round event_of keycode_at keycode_of numbered keycodes
cut_waits = refl
