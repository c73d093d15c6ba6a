-- A handler call, and a taking, on the record that 144 lent numbers stand for: the record is read
-- out of them, and the one that is left is stored.
use Rattle.std.specs.Prelude.{cond, List, ◌≡◌, ℕ, length}
use Rattle.std.proofs.Math.Option.{Option, none, some}
use Rattle.argument_words.specs.Arguments.{invalid_argument}
use Rattle.keyboard_sides.specs.declared.Side.{Side}
use Rattle.keyboard_record.specs.declared.KeyboardHandler.{KeyboardHandler}
use Rattle.keyboard_record.specs.Taking.{taken}
use Rattle.keyboard.specs.Handler.{handled, log_left}
use Rattle.keyboard.specs.KeyboardLamps.{keyboard_lamps}
use Rattle.handler_words.specs.declared.HandledWords.{HandledWords}
use Rattle.handler_words.specs.declared.TakenWords.{TakenWords}
use Rattle.handler_words.specs.Layout.{words_length}
use Rattle.handler_words.specs.Words.{state_of, record_of, words_of}
use Rattle.handler_words.specs.Calls.{numbers_of, refusing, Untouched, taken_numbers}
use Rattle.handler_words.specs.Records.{holds_record}

-- The numbers that are left: those of the record that a call leaves. Numbers that fit no record
-- stay; each call on what they stand for answers 21.
abbrev pub stored : KeyboardHandler → List ℕ → List ℕ
stored h ws = cond (holds_record ws) (words_of h) ws

-- A handler call for a side, on 144 numbers.
pub record RecordHandled (side : Side) (ws script log : List ℕ) (answer : HandledWords)
    (ws' log' : List ℕ) : Type 0 where
  pub answered : answer ≡ numbers_of (handled keyboard_lamps side (record_of ws) script log)
  pub writes : ws' ≡ stored (handled keyboard_lamps side (record_of ws) script log).handler ws
  pub logged : log' ≡ log_left keyboard_lamps side (state_of ws) script log

-- With any numbers: a side that stands for nothing is asked first, then a length of 144.
abbrev pub HandlesRecord : Option Side → List ℕ → List ℕ → List ℕ → HandledWords → List ℕ → List ℕ
    → Type 0
HandlesRecord none ws script log answer ws' log' =
    Untouched (refusing invalid_argument) ws log answer ws' log'
HandlesRecord (some side) ws script log answer ws' log' =
    (length ws ≡ words_length → RecordHandled side ws script log answer ws' log')
    × ((length ws ≡ words_length → ⊥) → Untouched (refusing 21) ws log answer ws' log')

-- A taking, from 144 numbers; from another length it is refused.
pub record RecordTaken (ws : List ℕ) (answer : TakenWords) (ws' : List ℕ) : Type 0 where
  pub answered : answer ≡ taken_numbers (taken (record_of ws)).answer
  pub writes : ws' ≡ stored (taken (record_of ws)).now ws

abbrev pub TakesRecord : List ℕ → TakenWords → List ℕ → Type 0
TakesRecord ws answer ws' =
    (length ws ≡ words_length → RecordTaken ws answer ws')
    × ((length ws ≡ words_length → ⊥)
    → (answer ≡ record { refusal = 21; side = 0; keycode = 0; action = 0; flags = 0 })
    × (ws' ≡ ws))
