-- What the operations come to whose answers are numbers.
use Rattle.std.specs.Prelude.{List, ◌≡◌, ℕ, length}
use Rattle.exchange.specs.Exchange.{Exchange, End, yields, lacks, play}
use Rattle.exchange.specs.Answer.{Answer}
use Rattle.exchange.specs.Keeping.{Kept}
use Rattle.ps2_layouts.specs.declared.leds.LEDState.{LEDState}
use Rattle.ps2_bytes.specs.declared.command.HostToKeyboardCommand.{HostToKeyboardCommand}
use Rattle.ps2_answers.specs.Refusals.{Success}
use Rattle.ps2_kept.specs.declared.KeptBytes.{KeptBytes}
use Rattle.ps2_kept.specs.Kept.{keeping_thrown}
use Rattle.ps2_keyboard.specs.Keyboard.{keyboard_command, set_keyboard_led}
use Rattle.keyboard_record.specs.declared.Table.{Table}
use Rattle.keyboard_record.specs.Record.{fresh}
use Rattle.keyboard_init.specs.KeyboardInit.{keyboard_init}
use Rattle.port_words.specs.declared.PortWords.{PortWords}
use Rattle.argument_words.specs.Arguments.{invalid_argument}
use Rattle.port_words.specs.Told.{refusing, no_value, told}
use Rattle.port_words.specs.Tells.{Tells, AtArgument}
use Rattle.handler_words.specs.Layout.{words_length}
use Rattle.handler_words.specs.Words.{record_of, words_of}
use Rattle.handler_words.specs.Arguments.{table_at}

-- A command, and a lamp exchange, that hand back the bytes that they threw away.
abbrev pub sending_command : HostToKeyboardCommand → Exchange (Kept KeptBytes (Answer Success))
sending_command c = keeping_thrown (keyboard_command c)

abbrev pub setting_lamps : LEDState → Exchange (Kept KeptBytes (Answer Success))
setting_lamps leds = keeping_thrown (set_keyboard_led leds)

-- ---- initialisation on a lent record

-- What is left by an initialisation that ended so: "after 2, 3 or 21 records are as passed in", and
-- after any other answer there is a new one.
abbrev pub left_by : {A X : Type 0} → End A → X → X → X
left_by (yields a) new passed = new
left_by (lacks x) new passed = passed

-- On 144 numbers: answer and log are those of the exchange, and the numbers left are those of a
-- fresh record, or as they were; they stand for that record.
pub record InitializedLong (table : Table) (ws script log : List ℕ) (answer : PortWords)
    (ws' log' : List ℕ) : Type 0 where
  pub tells : Tells (told no_value) keyboard_init script log answer log'
  pub writes : ws' ≡ left_by (play keyboard_init script log).end (words_of (fresh table)) ws
  pub stands : record_of ws' ≡ left_by (play keyboard_init script log).end (fresh table)
      (record_of ws)

-- Another length is refused with 21, before anything is read.
pub record InitializedAt (table : Table) (ws script log : List ℕ) (answer : PortWords)
    (ws' log' : List ℕ) : Type 0 where
  pub long : length ws ≡ words_length → InitializedLong table ws script log answer ws' log'
  pub other : (length ws ≡ words_length → ⊥) → (answer ≡ refusing 21) × (ws' ≡ ws) × (log' ≡ log)

-- Where the table stands for nothing, that is asked first, and nothing changes.
abbrev pub KeyboardInitialized : List ℕ → ℕ → ℕ → List ℕ → List ℕ → PortWords → List ℕ → List ℕ
    → Type 0
KeyboardInitialized ws keyboards profile script log answer ws' log' =
    AtArgument (table_at keyboards profile)
    ((answer ≡ refusing invalid_argument) × (ws' ≡ ws) × (log' ≡ log))
    (λ table. InitializedAt table ws script log answer ws' log')
