-- Steps and takings on lent numbers, one after another: each on the numbers that the last one left.
use Rattle.std.specs.Prelude.{true, List, ◌++◌, ◌≡◌, ℕ, length, drop}
use Rattle.std.proofs.Math.Option.{some}
use Rattle.ps2_bytes.specs.declared.response.MouseId.{MouseId}
use Rattle.argument_words.specs.Arguments.{identity_at}
use Rattle.keyboard_record.specs.declared.Table.{Table}
use Rattle.keyboard_record.specs.Taking.{taken}
use Rattle.keyboard.specs.KeyboardLamps.{keyboard_lamps}
use Rattle.theorem_history.specs.Past.{Past, nothing, ◌▸◌}
use Rattle.handler_words.specs.declared.TakenWords.{TakenWords}
use Rattle.handler_words.specs.Layout.{words_length}
use Rattle.handler_words.specs.Arguments.{table_at}
use Rattle.handler_words.specs.Calls.{taken_numbers, WordsTaken}
use Rattle.dispatcher.specs.declared.Dispatcher.{Dispatcher}
use Rattle.dispatcher.specs.Sources.{scripts}
use Rattle.dispatcher.specs.Step.{step_of}
use Rattle.dispatcher.specs.Runs.{Move, stepping, taking}
use Rattle.theorem_dispatcher.specs.Through.{dispatched, HistoryThrough}
use Rattle.dispatcher_words.specs.declared.StepWords.{StepWords}
use Rattle.dispatcher_words.specs.Layout.{dispatcher_length}
use Rattle.dispatcher_words.specs.Words.{handler_in, names_all, dispatcher_of}
use Rattle.dispatcher_words.specs.Steps.{step_numbers, StepMade}
use Rattle.dispatcher_words.specs.Fresh.{MadeFresh}

-- From fresh numbers for a table and a mouse's identity, these steps and
-- takings leave these numbers, as the calls' promises have it. A taking
-- is one from the handler's numbers, which are lent by themselves.
pub data Ran (table : Table) (id : MouseId) : Past Move → List ℕ → Type 0 where
  begun : {ws ws' : List ℕ} {answer : ℕ} (keyboards profile identity : ℕ)
      → table_at keyboards profile ≡ some table → identity_at identity ≡ some id → length ws
      ≡ dispatcher_length
      → MadeFresh ws keyboards profile identity answer ws' → Ran table id nothing ws'
  steps : {moves : Past Move} {ws ws' log' : List ℕ} {answer : StepWords}
      {first second third log : List ℕ} → Ran table id moves ws
      → StepMade ws first second third log answer ws' log'
      → Ran table id (moves ▸ stepping (scripts first second third) log) ws'
  takes : {moves : Past Move} {ws us : List ℕ} {answer : TakenWords} → Ran table id moves ws
      → WordsTaken (handler_in ws) answer us
      → Ran table id (moves ▸ taking) (us ++ drop words_length ws)

-- The dispatcher after these steps and takings by value.
abbrev pub by_value : Table → MouseId → Past Move → Dispatcher
by_value table id moves = dispatched table keyboard_lamps (record { id = id }) moves

-- What holds after them: the numbers stand for the dispatcher after this
-- list of steps and takings, through which the history rule holds, and
-- the answer of the next step or taking is the by-value one's on it.
pub record AsDispatched (table : Table) (id : MouseId) (moves : Past Move) (ws : List ℕ)
    : Type 0 where
  pub long : length ws ≡ dispatcher_length
  pub named : names_all ws ≡ true
  pub stands : dispatcher_of ws ≡ by_value table id moves
  pub follows : HistoryThrough table keyboard_lamps (record { id = id }) moves
  pub answers : (first second third log : List ℕ) (answer : StepWords) (ws' log' : List ℕ)
      → StepMade ws first second third log answer ws' log'
      → answer ≡ step_numbers (step_of keyboard_lamps (by_value table id moves)
      (scripts first second third) log).answer
  pub takings : (answer : TakenWords) (us : List ℕ) → WordsTaken (handler_in ws) answer us → answer
      ≡ taken_numbers (taken (by_value table id moves).handler).answer
