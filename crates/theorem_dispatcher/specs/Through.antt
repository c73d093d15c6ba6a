-- The history rule through the dispatcher: "The history rule holds through it." One statement about
-- a list of steps and takings from a fresh state, with any scripts and logs.
use Rattle.std.proofs.Math.Option.{Option}
use Rattle.std.specs.Prelude.{◌≡◌, ℕ}
use Rattle.exchange.specs.Exchange.{Exchange, End}
use Rattle.exchange.specs.Answer.{Answer}
use Rattle.ps2_answers.specs.Refusals.{Success}
use Rattle.ps2_mouse.specs.declared.PS2Mouse.{PS2Mouse}
use Rattle.keycodes_ascii.specs.declared.KeyEvent.{KeyEvent}
use Rattle.keyboard_sides.specs.declared.Side.{Side}
use Rattle.keyboard_sides.specs.Named.{Sided}
use Rattle.keyboard_record.specs.declared.Table.{Table}
use Rattle.keyboard_record.specs.Record.{fresh}
use Rattle.keyboard_record.specs.Taking.{taken}
use Rattle.theorem_history.specs.Past.{Past, nothing, ◌▸◌}
use Rattle.theorem_history.specs.Counted.{Call}
use Rattle.theorem_history.specs.Run.{after, answers, takings}
use Rattle.theorem_history.specs.History.{History}
use Rattle.dispatcher.specs.declared.Dispatcher.{Dispatcher}
use Rattle.dispatcher.specs.Step.{Service, keyed, packet, idle, new_dispatcher, step_of}
use Rattle.dispatcher.specs.Runs.{Move, stepping, taking, moved}
use Rattle.theorem_dispatcher.specs.Told.{told}

-- The end of a handler call, put behind those before it, where a step's answer has one.
abbrev pub call_end : Past (End (Answer Success)) → Service → Past (End (Answer Success))
call_end past (keyed side a) = past ▸ a.end
call_end past (packet a) = past
call_end past idle = past

module _ {A : Type 0} (table : Table) (lamps : Side → ℕ → Exchange (Answer A))
    (mouse : PS2Mouse) where
  -- The dispatcher after a list of steps and takings, from a fresh state on.
  unfoldable pub dispatched : Past Move → Dispatcher
  dispatched nothing = new_dispatcher (fresh table) mouse
  dispatched (past ▸ m) = moved lamps (dispatched past) m

  -- What the handler calls of its steps answered, in order, and what the takings did.
  unfoldable pub call_answers : Past Move → Past (End (Answer Success))
  call_answers nothing = nothing
  call_answers (past ▸ stepping s log) =
      call_end (call_answers past) (step_of lamps (dispatched past) s log).answer
  call_answers (past ▸ taking) = call_answers past

  unfoldable pub taking_answers : Past Move → Past (Answer (Option (Sided KeyEvent)))
  taking_answers nothing = nothing
  taking_answers (past ▸ stepping s log) = taking_answers past
  taking_answers (past ▸ taking) = taking_answers past ▸ (taken (dispatched past).handler).answer

  -- The handler calls and takings that a list of steps and takings says by itself.
  abbrev pub calls_of : Past Move → Past Call
  calls_of moves = (told table lamps mouse.id moves).calls

  pub record HistoryThrough (moves : Past Move) : Type 0 where
    -- The handler record is the one that these calls leave,
    -- each with the side and the bytes that the list says,
    pub handler : (dispatched moves).handler ≡ after table lamps (calls_of moves)
    -- and their answers, and those of the takings, are those given.
    pub answered : call_answers moves ≡ answers table lamps (calls_of moves)
    pub takings_answered : taking_answers moves ≡ takings table lamps (calls_of moves)
    -- Of these calls, and so of the dispatcher's record, the history rule holds.
    pub rule : History table lamps (calls_of moves)
    -- Who was served last and the places are as the list says, and the mouse's record is as it was.
    pub last : (dispatched moves).last ≡ (told table lamps mouse.id moves).last
    pub places : (dispatched moves).places ≡ (told table lamps mouse.id moves).places
    pub mouse_stays : (dispatched moves).mouse ≡ mouse
