-- What a taking from the queue means, on any record.
use Rattle.std.specs.Prelude.{cond, eqb, Option as Maybe, Result, Ok, Err, Some, None}
use Rattle.std.proofs.Math.Option.{Option, none, some}
use Rattle.exchange.specs.Answer.{Answer, gives, refuses}
use Rattle.exchange.specs.Left.{Left, left}
use Rattle.keycodes_ascii.specs.declared.KeyEvent.{KeyEvent}
use Rattle.keyboard_sides.specs.Named.{Sided}
use Rattle.keyboard_record.specs.declared.KeyboardHandler.{KeyboardHandler}
use Rattle.keyboard_record.specs.declared.MalformedRecord.{MalformedRecord}
use Rattle.keyboard_record.specs.declared.SideEvent.{SideEvent}
use Rattle.keyboard_record.specs.Queue.{oldest, without_oldest}
use Rattle.keyboard_record.specs.Record.{well_formed}

-- "Taking from the queue gives the oldest event, or "none" only at count 0"; 21 is asked first.
unfoldable pub taken : KeyboardHandler → Left KeyboardHandler (Option (Sided KeyEvent))
taken h =
    cond (well_formed h.state)
    (cond (eqb h.state.count 0)
    (left (gives none) h)
    (left (gives (some (oldest h))) (without_oldest h)))
    (left (refuses 21) h)

-- What the code's answer says, by its number and values.
abbrev pub said_event : SideEvent → Sided KeyEvent
said_event e = record { side = e.side; one = e.event }

abbrev pub said_taken : Result (Maybe SideEvent) MalformedRecord → Answer (Option (Sided KeyEvent))
said_taken (Ok (Some e)) = gives (some (said_event e))
said_taken (Ok None) = gives none
said_taken (Err x) = refuses 21
