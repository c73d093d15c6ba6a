-- What a list of steps and takings says by itself: whom each step serves, which part of its script
-- that call is given, and so which handler calls are made. No dispatcher's state is run here.
use Rattle.std.specs.Prelude.{Bool, List, ℕ, ◌+◌, length, Option, None, Some}
use Rattle.exchange.specs.Exchange.{Exchange}
use Rattle.exchange.specs.Answer.{Answer}
use Rattle.ps2_packet.specs.Packet.{packet_length}
use Rattle.ps2_bytes.specs.declared.response.MouseId.{MouseId}
use Rattle.keyboard_sides.specs.declared.Side.{Side}
use Rattle.keyboard_record.specs.declared.Table.{Table}
use Rattle.keyboard.specs.Handler.{handled}
use Rattle.theorem_history.specs.Past.{Past, nothing, ◌▸◌}
use Rattle.theorem_history.specs.Counted.{Call, handling, taking, waits_of}
use Rattle.theorem_history.specs.Run.{after}
use Rattle.dispatcher.specs.declared.Each.{Each}
use Rattle.dispatcher.specs.declared.Source.{Source}
use Rattle.dispatcher.specs.Turns.{served}
use Rattle.dispatcher.specs.Sources.{Scripts, script_of, place_of, with_place, unused, keyboard_waits, mouse_waits}
use Rattle.dispatcher.specs.Runs.{Move, stepping}
use Rattle.dispatcher.specs.Runs as Runs

-- Who was served last, the places in the three scripts, and the handler calls and takings made.
pub record Told : Type 0 where
  pub last : Option Source
  pub places : Each ℕ
  pub calls : Past Call

-- Before any step nobody was served, and the places are the starts of the scripts.
abbrev pub nothing_told : Told
nothing_told =
    record { last = None; places = record { first = 0; second = 0; mouse = 0 }; calls = nothing }

-- The unused bytes of a source.
abbrev pub bytes_told : Told → Scripts → Source → List ℕ
bytes_told t s source = unused (place_of source t.places) (script_of source s)

-- A source was served, by a call that used so many bytes.
abbrev pub served_told : Source → ℕ → Told → Past Call → Told
served_told source used t calls = record {
  last = Some source;
  places = with_place source (place_of source t.places + used) t.places;
  calls = calls;
}

module _ {A : Type 0} (table : Table) (lamps : Side → ℕ → Exchange (Answer A)) (id : MouseId) where
  -- Who waits: of a keyboard's waiting bytes the history
  -- rule says how many there are after these calls.
  unfoldable pub waits_told : Told → Scripts → Source → Bool
  waits_told t s (Source.Keyboard side) = keyboard_waits (bytes_told t s (Source.Keyboard side))
      (length (waits_of table lamps side t.calls))
  waits_told t s Source.Mouse = mouse_waits (bytes_told t s Source.Mouse) id

  -- The bytes that a call's answer counts, after these calls.
  abbrev pub used_after : Past Call → Side → List ℕ → List ℕ → ℕ
  used_after calls side script log = (handled lamps side (after table lamps calls) script log).used

  -- A step that serves a source makes a handler call on
  -- that side's unused bytes, or reads one packet.
  abbrev pub told_serving : Told → Scripts → List ℕ → Option Source → Told
  told_serving t s log None = t
  told_serving t s log (Some (Source.Keyboard side)) =
      let bytes = bytes_told t s (Source.Keyboard side) in
      served_told (Source.Keyboard side) (used_after t.calls side bytes log) t
      (t.calls ▸ handling side bytes log)
  told_serving t s log (Some Source.Mouse) = served_told Source.Mouse (packet_length id) t t.calls

  abbrev pub told_move : Told → Move → Told
  told_move t (stepping s log) = told_serving t s log (served (waits_told t s) t.last)
  told_move t Runs.taking = record { last = t.last; places = t.places; calls = t.calls ▸ taking }

  -- What a list of steps and takings says.
  unfoldable pub told : Past Move → Told
  told nothing = nothing_told
  told (past ▸ m) = told_move (told past) m
