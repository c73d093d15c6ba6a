-- The history rule through the dispatcher, for every lamp exchange, and for the keyboards' own.
use mathlib.Core.List.{List}
use mathlib.Core.Option as math
use Rattle.std.specs.Prelude.{Option, None, Some}
use mathlib.Core.Path.{◌≡◌, refl, sym, ap, ap₂, ◌∙◌}
use Prim.Native.Nat.{ℕ}
use lib.ListN.{length}
use borrow.Author.Tests.{leb-true}
use Rattle.exchange.specs.Exchange.{Exchange, End, Played}
use Rattle.exchange.specs.Answer.{Answer}
use Rattle.ps2_answers.specs.Refusals.{Success}
use Rattle.ps2_packet.specs.declared.SignedPacket.{SignedPacket}
use Rattle.ps2_mouse.specs.declared.PS2Mouse.{PS2Mouse}
use Rattle.keycodes_ascii.specs.declared.KeyEvent.{KeyEvent}
use Rattle.keyboard_scancodes.proofs.Waiting.{length_bytes}
use Rattle.keyboard_sides.specs.declared.Side.{Side}
use Rattle.keyboard_sides.specs.Named.{Sided}
use Rattle.keyboard_record.specs.declared.Table.{Table}
use Rattle.keyboard_record.specs.Record.{keyboard_at}
use Rattle.keyboard_record.specs.Taking.{taken}
use Rattle.keyboard.specs.KeyboardLamps.{keyboard_lamps}
use Rattle.theorem_history.specs.Past.{Past, nothing, ◌▸◌}
use Rattle.theorem_history.specs.Counted.{waits_of}
use Rattle.theorem_history.specs.Run.{leaves, after, answers, takings}
use Rattle.theorem_history.proofs.History.{history}
use Rattle.dispatcher.specs.declared.Dispatcher.{Dispatcher}
use Rattle.dispatcher.specs.declared.Source.{Source}
use Rattle.dispatcher.specs.Turns.{served}
use Rattle.dispatcher.specs.Sources.{Scripts, keyboard_waits, waits_now}
use Rattle.dispatcher.specs.Step.{Stepped, served_one, serve_mouse, serve_keyboard, serve, step_of}
use Rattle.dispatcher.specs.Runs.{Move, stepping, taking, moved}
use Rattle.dispatcher.proofs.Turns.{same_served, served_waits}
use Rattle.dispatcher.proofs.Cut.{First, first_packet}
use Rattle.theorem_dispatcher.specs.Told.{Told, bytes_told, waits_told, told_serving, told_move, told}
use Rattle.theorem_dispatcher.specs.Through.{call_end, dispatched, call_answers, taking_answers, calls_of, HistoryThrough}

module _ {A : Type 0} (table : Table) (lamps : Side → ℕ → Exchange (Answer A)) (mouse : PS2Mouse) where
  -- the state that is said
  abbrev state_told : Told → Dispatcher
  state_told t = record { last = t.last; places = t.places; mouse = mouse; handler = after table lamps t.calls }

  -- ---- one step

  module _ (t : Told) (s : Scripts) (log : List ℕ) where
    -- as many bytes wait as the history rule says
    count_told : (side : Side) → (keyboard_at side (after table lamps t.calls).state).waiting.count ≡ length (waits_of table lamps side t.calls)
    count_told side =
        let w = (keyboard_at side (after table lamps t.calls).state).waiting in
        sym (length_bytes w.bytes 0 w.count) ∙ ap (λ (l : List ℕ). length l) ((history table lamps t.calls).bytes_waiting side)

    waits_told_lem : (source : Source) → waits_now (state_told t) s source ≡ waits_told table lamps mouse.id t s source
    unfolding waits_now waits_told
    waits_told_lem (Source.Keyboard side) = ap (keyboard_waits (bytes_told t s (Source.Keyboard side))) (count_told side)
    waits_told_lem Source.Mouse = refl

    abbrev whom : Option Source
    whom = served (waits_told table lamps mouse.id t s) t.last

    step_whom : step_of lamps (state_told t) s log ≡ serve lamps (state_told t) s log whom
    unfolding step_of
    step_whom = ap (serve lamps (state_told t) s log) (same_served waits_told_lem t.last)

    -- a packet that waits is whole
    whole : whom ≡ Some Source.Mouse → First mouse.id (bytes_told t s Source.Mouse)
    unfolding waits_told
    whole e = first_packet mouse.id (bytes_told t s Source.Mouse) (leb-true _ _ (served_waits (waits_told table lamps mouse.id t s) t.last Source.Mouse e))

    serve_told : (o : Option Source) → whom ≡ o → (serve lamps (state_told t) s log o).state ≡ state_told (told_serving table lamps mouse.id t s log o)
    unfolding serve_keyboard serve_mouse after leaves
    serve_told None e = refl
    serve_told (Some (Source.Keyboard side)) e = refl
    serve_told (Some Source.Mouse) e =
        ap (λ (o : Played (Answer SignedPacket)). served_one Source.Mouse o.used (after table lamps t.calls) (state_told t)) (whole e).reads

    answer_told : (o : Option Source) (past : Past (End (Answer Success))) → past ≡ answers table lamps t.calls
        → call_end past (serve lamps (state_told t) s log o).answer ≡ answers table lamps (told_serving table lamps mouse.id t s log o).calls
    unfolding serve_keyboard serve_mouse answers
    answer_told None past e = e
    answer_told (Some (Source.Keyboard side)) past e = rw e
    answer_told (Some Source.Mouse) past e = e

    taking_told : (o : Option Source) → takings table lamps (told_serving table lamps mouse.id t s log o).calls ≡ takings table lamps t.calls
    unfolding takings
    taking_told None = refl
    taking_told (Some (Source.Keyboard side)) = refl
    taking_told (Some Source.Mouse) = refl

  -- ---- the list

  abbrev told_of : Past Move → Told
  told_of moves = told table lamps mouse.id moves

  move_told : (t : Told) (m : Move) → moved lamps (state_told t) m ≡ state_told (told_move table lamps mouse.id t m)
  unfolding after leaves
  move_told t (stepping s log) = ap (λ (x : Stepped). x.state) (step_whom t s log) ∙ serve_told t s log (whom t s log) refl
  move_told t taking = refl

  state_told_lem : (moves : Past Move) → dispatched table lamps mouse moves ≡ state_told (told_of moves)
  unfolding dispatched told after
  state_told_lem nothing = refl
  state_told_lem (past ▸ m) = ap (λ (d : Dispatcher). moved lamps d m) (state_told_lem past) ∙ move_told (told_of past) m

  all_answered : (moves : Past Move) → call_answers table lamps mouse moves ≡ answers table lamps (calls_of table lamps mouse moves)
  unfolding call_answers told answers
  all_answered nothing = refl
  all_answered (past ▸ stepping s log) =
      let t = told_of past in
      ap (λ (x : Stepped). call_end (call_answers table lamps mouse past) x.answer) (ap (λ (d : Dispatcher). step_of lamps d s log) (state_told_lem past) ∙ step_whom t s log)
      ∙ answer_told t s log (whom t s log) (call_answers table lamps mouse past) (all_answered past)
  all_answered (past ▸ taking) = all_answered past

  all_taken : (moves : Past Move) → taking_answers table lamps mouse moves ≡ takings table lamps (calls_of table lamps mouse moves)
  unfolding taking_answers told takings
  all_taken nothing = refl
  all_taken (past ▸ stepping s log) = all_taken past ∙ sym (taking_told (told_of past) s log (whom (told_of past) s log))
  all_taken (past ▸ taking) =
      ap₂ {C = Past (Answer (math.Option (Sided KeyEvent)))} (λ (x : Past (Answer (math.Option (Sided KeyEvent)))) (y : Answer (math.Option (Sided KeyEvent))). x ▸ y) (all_taken past)
      (ap (λ (d : Dispatcher). (taken d.handler).answer) (state_told_lem past))

  pub history_through : (moves : Past Move) → HistoryThrough table lamps mouse moves
  history_through moves =
      let e = state_told_lem moves in
      record {
        handler = ap (λ (d : Dispatcher). d.handler) e;
        answered = all_answered moves;
        takings_answered = all_taken moves;
        rule = history table lamps (calls_of table lamps mouse moves);
        last = ap (λ (d : Dispatcher). d.last) e;
        places = ap (λ (d : Dispatcher). d.places) e;
        mouse_stays = ap (λ (d : Dispatcher). d.mouse) e;
      }

-- with the lamp exchanges that the code makes
pub keyboard_history_through : (table : Table) (mouse : PS2Mouse) (moves : Past Move) → HistoryThrough table keyboard_lamps mouse moves
keyboard_history_through table = history_through table keyboard_lamps
