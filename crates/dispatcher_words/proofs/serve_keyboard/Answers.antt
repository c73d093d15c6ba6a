-- `dispatcher_words::serve_keyboard` meets its contract: the handler call on the unused bytes, and the place that it moves on to.
use native.Mathlib.Omega.{arith}
use Rattle.dispatcher_words.proofs.Turns.{keyboard_used, keyboard_turn}
use Rattle.dispatcher_words.proofs.serve_keyboard.Goals as goal

pub overflow_add-place : goal.overflow_add-place
overflow_add-place c =
    omega (arith, keyboard_used c.args.side c.args.words.now c.args.script.now c.args.log.now c.told-words c.place_in-place.result c.start.result c.place_in-place.ensures c.start.ensures.rest c.handle_at-call.ensures, c.well_formed)

pub returns : goal.returns
returns c =
    keyboard_turn c.args.side c.args.words.now c.args.script.now c.args.log.now c.told-words c.place_in-place.result c.start.result c.place_in-place.ensures c.start.ensures.rest c.handle_at-call.ensures c.handle_at-call.auto.words c.source_number.ensures c.no_call.ensures c.put_turn.ensures
    (omega arith)
