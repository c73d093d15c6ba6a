-- `dispatcher::Dispatcher::serve_keyboard` meets its contract: the handler call on the unused bytes, and the place that it moves on to.
use native.Mathlib.Omega.{arith}
use Rattle.keyboard.specs.KeyboardLamps.{keyboard_lamps}
use Rattle.dispatcher.proofs.Serving.{keyboard_used_le, keyboard_served}
use Rattle.dispatcher.proofs.Dispatcher.serve_keyboard.Goals as goal

pub overflow_add-place : goal.overflow_add-place
overflow_add-place c =
    omega (arith, keyboard_used_le keyboard_lamps c.args.side c.args.self.now c.args.script.now _ c.at-place.result c.start.result c.at-place.ensures c.start.ensures.rest c.handle_in_place-call.ensures.0, c.well_formed)

pub returns : goal.returns
returns c =
    (keyboard_served keyboard_lamps c.args.side c.args.self.now c.args.script.now _ c.at-place.result c.start.result c.at-place.ensures c.start.ensures.rest c.handle_in_place-call.ensures c.end_turn.ensures)
