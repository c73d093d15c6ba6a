-- `dispatcher_words::serve_mouse` meets its contract: the packet of the unread bytes, and the place that it moves on to.
use native.Mathlib.Omega.{arith}
use Rattle.dispatcher_words.proofs.Turns.{mouse_used, mouse_turn}
use Rattle.dispatcher_words.proofs.serve_mouse.Goals as goal

pub overflow_add-place : goal.overflow_add-place
overflow_add-place c =
    omega (arith, mouse_used c.args.words.now c.args.script.now c.told-words c.place_in-place.result c.start.result c.place_in-place.ensures c.start.ensures.rest c.identity_in-id.ensures c.read_signed_packet.ensures c.packet_words-packet.ensures, c.well_formed)

pub returns : goal.returns
returns c log =
    mouse_turn c.args.words.now c.args.script.now c.told-words c.place_in-place.result c.start.result c.place_in-place.ensures c.start.ensures.rest c.identity_in-id.ensures c.read_signed_packet.ensures c.packet_words-packet.ensures log c.source_number.ensures c.no_call.ensures c.put_turn.ensures
    (omega arith)
