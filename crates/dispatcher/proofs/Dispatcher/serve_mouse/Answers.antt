-- `dispatcher::Dispatcher::serve_mouse` meets its contract: the packet of the unread bytes, and the place that it moves on to.
use native.Mathlib.Omega.{arith}
use Rattle.dispatcher.proofs.Serving.{mouse_used_le, mouse_served}
use Rattle.dispatcher.proofs.Dispatcher.serve_mouse.Goals as goal

pub overflow_add-place : goal.overflow_add-place
overflow_add-place c =
    omega (arith, mouse_used_le c.args.self.now c.args.script.now c.start.result c.start.ensures.rest c.read_signed_packet-read.ensures, c.counts-used.ensures.used, c.well_formed)

pub returns : goal.returns
returns c log =
    rw (c.counts-used.ensures.used, c.counts-used.ensures.pairs)
    (mouse_served c.args.self.now c.args.script.now c.start.result c.start.ensures.rest c.read_signed_packet-read.ensures log (rw c.counts-used.ensures.used at c.end_turn.ensures))
