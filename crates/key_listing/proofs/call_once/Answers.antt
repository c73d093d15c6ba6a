-- `key_listing::call_once` meets its contract: the call, the taking, then the lines of both.
use mathlib.Core.Path.{sym, ap, ◌∙◌}
use mathlib.Core.Option.{Option}
use Rattle.exchange.specs.Answer.{number_ended}
use Rattle.exchange.specs.Left.{Left}
use Rattle.keycodes_ascii.specs.declared.KeyEvent.{KeyEvent}
use Rattle.keyboard_sides.specs.Named.{Sided}
use Rattle.keyboard_record.specs.declared.KeyboardHandler.{KeyboardHandler}
use Rattle.keyboard.specs.Handler.{Called}
use Rattle.keyboard_record.specs.Taking.{taken}
use Rattle.key_listing.specs.Listing.{record_after}
use Rattle.buffer.proofs.Buffer.{puts_then}
use Rattle.key_listing.proofs.Calls.{call_text_lem}
use Rattle.key_listing.proofs.call_once.Goals as goal

pub returns-clause-left : goal.returns-clause-left
unfolding record_after
returns-clause-left c =
    ap (λ (t : Left KeyboardHandler (Option (Sided KeyEvent))). t.now) (c.take_event-taken.ensures ∙ ap (λ (r : Called). taken r.handler) c.handle-call.ensures.0)

pub returns-clause-puts : goal.returns-clause-puts
returns-clause-puts c =
    let called = c.handle-call.ensures.0 in
    let took = c.take_event-taken.ensures ∙ ap (λ (r : Called). taken r.handler) called in
    rw (call_text_lem _ _ (sym (ap (λ (r : Called). number_ended r.end) called)) (sym (ap (λ (t : Left KeyboardHandler (Option (Sided KeyEvent))). t.answer) took)))
    (puts_then c.put_refusal.ensures c.put_taken.ensures)
