-- The two agree, since each tells its call's play, and the two plays are one.
use Rattle.keyboard.specs.Outcomes.{said_handled}
use Rattle.theseus_keycodes.specs.Flags.{renumbered}
use Rattle.theseus_keyboard.specs.Handler.{our_events}
use Rattle.theseus_keyboard.proofs.Told.{agree_ours}
use Rattle.theseus_keyboard.proofs.comparison.both_handle.Goals as goal

pub returns : goal.returns
returns g c same ok alike =
    let a = c.args in
    let n = c.rusts_handle.new in
    agree_ours a.handler ok a.script.now a.rusts_log.now c.start-controller.result n.controller c.start-controller.ensures _ n.extended_scancode _
    (renumbered n.kbd_modifiers.bits) _ (our_events (g.Q.Queue.waiting n.queue)) c.rusts_handle.ensures alike same
    (said_handled c.handle-ours.result) c.handle-ours.new.log c.handle-ours.ensures.0 c.handle-ours.ensures.1
