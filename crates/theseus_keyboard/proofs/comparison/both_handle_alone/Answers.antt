-- The two agree on a side's keyboard, since each tells its call's play, and the two yield alike.
use Rattle.keyboard.specs.Outcomes.{said_handled}
use Rattle.theseus_keycodes.specs.Flags.{renumbered}
use Rattle.theseus_keyboard.specs.Handler.{our_events}
use Rattle.theseus_keyboard.proofs.AloneTold.{agree_followed, agree_queued, agree_sent, agree_shown}
use Rattle.theseus_keyboard.proofs.comparison.both_handle_alone.Goals as goal

pub returns-clause-followed : goal.returns-clause-followed
returns-clause-followed g c ok =
    let a = c.args in
    let n = c.rusts_handle.new in
    agree_followed a.side a.handler a.script.now a.log.now a.rusts_script.now a.rusts_log.now ok.script_is c.start-controller.result n.controller c.start-controller.ensures
    _ n.extended_scancode _ (renumbered n.kbd_modifiers.bits) _ (our_events (g.Q.Queue.waiting n.queue)) c.rusts_handle.ensures ok
    (said_handled c.handle-ours.result) c.handle-ours.new.log c.handle-ours.ensures.0 c.handle-ours.ensures.1

pub returns-clause-queued : goal.returns-clause-queued
returns-clause-queued g c ok room alike =
    let a = c.args in
    let n = c.rusts_handle.new in
    agree_queued a.side a.handler a.script.now a.log.now a.rusts_script.now a.rusts_log.now ok.script_is c.start-controller.result n.controller c.start-controller.ensures
    _ n.extended_scancode _ (renumbered n.kbd_modifiers.bits) _ (our_events (g.Q.Queue.waiting n.queue)) c.rusts_handle.ensures ok
    (said_handled c.handle-ours.result) c.handle-ours.new.log c.handle-ours.ensures.0 c.handle-ours.ensures.1 room alike

pub returns-clause-ports : goal.returns-clause-ports
returns-clause-ports g c ok lamps first same =
    let a = c.args in
    let n = c.rusts_handle.new in
    agree_shown a.handler a.script.now a.log.now a.rusts_script.now a.rusts_log.now c.start-controller.result n.controller c.start-controller.ensures
    _ n.extended_scancode _ (renumbered n.kbd_modifiers.bits) _ (our_events (g.Q.Queue.waiting n.queue)) c.rusts_handle.ensures
    (said_handled c.handle-ours.result) c.handle-ours.new.log same lamps a.side first ok c.handle-ours.ensures.0 c.handle-ours.ensures.1

pub returns-clause-sent : goal.returns-clause-sent
returns-clause-sent g c ok lamps =
    let a = c.args in
    let n = c.rusts_handle.new in
    agree_sent a.side a.handler a.script.now a.log.now a.rusts_script.now a.rusts_log.now ok.script_is c.start-controller.result n.controller c.start-controller.ensures
    _ n.extended_scancode _ (renumbered n.kbd_modifiers.bits) _ (our_events (g.Q.Queue.waiting n.queue)) c.rusts_handle.ensures ok
    (said_handled c.handle-ours.result) c.handle-ours.new.log c.handle-ours.ensures.0 c.handle-ours.ensures.1 lamps
