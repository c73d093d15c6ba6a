-- `dispatcher_words::dispatcher_step` meets its contract: the turn of each source, or idle.
use mathlib.Core.Path.{sym, ap, ◌∙◌}
use Rattle.std.specs.Prelude.{Some}
use Rattle.dispatcher.specs.declared.Source.{Source}
use Rattle.dispatcher_words.proofs.Steps.{side_step, mouse_step, idle_step, step_made, step_unnamed}
use Rattle.dispatcher_words.proofs.dispatcher_step.Goals as goal

pub returns-then-not-is_dispatcher : goal.returns-then-not-is_dispatcher
returns-then-not-is_dispatcher c = step_unnamed c.in-Some.ensures.cases (sym c.is_dispatcher.ensures ∙ c.if-not-is_dispatcher.true) c.no_call-then-not-is_dispatcher.ensures

pub returns-in-Some-Keyboard : goal.returns-in-Some-Keyboard
returns-in-Some-Keyboard c =
    step_made c.in-Some.ensures.cases (sym c.is_dispatcher.ensures ∙ c.if-not-is_dispatcher.false)
    (side_step c.in-Some.lent.now _ c.args.log.now c.waits_in-waits.result c.waits_in-waits.ensures c.last_in.ensures c.serves.ensures c.in-Some-Keyboard.side
    (c.in-Some-Keyboard.is ∙ ap (λ (o : Source). Some o) c.in-Some-Keyboard.field-0-is) (rw (c.side_script.ensures c.args.mouse.now) at c.serve_keyboard.ensures))

pub returns-in-Some-Mouse : goal.returns-in-Some-Mouse
returns-in-Some-Mouse c =
    step_made c.in-Some.ensures.cases (sym c.is_dispatcher.ensures ∙ c.if-not-is_dispatcher.false)
    (mouse_step c.in-Some.lent.now _ c.args.log.now c.waits_in-waits.result c.waits_in-waits.ensures c.last_in.ensures c.serves.ensures
    (c.in-Some-Mouse.is ∙ ap (λ (o : Source). Some o) c.in-Some-Mouse.field-0-is) (c.serve_mouse.ensures _))

pub returns-in-None : goal.returns-in-None
returns-in-None c =
    step_made c.in-Some.ensures.cases (sym c.is_dispatcher.ensures ∙ c.if-not-is_dispatcher.false)
    (idle_step c.in-Some.lent.now _ c.args.log.now c.waits_in-waits.result c.waits_in-waits.ensures c.last_in.ensures c.serves.ensures c.in-None.is c.no_call-in-None.ensures)
