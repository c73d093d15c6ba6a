-- `dispatcher::Dispatcher::step_in_place` meets its contract: the turn of each source, or idle.
use mathlib.Core.Path.{refl, ap, ◌∙◌}
use Rattle.std.specs.Prelude.{Some}
use Rattle.keyboard.specs.KeyboardLamps.{keyboard_lamps}
use Rattle.keyboard_sides.specs.declared.Side.{Side}
use Rattle.dispatcher.specs.declared.Source.{Source}
use Rattle.dispatcher.proofs.Serving.{step_served}
use Rattle.dispatcher.proofs.Dispatcher.step_in_place.Goals as goal

pub returns-in-Some-Keyboard-First : goal.returns-in-Some-Keyboard-First
returns-in-Some-Keyboard-First c =
    step_served keyboard_lamps c.args.self.now _ _ c.waits.result c.waits.ensures c.serves.ensures (c.in-Some-Keyboard-First.is ∙ ap (λ (o : Source). Some o) (c.in-Some-Keyboard-First.field-0-is ∙ ap (λ (o : Side). Source.Keyboard o) c.in-Some-Keyboard-First.field-0-0-is)) c.serve_keyboard.ensures

pub returns-in-Some-Keyboard-Second : goal.returns-in-Some-Keyboard-Second
returns-in-Some-Keyboard-Second c =
    step_served keyboard_lamps c.args.self.now _ _ c.waits.result c.waits.ensures c.serves.ensures (c.in-Some-Keyboard-Second.is ∙ ap (λ (o : Source). Some o) (c.in-Some-Keyboard-Second.field-0-is ∙ ap (λ (o : Side). Source.Keyboard o) c.in-Some-Keyboard-Second.field-0-0-is)) c.serve_keyboard-in-Some-Keyboard-Second.ensures

pub returns-in-Some-Mouse : goal.returns-in-Some-Mouse
returns-in-Some-Mouse c = step_served keyboard_lamps c.args.self.now _ _ c.waits.result c.waits.ensures c.serves.ensures (c.in-Some-Mouse.is ∙ ap (λ (o : Source). Some o) c.in-Some-Mouse.field-0-is) (c.serve_mouse.ensures _)

pub returns-in-None : goal.returns-in-None
returns-in-None c = step_served keyboard_lamps c.args.self.now _ _ c.waits.result c.waits.ensures c.serves.ensures c.in-None.is refl
