-- The resets one by one, each followed by all that comes after it.
use mathlib.Core.Bool.{Bool}
use mathlib.Core.Path.{◌≡◌, ap, ◌∙◌, fun_ext}
use Rattle.exchange.specs.Exchange.{Exchange, done, bind}
use Rattle.exchange.specs.Refuses.{succeeds}
use Rattle.exchange.proofs.Sequence.{bind_assoc, done-bind}
use Rattle.ps2_keyboard.specs.Keyboard.{reset_keyboard}
use Rattle.ps2_mouse.specs.Mouse.{reset_mouse}
use Rattle.ps2_init.specs.declared.PS2Controller.{PS2Controller}
use Rattle.ps2_init.specs.Init.{reset_devices, with_devices}

module _ {A : Type 0} (f : PS2Controller → Exchange A) where
  mouse_then : (keyboard : Bool) → bind (bind (succeeds reset_mouse) (λ mouse. done (with_devices keyboard mouse))) f
      ≡ bind (succeeds reset_mouse) (λ mouse. f (with_devices keyboard mouse))
  mouse_then keyboard =
      bind_assoc (succeeds reset_mouse) (λ mouse. done (with_devices keyboard mouse)) f
      ∙ ap (λ k. bind (succeeds reset_mouse) k) (fun_ext (λ mouse. done-bind f (with_devices keyboard mouse)))

  pub resets_then : bind reset_devices f ≡ bind (succeeds reset_keyboard) (λ keyboard. bind (succeeds reset_mouse) (λ mouse. f (with_devices keyboard mouse)))
  unfolding reset_devices
  resets_then =
      bind_assoc (succeeds reset_keyboard) (λ keyboard. bind (succeeds reset_mouse) (λ mouse. done (with_devices keyboard mouse))) f
      ∙ ap (λ k. bind (succeeds reset_keyboard) k) (fun_ext mouse_then)
