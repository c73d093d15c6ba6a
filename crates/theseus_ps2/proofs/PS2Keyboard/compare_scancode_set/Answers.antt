-- `compare_scancode_set` meets its contract: whatever set is answered, the setting succeeds.
use mathlib.Core.Path.{sym, ◌∙◌}
use Rattle.exchange.specs.Exchange.{done}
use Rattle.exchange.specs.Answer.{gives}
use Rattle.ps2_answers.specs.Refusals.{success}
use Rattle.ps2_bytes.specs.declared.data.ScancodeSet.{ScancodeSet}
use Rattle.ps2_keyboard.specs.Keyboard.{get_scancode_set}
use Rattle.theseus_ps2.specs.Controller.{on_controller}
use Rattle.theseus_ps2.proofs.Exit.{exits}
use Rattle.theseus_ps2.proofs.Run.{run_done, steps, stops}
use Rattle.theseus_ps2.proofs.PS2Keyboard.compare_scancode_set.Goals as goal

pub returns-in_err-get_keyboard_scancode_set-clause-ran : goal.returns-in_err-get_keyboard_scancode_set-clause-ran
returns-in_err-get_keyboard_scancode_set-clause-ran g c =
    rw (exits _ _ c.from_residual.ensures.1)
    (stops (on_controller g.H.Hardware.device) get_scancode_set (λ (_ : ScancodeSet). done (gives success)) _ _ c.in_err-get_keyboard_scancode_set.ensures.ran)

pub returns-clause-ran : goal.returns-clause-ran
returns-clause-ran g c =
    let d = on_controller g.H.Hardware.device in
    run_done d (gives success) _
    ∙ sym (steps d get_scancode_set (λ (_ : ScancodeSet). done (gives success)) _ _ c.in_ok-get_keyboard_scancode_set.ensures.ran)
