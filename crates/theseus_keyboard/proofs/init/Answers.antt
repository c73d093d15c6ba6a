-- `init` meets its contract: the detection, whose refusals are 18, then the scancode set.
use mathlib.Core.Path.{◌≡◌, sym, ◌∙◌}
use Rattle.std.proofs.Common.{rules}
use Rattle.ps2_bytes.specs.declared.data.ScancodeSet.TheVariants.{Set1}
use Rattle.ps2_bytes.specs.declared.response.KeyboardType.{KeyboardType}
use Rattle.ps2_detect.specs.Detection.{keyboard_detect}
use Rattle.ps2_keyboard.specs.Keyboard.{set_scancode_set}
use Rattle.keyboard_init.specs.KeyboardInit.{detection, keyboard_init}
use Rattle.theseus_ps2.specs.Hardware.{run}
use Rattle.theseus_ps2.specs.Controller.{on_controller}
use Rattle.theseus_ps2.proofs.Exit.{exits}
use Rattle.theseus_ps2.proofs.Run.{stops, refused_as}
use Rattle.theseus_keyboard.proofs.Detected.{detected}
use Rattle.theseus_keyboard.proofs.init.Goals as goal
use Rattle.theseus_keyboard.proofs.init.Goals.{in-Ok-AncientATKeyboard, in-Ok-MF2Keyboard, in-Ok-MF2KeyboardWithPSControllerTranslator}

pub returns-in-Err-clause-ran : goal.returns-in-Err-clause-ran
unfolding keyboard_init detection
returns-in-Err-clause-ran g c =
    let d = on_controller g.H.Hardware.device in
    stops d detection (λ (_ : KeyboardType). set_scancode_set Set1) _ _ (refused_as d 18 keyboard_detect _ _ c.in-Err.ensures.ran)

pub returns-in_err-set_keyboard_scancode_set-clause-ran : goal.returns-in_err-set_keyboard_scancode_set-clause-ran
returns-in_err-set_keyboard_scancode_set-clause-ran g c =
    let d = on_controller g.H.Hardware.device in
    let p = c.keyboard_detect.ensures.ran in
    let e : run d keyboard_init c.args.keyboard.now.controller.now ≡ run d (set_scancode_set Set1) c.keyboard_detect.new.self.controller.now =
    elim c.match-keyboard_detect-2.branch [
      | in-Ok-AncientATKeyboard w ↦ detected d _ _ c.keyboard_detect.result KeyboardType.AncientATKeyboard (search rules) p
      | in-Ok-MF2Keyboard w ↦ detected d _ _ c.keyboard_detect.result KeyboardType.MF2Keyboard (search rules) p
      | in-Ok-MF2KeyboardWithPSControllerTranslator w ↦ detected d _ _ c.keyboard_detect.result KeyboardType.MF2KeyboardWithPSControllerTranslator (search rules) p
    ] in
    rw (exits _ _ c.from_residual.ensures.1) (c.in_err-set_keyboard_scancode_set.ensures.ran ∙ sym e)

pub returns-clause-ran : goal.returns-clause-ran
returns-clause-ran g c =
    let d = on_controller g.H.Hardware.device in
    let p = c.keyboard_detect.ensures.ran in
    let e : run d keyboard_init c.args.keyboard.now.controller.now ≡ run d (set_scancode_set Set1) c.keyboard_detect.new.self.controller.now =
    elim c.match-keyboard_detect-2.branch [
      | in-Ok-AncientATKeyboard w ↦ detected d _ _ c.keyboard_detect.result KeyboardType.AncientATKeyboard (search rules) p
      | in-Ok-MF2Keyboard w ↦ detected d _ _ c.keyboard_detect.result KeyboardType.MF2Keyboard (search rules) p
      | in-Ok-MF2KeyboardWithPSControllerTranslator w ↦ detected d _ _ c.keyboard_detect.result KeyboardType.MF2KeyboardWithPSControllerTranslator (search rules) p
    ] in
    c.in_ok-set_keyboard_scancode_set.ensures.ran ∙ sym e
