-- `ps2_keyboard_handler` meets its contract: a byte that changes nothing but the prefix, or a key's.
use mathlib.Core.Path.{◌≡◌, sym, ap, ◌∙◌}
use mathlib.Core.Bool.{true, false}
use Rattle.ps2_keyboard.specs.Keyboard.{read_scancode}
use Rattle.keyboard_scancodes.specs.Strokes.{is_prefix, is_silent}
use Rattle.theseus_ps2.specs.Controller.{on_controller}
use Rattle.theseus_keyboard.proofs.HandlerBytes.{silent_byte, key_byte}
use Rattle.theseus_keyboard.proofs.ps2_keyboard_handler.Goals as goal
use Rattle.theseus_keyboard.proofs.ps2_keyboard_handler.Goals.{then-extended-2, else-extended-2, else-scan_code-ne0-via-then-scan_code-ne0+else-scan_code-3, else-scan_code-ne0-via-else-scan_code-ne0}

pub returns-then-extended-clause-handled : goal.returns-then-extended-clause-handled
unfolding read_scancode
returns-then-extended-clause-handled g c =
    let r = c.read_scancode-scan_code in
    silent_byte (on_controller g.H.Hardware.device) _ _ r.result r.ensures.ran c.args.extended_scancode.now _ _ true
    (sym (ap is_prefix c.if-scan_code.true)) (ap is_silent c.if-scan_code.true)

pub returns-else-extended-clause-handled : goal.returns-else-extended-clause-handled
unfolding read_scancode
returns-else-extended-clause-handled g c =
    let r = c.read_scancode-scan_code in
    silent_byte (on_controller g.H.Hardware.device) _ _ r.result r.ensures.ran c.args.extended_scancode.now _ _ true
    (sym (ap is_prefix c.if-scan_code.true)) (ap is_silent c.if-scan_code.true)

pub returns-then-scan_code-2-clause-handled : goal.returns-then-scan_code-2-clause-handled
unfolding read_scancode
returns-then-scan_code-2-clause-handled g c =
    let r = c.read_scancode-scan_code in
    silent_byte (on_controller g.H.Hardware.device) _ _ r.result r.ensures.ran c.args.extended_scancode.now _ _ true
    (sym (ap is_prefix c.if-scan_code-2.true)) (ap is_silent c.if-scan_code-2.true)

pub returns-in-Err-clause-handled : goal.returns-in-Err-clause-handled
unfolding read_scancode
returns-in-Err-clause-handled g c =
    let r = c.read_scancode-scan_code in
    let k = c.handle_keyboard_input.ensures in
    let e : c.if-extended-2.extended_scancode ≡ false = elim c.if-extended-2.branch [ then-extended-2 w ↦ w.extended_scancode-is | else-extended-2 w ↦ w.extended_scancode-is ∙ w.if-extended-2.false ] in
    rw e
    (key_byte (on_controller g.H.Hardware.device) _ _ r.result r.ensures.ran c.args.extended_scancode.now _ _ _ _ _
    c.if-scan_code.false c.if-scan_code-2.false c.if-scan_code-ne0.true c.if-scan_code-3.true k.flags k.lamps k.queue)

pub returns-in_default-clause-handled : goal.returns-in_default-clause-handled
unfolding read_scancode
returns-in_default-clause-handled g c =
    let r = c.read_scancode-scan_code in
    let k = c.handle_keyboard_input.ensures in
    let e : c.if-extended-2.extended_scancode ≡ false = elim c.if-extended-2.branch [ then-extended-2 w ↦ w.extended_scancode-is | else-extended-2 w ↦ w.extended_scancode-is ∙ w.if-extended-2.false ] in
    rw e
    (key_byte (on_controller g.H.Hardware.device) _ _ r.result r.ensures.ran c.args.extended_scancode.now _ _ _ _ _
    c.if-scan_code.false c.if-scan_code-2.false c.if-scan_code-ne0.true c.if-scan_code-3.true k.flags k.lamps k.queue)

pub returns-else-scan_code-ne0-clause-handled : goal.returns-else-scan_code-ne0-clause-handled
unfolding read_scancode
returns-else-scan_code-ne0-clause-handled g c =
    let r = c.read_scancode-scan_code in
    let e : c.if-extended-2.extended_scancode ≡ false = elim c.if-extended-2.branch [ then-extended-2 w ↦ w.extended_scancode-is | else-extended-2 w ↦ w.extended_scancode-is ∙ w.if-extended-2.false ] in
    rw e
    (silent_byte (on_controller g.H.Hardware.device) _ _ r.result r.ensures.ran c.args.extended_scancode.now _ _ false
    (elim c.else-scan_code-ne0.branch [
      | else-scan_code-ne0-via-then-scan_code-ne0+else-scan_code-3 w ↦ sym (ap is_prefix w.if-scan_code-3.false)
      | else-scan_code-ne0-via-else-scan_code-ne0 w ↦ sym (ap is_prefix w.if-scan_code-ne0.false)
    ])
    (elim c.else-scan_code-ne0.branch [
      | else-scan_code-ne0-via-then-scan_code-ne0+else-scan_code-3 w ↦ ap is_silent w.if-scan_code-3.false
      | else-scan_code-ne0-via-else-scan_code-ne0 w ↦ ap is_silent w.if-scan_code-ne0.false
    ]))
