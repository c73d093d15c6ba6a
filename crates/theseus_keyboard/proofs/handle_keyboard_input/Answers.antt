-- `handle_keyboard_input` meets its contract: each arm of the match is a key of the table of flags; then the event.
use native.Mathlib.Omega.{arith}
use mathlib.Core.Path.{◌≡◌, refl, sym, ap, ◌∙◌}
use mathlib.Core.Bool.{cond, ◌||◌}
use Prim.Native.Nat.{ℕ, ◌%◌, ◌<◌}
use Rattle.std.proofs.Common.{rules}
use Rattle.std.specs.Prelude.{codes}
use Rattle.std.proofs.lemmas.Bool.{lt-ltb, le-ltb}
use Rattle.bits.specs.Bits.{bitwise, without}
use Rattle.theseus_keycodes.specs.declared.KeyAction.{KeyAction}
use Rattle.theseus_keycodes.specs.declared.Keycode.{Keycode}
use Rattle.theseus_keycodes.specs.declared.KeyboardModifiers.{KeyboardModifiers}
use Rattle.theseus_keycodes.specs.Flags.{renumbered}
use Rattle.theseus_keycodes.proofs.Keycodes.{keyed, not_keyed}
use Rattle.theseus_keycodes.proofs.Operations.{sets, clears, flips}
use Rattle.theseus_keycodes.proofs.Questions.{caps_lock_is, num_lock_is, scroll_lock_is}
use Rattle.theseus_keyboard.proofs.HandlerEvents.{known, unknown, event_is, room_same, queue_with}
use Rattle.theseus_keyboard.proofs.HandlerFlags.{no_flag, no_lock, Control_right, Control_left, Control_lock, Alt_flag, Alt_lock, LeftShift_flag, LeftShift_lock, RightShift_flag, RightShift_lock, SuperKeyLeft_flag, SuperKeyLeft_lock, SuperKeyRight_flag, SuperKeyRight_lock, ControlReleased_right, ControlReleased_left, ControlReleased_lock, AltReleased_flag, AltReleased_lock, LeftShiftReleased_flag, LeftShiftReleased_lock, RightShiftReleased_flag, RightShiftReleased_lock, SuperKeyLeftReleased_flag, SuperKeyLeftReleased_lock, SuperKeyRightReleased_flag, SuperKeyRightReleased_lock, CapsLock_flag, CapsLock_lock, ScrollLock_flag, ScrollLock_lock, NumLock_flag, NumLock_lock}
use Rattle.theseus_keyboard.proofs.handle_keyboard_input.Goals as goal
use Rattle.theseus_keyboard.proofs.handle_keyboard_input.Goals.{in-Ok-Control, then-extended, else-extended, in-Ok-Alt, in-Ok-LeftShift, in-Ok-RightShift, in-Ok-SuperKeyLeft, in-Ok-SuperKeyRight, in-Ok-ControlReleased, then-extended-2, else-extended-2, in-Ok-AltReleased, in-Ok-LeftShiftReleased, in-Ok-RightShiftReleased, in-Ok-SuperKeyLeftReleased, in-Ok-SuperKeyRightReleased, in-Ok-CapsLock, in-Ok-ScrollLock, in-Ok-NumLock, in-Ok+in-OverflowError-1, in-Err-1, in-Ok+in-Ok-outcome, in-Ok+in-Err, in_default-try_from, then-scan_code-lt-KEY_RELEASED_OFFSET, else-scan_code-lt-KEY_RELEASED_OFFSET}

pub returns-clause-flags : goal.returns-clause-flags
returns-clause-flags g c =
    let b = c.args.scan_code in
    let x = c.args.extended in
    let w = c.args.kbd_modifiers.now.bits in
    let m = renumbered w in
    let f : b < 256 = omega (arith, c.ranges.scan_code.fits) in
    elim c.match-try_into.branch [
      | in-Ok-Control v ↦ elim v.if-extended.branch [
        | then-extended u ↦ rw v.modifiers-is (ap renumbered (v.insert.ensures ∙ ap (λ (y : KeyboardModifiers). bitwise ◌||◌ 16 w y.bits) u.insert-is) ∙ sets 1 3 refl w ∙ Control_right b x m (keyed b c.try_into.ensures v.in-Ok-Control.is v.in-Ok-Control.field-0-is) u.if-extended.true)
        | else-extended u ↦ rw v.modifiers-is (ap renumbered (v.insert.ensures ∙ ap (λ (y : KeyboardModifiers). bitwise ◌||◌ 16 w y.bits) u.insert-is) ∙ sets 0 2 refl w ∙ Control_left b x m (keyed b c.try_into.ensures v.in-Ok-Control.is v.in-Ok-Control.field-0-is) u.if-extended.false)
      ]
      | in-Ok-Alt v ↦ rw v.modifiers-is (ap renumbered v.insert-in-Ok-Alt.ensures ∙ sets 4 4 refl w ∙ Alt_flag b x m (keyed b c.try_into.ensures v.in-Ok-Alt.is v.in-Ok-Alt.field-0-is))
      | in-Ok-LeftShift v ↦ rw v.modifiers-is (ap renumbered v.insert-in-Ok-LeftShift.ensures ∙ sets 2 0 refl w ∙ LeftShift_flag b x m (keyed b c.try_into.ensures v.in-Ok-LeftShift.is v.in-Ok-LeftShift.field-0-is))
      | in-Ok-RightShift v ↦ rw v.modifiers-is (ap renumbered v.insert-in-Ok-RightShift.ensures ∙ sets 3 1 refl w ∙ RightShift_flag b x m (keyed b c.try_into.ensures v.in-Ok-RightShift.is v.in-Ok-RightShift.field-0-is))
      | in-Ok-SuperKeyLeft v ↦ rw v.modifiers-is (ap renumbered v.insert-in-Ok-SuperKeyLeft.ensures ∙ sets 6 5 refl w ∙ SuperKeyLeft_flag b x m (keyed b c.try_into.ensures v.in-Ok-SuperKeyLeft.is v.in-Ok-SuperKeyLeft.field-0-is))
      | in-Ok-SuperKeyRight v ↦ rw v.modifiers-is (ap renumbered v.insert-in-Ok-SuperKeyRight.ensures ∙ sets 7 6 refl w ∙ SuperKeyRight_flag b x m (keyed b c.try_into.ensures v.in-Ok-SuperKeyRight.is v.in-Ok-SuperKeyRight.field-0-is))
      | in-Ok-ControlReleased v ↦ elim v.if-extended-2.branch [
        | then-extended-2 u ↦ rw v.modifiers-is (ap renumbered (v.remove.ensures ∙ ap (λ (y : KeyboardModifiers). bitwise without 16 w y.bits) u.remove-is) ∙ clears 1 3 refl w ∙ ControlReleased_right b x m (keyed b c.try_into.ensures v.in-Ok-ControlReleased.is v.in-Ok-ControlReleased.field-0-is) u.if-extended-2.true)
        | else-extended-2 u ↦ rw v.modifiers-is (ap renumbered (v.remove.ensures ∙ ap (λ (y : KeyboardModifiers). bitwise without 16 w y.bits) u.remove-is) ∙ clears 0 2 refl w ∙ ControlReleased_left b x m (keyed b c.try_into.ensures v.in-Ok-ControlReleased.is v.in-Ok-ControlReleased.field-0-is) u.if-extended-2.false)
      ]
      | in-Ok-AltReleased v ↦ rw v.modifiers-is (ap renumbered v.remove-in-Ok-AltReleased.ensures ∙ clears 4 4 refl w ∙ AltReleased_flag b x m (keyed b c.try_into.ensures v.in-Ok-AltReleased.is v.in-Ok-AltReleased.field-0-is))
      | in-Ok-LeftShiftReleased v ↦ rw v.modifiers-is (ap renumbered v.remove-in-Ok-LeftShiftReleased.ensures ∙ clears 2 0 refl w ∙ LeftShiftReleased_flag b x m (keyed b c.try_into.ensures v.in-Ok-LeftShiftReleased.is v.in-Ok-LeftShiftReleased.field-0-is))
      | in-Ok-RightShiftReleased v ↦ rw v.modifiers-is (ap renumbered v.remove-in-Ok-RightShiftReleased.ensures ∙ clears 3 1 refl w ∙ RightShiftReleased_flag b x m (keyed b c.try_into.ensures v.in-Ok-RightShiftReleased.is v.in-Ok-RightShiftReleased.field-0-is))
      | in-Ok-SuperKeyLeftReleased v ↦ rw v.modifiers-is (ap renumbered v.remove-in-Ok-SuperKeyLeftReleased.ensures ∙ clears 6 5 refl w ∙ SuperKeyLeftReleased_flag b x m (keyed b c.try_into.ensures v.in-Ok-SuperKeyLeftReleased.is v.in-Ok-SuperKeyLeftReleased.field-0-is))
      | in-Ok-SuperKeyRightReleased v ↦ rw v.modifiers-is (ap renumbered v.remove-in-Ok-SuperKeyRightReleased.ensures ∙ clears 7 6 refl w ∙ SuperKeyRightReleased_flag b x m (keyed b c.try_into.ensures v.in-Ok-SuperKeyRightReleased.is v.in-Ok-SuperKeyRightReleased.field-0-is))
      | in-Ok-CapsLock v ↦ rw v.modifiers-is (ap renumbered v.toggle.ensures ∙ flips 8 7 refl w (caps_lock_is w) ∙ CapsLock_flag b x m (keyed b c.try_into.ensures v.in-Ok-CapsLock.is v.in-Ok-CapsLock.field-0-is))
      | in-Ok-ScrollLock v ↦ rw v.modifiers-is (ap renumbered v.toggle-in-Ok-ScrollLock.ensures ∙ flips 10 9 refl w (scroll_lock_is w) ∙ ScrollLock_flag b x m (keyed b c.try_into.ensures v.in-Ok-ScrollLock.is v.in-Ok-ScrollLock.field-0-is))
      | in-Ok-NumLock v ↦ rw v.modifiers-is (ap renumbered v.toggle-in-Ok-NumLock.ensures ∙ flips 9 8 refl w (num_lock_is w) ∙ NumLock_flag b x m (keyed b c.try_into.ensures v.in-Ok-NumLock.is v.in-Ok-NumLock.field-0-is))
      | in-Ok+in-OverflowError-1 v ↦ rw v.modifiers-is (no_flag b x m f (not_keyed b Keycode.Control c.try_into.ensures (λ h. search rules)) (not_keyed b Keycode.Alt c.try_into.ensures (λ h. search rules)) (not_keyed b Keycode.LeftShift c.try_into.ensures (λ h. search rules)) (not_keyed b Keycode.RightShift c.try_into.ensures (λ h. search rules)) (not_keyed b Keycode.SuperKeyLeft c.try_into.ensures (λ h. search rules)) (not_keyed b Keycode.SuperKeyRight c.try_into.ensures (λ h. search rules)) (not_keyed b Keycode.ControlReleased c.try_into.ensures (λ h. search rules)) (not_keyed b Keycode.AltReleased c.try_into.ensures (λ h. search rules)) (not_keyed b Keycode.LeftShiftReleased c.try_into.ensures (λ h. search rules)) (not_keyed b Keycode.RightShiftReleased c.try_into.ensures (λ h. search rules)) (not_keyed b Keycode.SuperKeyLeftReleased c.try_into.ensures (λ h. search rules)) (not_keyed b Keycode.SuperKeyRightReleased c.try_into.ensures (λ h. search rules)) (not_keyed b Keycode.CapsLock c.try_into.ensures (λ h. search rules)) (not_keyed b Keycode.ScrollLock c.try_into.ensures (λ h. search rules)) (not_keyed b Keycode.NumLock c.try_into.ensures (λ h. search rules)))
      | in-Err-1 v ↦ rw v.modifiers-is (no_flag b x m f (not_keyed b Keycode.Control c.try_into.ensures (λ h. search rules)) (not_keyed b Keycode.Alt c.try_into.ensures (λ h. search rules)) (not_keyed b Keycode.LeftShift c.try_into.ensures (λ h. search rules)) (not_keyed b Keycode.RightShift c.try_into.ensures (λ h. search rules)) (not_keyed b Keycode.SuperKeyLeft c.try_into.ensures (λ h. search rules)) (not_keyed b Keycode.SuperKeyRight c.try_into.ensures (λ h. search rules)) (not_keyed b Keycode.ControlReleased c.try_into.ensures (λ h. search rules)) (not_keyed b Keycode.AltReleased c.try_into.ensures (λ h. search rules)) (not_keyed b Keycode.LeftShiftReleased c.try_into.ensures (λ h. search rules)) (not_keyed b Keycode.RightShiftReleased c.try_into.ensures (λ h. search rules)) (not_keyed b Keycode.SuperKeyLeftReleased c.try_into.ensures (λ h. search rules)) (not_keyed b Keycode.SuperKeyRightReleased c.try_into.ensures (λ h. search rules)) (not_keyed b Keycode.CapsLock c.try_into.ensures (λ h. search rules)) (not_keyed b Keycode.ScrollLock c.try_into.ensures (λ h. search rules)) (not_keyed b Keycode.NumLock c.try_into.ensures (λ h. search rules)))
    ]

pub returns-clause-lamps : goal.returns-clause-lamps
returns-clause-lamps g c =
    let b = c.args.scan_code in
    let f : b < 256 = omega (arith, c.ranges.scan_code.fits) in
    elim c.match-try_into.branch [
      | in-Ok-Control v ↦ rw (Control_lock b (keyed b c.try_into.ensures v.in-Ok-Control.is v.in-Ok-Control.field-0-is), v.keyboard-is) refl
      | in-Ok-Alt v ↦ rw (Alt_lock b (keyed b c.try_into.ensures v.in-Ok-Alt.is v.in-Ok-Alt.field-0-is), v.keyboard-is) refl
      | in-Ok-LeftShift v ↦ rw (LeftShift_lock b (keyed b c.try_into.ensures v.in-Ok-LeftShift.is v.in-Ok-LeftShift.field-0-is), v.keyboard-is) refl
      | in-Ok-RightShift v ↦ rw (RightShift_lock b (keyed b c.try_into.ensures v.in-Ok-RightShift.is v.in-Ok-RightShift.field-0-is), v.keyboard-is) refl
      | in-Ok-SuperKeyLeft v ↦ rw (SuperKeyLeft_lock b (keyed b c.try_into.ensures v.in-Ok-SuperKeyLeft.is v.in-Ok-SuperKeyLeft.field-0-is), v.keyboard-is) refl
      | in-Ok-SuperKeyRight v ↦ rw (SuperKeyRight_lock b (keyed b c.try_into.ensures v.in-Ok-SuperKeyRight.is v.in-Ok-SuperKeyRight.field-0-is), v.keyboard-is) refl
      | in-Ok-ControlReleased v ↦ rw (ControlReleased_lock b (keyed b c.try_into.ensures v.in-Ok-ControlReleased.is v.in-Ok-ControlReleased.field-0-is), v.keyboard-is) refl
      | in-Ok-AltReleased v ↦ rw (AltReleased_lock b (keyed b c.try_into.ensures v.in-Ok-AltReleased.is v.in-Ok-AltReleased.field-0-is), v.keyboard-is) refl
      | in-Ok-LeftShiftReleased v ↦ rw (LeftShiftReleased_lock b (keyed b c.try_into.ensures v.in-Ok-LeftShiftReleased.is v.in-Ok-LeftShiftReleased.field-0-is), v.keyboard-is) refl
      | in-Ok-RightShiftReleased v ↦ rw (RightShiftReleased_lock b (keyed b c.try_into.ensures v.in-Ok-RightShiftReleased.is v.in-Ok-RightShiftReleased.field-0-is), v.keyboard-is) refl
      | in-Ok-SuperKeyLeftReleased v ↦ rw (SuperKeyLeftReleased_lock b (keyed b c.try_into.ensures v.in-Ok-SuperKeyLeftReleased.is v.in-Ok-SuperKeyLeftReleased.field-0-is), v.keyboard-is) refl
      | in-Ok-SuperKeyRightReleased v ↦ rw (SuperKeyRightReleased_lock b (keyed b c.try_into.ensures v.in-Ok-SuperKeyRightReleased.is v.in-Ok-SuperKeyRightReleased.field-0-is), v.keyboard-is) refl
      | in-Ok-CapsLock v ↦ rw (CapsLock_lock b (keyed b c.try_into.ensures v.in-Ok-CapsLock.is v.in-Ok-CapsLock.field-0-is), v.keyboard-is, v.modifiers-is) v.set_keyboard_led.ensures.lamps
      | in-Ok-ScrollLock v ↦ rw (ScrollLock_lock b (keyed b c.try_into.ensures v.in-Ok-ScrollLock.is v.in-Ok-ScrollLock.field-0-is), v.keyboard-is, v.modifiers-is) v.set_keyboard_led-in-Ok-ScrollLock.ensures.lamps
      | in-Ok-NumLock v ↦ rw (NumLock_lock b (keyed b c.try_into.ensures v.in-Ok-NumLock.is v.in-Ok-NumLock.field-0-is), v.keyboard-is, v.modifiers-is) v.set_keyboard_led-in-Ok-NumLock.ensures.lamps
      | in-Ok+in-OverflowError-1 v ↦ rw (no_lock b f (not_keyed b Keycode.CapsLock c.try_into.ensures (λ h. search rules)) (not_keyed b Keycode.NumLock c.try_into.ensures (λ h. search rules)) (not_keyed b Keycode.ScrollLock c.try_into.ensures (λ h. search rules)), v.keyboard-is) refl
      | in-Err-1 v ↦ rw (no_lock b f (not_keyed b Keycode.CapsLock c.try_into.ensures (λ h. search rules)) (not_keyed b Keycode.NumLock c.try_into.ensures (λ h. search rules)) (not_keyed b Keycode.ScrollLock c.try_into.ensures (λ h. search rules)), v.keyboard-is) refl
    ]

pub returns-clause-answer : goal.returns-clause-answer
returns-clause-answer g c =
    let b = c.args.scan_code in
    let f : b < 256 = omega (arith, c.ranges.scan_code.fits) in
    let a : c.if-scan_code-lt-KEY_RELEASED_OFFSET.adjusted_scan_code.0 ≡ b % 128 = elim c.if-scan_code-lt-KEY_RELEASED_OFFSET.branch [
      | then-scan_code-lt-KEY_RELEASED_OFFSET v ↦ let h = v.if-scan_code-lt-KEY_RELEASED_OFFSET.true in ap (λ (y : ℕ × KeyAction). y.0) v.adjusted_scan_code-is ∙ omega arith
      | else-scan_code-lt-KEY_RELEASED_OFFSET v ↦ let h = v.if-scan_code-lt-KEY_RELEASED_OFFSET.false in ap (λ (y : ℕ × KeyAction). y.0) v.adjusted_scan_code-is ∙ omega arith
    ] in
    elim c.match-try_from.branch [
      | in-Ok+in-Ok-outcome v ↦ rw (v.result-is, known b _ a c.try_from.ensures v.in-Ok.is) ((rw v.in-Ok-outcome.is at v.push-outcome.ensures.answer) ∙ room_same _)
      | in-Ok+in-Err v ↦
          let t : v.f+m.result.now ≡ codes "keyboard input queue is full" = search rules in
          rw (v.result-is, known b _ a c.try_from.ensures v.in-Ok.is, t) ((rw v.in-Err.is at v.push-outcome.ensures.answer) ∙ room_same _)
      | in_default-try_from v ↦ rw (v.result-is, unknown b _ a c.try_from.ensures v.in_default-try_from.is) refl
    ]

pub returns-clause-queue : goal.returns-clause-queue
returns-clause-queue g c =
    let b = c.args.scan_code in
    let f : b < 256 = omega (arith, c.ranges.scan_code.fits) in
    let a : c.if-scan_code-lt-KEY_RELEASED_OFFSET.adjusted_scan_code.0 ≡ b % 128 = elim c.if-scan_code-lt-KEY_RELEASED_OFFSET.branch [
      | then-scan_code-lt-KEY_RELEASED_OFFSET v ↦ let h = v.if-scan_code-lt-KEY_RELEASED_OFFSET.true in ap (λ (y : ℕ × KeyAction). y.0) v.adjusted_scan_code-is ∙ omega arith
      | else-scan_code-lt-KEY_RELEASED_OFFSET v ↦ let h = v.if-scan_code-lt-KEY_RELEASED_OFFSET.false in ap (λ (y : ℕ × KeyAction). y.0) v.adjusted_scan_code-is ∙ omega arith
    ] in
    elim c.match-try_from.branch [
      | in-Ok+in-Ok-outcome v ↦ rw (v.queue-is, known b _ a c.try_from.ensures v.in-Ok.is) (queue_with _ _ _ v.push-outcome.ensures.now (event_is b _ a c.try_from.ensures c.match-try_into.modifiers v.new-event.result v.in-Ok.is v.new-event.ensures.0
          (elim c.if-scan_code-lt-KEY_RELEASED_OFFSET.branch [
            | then-scan_code-lt-KEY_RELEASED_OFFSET u ↦ v.new-event.ensures.1 ∙ ap (λ (y : ℕ × KeyAction). y.1) u.adjusted_scan_code-is ∙ sym (ap (λ x. cond x KeyAction.Pressed KeyAction.Released) (lt-ltb b 128 u.if-scan_code-lt-KEY_RELEASED_OFFSET.true))
            | else-scan_code-lt-KEY_RELEASED_OFFSET u ↦ v.new-event.ensures.1 ∙ ap (λ (y : ℕ × KeyAction). y.1) u.adjusted_scan_code-is ∙ sym (ap (λ x. cond x KeyAction.Pressed KeyAction.Released) (le-ltb b 128 u.if-scan_code-lt-KEY_RELEASED_OFFSET.false))
          ]) v.new-event.ensures.2))
      | in-Ok+in-Err v ↦ rw (v.queue-is, known b _ a c.try_from.ensures v.in-Ok.is) (queue_with _ _ _ v.push-outcome.ensures.now (event_is b _ a c.try_from.ensures c.match-try_into.modifiers v.new-event.result v.in-Ok.is v.new-event.ensures.0
          (elim c.if-scan_code-lt-KEY_RELEASED_OFFSET.branch [
            | then-scan_code-lt-KEY_RELEASED_OFFSET u ↦ v.new-event.ensures.1 ∙ ap (λ (y : ℕ × KeyAction). y.1) u.adjusted_scan_code-is ∙ sym (ap (λ x. cond x KeyAction.Pressed KeyAction.Released) (lt-ltb b 128 u.if-scan_code-lt-KEY_RELEASED_OFFSET.true))
            | else-scan_code-lt-KEY_RELEASED_OFFSET u ↦ v.new-event.ensures.1 ∙ ap (λ (y : ℕ × KeyAction). y.1) u.adjusted_scan_code-is ∙ sym (ap (λ x. cond x KeyAction.Pressed KeyAction.Released) (le-ltb b 128 u.if-scan_code-lt-KEY_RELEASED_OFFSET.false))
          ]) v.new-event.ensures.2))
      | in_default-try_from v ↦ rw (v.queue-is, unknown b _ a c.try_from.ensures v.in_default-try_from.is) refl
    ]
