-- `set_keyboard_led` meets its contract: the lamps of the flags, and the exchange's answer is let go.
use mathlib.Core.Path.{◌≡◌, ap, ◌∙◌}
use Prim.Native.Nat.{ℕ}
use Rattle.keyboard_scancodes.specs.Lamps.{lamps_lit}
use Rattle.keyboard_scancodes.proofs.LampBits.{lamps_put}
use Rattle.ps2_keyboard.specs.Keyboard.{set_keyboard_led}
use Rattle.theseus_keycodes.specs.Flags.{renumbered}
use Rattle.theseus_keycodes.proofs.Questions.{caps_lock_is, num_lock_is, scroll_lock_is}
use Rattle.theseus_ps2.specs.Hardware.{run}
use Rattle.theseus_ps2.specs.Controller.{on_controller}
use Rattle.theseus_keyboard.proofs.set_keyboard_led.Goals as goal
use Rattle.theseus_keyboard.proofs.set_keyboard_led.Given as given
use Rattle.theseus_keyboard.proofs.set_keyboard_led.Goals.{After-set_keyboard_led}

lamps_are : (g : given.Over) (c : After-set_keyboard_led g) → c.with_caps_lock.result.bits ≡ lamps_lit (renumbered c.args.modifiers.now.bits)
unfolding lamps_lit
lamps_are g c =
    let w = c.args.modifiers.now.bits in
    rw (
      c.with_caps_lock.ensures,
      c.is_caps_lock.ensures,
      c.with_number_lock.ensures,
      c.is_num_lock.ensures,
      c.with_scroll_lock.ensures,
      c.is_scroll_lock.ensures,
      c.new.ensures,
      caps_lock_is w,
      num_lock_is w,
      scroll_lock_is w,
    )
    (lamps_put _ _ _)

pub returns-in-Err-clause-lamps : goal.returns-in-Err-clause-lamps
returns-in-Err-clause-lamps g c =
    ap (λ r. r.now) c.set_keyboard_led.ensures.ran
    ∙ ap (λ (b : ℕ). (run (on_controller g.H.Hardware.device) (set_keyboard_led (record { bits = b })) c.args.keyboard.now.controller.now).now) (lamps_are g (goal.at.returns-in-Err-clause-lamps g c).After-set_keyboard_led)

pub returns-in_default-clause-lamps : goal.returns-in_default-clause-lamps
returns-in_default-clause-lamps g c =
    ap (λ r. r.now) c.set_keyboard_led.ensures.ran
    ∙ ap (λ (b : ℕ). (run (on_controller g.H.Hardware.device) (set_keyboard_led (record { bits = b })) c.args.keyboard.now.controller.now).now) (lamps_are g (goal.at.returns-in_default-clause-lamps g c).After-set_keyboard_led)
