-- `keyboard::on_byte` meets its contract: a silent byte, the press of a lock, or another key's byte.
use mathlib.Core.Path.{refl, sym, ◌∙◌}
use Rattle.keyboard_scancodes.proofs.Tournament.{followed_any}
use Rattle.keyboard.specs.KeyboardLamps.{port_rules}
use Rattle.keyboard.proofs.Outcomes.{gives_back, silent_byte, key_byte, no_lamps}
use Rattle.keyboard.proofs.on_byte.Goals as goal

pub returns-then-is_silent : goal.returns-then-is_silent
returns-then-is_silent c =
    let a = c.args in
    rw (c.without_event.ensures, c.from-keyboard.ensures, c.is_prefix-keyboard.ensures)
    (record {
      at = λ rest is few.
          gives_back a.keyboard.now _ _ _ (silent_byte (port_rules a.profile a.port) a.keyboard.now a.scan_code rest _ _ is (sym c.is_silent.ensures ∙ c.if-is_silent.true)) refl;
    })

pub lock_pressed-requires : goal.lock_pressed-requires
lock_pressed-requires c =
    let e = sym c.is_lock_press.ensures ∙ c.if-is_lock_press.true in
    rw (followed_any _ _ e) at e

pub returns-then-is_lock_press : goal.returns-then-is_lock_press
returns-then-is_lock_press c =
    let a = c.args in
    record {
      at = λ rest is few.
          rw (← key_byte (port_rules a.profile a.port) a.keyboard.now a.scan_code rest c.modifiers_after-modifiers.ensures (sym c.is_silent.ensures ∙ c.if-is_silent.false), followed_any a.profile a.scan_code (sym c.is_lock_press.ensures ∙ c.if-is_lock_press.true))
          (c.lock_pressed.ensures.at rest is few);
    }

pub returns : goal.returns
returns c =
    let a = c.args in
    record {
      at = λ rest is few.
          rw (← key_byte (port_rules a.profile a.port) a.keyboard.now a.scan_code rest c.modifiers_after-modifiers.ensures (sym c.is_silent.ensures ∙ c.if-is_silent.false))
          (gives_back a.keyboard.now _ _ _
          (no_lamps (port_rules a.profile a.port) a.keyboard.now a.scan_code c.modifiers_after-modifiers.result.bits rest _ _ is (sym c.is_lock_press.ensures ∙ c.if-is_lock_press.false))
          c.after_lamps.ensures);
    }
