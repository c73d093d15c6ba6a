-- `keyboard::lock_pressed` meets its contract: the lamp exchange, then the event; a lack of a byte or room ends both.
use native.Mathlib.Omega.{arith}
use mathlib.Core.Path.{◌≡◌, refl, ap}
use Rattle.ps2_answers.specs.Refusals.{refused}
use Rattle.keyboard_scancodes.specs.declared.Profile.{Profile}
use Rattle.keyboard.specs.KeyboardLamps.{port_rules}
use Rattle.keyboard.proofs.Bounds.{lamps_within}
use Rattle.keyboard.proofs.Outcomes.{gives_back, lamps_answer, lamps_lack}
use Rattle.keyboard.proofs.lock_pressed.Goals as goal
use Rattle.keyboard.proofs.lock_pressed.Goals.{After-set_port_led_onto-lit}

-- both bytes were acknowledged before any other came
pub returns-in-Some : goal.returns-in-Some
returns-in-Some c =
    let a = c.args in
    record {
      at = λ rest is few.
          gives_back a.keyboard.now _ _ _
          (lamps_answer (port_rules Profile.Any a.port) a.keyboard.now a.scan_code a.modifiers.bits rest _ _ c.requires c.leds-lamps.ensures
          (lamps_within a.port _) (omega (arith, few)) is (c.set_port_led_acknowledged.ensures.plays _ c.in-Some.is a.kept)
          refl)
          c.after_lamps.ensures;
    }

-- otherwise the log is as it was
module _ (c : After-set_port_led_onto-lit) where
  unlit : c.set_port_led_acknowledged.new.log ≡ c.args.log.now
  unlit = c.set_port_led_acknowledged.ensures.undone c.in_default.is

pub returns-in-Ok : goal.returns-in-Ok
returns-in-Ok c =
    let a = c.args in
    record {
      at = λ rest is few.
          gives_back a.keyboard.now _ _ _
          (lamps_answer (port_rules Profile.Any a.port) a.keyboard.now a.scan_code a.modifiers.bits rest _ _ c.requires c.leds-lamps.ensures
          (lamps_within a.port _) (omega (arith, few)) is (rw (unlit (goal.at.returns-in-Ok c).After-set_port_led_onto-lit, c.in-Ok.is) at c.set_port_led_onto-lit.ensures)
          refl)
          c.after_lamps-in-Ok.ensures;
    }

pub returns-in-Lacking : goal.returns-in-Lacking
returns-in-Lacking c =
    let a = c.args in
    rw c.without_event.ensures
    (record {
      at = λ rest is few.
          gives_back a.keyboard.now _ _ _
          (lamps_lack (port_rules Profile.Any a.port) a.keyboard.now a.scan_code a.modifiers.bits rest _ _ c.requires c.leds-lamps.ensures
          (lamps_within a.port _) (omega (arith, few)) is (rw (unlit (goal.at.returns-in-Lacking c).After-set_port_led_onto-lit, c.in-Err.is) at c.set_port_led_onto-lit.ensures)
          (ap refused c.in-Lacking.is))
          refl;
    })

pub returns-in-Failed : goal.returns-in-Failed
returns-in-Failed c =
    let a = c.args in
    record {
      at = λ rest is few.
          gives_back a.keyboard.now _ _ _
          (lamps_answer (port_rules Profile.Any a.port) a.keyboard.now a.scan_code a.modifiers.bits rest _ _ c.requires c.leds-lamps.ensures
          (lamps_within a.port _) (omega (arith, few)) is (rw (unlit (goal.at.returns-in-Failed c).After-set_port_led_onto-lit, c.in-Err.is) at c.set_port_led_onto-lit.ensures)
          (ap refused c.in-Failed.is))
          c.after_lamps-in-Failed.ensures;
    }
