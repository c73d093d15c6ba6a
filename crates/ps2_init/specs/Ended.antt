-- Which record `init` leaves with which answer.
use Rattle.std.specs.Prelude.{Bool, true, false, ◌≡◌}
use Rattle.exchange.specs.Answer.{gives, refuses}
use Rattle.exchange.specs.Left.{Left, left}
use Rattle.ps2_answers.specs.Refusals.{Success, success}
use Rattle.ps2_init.specs.declared.PS2Controller.{PS2Controller}

-- 1 where the controller was initialised, and only there; success makes it initialised; 8 and 9
-- leave it as it was. There is no other answer.
pub data Ended (passed : PS2Controller) : Left PS2Controller Success → Type 0 where
  already : passed.initialized ≡ true → Ended passed (left (refuses 1) passed)
  ready : {keyboard mouse : Bool} → passed.initialized ≡ false
      → Ended passed (left (gives success)
      (record { initialized = true; keyboard_attached = keyboard; mouse_attached = mouse }))
  controller_failed : passed.initialized ≡ false → Ended passed (left (refuses 8) passed)
  ports_failed : passed.initialized ≡ false → Ended passed (left (refuses 9) passed)
