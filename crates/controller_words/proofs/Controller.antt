-- A record's numbers stand for it, so a next call begins with the record that this one left.
use mathlib.Core.Bool.{Bool, true, false, not}
use mathlib.Core.Path.{◌≡◌, refl}
use lib.Dec.{eqb}
use Rattle.std.specs.Prelude.{Err}
use Rattle.bits.specs.Bits.{weigh}
use Rattle.exchange.specs.Exchange.{told_end}
use Rattle.exchange.specs.Left.{left}
use Rattle.ps2_answers.specs.Refusals.{Success, refused}
use Rattle.ps2_answers.specs.declared.Counted.{Counted}
use Rattle.ps2_answers.specs.declared.Refusal.{Refusal}
use Rattle.ps2_answers.specs.declared.Refusal.TheVariants.{Lacking, Failed}
use Rattle.ps2_init.specs.Answers.{said_init}
use Rattle.ps2_init.specs.declared.PS2Controller.{PS2Controller}
use Rattle.controller_words.specs.declared.ControllerWords.{ControllerWords}
use Rattle.controller_words.specs.Controller.{controller_of, controller_numbers, numbers_left}

said_back : (b : Bool) → not (eqb (weigh b) 0) ≡ b
said_back true = refl
said_back false = refl

pub controller_numbers_lem : (c : PS2Controller) → controller_of (controller_numbers c) ≡ c
controller_numbers_lem c = rw (said_back c.initialized, said_back c.keyboard_attached, said_back c.mouse_attached)

-- a refusal leaves the numbers as they were lent
pub refused_left : (e : Counted Refusal) (c : PS2Controller) (passed : ControllerWords) → numbers_left passed (said_init (Err e) c) ≡ passed
refused_left e c passed = by_refusal e.value
  where
    by_refusal : (r : Refusal) → numbers_left passed (told_end (λ a. left a c) (refused {A = Success} r)) ≡ passed
    by_refusal (Lacking l) = refl
    by_refusal (Failed f) = refl
