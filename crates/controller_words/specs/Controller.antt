-- The controller's record as numbers, and what its initialisation answers.
use Rattle.std.specs.Prelude.{not, ℕ, eqb}
use Rattle.bits.specs.Bits.{weigh}
use Rattle.exchange.specs.Exchange.{End, yields, lacks, told_end}
use Rattle.exchange.specs.Answer.{Answer, gives, refuses, number_ended}
use Rattle.exchange.specs.Left.{Left}
use Rattle.ps2_answers.specs.Refusals.{Success}
use Rattle.ps2_init.specs.declared.PS2Controller.{PS2Controller}
use Rattle.port_words.specs.Told.{port_lacked}
use Rattle.controller_words.specs.declared.ControllerWords.{ControllerWords}
use Rattle.controller_words.specs.declared.InitializedWords.{InitializedWords}

-- The record that three numbers stand for: 0 is no, and any other yes.
abbrev pub controller_of : ControllerWords → PS2Controller
controller_of ws = record {
  initialized = not (eqb ws.initialized 0);
  keyboard_attached = not (eqb ws.keyboard 0);
  mouse_attached = not (eqb ws.mouse 0);
}

-- The numbers of a record: 1 is yes.
abbrev pub controller_numbers : PS2Controller → ControllerWords
controller_numbers c = record {
  initialized = weigh c.initialized;
  keyboard = weigh c.keyboard_attached;
  mouse = weigh c.mouse_attached;
}

-- An answer with its counts, and the numbers that are left.
abbrev pub init_numbers : End (Answer Success) → ℕ → ℕ → ControllerWords → InitializedWords
init_numbers end used pairs left = record {
  refusal = number_ended end;
  port = port_lacked end;
  used = used;
  pairs = pairs;
  controller = left;
}

-- The numbers that a play leaves that began with `passed`. "After 1,
-- 8 or 9 the controller record is as passed in", and so it is after 2
-- and 3: its numbers come back as they were lent, whichever say yes.
abbrev pub numbers_by : ControllerWords → Answer Success → PS2Controller → ControllerWords
numbers_by passed (gives a) controller = controller_numbers controller
numbers_by passed (refuses n) controller = passed

abbrev pub numbers_left : ControllerWords → End (Left PS2Controller Success) → ControllerWords
numbers_left passed (yields v) = numbers_by passed v.answer v.now
numbers_left passed (lacks x) = passed

-- What such a play is told by.
abbrev pub told_init : ControllerWords → End (Left PS2Controller Success) → ℕ → ℕ → InitializedWords
told_init passed end used pairs =
    init_numbers (told_end (λ v. v.answer) end) used pairs (numbers_left passed end)
