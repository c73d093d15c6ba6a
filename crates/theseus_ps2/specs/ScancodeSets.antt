-- The last step of setting a scancode set.
use Rattle.exchange.specs.Exchange.{Exchange, done}
use Rattle.exchange.specs.Answer.{Answer, gives, and_then}
use Rattle.ps2_answers.specs.Refusals.{Success, success}
use Rattle.ps2_keyboard.specs.Keyboard.{get_scancode_set}

-- The set is asked for, and whichever it is, the setting succeeds.
abbrev pub scancode_set_compared : Exchange (Answer Success)
scancode_set_compared = and_then get_scancode_set (λ _. done (gives success))
