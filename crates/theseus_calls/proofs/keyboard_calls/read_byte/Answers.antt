-- It tells the operation's play.
use mathlib.Core.Path.{◌∙◌}
use Rattle.port_words.specs.Told.{byte_value}
use Rattle.ps2_keyboard.specs.Keyboard.{read_scancode}
use Rattle.theseus_calls.proofs.Recorded.{recorded, recorded_lent}
use Rattle.theseus_calls.proofs.keyboard_calls.read_byte.Goals as goal

pub returns-clause-told : goal.returns-clause-told
returns-clause-told c =
    recorded byte_value read_scancode _ _ c.begun-controller.ensures.starts c.rusts_read_scancode-byte.ensures (c.run_of.ensures.words ∙ c.recorded_words-words.ensures)
    c.run_of.ensures.log

pub returns-clause-same_log : goal.returns-clause-same_log
returns-clause-same_log c = recorded_lent read_scancode _ _ c.begun-controller.ensures.same_log c.rusts_read_scancode-byte.ensures c.run_of.ensures.log
