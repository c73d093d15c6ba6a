-- It tells the operation's play.
use mathlib.Core.Path.{◌∙◌}
use Rattle.ps2_bytes.specs.Data.{scancode_set_byte}
use Rattle.ps2_keyboard.specs.Keyboard.{get_scancode_set}
use Rattle.theseus_calls.proofs.Recorded.{recorded, recorded_lent}
use Rattle.theseus_calls.proofs.keyboard_calls.scancode_set.Goals as goal

pub returns-clause-told : goal.returns-clause-told
returns-clause-told c =
    recorded scancode_set_byte get_scancode_set _ _ c.begun-controller.ensures.starts c.rusts_get_keyboard_scancode_set-rusts.ensures (c.run_of.ensures.words ∙ c.recorded_words-words.ensures)
    c.run_of.ensures.log

pub returns-clause-same_log : goal.returns-clause-same_log
returns-clause-same_log c = recorded_lent get_scancode_set _ _ c.begun-controller.ensures.same_log c.rusts_get_keyboard_scancode_set-rusts.ensures c.run_of.ensures.log
