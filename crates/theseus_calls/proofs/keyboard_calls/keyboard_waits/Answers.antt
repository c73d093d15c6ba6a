-- It tells the operation's play.
use mathlib.Core.Path.{◌∙◌}
use Rattle.bits.specs.Bits.{weigh}
use Rattle.ps2_keyboard.specs.Keyboard.{keyboard_output_buffer_full}
use Rattle.theseus_calls.proofs.Recorded.{recorded, recorded_lent}
use Rattle.theseus_calls.proofs.keyboard_calls.keyboard_waits.Goals as goal

pub returns-clause-told : goal.returns-clause-told
returns-clause-told c =
    recorded weigh keyboard_output_buffer_full _ _ c.begun-controller.ensures.starts c.rusts_keyboard_output_buffer_full-waits.ensures (c.run_of.ensures.words ∙ c.recorded_words-words.ensures)
    c.run_of.ensures.log

pub returns-clause-same_log : goal.returns-clause-same_log
returns-clause-same_log c = recorded_lent keyboard_output_buffer_full _ _ c.begun-controller.ensures.same_log c.rusts_keyboard_output_buffer_full-waits.ensures c.run_of.ensures.log
