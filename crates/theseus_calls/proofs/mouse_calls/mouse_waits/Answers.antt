-- It tells the operation's play.
use mathlib.Core.Path.{◌∙◌}
use Rattle.bits.specs.Bits.{weigh}
use Rattle.ps2_mouse.specs.Mouse.{mouse_output_buffer_full}
use Rattle.theseus_calls.proofs.Recorded.{recorded, recorded_lent}
use Rattle.theseus_calls.proofs.mouse_calls.mouse_waits.Goals as goal

pub returns-clause-told : goal.returns-clause-told
returns-clause-told c =
    recorded weigh mouse_output_buffer_full _ _ c.begun-controller.ensures.starts c.rusts_mouse_output_buffer_full-waits.ensures (c.run_of.ensures.words ∙ c.recorded_words-words.ensures)
    c.run_of.ensures.log

pub returns-clause-same_log : goal.returns-clause-same_log
returns-clause-same_log c = recorded_lent mouse_output_buffer_full _ _ c.begun-controller.ensures.same_log c.rusts_mouse_output_buffer_full-waits.ensures c.run_of.ensures.log
