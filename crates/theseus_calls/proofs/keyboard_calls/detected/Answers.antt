-- It tells the operation's play.
use mathlib.Core.Path.{◌∙◌}
use Rattle.port_words.specs.Told.{type_number}
use Rattle.ps2_detect.specs.Detection.{keyboard_detect}
use Rattle.theseus_calls.proofs.Recorded.{recorded, recorded_lent}
use Rattle.theseus_calls.proofs.keyboard_calls.detected.Goals as goal

pub returns-clause-told : goal.returns-clause-told
returns-clause-told c =
    recorded type_number keyboard_detect _ _ c.begun-controller.ensures.starts c.rusts_keyboard_detect-rusts.ensures (c.run_of.ensures.words ∙ c.recorded_words-words.ensures)
    c.run_of.ensures.log

pub returns-clause-same_log : goal.returns-clause-same_log
returns-clause-same_log c = recorded_lent keyboard_detect _ _ c.begun-controller.ensures.same_log c.rusts_keyboard_detect-rusts.ensures c.run_of.ensures.log
