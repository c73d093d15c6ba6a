-- It tells the operation's play.
use mathlib.Core.Path.{◌∙◌}
use Rattle.port_words.specs.Told.{no_value}
use Rattle.ps2_mouse.specs.Mouse.{reset_mouse}
use Rattle.theseus_calls.proofs.Recorded.{recorded, recorded_lent}
use Rattle.theseus_calls.proofs.mouse_calls.mouse_reset.Goals as goal

pub returns-clause-told : goal.returns-clause-told
returns-clause-told c =
    recorded no_value reset_mouse _ _ c.begun-controller.ensures.starts c.rusts_reset_mouse-rusts.ensures (c.run_of.ensures.words ∙ c.recorded_words-words.ensures)
    c.run_of.ensures.log

pub returns-clause-same_log : goal.returns-clause-same_log
returns-clause-same_log c = recorded_lent reset_mouse _ _ c.begun-controller.ensures.same_log c.rusts_reset_mouse-rusts.ensures c.run_of.ensures.log
