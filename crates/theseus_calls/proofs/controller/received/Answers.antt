-- It tells the operation's play.
use mathlib.Core.Path.{◌∙◌}
use Rattle.ps2_bytes.specs.Responses.{response_byte}
use Rattle.ps2_polling.specs.Polling.{polling_receive}
use Rattle.theseus_calls.proofs.Recorded.{recorded, recorded_lent}
use Rattle.theseus_calls.proofs.controller.received.Goals as goal

pub returns-clause-told : goal.returns-clause-told
returns-clause-told c =
    recorded response_byte polling_receive _ _ c.begun-controller.ensures.starts c.rusts_polling_receive-rusts.ensures (c.run_of.ensures.words ∙ c.recorded_words-words.ensures)
    c.run_of.ensures.log

pub returns-clause-same_log : goal.returns-clause-same_log
returns-clause-same_log c = recorded_lent polling_receive _ _ c.begun-controller.ensures.same_log c.rusts_polling_receive-rusts.ensures c.run_of.ensures.log
