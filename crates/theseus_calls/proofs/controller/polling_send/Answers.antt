-- It tells the operation's play.
use mathlib.Core.Path.{◌∙◌}
use Rattle.port_words.specs.Told.{no_value}
use Rattle.theseus_calls.proofs.Recorded.{recorded, recorded_lent}
use Rattle.theseus_calls.specs.Operations.{sending_set}
use Rattle.theseus_calls.proofs.controller.polling_send.Goals as goal

pub returns-clause-told : goal.returns-clause-told
returns-clause-told c =
    recorded no_value (sending_set c.args.set) _ _ c.begun-controller.ensures.starts c.rusts_polling_send-rusts.ensures (c.run_of.ensures.words ∙ c.recorded_words-words.ensures)
    c.run_of.ensures.log

pub returns-clause-same_log : goal.returns-clause-same_log
returns-clause-same_log c = recorded_lent (sending_set c.args.set) _ _ c.begun-controller.ensures.same_log c.rusts_polling_send-rusts.ensures c.run_of.ensures.log
