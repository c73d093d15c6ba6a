-- It tells the operation's play.
use mathlib.Core.Path.{◌∙◌}
use Rattle.port_words.specs.Told.{no_value}
use Rattle.ps2_bytes.specs.declared.command.HostToControllerCommand.TheVariants.{TestPort1}
use Rattle.ps2_polling.specs.Polling.{test_port}
use Rattle.theseus_calls.proofs.Recorded.{recorded, recorded_lent}
use Rattle.theseus_calls.proofs.controller.port1_test.Goals as goal

pub returns-clause-told : goal.returns-clause-told
returns-clause-told c =
    recorded no_value (test_port TestPort1) _ _ c.begun-controller.ensures.starts c.test_port1-rusts.ensures (c.run_of.ensures.words ∙ c.recorded_words-words.ensures)
    c.run_of.ensures.log

pub returns-clause-same_log : goal.returns-clause-same_log
returns-clause-same_log c = recorded_lent (test_port TestPort1) _ _ c.begun-controller.ensures.same_log c.test_port1-rusts.ensures c.run_of.ensures.log
