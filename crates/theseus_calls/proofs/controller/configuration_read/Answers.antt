-- It tells the operation's play.
use mathlib.Core.Path.{◌∙◌}
use Rattle.ps2_ports.specs.Ports.{read_config}
use Rattle.theseus_calls.proofs.Recorded.{recorded, recorded_lent}
use Rattle.theseus_calls.specs.Operations.{configuration_value}
use Rattle.theseus_calls.proofs.controller.configuration_read.Goals as goal

pub returns-clause-told : goal.returns-clause-told
returns-clause-told c =
    recorded configuration_value read_config _ _ c.begun-controller.ensures.starts c.read_config-config.ensures (c.run_of.ensures.words ∙ c.configuration_words-words.ensures)
    c.run_of.ensures.log

pub returns-clause-same_log : goal.returns-clause-same_log
returns-clause-same_log c = recorded_lent read_config _ _ c.begun-controller.ensures.same_log c.read_config-config.ensures c.run_of.ensures.log
