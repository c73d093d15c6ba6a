-- It is the writing of the configuration that has these bits.
use mathlib.Core.Path.{◌∙◌}
use Prim.Native.Nat.{ℕ}
use mathlib.Core.Path.{subst}
use Rattle.port_words.specs.Told.{no_value}
use Rattle.ps2_ports.specs.Ports.{write_config}
use Rattle.theseus_calls.specs.Recorded.{TellsNoted}
use Rattle.theseus_calls.proofs.Recorded.{recorded, recorded_lent}
use Rattle.theseus_calls.proofs.controller.written.Goals as goal

pub returns-clause-told : goal.returns-clause-told
returns-clause-told c =
    subst (λ (b : ℕ). TellsNoted no_value (write_config (record { bits = b })) c.args.script.now c.args.log.now c.run_of.result.words c.run_of.result.log.now) c.from.ensures
    (recorded no_value (write_config c.from.result) _ _ c.begun-controller.ensures.starts c.write_config.ensures (c.run_of.ensures.words ∙ c.recorded_words-words.ensures)
    c.run_of.ensures.log)

pub returns-clause-same_log : goal.returns-clause-same_log
returns-clause-same_log c =
    recorded_lent (write_config c.from.result) _ _ c.begun-controller.ensures.same_log c.write_config.ensures c.run_of.ensures.log
