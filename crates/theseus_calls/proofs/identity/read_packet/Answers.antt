-- It tells the operation's play.
use mathlib.Core.Path.{◌∙◌}
use Rattle.ps2_packet_reading.specs.Reading.{read_mouse_packet}
use Rattle.theseus_calls.proofs.Left.{packet_read}
use Rattle.theseus_calls.proofs.Recorded.{recorded_lent}
use Rattle.theseus_calls.proofs.identity.read_packet.Goals as goal

pub returns-clause-told : goal.returns-clause-told
returns-clause-told c =
    packet_read c.args.id _ _ c.begun-controller.ensures.starts c.rusts_read_mouse_packet-packet.ensures
    (c.run_of.ensures.words ∙ c.packet_noted_words-words.ensures) c.run_of.ensures.log

pub returns-clause-same_log : goal.returns-clause-same_log
returns-clause-same_log c =
    recorded_lent (read_mouse_packet c.args.id) _ _ c.begun-controller.ensures.same_log c.rusts_read_mouse_packet-packet.ensures c.run_of.ensures.log
