-- The two agree, since each tells the operation's play.
use Rattle.ps2_packet_reading.specs.Reading.{read_mouse_packet}
use Rattle.theseus_ps2.proofs.Agreed.{agree_reads}
use Rattle.theseus_ps2.proofs.both_identity.both_read_mouse_packet.Goals as goal

pub returns : goal.returns
returns c =
    agree_reads (read_mouse_packet c.args.mouse.id) _ _ _ _ c.start-controller.ensures c.rusts_read_mouse_packet-rusts.ensures c.read_mouse_packet-ours.ensures
