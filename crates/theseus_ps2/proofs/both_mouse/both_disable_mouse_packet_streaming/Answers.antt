-- The two agree, since each tells the operation's play.
use Rattle.ps2_mouse.specs.Mouse.{disable_packet_streaming}
use Rattle.theseus_ps2.proofs.Agreed.{agree_run}
use Rattle.theseus_ps2.proofs.both_mouse.both_disable_mouse_packet_streaming.Goals as goal

pub returns : goal.returns
returns c = agree_run disable_packet_streaming _ _ _ _ c.start-controller.ensures c.rusts_disable_mouse_packet_streaming-rusts.ensures c.disable_mouse_packet_streaming-ours.ensures
