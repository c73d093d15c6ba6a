-- The two agree, since each tells the operation's play.
use Rattle.ps2_mouse.specs.Mouse.{enable_packet_streaming}
use Rattle.theseus_ps2.proofs.Agreed.{agree_run}
use Rattle.theseus_ps2.proofs.both_mouse.both_enable_mouse_packet_streaming.Goals as goal

pub returns : goal.returns
returns c = agree_run enable_packet_streaming _ _ _ _ c.start-controller.ensures c.rusts_enable_mouse_packet_streaming-rusts.ensures c.enable_mouse_packet_streaming-ours.ensures
