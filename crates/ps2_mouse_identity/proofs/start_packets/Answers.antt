-- `start_packets` meets its contract: the record has the new identity, but where the script or the log ended.
use Rattle.ps2_mouse_identity.proofs.Record.{start_ended, start_lacked}
use Rattle.ps2_mouse_identity.proofs.start_packets.Goals as goal

pub returns-then-is_ok : goal.returns-then-is_ok
returns-then-is_ok c = start_ended c.args.mouse.now c.args.id _ _ _ c.enable_mouse_packet_streaming-started.ensures c.outcome.ensures c.if-is_ok.ensures.value

pub returns-else-is_ok : goal.returns-else-is_ok
returns-else-is_ok c = start_lacked c.args.mouse.now c.args.id _ _ _ c.enable_mouse_packet_streaming-started.ensures c.outcome.ensures c.if-is_ok.ensures.value
