-- `PS2Mouse::disable_mouse_packet_streaming` meets its contract: the command, with its refusals replaced.
use Rattle.ps2_command.proofs.Replaced.{refusing_told}
use Rattle.ps2_mouse.specs.Mouse.{disable_packet_streaming}
use Rattle.ps2_mouse.proofs.PS2Mouse.disable_mouse_packet_streaming.Goals as goal

pub returns : goal.returns
unfolding disable_packet_streaming
returns c = rw (c.failing_as.ensures.used, c.failing_as.ensures.pairs) (refusing_told 16 _ _ _ c.command-done.ensures c.failing_as.ensures.end)
