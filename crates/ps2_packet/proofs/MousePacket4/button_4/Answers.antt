-- `MousePacket4::button_4` meets its contract: the bit of byte 4 that is asked for is button 4.
use Rattle.ps2_packet.proofs.MousePacket4.button_4.Goals as goal

pub returns : goal.returns
returns c = c.has.ensures
