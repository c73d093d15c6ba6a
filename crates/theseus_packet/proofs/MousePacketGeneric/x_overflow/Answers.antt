-- `x_overflow` meets its contract: the bit of byte 1 that is asked for is that of x.
use Rattle.theseus_packet.proofs.MousePacketGeneric.x_overflow.Goals as goal

pub returns : goal.returns
returns c = c.has.ensures
