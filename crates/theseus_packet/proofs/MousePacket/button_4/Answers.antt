-- `button_4` meets its contract: the bit of byte 4 that is asked for is button 4.
use Rattle.theseus_packet.proofs.MousePacket.button_4.Goals as goal

pub returns-in-Four : goal.returns-in-Four
returns-in-Four c = rw c.in-Four.is c.button_4.ensures
