-- `MousePacket::side_flag` meets its contract: the bit of byte 4, which identity 4 alone has.
use Rattle.std.proofs.Common.{rules}
use Rattle.ps2_packet.proofs.MousePacket.side_flag.Goals as goal

pub returns-in-Four : goal.returns-in-Four
returns-in-Four c = rw c.in-Four.is (search rules)
