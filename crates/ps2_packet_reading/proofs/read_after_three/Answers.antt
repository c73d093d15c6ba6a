-- `read_after_three` meets its contract: in each arm the identity is known, and what follows computes.
use Rattle.ps2_answers.proofs.Reading.{read_start, read_here}
use Rattle.ps2_packet_reading.proofs.read_after_three.Goals as goal

pub returns-in-Zero : goal.returns-in-Zero
returns-in-Zero c = rw (c.new.ensures, c.from_bytes.ensures, c.in-Zero.is) (read_here (read_start _ _))
