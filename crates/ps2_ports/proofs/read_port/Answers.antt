-- `read_port` meets its contract: the play of one read, on an empty script and on one with a byte left.
use native.Mathlib.Omega.{arith}
use Rattle.exchange.proofs.Reading.{read_to_start, read_to_read, read_to_done, read_to_no_byte}
use Rattle.ps2_ports.specs.Ports.{read_port}
use Rattle.ps2_ports.proofs.read_port.Goals as goal

pub returns-then-script-eq0 : goal.returns-then-script-eq0
unfolding read_port
returns-then-script-eq0 c = rw c.new.ensures (read_to_no_byte (read_to_start _ _) (omega arith))

pub returns : goal.returns
unfolding read_port
returns c = read_to_done (read_to_read (read_to_start _ _) (omega arith))
