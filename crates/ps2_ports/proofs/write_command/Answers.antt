-- `write_command` meets its contract: the write is to port 64, of the command's byte.
use mathlib.Core.Path.{refl}
use Rattle.exchange.specs.Exchange.{p64}
use Rattle.ps2_ports.proofs.write_command.Goals as goal

pub returns : goal.returns
returns c = rw c.from.ensures at (c.write_port.ensures p64 refl)
