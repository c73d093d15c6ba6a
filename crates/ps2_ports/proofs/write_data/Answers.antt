-- `write_data` meets its contract: the write is to port 60, of the data's byte.
use mathlib.Core.Path.{refl}
use Rattle.exchange.specs.Exchange.{p60}
use Rattle.ps2_ports.proofs.write_data.Goals as goal

pub returns : goal.returns
returns c = rw c.from.ensures at (c.write_port.ensures p60 refl)
