-- `status_register` meets its contract: the read is of port 64, and its byte is the status.
use Prim.Native.Nat.{ℕ}
use Rattle.exchange.specs.Exchange.{Exchange, p64, done, bind}
use Rattle.exchange.specs.Answer.{Answer, gives, and_then}
use Rattle.ps2_layouts.specs.declared.status.ControllerToHostStatus.{ControllerToHostStatus}
use Rattle.ps2_answers.proofs.Reading.{read_first, read_first_stops, read_here}
use Rattle.ps2_answers.proofs.Then.{exit}
use Rattle.ps2_ports.specs.Ports.{read_port, read_status}
use Rattle.ps2_ports.proofs.status_register.Goals as goal

abbrev seen : ℕ → Exchange (Answer ControllerToHostStatus)
seen b = done (gives (record { bits = b }))

pub returns-in_err-read : goal.returns-in_err-read
unfolding read_status read_port and_then bind
returns-in_err-read c = rw (exit _ _ c.from_residual.ensures.1) (read_first_stops (read_port p64) seen _ _ c.in_err-read.ensures)

pub returns : goal.returns
unfolding read_status read_port and_then bind
returns c = rw (c.with.ensures, c.from.ensures) (read_here (read_first (read_port p64) seen _ _ c.in_ok-read.ensures))
