-- `flush_output_buffer` meets its contract: the read is of port 60, and its byte is dropped.
use Prim.Native.Nat.{ℕ}
use Rattle.exchange.specs.Exchange.{done, bind}
use Rattle.exchange.specs.Answer.{gives, and_then}
use Rattle.ps2_answers.specs.Refusals.{success}
use Rattle.ps2_answers.proofs.Reading.{read_first, read_first_stops, read_here}
use Rattle.ps2_answers.proofs.Then.{exit}
use Rattle.ps2_ports.specs.Ports.{read_port, read_data, flush_output_buffer}
use Rattle.ps2_ports.proofs.flush_output_buffer.Goals as goal

pub returns-in_err-read_data : goal.returns-in_err-read_data
unfolding flush_output_buffer read_port and_then bind
returns-in_err-read_data c =
    rw (exit _ _ c.from_residual.ensures.1) (read_first_stops read_data (λ (b : ℕ). done (gives success)) _ _ c.in_err-read_data.ensures)

pub returns : goal.returns
unfolding flush_output_buffer read_port and_then bind
returns c = rw c.with.ensures (read_here (read_first read_data (λ (b : ℕ). done (gives success)) _ _ c.in_ok-read_data.ensures))
