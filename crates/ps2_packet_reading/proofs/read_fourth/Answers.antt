-- `read_fourth` meets its contract: one read, and the packet that its byte completes.
use Rattle.exchange.specs.Exchange.{done, bind}
use Rattle.exchange.specs.Answer.{gives, and_then}
use Rattle.ps2_answers.proofs.Then.{exit}
use Rattle.ps2_answers.proofs.Reading.{read_first, read_first_stops, read_here}
use Rattle.ps2_ports.specs.Ports.{read_port, read_data}
use Rattle.ps2_packet_reading.specs.Reading.{four_bytes}
use Rattle.ps2_packet_reading.proofs.read_fourth.Goals as goal

pub returns-in_err-fourth : goal.returns-in_err-fourth
unfolding read_port and_then bind
returns-in_err-fourth c =
    let v = c.args in
    rw (exit _ _ c.from_residual.ensures.1) (read_first_stops read_data (λ b4. done (gives (four_bytes v.id v.first b4))) _ _ c.in_err-fourth.ensures)

pub returns : goal.returns
unfolding read_port and_then bind
returns c =
    let v = c.args in
    rw (c.with.ensures, c.four_bytes.ensures) (read_here (read_first read_data (λ b4. done (gives (four_bytes v.id v.first b4))) _ _ c.in_ok-fourth.ensures))
