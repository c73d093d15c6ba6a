-- `ps2_keyboard::is_output_buffer_full` meets its contract: one read of the status, and its bit 0.
use Rattle.bits.specs.Bits.{bit}
use Rattle.exchange.specs.Answer.{Answer, gives}
use Rattle.exchange.specs.Exchange.{Exchange, done}
use Rattle.std.specs.Prelude.{Bool}
use Rattle.ps2_layouts.specs.Status.{output_buffer_full}
use Rattle.ps2_layouts.specs.declared.status.ControllerToHostStatus.{ControllerToHostStatus}
use Rattle.ps2_ports.specs.Ports.{read_status}
use Rattle.ps2_answers.proofs.Then.{exit}
use Rattle.ps2_answers.proofs.Reading.{read_first, read_first_stops, read_here}
use Rattle.ps2_keyboard.specs.Keyboard.{keyboard_output_buffer_full}
use Rattle.ps2_keyboard.proofs.is_output_buffer_full.Goals as goal

abbrev full : ControllerToHostStatus → Exchange (Answer Bool)
full status = done (gives (bit output_buffer_full status.bits))

pub returns-in_err-status : goal.returns-in_err-status
unfolding keyboard_output_buffer_full
returns-in_err-status c = rw (exit _ _ c.from_residual.ensures.1) (read_first_stops read_status full _ _ c.in_err-status.ensures)

pub returns : goal.returns
unfolding keyboard_output_buffer_full
returns c = rw (c.with.ensures, c.output_buffer_full.ensures) (read_here (read_first read_status full _ _ c.in_ok-status.ensures))
