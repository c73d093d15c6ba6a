-- `ControllerToHostStatus::input_buffer_full` meets its contract: the bit that is asked for is the one that the table of the status names.
use Rattle.ps2_layouts.proofs.status.ControllerToHostStatus.input_buffer_full.Goals as goal

pub returns : goal.returns
returns c = c.has.ensures
