-- `PS2Mouse::command_to_mouse` meets its contract: the mouse is on the second port.
use Rattle.ps2_mouse.specs.Mouse.{command_to_mouse}
use Rattle.ps2_mouse.proofs.PS2Mouse.command_to_mouse.Goals as goal

pub returns : goal.returns
unfolding command_to_mouse
returns c = c.command_by.ensures
