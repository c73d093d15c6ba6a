-- `command` meets its contract: the bytes are dropped.
use Rattle.ps2_kept.proofs.Contracts.{plays_forgets}
use Rattle.ps2_mouse.proofs.command.Goals as goal

pub returns : goal.returns
returns c = plays_forgets _ c.command_to_mouse.ensures
