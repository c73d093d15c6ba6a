-- `setting` meets its contract: the command and its data, without the bytes, and with the refusal replaced.
use Rattle.ps2_kept.proofs.Contracts.{plays_forgets}
use Rattle.ps2_command.proofs.Replaced.{refusing_told}
use Rattle.ps2_mouse.specs.Mouse.{command_to_mouse}
use Rattle.ps2_mouse.proofs.setting.Goals as goal

pub returns : goal.returns
unfolding command_to_mouse
returns c =
    rw (c.failing_as.ensures.used, c.failing_as.ensures.pairs)
    (refusing_told 15 _ _ _ (plays_forgets _ c.command_pair-both.ensures) c.failing_as.ensures.end)
