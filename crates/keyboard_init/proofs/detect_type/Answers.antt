-- `keyboard_init::detect_type` meets its contract: one call, whose refusals the operation's own replaces.
use Rattle.ps2_command.proofs.Replaced.{refusing_told}
use Rattle.ps2_detect.specs.Detection.{keyboard_detect}
use Rattle.keyboard_init.specs.KeyboardInit.{detection}
use Rattle.keyboard_init.proofs.detect_type.Goals as goal

pub returns : goal.returns
unfolding detection
returns c =
    rw (c.failing_as.ensures.used, c.failing_as.ensures.pairs) (refusing_told 18 keyboard_detect _ _ c.keyboard_detect.ensures c.failing_as.ensures.end)
