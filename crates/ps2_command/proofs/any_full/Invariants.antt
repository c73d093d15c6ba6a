-- `ps2_command::any_full` meets its contract: what is joined so far has the bit where one of the statuses so far has it.
use mathlib.Core.Path.{◌≡◌}
use lib.ListN.{take}
use Rattle.std.specs.List.{list_any}
use Rattle.bits.specs.Bits.{bit}
use Rattle.ps2_layouts.specs.Status.{output_buffer_full}
use Rattle.ps2_command.proofs.any_full.Given as goal

abbrev pub invariant-loop-status : goal.invariant-loop-status
invariant-loop-status l = (bit output_buffer_full l.joined ≡ list_any (bit output_buffer_full) (take l.status-index l.statuses))
