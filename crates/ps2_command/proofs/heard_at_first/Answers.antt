-- `ps2_command::heard_at_first` meets its contract: the third question decides.
use mathlib.Core.Path.{◌≡◌, sym, ap, ◌∙◌}
use mathlib.Core.Bool.{true}
use native.Mathlib.Omega.{arith}
use lib.ListN.{get_or}
use Rattle.bits.specs.Bits.{bit}
use Rattle.ps2_layouts.specs.Status.{output_buffer_full}
use Rattle.ps2_command.proofs.Accepted.{first_heard}
use Rattle.ps2_command.proofs.heard_at_first.Goals as goal

pub returns-then-output_buffer_full-clause-is : goal.returns-then-output_buffer_full-clause-is
returns-then-output_buffer_full-clause-is c found =
    let full : bit output_buffer_full (get_or c.args.script.now 0 0) ≡ true = ap (bit output_buffer_full) (sym c.from.ensures) ∙ sym c.output_buffer_full.ensures ∙ c.if-output_buffer_full.true in
    first_heard _ (omega (arith, c.if-script-lt2.false)) full found
