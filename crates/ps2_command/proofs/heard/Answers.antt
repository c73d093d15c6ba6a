-- `ps2_command::heard` meets its contract: the first status that says that there are data decides.
use mathlib.Core.Path.{◌≡◌, sym, ap, ◌∙◌}
use mathlib.Core.Bool.{true, false}
use Prim.Native.Nat.{◌+◌, ◌-◌}
use native.Mathlib.Omega.{arith}
use borrow.Author.Tests.{eq-eqb, ne_eqb}
use lib.ListN.{get_or}
use Rattle.bits.specs.Bits.{bit}
use Rattle.ps2_layouts.specs.Status.{output_buffer_full}
use Rattle.ps2_command.proofs.Accepted.{waits_next, waits_heard, waits_over, waits_block}
use Rattle.ps2_command.proofs.heard.Goals as goal

pub returns-then-script-silent-clause-is : goal.returns-then-script-silent-clause-is
returns-then-script-silent-clause-is c =
    let i = c.loop-silent.silent in
    let full : bit output_buffer_full (get_or c.args.script.now i 0) ≡ true = ap (bit output_buffer_full) (sym c.from.ensures) ∙ sym c.output_buffer_full.ensures ∙ c.if-output_buffer_full.true in
    rw (
      waits_heard _ i c.loop-silent.invariant (omega (arith, c.loop-silent-test.true, c.min-polls.ensures, c.saturating_sub.ensures)) (omega (arith, c.loop-silent-test.true, c.min-polls.ensures)) full (i + 1) (omega arith),
      eq-eqb _ _ c.if-script-silent.true,
    )

pub returns-else-script-silent-clause-is : goal.returns-else-script-silent-clause-is
returns-else-script-silent-clause-is c =
    let i = c.loop-silent.silent in
    let full : bit output_buffer_full (get_or c.args.script.now i 0) ≡ true = ap (bit output_buffer_full) (sym c.from.ensures) ∙ sym c.output_buffer_full.ensures ∙ c.if-output_buffer_full.true in
    rw (
      waits_heard _ i c.loop-silent.invariant (omega (arith, c.loop-silent-test.true, c.min-polls.ensures, c.saturating_sub.ensures)) (omega (arith, c.loop-silent-test.true, c.min-polls.ensures)) full (i + 1) (omega arith),
      ne_eqb _ _ c.if-script-silent.false,
    )

pub loop-begin-preserved : goal.loop-begin-preserved
loop-begin-preserved c =
    let i = c.loop-begin.begin in
    let whole = rw c.unwrap-block.ensures at c.as_array.ensures.cases in (
      waits_block _ _ i 32 (i + 32 - i) c.loop-begin.invariant.0 (omega (arith, c.loop-begin-test.true, c.min-polls.ensures, c.saturating_sub.ensures))
          (omega (arith, c.loop-begin-test.true, c.min-polls.ensures)) (omega arith) whole.same (sym c.any_full.ensures ∙ c.if-any_full.false),
      c.loop-begin-test.true,
    )

pub loop-silent-preserved : goal.loop-silent-preserved
loop-silent-preserved c =
    let i = c.loop-silent.silent in
    let empty : bit output_buffer_full (get_or c.args.script.now i 0) ≡ false = ap (bit output_buffer_full) (sym c.from.ensures) ∙ sym c.output_buffer_full.ensures ∙ c.if-output_buffer_full.false in
    waits_next _ i c.loop-silent.invariant (omega (arith, c.loop-silent-test.true, c.min-polls.ensures, c.saturating_sub.ensures)) (omega (arith, c.loop-silent-test.true, c.min-polls.ensures)) empty (i + 1) (omega arith)

pub returns-clause-is : goal.returns-clause-is
returns-clause-is c =
    sym (waits_over _ c.loop-silent.silent c.loop-silent.invariant (λ l. omega (arith, l, c.loop-silent-test.false, c.min-polls.ensures, c.saturating_sub.ensures)))
