-- `report::sessions::tally_presses` meets its contract: up to each place the presses are counted.
use native.Mathlib.Omega.{arith}
use Rattle.std.proofs.Common.{rules}
use Rattle.report.proofs.Presses.{counting_begins, counting_fits, counting_press, counting_other, counting_ends}
use Rattle.report.proofs.sessions.tally_presses.Goals as goal

pub loop-code-init : goal.loop-code-init
loop-code-init c = counting_begins _

pub overflow_add-presses : goal.overflow_add-presses
overflow_add-presses c =
    record { fits = omega (arith, counting_fits c.loop-code.invariant c.from-key.result c.if-key-lt-KEYS.true c.loop-code-test.true c.from-key.ensures, c.well_formed.0.0) }

pub loop-code-preserved : goal.loop-code-preserved
loop-code-preserved c = search (rules, counting_press c.loop-code.invariant c.from-key.result c.loop-code-test.true c.from-key.ensures, counting_other c.loop-code.invariant c.from-key.result c.loop-code-test.true c.from-key.ensures)

pub returns : goal.returns
returns c = counting_ends c.loop-code.invariant c.loop-code-test.false
