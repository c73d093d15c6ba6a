-- `test_calls::vdt_handler_calls_by_value` meets its contract: after i turns the record and the log are what i calls leave.
use native.Mathlib.Omega.{arith}
use mathlib.Core.Path.{sym}
use Rattle.test_calls.proofs.Calls.{none_called, one_more_called, all_called}
use Rattle.test_calls.proofs.rows.vdt_handler_calls_by_value.Goals as goal

pub loop-call-init : goal.loop-call-init
loop-call-init c = none_called _ _ _ _ _ (rw (sym c.table_of.ensures) c.fresh-handler.ensures)

pub loop-call-preserved : goal.loop-call-preserved
loop-call-preserved c =
    one_more_called _ _ _ _ _ _ c.loop-call.invariant c.side_of-side.ensures c.in_turn.ensures c.call_by_value-handler.ensures.0 c.call_by_value-handler.ensures.1

pub returns : goal.returns
returns c = all_called _ _ _ _ _ c.loop-call.invariant (omega arith)
