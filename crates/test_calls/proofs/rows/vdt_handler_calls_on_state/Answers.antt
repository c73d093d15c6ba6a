-- `test_calls::vdt_handler_calls_on_state` meets its contract: after i turns the state and the log are what i calls leave.
use native.Mathlib.Omega.{arith}
use mathlib.Core.Path.{sym, ap}
use Rattle.keyboard_record.specs.declared.KeyboardHandler.{KeyboardHandler}
use Rattle.test_calls.proofs.Calls.{none_called_on, one_more_called_on, all_called_on}
use Rattle.test_calls.proofs.rows.vdt_handler_calls_on_state.Goals as goal

pub loop-call-init : goal.loop-call-init
loop-call-init c = none_called_on _ _ _ _ _ (rw (sym c.table_of.ensures) (ap (λ (h : KeyboardHandler). h.state) c.fresh.ensures))

pub loop-call-preserved : goal.loop-call-preserved
loop-call-preserved c =
    one_more_called_on _ _ _ _ _ _ c.loop-call.invariant c.side_of-side.ensures c.in_turn.ensures c.call_on_state-state.ensures.0 c.call_on_state-state.ensures.1

pub returns : goal.returns
returns c = all_called_on _ _ _ _ _ c.loop-call.invariant (omega arith)
