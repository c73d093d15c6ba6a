-- `test_calls::vdt_handler_calls_by_value` meets its contract: after i turns the record and the log are what i calls leave.
use Rattle.keyboard_record.specs.Record.{fresh}
use Rattle.keyboard_sides.specs.Sides.{side_of}
use Rattle.test_calls.specs.Calls.{table_of}
use Rattle.test_calls.proofs.Calls.{Reached}
use Rattle.test_calls.proofs.rows.vdt_handler_calls_by_value.Given as goal

abbrev pub invariant-loop-call : goal.invariant-loop-call
invariant-loop-call l = Reached (side_of l.second) l.script l.other (fresh (table_of l.two l.tournament)) l.initial.log l.handler l.log l.call
