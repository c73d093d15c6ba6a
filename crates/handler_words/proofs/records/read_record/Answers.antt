-- `handler_words::records::read_record` meets its contract.
use Rattle.handler_words.proofs.WholeRecords.{first_unfit, table_unfit, second_unfit, record_read}
use Rattle.handler_words.proofs.records.read_record.Goals as goal

pub returns-in_err-first : goal.returns-in_err-first
returns-in_err-first c = rw c.from_residual.ensures (first_unfit c.args.words.now c.in_err-first.ensures)

pub returns-in_err-table : goal.returns-in_err-table
returns-in_err-table c = rw c.from_residual-in_err-table.ensures (table_unfit c.args.words.now c.in_err-table.ensures)

pub returns-in_err-second : goal.returns-in_err-second
returns-in_err-second c = rw c.from_residual-in_err-second.ensures (second_unfit c.args.words.now c.in_err-second.ensures)

pub returns : goal.returns
returns c = record_read c.args.words.now c.in_ok-first.ensures c.in_ok-table.ensures c.in_ok-second.ensures c.events_in.ensures
