-- `handler_words::handle_at` meets its contract.
use Rattle.handler_words.proofs.Plain.{plain_at}
use Rattle.handler_words.proofs.handle_at.Goals as goal

pub returns-then-is_plain_key : goal.returns-then-is_plain_key
returns-then-is_plain_key c =
    let whole = c.in-Some.ensures.cases in
    plain_at whole.long (rw whole.same at c.handle_plain.ensures)
