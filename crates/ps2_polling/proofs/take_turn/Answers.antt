-- `take_turn` meets its contract: a poll, or a read of data that is told as a poll.
use Rattle.std.specs.Prelude.{Ok, Err}
use Rattle.exchange.specs.Answer.{gives}
use Rattle.exchange.specs.Repeat.{found}
use Rattle.ps2_answers.proofs.Then.{exit}
use Rattle.ps2_answers.proofs.Reading.{reads_pairs}
use Rattle.ps2_polling.proofs.Polls.{read_turn}
use Rattle.ps2_polling.proofs.take_turn.Goals as goal

pub returns-in_ok-data-in-DataReads : goal.returns-in_ok-data-in-DataReads
returns-in_ok-data-in-DataReads c =
    let r = c.in_ok-data-in-DataReads.ensures in
    rw (c.in-DataReads.is, c.with.ensures) (reads_pairs (read_turn (λ b. found (gives b)) _ (Ok c.in_ok-data-in-DataReads.data) r) r.no_pairs)

pub returns-in_err-data-in-DataReads : goal.returns-in_err-data-in-DataReads
returns-in_err-data-in-DataReads c =
    let r = c.in_err-data-in-DataReads.ensures in
    rw (exit _ _ c.from_residual.ensures.1, c.in-DataReads.is) (reads_pairs (read_turn (λ b. found (gives b)) _ (Err c.in_err-data-in-DataReads.field-0.0) r) r.no_pairs)
