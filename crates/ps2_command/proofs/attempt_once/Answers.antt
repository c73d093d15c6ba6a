-- `ps2_command::attempt_once` meets its contract: a response is judged, a refusal settles the command.
use Rattle.ps2_answers.proofs.Then.{exit}
use Rattle.ps2_command.proofs.Attempts.{attempt_concluded, attempt_refused}
use Rattle.ps2_command.proofs.attempt_once.Goals as goal

pub returns-in_err-response : goal.returns-in_err-response
returns-in_err-response c = rw (exit _ _ c.from_residual.ensures.1) (attempt_refused _ _ _ _ _ _ c.in_err-response.ensures.plays)

pub returns : goal.returns
returns c = rw c.conclude.ensures (attempt_concluded _ _ _ _ _ _ c.verdict.result c.in_ok-response.ensures.plays c.verdict.ensures)
