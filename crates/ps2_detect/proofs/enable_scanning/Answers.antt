-- `ps2_detect::enable_scanning` meets its contract: the command, and what was found before it where it is accepted.
use Prim.Native.Nat.{ℕ}
use mathlib.Core.List.{List}
use mathlib.Core.Path.{◌≡◌}
use Rattle.std.specs.Prelude.{Result, Ok, Err}
use Rattle.exchange.specs.Exchange.{Exchange, done, play}
use Rattle.exchange.specs.Answer.{Answer}
use Rattle.exchange.specs.Position.{Reached}
use Rattle.exchange.proofs.Position.{reached_done}
use Rattle.ps2_bytes.specs.declared.response.KeyboardType.{KeyboardType}
use Rattle.ps2_answers.specs.declared.Counted.{Counted}
use Rattle.ps2_answers.specs.declared.Failure.{Failure}
use Rattle.ps2_answers.specs.Refusals.{Success}
use Rattle.ps2_answers.specs.Answers.{told, concluded}
use Rattle.ps2_answers.proofs.Then.{exit, first_steps, first_stops}
use Rattle.ps2_kept.proofs.Contracts.{plays_forgets}
use Rattle.ps2_detect.specs.Answers.{said_found}
use Rattle.ps2_detect.proofs.enable_scanning.Goals as goal

given : {whole : Exchange (Answer KeyboardType)} {s l l' : List ℕ} (a : Counted Success) (o : Result KeyboardType Failure)
    → Reached whole s l (done (said_found o)) a.used a.pairs l' → told (concluded a o) l' ≡ play whole s l
given a (Ok t) at = reached_done at
given a (Err f) at = reached_done at

pub returns-in_err-accepted : goal.returns-in_err-accepted
returns-in_err-accepted c =
    rw (exit _ _ c.from_residual.ensures.1)
    (first_stops _ (λ _. done (said_found c.args.found)) _ _ c.in_err-accepted.field-0.0 (rw c.in_err-accepted.was at (plays_forgets _ c.command_to_keyboard-enabled.ensures)))

pub returns : goal.returns
returns c =
    rw c.conclude.ensures
    (given c.in_ok-accepted.accepted c.args.found
    (first_steps _ (λ _. done (said_found c.args.found)) _ _ c.in_ok-accepted.accepted (rw c.in_ok-accepted.was at (plays_forgets _ c.command_to_keyboard-enabled.ensures))))
