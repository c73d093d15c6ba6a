-- What a script brings to a reset: an AA of its own, or none.
use Rattle.std.specs.Prelude.{ℕ, List, ◌≡◌}
use Rattle.exchange.specs.Exchange.{Exchange, yields, play}
use Rattle.exchange.specs.Answer.{Answer, gives}
use Rattle.exchange.specs.Repeat.{found, again}
use Rattle.exchange.specs.Search.{Search, script_after}
use Rattle.ps2_answers.specs.Refusals.{success, Success}
use Rattle.ps2_command.specs.Search.{self_test_turn, DataBrings}

-- The command FF was accepted, and after all the bytes that
-- it used, AA came with one of n data reads.
pub record OwnAA (ff : Exchange (Answer Success)) (n : ℕ) (script log : List ℕ) : Type 0 where
  pub command : (play ff script log).end ≡ yields (gives success)
  pub rest : List ℕ
  pub further : Search (DataBrings self_test_turn) n (found (gives success))
      (script_after ff script log) rest

-- The command FF was accepted, and after all the bytes that it used, n data reads brought no AA.
pub record NoAA (ff : Exchange (Answer Success)) (n : ℕ) (script log : List ℕ) : Type 0 where
  pub command : (play ff script log).end ≡ yields (gives success)
  pub rest : List ℕ
  pub none : Search (DataBrings self_test_turn) n again (script_after ff script log) rest
