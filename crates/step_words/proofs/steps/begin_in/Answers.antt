-- `begin_in` meets its contract.
use mathlib.Core.Path.{◌≡◌, ap, ◌∙◌}
use Rattle.std.specs.Prelude.{Some, get_or}
use Rattle.sessions.specs.Rounds.{past}
use Rattle.step_words.specs.Arguments.{operation_in}
use Rattle.step_words.proofs.steps.begin_in.Goals as goal

pub returns : goal.returns
unfolding past
returns c =
    let h : operation_in (get_or c.put_operation.new.fields 0 0) (get_or c.put_operation.new.fields 1 0) ≡ Some c.args.operation =
    ap (λ n. operation_in n (get_or c.put_operation.new.fields 1 0)) c.put_operation.ensures.number ∙ ap (operation_in c.args.number) c.put_operation.ensures.argument ∙ c.requires.operation in
    record {
      runs = c.go_on.ensures.formed;
      begins = λ p. (c.go_on.ensures.left c.args.operation p h c.replay-said.ensures).0;
      says = λ p. (c.go_on.ensures.left c.args.operation p h c.replay-said.ensures).1;
      kept = c.clear.ensures;
    }
