-- `handler_words::second_in` meets its contract.
use mathlib.Core.Path.{sym, ◌∙◌}
use native.Mathlib.Omega.{arith}
use Rattle.handler_words.proofs.Passing.{second_passes, said_two, fresh_second, lent_second}
use Rattle.handler_words.proofs.second_in.Goals as goal

pub keyboard_in-requires : goal.keyboard_in-requires
keyboard_in-requires c = second_passes c.args.words.now c.requires (said_two _ (sym c.keyboards_of.ensures ∙ c.in-Two.is))

pub returns-in-One : goal.returns-in-One
returns-in-One c = fresh_second c.args.words.now c.keyboards_of.ensures c.followed.ensures c.in-One.is (omega arith)

pub returns-in-Two : goal.returns-in-Two
returns-in-Two c = lent_second c.args.words.now c.keyboards_of.ensures c.keyboard_in.ensures c.in-Two.is (omega arith)
