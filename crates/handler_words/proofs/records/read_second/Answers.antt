-- `handler_words::records::read_second` meets its contract.
use mathlib.Core.Path.{refl}
use native.Mathlib.Omega.{arith}
use lib.ListN.{get_or}
use borrow.Author.Tests.{eq-eqb, ne_eqb}
use Rattle.handler_words.specs.Records.{holds_second}
use Rattle.handler_words.proofs.records.read_second.Goals as goal

pub returns-in-2 : goal.returns-in-2
unfolding holds_second
returns-in-2 c = rw (eq-eqb _ 2 c.in-2.is) c.read_keyboard.ensures

pub returns-in_default : goal.returns-in_default
unfolding holds_second
returns-in_default c = rw (ne_eqb (get_or c.args.words.now 10 0) 2 (λ z. omega (arith, z))) (refl, c.followed.ensures)
