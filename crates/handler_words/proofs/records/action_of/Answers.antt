-- `handler_words::records::action_of` meets its contract.
use mathlib.Core.Path.{refl}
use Prim.Native.Nat.{◌/◌, ◌%◌}
use native.Mathlib.Omega.{arith}
use borrow.Author.Tests.{eq-eqb, ne_eqb}
use Rattle.handler_words.specs.Words.{event_at}
use Rattle.handler_words.proofs.records.action_of.Goals as goal

pub returns-in-0 : goal.returns-in-0
unfolding event_at
returns-in-0 c = rw (eq-eqb _ 0 c.in-0.is) refl

pub returns-in_default : goal.returns-in_default
unfolding event_at
returns-in_default c = rw (ne_eqb (c.args.word / 256 % 256) 0 (λ z. omega (arith, z))) refl
