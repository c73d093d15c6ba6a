-- `keyboard_words::set_of` meets its contract: each arm is a row of the table, and the last arm is no row of it.
use mathlib.Core.Path.{sym}
use Rattle.bits.specs.Table.{decode}
use Rattle.bits.proofs.Table.{decode_missing}
use Rattle.keyboard_words.specs.Arguments.{set_numbers}
use Rattle.keyboard_words.proofs.set_of.Goals as goal

pub returns-in-1 : goal.returns-in-1
unfolding decode
returns-in-1 c = rw c.in-1.is

pub returns-in-2 : goal.returns-in-2
unfolding decode
returns-in-2 c = rw c.in-2.is

pub returns-in-3 : goal.returns-in-3
unfolding decode
returns-in-3 c = rw c.in-3.is

pub returns-in_default : goal.returns-in_default
returns-in_default c = sym (decode_missing _ _ (Unit {0}) set_numbers _ c.in_default.in_default-own.rest)
