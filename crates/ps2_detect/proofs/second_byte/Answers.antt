-- `ps2_detect::second_byte` meets its contract: each arm is a row of the table, and the last arm is no row of it.
use mathlib.Core.Path.{sym}
use Rattle.bits.specs.Table.{decode}
use Rattle.bits.proofs.Table.{decode_missing}
use Rattle.ps2_detect.specs.Detection.{second_bytes}
use Rattle.ps2_detect.proofs.second_byte.Goals as goal

pub returns-in_default : goal.returns-in_default
returns-in_default c = sym (decode_missing _ _ (Unit {0}) second_bytes _ c.in_default.in_default-own.rest)

pub returns-in-65 : goal.returns-in-65
unfolding decode
returns-in-65 c = rw c.in-65.is

pub returns-in-193 : goal.returns-in-193
unfolding decode
returns-in-193 c = rw c.in-193.is

pub returns-in-131 : goal.returns-in-131
unfolding decode
returns-in-131 c = rw c.in-131.is
