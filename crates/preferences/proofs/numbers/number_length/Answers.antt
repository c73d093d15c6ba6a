-- `preferences::numbers::number_length` meets its contract: each range of numbers has its count.
use mathlib.Core.Path.{sym}
use native.Mathlib.Omega.{arith}
use Rattle.preferences.proofs.Lengths.{length_last, two_bytes, three_bytes, four_bytes, five_bytes}
use Rattle.preferences.proofs.numbers.number_length.Goals as goal

pub returns-in-0-to-127 : goal.returns-in-0-to-127
returns-in-0-to-127 c = sym (length_last 4 c.args.number (omega arith))

pub returns-in-0-to-16383 : goal.returns-in-0-to-16383
returns-in-0-to-16383 c = sym (two_bytes c.args.number (omega arith) (omega arith))

pub returns-in-0-to-2097151 : goal.returns-in-0-to-2097151
returns-in-0-to-2097151 c = sym (three_bytes c.args.number (omega arith) (omega arith))

pub returns-in-0-to-268435455 : goal.returns-in-0-to-268435455
returns-in-0-to-268435455 c = sym (four_bytes c.args.number (omega arith) (omega arith))

pub returns-in_default : goal.returns-in_default
returns-in_default c = sym (five_bytes c.args.number (omega arith) (omega arith))
