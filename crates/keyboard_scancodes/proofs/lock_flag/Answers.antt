-- `keyboard_scancodes::lock_flag` meets its contract: each arm has the flag of the lock of its code.
use mathlib.Core.Path.{sym}
use Rattle.bits.specs.Bits.{put_bit}
use Rattle.keyboard_scancodes.specs.FlagTable.{flag_table, is_of}
use Rattle.keyboard_scancodes.proofs.Untouched.{no_lock_flag}
use Rattle.keyboard_scancodes.proofs.lock_flag.Goals as goal

pub returns-in-58 : goal.returns-in-58
unfolding flag_table is_of put_bit
returns-in-58 c = rw c.in-58.is

pub returns-in-70 : goal.returns-in-70
unfolding flag_table is_of put_bit
returns-in-70 c = rw c.in-70.is

pub returns-in-69 : goal.returns-in-69
unfolding flag_table is_of put_bit
returns-in-69 c = rw c.in-69.is

pub returns-in_default : goal.returns-in_default
returns-in_default c =
    let n = c.in_default.in_default-own.rest in
    sym (no_lock_flag _ n.0.0.1 n.0.1 n.1)
