-- `keyboard_modifiers::KeyboardModifiers::insert` meets its contract: `|` goes bit by bit.
use native.Mathlib.Omega.{arith}
use Rattle.bits.proofs.Masks.{or_bitwise}
use Rattle.keyboard_modifiers.proofs.KeyboardModifiers.insert.Goals as goal

pub returns : goal.returns
returns c = let a = c.args in or_bitwise 16 a.self.bits a.other.bits (omega arith) (omega arith)
