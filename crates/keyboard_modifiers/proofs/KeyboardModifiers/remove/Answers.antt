-- `keyboard_modifiers::KeyboardModifiers::remove` meets its contract: `&` with the complement goes bit by bit.
use native.Mathlib.Omega.{arith}
use Rattle.bits.proofs.Masks.{and_not_bitwise}
use Rattle.keyboard_modifiers.proofs.KeyboardModifiers.remove.Goals as goal

pub returns : goal.returns
returns c = let a = c.args in and_not_bitwise 16 a.self.bits a.other.bits (omega arith) (omega arith)
