-- `keyboard_modifiers::KeyboardModifiers::toggle` meets its contract: `^` goes bit by bit.
use native.Mathlib.Omega.{arith}
use Rattle.bits.proofs.Masks.{xor_bitwise}
use Rattle.keyboard_modifiers.proofs.KeyboardModifiers.toggle.Goals as goal

pub returns : goal.returns
returns c = let a = c.args in xor_bitwise 16 a.self.bits a.other.bits (omega arith) (omega arith)
