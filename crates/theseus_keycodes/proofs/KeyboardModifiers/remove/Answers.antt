-- `theseus_keycodes::KeyboardModifiers::remove` meets its contract: it goes bit by bit.
use native.Mathlib.Omega.{arith}
use Rattle.bits.proofs.Masks.{and_not_bitwise}
use Rattle.theseus_keycodes.proofs.KeyboardModifiers.remove.Goals as goal

pub returns : goal.returns
returns c = let a = c.args in and_not_bitwise 16 a.self.now.bits a.other.bits (omega arith) (omega arith)
