-- `theseus_keycodes::KeyboardModifiers::insert` meets its contract: it goes bit by bit.
use native.Mathlib.Omega.{arith}
use Rattle.bits.proofs.Masks.{or_bitwise}
use Rattle.theseus_keycodes.proofs.KeyboardModifiers.insert.Goals as goal

pub returns : goal.returns
returns c = let a = c.args in or_bitwise 16 a.self.now.bits a.other.bits (omega arith) (omega arith)
