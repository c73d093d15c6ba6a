-- `theseus_keycodes::KeyboardModifiers::intersects` meets its contract: a shared bit is a bit of `&`.
use native.Mathlib.Omega.{arith}
use Rattle.bits.proofs.Masks.{meet_mask}
use Rattle.theseus_keycodes.proofs.KeyboardModifiers.intersects.Goals as goal

pub returns : goal.returns
returns c = let a = c.args in meet_mask 16 a.self.now.bits a.other.bits (omega arith)
