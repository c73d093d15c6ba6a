-- `test_calls::devices::read_words` meets its contract: the wheel is the Rust's, read back from the bits that it was returned in, and the rest is the library's.
use Prim.Native.Nat.{◌<◌, ◌^◌}
use mathlib.Core.Path.{◌≡◌}
use lib.IntN.{ℤ}
use lib.Signed.{mag}
use mir.Syntax.{Width, w8, w32}
use mir.Val.{hbits, to_z, of_z}
use mir.Facts.{to_z-of_z}
use borrow.Author.Rules.{rules}
use Rattle.ps2_packet.specs.Packet.{wheel}
use Rattle.test_calls.proofs.devices.read_words.Goals as goal

returned : (w : Width) (z : ℤ) → mag z < 2 ^ hbits w → to_z w (of_z w z) ≡ z
returned w z h = to_z-of_z (record { sfits = h })

pub returns-in-Ok : goal.returns-in-Ok
returns-in-Ok c =
    let turned : to_z w32 (of_z w32 c.from.result) ≡ wheel c.in-Ok.packet.value =
    rw (returned w32 c.from.result c.from.type_inv, c.from.ensures, returned w8 c.scroll_movement.result c.scroll_movement.type_inv, c.scroll_movement.ensures)
    in
    rw turned (search rules)
