-- `port_words::packet_words` meets its contract: by the answer. Each movement is read back from the bits that it was returned in.
use Prim.Native.Nat.{◌<◌, ◌^◌}
use mathlib.Core.Path.{◌≡◌}
use lib.IntN.{ℤ}
use lib.Signed.{mag}
use mir.Syntax.{Width, w8, w16, w32}
use mir.Val.{hbits, to_z, of_z}
use mir.Facts.{to_z-of_z}
use Rattle.port_words.proofs.packet_words.Goals as goal

returned : (w : Width) (z : ℤ) → mag z < 2 ^ hbits w → to_z w (of_z w z) ≡ z
returned w z h = to_z-of_z (record { sfits = h })

pub returns-in-Ok : goal.returns-in-Ok
returns-in-Ok c =
    rw (
      c.in-Ok.is,
      c.buttons.ensures,
      returned w32 c.from.result c.from.type_inv,
      c.from.ensures,
      returned w16 c.x_movement.result c.x_movement.type_inv,
      c.x_movement.ensures,
      returned w32 c.from-in-Ok.result c.from-in-Ok.type_inv,
      c.from-in-Ok.ensures,
      returned w16 c.y_movement.result c.y_movement.type_inv,
      c.y_movement.ensures,
      returned w32 c.from-in-Ok-2.result c.from-in-Ok-2.type_inv,
      c.from-in-Ok-2.ensures,
      returned w8 c.scroll_movement.result c.scroll_movement.type_inv,
      c.scroll_movement.ensures,
    )
