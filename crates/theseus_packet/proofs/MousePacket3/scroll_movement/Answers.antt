-- `scroll_movement` meets its contract: a byte read as a signed byte.
use mathlib.Core.Path.{ap, ◌∙◌}
use native.Mathlib.Omega.{arith}
use mir.Syntax.{w8}
use Prim.Native.Nat.{ℕ}
use Rattle.ps2_packet.specs.Signed.{twos_complement}
use Rattle.ps2_packet.proofs.Signed.{returned}
use Rattle.ps2_packet.proofs.Wheel.{signed_read}
use Rattle.theseus_packet.proofs.MousePacket3.scroll_movement.Goals as goal

pub returns : goal.returns
returns c =
    returned w8 c.cast_signed.result c.cast_signed.type_inv ∙ c.cast_signed.ensures
    ∙ signed_read c.z_movement.result (omega (arith, c.z_movement.type_inv))
    ∙ ap (λ (b : ℕ). twos_complement 8 b) c.z_movement.ensures
