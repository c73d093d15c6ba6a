-- `MousePacket3::scroll_movement` meets its contract: a byte read as a signed byte.
use mathlib.Core.Path.{◌∙◌}
use native.Mathlib.Omega.{arith}
use mir.Syntax.{w8}
use Rattle.ps2_packet.proofs.Signed.{returned}
use Rattle.ps2_packet.proofs.Wheel.{signed_read}
use Rattle.ps2_packet.proofs.MousePacket3.scroll_movement.Goals as goal

pub returns : goal.returns
returns c = returned w8 c.cast_signed.result c.cast_signed.type_inv ∙ c.cast_signed.ensures ∙ signed_read c.args.self.byte4 (omega (arith, c.well_formed))
