-- `MousePacketGeneric::wide_y_movement` meets its contract: by the overflow and the sign of y.
use mathlib.Core.Path.{◌∙◌}
use mir.Syntax.{w64}
use Rattle.ps2_packet.proofs.Signed.{returned}
use Rattle.ps2_packet.proofs.MousePacketGeneric.wide_y_movement.Goals as goal

pub returns : goal.returns
returns c = returned w64 c.moved.result c.moved.type_inv ∙ c.moved.ensures
