-- `MousePacket4::signed_scroll_movement` meets its contract: less 16 where the topmost of the four bits is set.
use mathlib.Core.Path.{◌≡◌, sym, ◌∙◌}
use mathlib.Core.Bool.{true}
use Prim.Native.Nat.{◌%◌}
use lib.IntN.{pos}
use mir.Syntax.{w8}
use mir.Val.{to_z, of_z}
use mir.Facts.{to_z-of_z}
use Rattle.ps2_packet.proofs.Signed.{returned}
use Rattle.ps2_packet.proofs.Wheel.{four_less_fits}
use Rattle.ps2_packet.proofs.MousePacket4.signed_scroll_movement.Goals as goal
use Rattle.ps2_packet.proofs.MousePacket4.signed_scroll_movement.Goals.{After-scroll_movement-unsigned}

-- the four bits unsigned
read : (c : After-scroll_movement-unsigned) → to_z w8 (of_z w8 c.scroll_movement-unsigned.result) ≡ pos (c.args.self.byte4 % 16)
read c = returned w8 c.scroll_movement-unsigned.result c.scroll_movement-unsigned.type_inv ∙ c.scroll_movement-unsigned.ensures

pub overflow_sub-result : goal.overflow_sub-result
overflow_sub-result c =
    rw (read (goal.at.overflow_sub-result c).After-scroll_movement-unsigned) (four_less_fits true c.args.self.byte4)

pub returns-then-has : goal.returns-then-has
returns-then-has c = to_z-of_z (overflow_sub-result c) ∙ rw (read (goal.at.returns-then-has c).After-scroll_movement-unsigned, sym c.has.ensures ∙ c.if-has.true)
