-- `moved` meets its contract: the ones are 255 or 0, and 256 or 0 is taken off, each by its bit.
use mathlib.Core.Path.{◌≡◌, ap, ◌∙◌}
use mathlib.Core.Bool.{cond}
use mir.Syntax.{w64}
use mir.Val.{to_z, of_z}
use mir.Facts.{to_z-of_z}
use lib.IntN.{pos}
use Rattle.bits.specs.Bits.{bit, weigh}
use Rattle.ps2_packet.proofs.Signed.{returned}
use Rattle.ps2_packet.proofs.Movement.{ones_over, sign_fits, less_taken, movement_fits}
use Rattle.ps2_packet.proofs.moved.Goals as goal

pub returns : goal.returns
returns c =
    let a = c.args in
    let over = bit a.overflow a.byte1 in
    let sign = bit a.bit9 a.byte1 in
    let low : to_z w64 (of_z w64 c.from-low.result) ≡ pos (cond over 255 a.bit1to8) =
    returned w64 c.from-low.result c.from-low.type_inv ∙ c.from-low.ensures ∙ ap pos (rw c.bit_of-ones.ensures (ones_over over a.bit1to8 c.ranges.bit1to8.fits)) in
    let ninth : to_z w64 (of_z w64 c.from.result) ≡ pos (weigh sign) = returned w64 c.from.result c.from.type_inv ∙ c.from.ensures ∙ ap pos c.bit_of.ensures in
    rw (low, ninth, to_z-of_z (sign_fits sign), less_taken sign (cond over 255 a.bit1to8)) (to_z-of_z (movement_fits over sign a.bit1to8 c.ranges.bit1to8.fits))
