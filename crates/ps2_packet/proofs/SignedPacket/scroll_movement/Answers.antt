-- `SignedPacket::scroll_movement` meets its contract: by the kind of packet.
use mathlib.Core.Path.{◌≡◌, refl, ◌∙◌}
use mathlib.Core.List.{[], ◌∷◌}
use mathlib.Core.Logic.{⊎_elim}
use native.Mathlib.Omega.{arith}
use mir.Syntax.{w8}
use types.Run.{OneOf}
use denote.Enum.Declared.{tag_of}
use Rattle.ps2_packet.specs.Packet.{wheel, signed_wheel}
use Rattle.ps2_packet.specs.declared.MousePacket.{MousePacket}
use Rattle.ps2_packet.specs.declared.MousePacket.TheVariants.{Zero, Three, Four}
use Rattle.ps2_packet.specs.contracts.MousePacket.{the_type}
use Rattle.ps2_packet.proofs.Signed.{returned}
use borrow.Enum.Refused.{opened}
use Rattle.ps2_packet.proofs.SignedPacket.scroll_movement.Goals as goal

-- the kinds that are left, identities 0 and 3
other : (p : MousePacket) → OneOf (0 ∷ 1 ∷ []) (tag_of the_type p) → wheel p ≡ signed_wheel p
other (Zero p) k = refl
other (Three p) k = refl
other (Four p) k = ⊎_elim (λ q. absurd (omega (arith, q))) (λ q. absurd (omega (arith, q))) k

pub returns-in_default : goal.returns-in_default
returns-in_default c = returned w8 c.scroll_movement.result c.scroll_movement.type_inv ∙ c.scroll_movement.ensures ∙ other c.args.self.packet (opened c.in_default.in_default-own.keys2)
