-- A mouse's identity is found by its number.
use mathlib.Core.Option.{some}
use mathlib.Core.Path.{◌≡◌, refl}
use Rattle.bits.specs.Table.{decode}
use Rattle.ps2_bytes.specs.Responses.{mouse_id_byte}
use Rattle.ps2_bytes.specs.declared.response.MouseId.{MouseId}
use Rattle.ps2_bytes.specs.declared.response.MouseId.TheVariants.{Zero, Three, Four}
use Rattle.argument_words.specs.Arguments.{identity_at}

pub identity_at_lem : (id : MouseId) → identity_at (mouse_id_byte id) ≡ some id
unfolding decode
identity_at_lem Zero = refl
identity_at_lem Three = refl
identity_at_lem Four = refl
