-- The Rust's controller once it is initialised, and the devices that it lends.
use Rattle.std.specs.Prelude.{cond, Bool, true, false, Option, Some, None}
use Rattle.exchange.specs.Answer.{Answer, gives, refuses}
use Rattle.ps2_answers.specs.Refusals.{Success}
use Rattle.ps2_bytes.specs.declared.response.MouseId.{MouseId}
use Rattle.ps2_bytes.specs.declared.response.MouseId.TheVariants.{Zero}
use Rattle.ps2_mouse.specs.declared.PS2Mouse.{PS2Mouse as Mouse}
use Rattle.ps2_init.specs.declared.PS2Controller.{PS2Controller}
use Rattle.ps2_init.specs.Init.{with_devices}
use Rattle.theseus_ps2.specs.declared.PS2Controller.{PS2Controller as Rusts}
use Rattle.theseus_ps2.specs.declared.PS2Mouse.{PS2Mouse}

-- Whether there is something.
abbrev pub present : {A : Type 0} → Option A → Bool
present (Some a) = true
present None = false

-- The identity of the mouse that is lent, if one is: ours, and the Rust's.
abbrev pub identity : Option Mouse → Option MouseId
identity (Some m) = Some m.id
identity None = None

abbrev pub identity_lent : {H : Type 0} → Option (PS2Mouse H) → Option MouseId
identity_lent (Some m) = Some m.id
identity_lent None = None

-- A mouse of which nothing is known has identity 0.
abbrev pub lent_fresh : Bool → Option MouseId
lent_fresh attached = cond attached (Some Zero) None

-- What the Rust's `init` answers, with the flags that it leaves where it was successful.
abbrev pub ready : {H : Type 0} → Answer Success → Rusts H → Answer PS2Controller
ready (gives x) c = gives (with_devices c.keyboard_attached c.mouse_attached)
ready (refuses n) c = refuses n
