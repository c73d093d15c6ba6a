-- Which record `set_mouse_id` leaves with which answer.
use Rattle.std.specs.Prelude.{ℕ, [], ◌∷◌, T}
use Rattle.exchange.specs.Answer.{gives, refuses}
use Rattle.exchange.specs.Left.{Left, left}
use Rattle.exchange.specs.Refuses.{among}
use Rattle.ps2_bytes.specs.declared.response.MouseId.{MouseId}
use Rattle.ps2_answers.specs.Refusals.{Success, success}
use Rattle.ps2_mouse.specs.declared.PS2Mouse.{PS2Mouse}

-- What it left of the record that was passed: any identity with success, and with 17; the one it
-- had with 13, 15 and 16. There is no other answer.
pub data Kept (mouse : PS2Mouse) : Left PS2Mouse Success → Type 0 where
  started : {id : MouseId} → Kept mouse (left (gives success) (record { id = id }))
  not_started : {id : MouseId} → Kept mouse (left (refuses 17) (record { id = id }))
  not_reached : {n : ℕ} → T (among n (13 ∷ 15 ∷ 16 ∷ [])) → Kept mouse (left (refuses n) mouse)
