-- 11 of a mouse: F2 was accepted, and then none of 65,535 polls brought an identity.
use Prim.Native.Nat.{ℕ}
use mathlib.Core.List.{List}
use mathlib.Core.Path.{◌≡◌}
use Rattle.exchange.specs.Exchange.{yields, play}
use Rattle.exchange.specs.Answer.{gives, refuses}
use Rattle.exchange.specs.Repeat.{again}
use Rattle.exchange.specs.Search.{Search, script_after, log_after}
use Rattle.exchange.proofs.Search.{then_refuses}
use Rattle.ps2_bytes.specs.declared.command.HostToMouseCommand.TheVariants.{GetDeviceID}
use Rattle.ps2_bytes.specs.declared.writable.HostToMouseCommandOrData.TheVariants.{MouseCommand}
use Rattle.ps2_bytes.specs.Responses.{mouse_ids}
use Rattle.ps2_polling.specs.Polling.{poll_limit}
use Rattle.ps2_answers.specs.Refusals.{success}
use Rattle.ps2_command.specs.Search.{listed_turn, PollBrings}
use Rattle.ps2_command.proofs.Refuses.{command_refusals}
use Rattle.ps2_command.proofs.Reset.{the_success}
use Rattle.ps2_command.proofs.Search.{listed_refuses}
use Rattle.ps2_mouse.specs.Mouse.{mouse_command, mouse_byte_waits, mouse_id}
use Rattle.ps2_mouse.proofs.Refuses.{refuses_command_to_mouse}

pub mouse_id_refuses : (s l : List ℕ) → (play mouse_id s l).end ≡ yields (refuses 11)
    → ((play (mouse_command GetDeviceID) s l).end ≡ yields (gives success))
    × (rest : List ℕ) × Search (PollBrings mouse_byte_waits (listed_turn mouse_ids)) poll_limit again (script_after (mouse_command GetDeviceID) s l) rest
unfolding mouse_id
mouse_id_refuses s l h =
    let t = mouse_command GetDeviceID in
    let z = then_refuses t _ s l command_refusals (refuses_command_to_mouse (MouseCommand GetDeviceID)) 11 (λ x. x) h in (
      rw (the_success z.0) at z.1.before,
      _,
      listed_refuses mouse_byte_waits mouse_ids 11 poll_limit (script_after t s l) (log_after t s l) z.1.after,
    )
