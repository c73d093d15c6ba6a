-- `PS2Mouse::is_output_buffer_full` meets its contract: both bits of the status that was read.
use mathlib.Core.Bool.{Bool, false, ◌&&◌}
use mathlib.Core.List.{List}
use mathlib.Core.Path.{◌≡◌, ap, sym, ◌∙◌}
use Prim.Native.Nat.{ℕ}
use Rattle.std.specs.Prelude.{Ok}
use Rattle.bits.specs.Bits.{bit}
use Rattle.exchange.specs.Exchange.{Exchange, done, yields, Reads}
use Rattle.exchange.specs.Answer.{Answer, gives}
use Rattle.ps2_layouts.specs.declared.status.ControllerToHostStatus.{ControllerToHostStatus}
use Rattle.ps2_layouts.specs.Status.{second_port_output_full}
use Rattle.ps2_answers.specs.declared.Counted.{Counted}
use Rattle.ps2_answers.specs.Answers.{ended}
use Rattle.ps2_answers.proofs.Then.{exit}
use Rattle.ps2_answers.proofs.Reading.{read_first, read_first_stops, read_same, read_here}
use Rattle.ps2_ports.specs.Ports.{read_status}
use Rattle.ps2_mouse.specs.Mouse.{mouse_byte_waits, mouse_output_buffer_full}
use Rattle.ps2_mouse.proofs.PS2Mouse.is_output_buffer_full.Goals as goal
use Rattle.ps2_mouse.proofs.PS2Mouse.is_output_buffer_full.Goals.{then-waits, else-waits}

abbrev told : Bool → Exchange (Answer Bool)
told waits = done (gives waits)

abbrev on_status : ControllerToHostStatus → Exchange (Answer Bool)
on_status status = told (mouse_byte_waits status.bits)

seen : {s : List ℕ} (status : Counted ControllerToHostStatus) (waits : Bool) → Reads read_status s (ended (Ok status)) status.used status.pairs
    → mouse_byte_waits status.value.bits ≡ waits → Reads mouse_output_buffer_full s (yields (gives waits)) status.used status.pairs
unfolding mouse_output_buffer_full
seen status waits r q = read_here (read_same (read_first read_status on_status _ status r) (ap told q))

pub returns-in_err-status : goal.returns-in_err-status
unfolding mouse_output_buffer_full
returns-in_err-status c = rw (exit _ _ c.from_residual.ensures.1) (read_first_stops read_status on_status _ _ c.in_err-status.ensures)

pub returns : goal.returns
returns c =
    let status = c.in_ok-status.status in
    let second = (λ (b : Bool). b && bit second_port_output_full status.value.bits) in
    let full = c.output_buffer_full-waits.ensures in
    rw c.with.ensures
    (seen status _ c.in_ok-status.ensures
    (elim c.if-waits.branch [
      | then-waits w ↦ ap second (sym full ∙ w.if-waits.true) ∙ sym c.mouse_output_buffer_full-of_mouse.ensures ∙ sym w.with-is
      | else-waits w ↦
          let is = w.with-is in
          let no = w.if-waits.false in
          let none : c.if-waits.with ≡ false = cc in
          ap second (sym full ∙ no) ∙ sym none
    ]))
