-- `mouse_resolution` meets its contract: two commands, whose refusals are all 15.
use mathlib.Core.Path.{◌≡◌, sym, ◌∙◌}
use Rattle.std.proofs.Common.{rules}
use Rattle.std.specs.Prelude.{codes}
use Rattle.exchange.specs.Answer.{and_then}
use Rattle.ps2_answers.specs.Refusals.{Success}
use Rattle.ps2_bytes.specs.declared.command.HostToMouseCommand.TheVariants as Command
use Rattle.ps2_bytes.specs.declared.writable.HostToMouseCommandOrData.TheVariants as Byte
use Rattle.ps2_mouse.specs.Mouse.{mouse_command, command_to_mouse, set_resolution}
use Rattle.theseus_ps2.specs.Hardware.{ran, run}
use Rattle.theseus_ps2.specs.Messages.{said}
use Rattle.theseus_ps2.specs.Controller.{on_controller}
use Rattle.theseus_ps2.proofs.Run.{steps, stops, refused_as}
use Rattle.theseus_ps2.proofs.PS2Mouse.mouse_resolution.Goals as goal
use Rattle.theseus_ps2.proofs.PS2Mouse.mouse_resolution.Goals.{in-Ok, in-Err}

pub returns-in-Ok-outcome-clause-ran : goal.returns-in-Ok-outcome-clause-ran
unfolding set_resolution
returns-in-Ok-outcome-clause-ran g c =
    let d = on_controller g.H.Hardware.device in
    let both : ran (said c.match-command_to_mouse.outcome) c.match-command_to_mouse.self.controller.now
    ≡ run d (and_then (mouse_command Command.SetResolution) (λ (_ : Success). command_to_mouse (Byte.MouseResolution c.args.value))) c.args.self.now.controller.now =
    elim c.match-command_to_mouse.branch [
      | in-Ok w ↦
          let e : ran (said w.f+m-outcome.result) c.match-command_to_mouse.self.controller.now ≡ run d (command_to_mouse (Byte.MouseResolution c.args.value)) c.command_to_mouse.new.self.controller.now = search rules in
          rw w.outcome-is (e ∙ sym (steps d (mouse_command Command.SetResolution) (λ (_ : Success). command_to_mouse (Byte.MouseResolution c.args.value)) _ _ w.in-Ok.ensures.ran))
      | in-Err w ↦ rw (w.outcome-is, w.self-is) (stops d (mouse_command Command.SetResolution) (λ (_ : Success). command_to_mouse (Byte.MouseResolution c.args.value)) _ _ w.in-Err.ensures.ran)
    ] in
    refused_as d 15 _ _ _ (rw c.in-Ok-outcome.is at both)

pub returns-in-Err-outcome-clause-ran : goal.returns-in-Err-outcome-clause-ran
unfolding set_resolution
returns-in-Err-outcome-clause-ran g c =
    let d = on_controller g.H.Hardware.device in
    let t : c.f+m2.result.now ≡ codes "failed to set the mouse resolution" = search rules in
    let both : ran (said c.match-command_to_mouse.outcome) c.match-command_to_mouse.self.controller.now
    ≡ run d (and_then (mouse_command Command.SetResolution) (λ (_ : Success). command_to_mouse (Byte.MouseResolution c.args.value))) c.args.self.now.controller.now =
    elim c.match-command_to_mouse.branch [
      | in-Ok w ↦
          let e : ran (said w.f+m-outcome.result) c.match-command_to_mouse.self.controller.now ≡ run d (command_to_mouse (Byte.MouseResolution c.args.value)) c.command_to_mouse.new.self.controller.now = search rules in
          rw w.outcome-is (e ∙ sym (steps d (mouse_command Command.SetResolution) (λ (_ : Success). command_to_mouse (Byte.MouseResolution c.args.value)) _ _ w.in-Ok.ensures.ran))
      | in-Err w ↦ rw (w.outcome-is, w.self-is) (stops d (mouse_command Command.SetResolution) (λ (_ : Success). command_to_mouse (Byte.MouseResolution c.args.value)) _ _ w.in-Err.ensures.ran)
    ] in
    rw t (refused_as d 15 _ _ _ (rw c.in-Err-outcome.is at both))
