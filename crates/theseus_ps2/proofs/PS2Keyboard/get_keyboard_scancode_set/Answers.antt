-- `get_keyboard_scancode_set` meets its contract: two commands, then what is polled for.
use mathlib.Core.Path.{◌≡◌, sym, ◌∙◌}
use Rattle.std.proofs.Common.{rules}
use Rattle.ps2_answers.specs.Refusals.{Success}
use Rattle.ps2_bytes.specs.declared.command.HostToKeyboardCommand.TheVariants as Command
use Rattle.ps2_bytes.specs.declared.writable.HostToKeyboardCommandOrData.TheVariants as Byte
use Rattle.ps2_bytes.specs.declared.data.ScancodeSet.TheVariants as Set
use Rattle.ps2_keyboard.specs.Keyboard.{keyboard_command, command_to_keyboard, command_scancode_set, get_scancode_set}
use Rattle.theseus_ps2.specs.Hardware.{ran, run}
use Rattle.theseus_ps2.specs.Messages.{said}
use Rattle.theseus_ps2.specs.Controller.{on_controller}
use Rattle.ps2_keyboard.specs.Parts.{set_search}
use Rattle.theseus_ps2.proofs.Run.{steps, stops}
use Rattle.theseus_ps2.proofs.PS2Keyboard.get_keyboard_scancode_set.Goals as goal
use Rattle.theseus_ps2.proofs.PS2Keyboard.get_keyboard_scancode_set.Goals.{in-Ok, in-Err, in-Ok-2, in-Err-2}

pub returns-in-Ok-outcome-clause-ran : goal.returns-in-Ok-outcome-clause-ran
unfolding get_scancode_set command_scancode_set command_to_keyboard
returns-in-Ok-outcome-clause-ran g c =
    let d = on_controller g.H.Hardware.device in
    let one : ran (said c.match-command_to_keyboard.t-18) c.match-command_to_keyboard.self.controller.now ≡ run d (command_scancode_set Set.Get) c.args.self.now.controller.now =
    elim c.match-command_to_keyboard.branch [
      | in-Ok w ↦
          let e : ran (said w.f+m.result) c.match-command_to_keyboard.self.controller.now ≡ run d (command_to_keyboard (Byte.ScancodeSet Set.Get)) c.command_to_keyboard.new.self.controller.now = search rules in
          rw w.t-18-is (e ∙ sym (steps d (keyboard_command Command.ScancodeSet) (λ (_ : Success). command_to_keyboard (Byte.ScancodeSet Set.Get)) _ _ w.in-Ok.ensures.ran))
      | in-Err w ↦ rw (w.t-18-is, w.self-is) (stops d (keyboard_command Command.ScancodeSet) (λ (_ : Success). command_to_keyboard (Byte.ScancodeSet Set.Get)) _ _ w.in-Err.ensures.ran)
    ] in
    let two : ran (said c.match-this.outcome) c.match-this.self.controller.now ≡ run d get_scancode_set c.args.self.now.controller.now =
    elim c.match-this.branch [
      | in-Ok-2 w ↦
          let e : ran (said w.f+m2-outcome.result) c.match-this.self.controller.now ≡ run d set_search c.match-command_to_keyboard.self.controller.now = search rules in
          rw w.outcome-is (e ∙ sym (steps d (command_scancode_set Set.Get) (λ (_ : Success). set_search) _ _ (rw w.in-Ok-2.is at one)))
      | in-Err-2 w ↦ rw (w.outcome-is, w.self-is) (stops d (command_scancode_set Set.Get) (λ (_ : Success). set_search) _ _ (rw w.in-Err-2.is at one))
    ] in
    rw c.in-Ok-outcome.is at two

pub returns-in-Err-outcome-clause-ran : goal.returns-in-Err-outcome-clause-ran
unfolding get_scancode_set command_scancode_set command_to_keyboard
returns-in-Err-outcome-clause-ran g c =
    let d = on_controller g.H.Hardware.device in
    let t : c.f+m3.result ≡ c.in-Err-outcome.e = search rules in
    let one : ran (said c.match-command_to_keyboard.t-18) c.match-command_to_keyboard.self.controller.now ≡ run d (command_scancode_set Set.Get) c.args.self.now.controller.now =
    elim c.match-command_to_keyboard.branch [
      | in-Ok w ↦
          let e : ran (said w.f+m.result) c.match-command_to_keyboard.self.controller.now ≡ run d (command_to_keyboard (Byte.ScancodeSet Set.Get)) c.command_to_keyboard.new.self.controller.now = search rules in
          rw w.t-18-is (e ∙ sym (steps d (keyboard_command Command.ScancodeSet) (λ (_ : Success). command_to_keyboard (Byte.ScancodeSet Set.Get)) _ _ w.in-Ok.ensures.ran))
      | in-Err w ↦ rw (w.t-18-is, w.self-is) (stops d (keyboard_command Command.ScancodeSet) (λ (_ : Success). command_to_keyboard (Byte.ScancodeSet Set.Get)) _ _ w.in-Err.ensures.ran)
    ] in
    let two : ran (said c.match-this.outcome) c.match-this.self.controller.now ≡ run d get_scancode_set c.args.self.now.controller.now =
    elim c.match-this.branch [
      | in-Ok-2 w ↦
          let e : ran (said w.f+m2-outcome.result) c.match-this.self.controller.now ≡ run d set_search c.match-command_to_keyboard.self.controller.now = search rules in
          rw w.outcome-is (e ∙ sym (steps d (command_scancode_set Set.Get) (λ (_ : Success). set_search) _ _ (rw w.in-Ok-2.is at one)))
      | in-Err-2 w ↦ rw (w.outcome-is, w.self-is) (stops d (command_scancode_set Set.Get) (λ (_ : Success). set_search) _ _ (rw w.in-Err-2.is at one))
    ] in
    rw t (rw c.in-Err-outcome.is at two)
