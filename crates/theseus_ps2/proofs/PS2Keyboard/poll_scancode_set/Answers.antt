-- `poll_scancode_set` meets its contract: each turn of the loop is one of the definition's repetition.
use native.Mathlib.Omega.{arith}
use mathlib.Core.Path.{sym, ap, ◌∙◌}
use Rattle.std.proofs.Common.{◌-◌, ◌+◌}
use Rattle.exchange.specs.Answer.{refuses}
use Rattle.ps2_bytes.specs.Data.{scancode_sets}
use Rattle.ps2_polling.specs.Polling.{poll}
use Rattle.ps2_command.specs.Search.{listed_turn}
use Rattle.theseus_ps2.specs.Hardware.{ran}
use Rattle.theseus_ps2.specs.Controller.{on_controller}
use Rattle.theseus_ps2.proofs.Run.{turns_over, turn_found, turn_again}
use Rattle.theseus_ps2.proofs.Detect.{keyboard_empty, keyboard_byte}
use Rattle.theseus_ps2.proofs.Packet.{worth_set}
use Rattle.theseus_ps2.proofs.PS2Keyboard.poll_scancode_set.Goals as goal
use Rattle.theseus_ps2.proofs.PS2Keyboard.poll_scancode_set.Goals.{then-is_output_buffer_full+in_default, else-is_output_buffer_full}

pub returns-in-Ok-clause-ran : goal.returns-in-Ok-clause-ran
returns-in-Ok-clause-ran g c =
    let d = on_controller g.H.Hardware.device in
    let i = c.is_output_buffer_full in
    turn_found d (65535 - (c.loop.counter + 1)) (refuses 11) (poll (listed_turn scancode_sets)) _ _ (omega arith)
    (ap (λ x. ran x c.read_data.new.self) (worth_set _ c.try_into.ensures c.in-Ok.is)
    ∙ keyboard_byte d (listed_turn scancode_sets) _ _ _ i.result c.read_data.result i.ensures.ran c.if-is_output_buffer_full.true c.read_data.ensures)
    ∙ sym c.loop.invariant.1

pub loop-preserved : goal.loop-preserved
loop-preserved g c =
    let d = on_controller g.H.Hardware.device in
    let i = c.is_output_buffer_full in
    elim c.if-is_output_buffer_full.branch [
      | then-is_output_buffer_full+in_default w ↦ rw w.self-is (
        i.ensures.same ∙ c.loop.invariant.0,
        c.loop.invariant.1 ∙ turn_again d (65535 - (c.loop.counter + 1)) (refuses 11) (poll (listed_turn scancode_sets)) _ _ (omega arith)
            (ap (λ x. ran x w.read_data.new.self) (worth_set _ w.try_into.ensures w.in_default.is)
            ∙ keyboard_byte d (listed_turn scancode_sets) _ _ _ i.result w.read_data.result i.ensures.ran w.if-is_output_buffer_full.true w.read_data.ensures),
      )
      | else-is_output_buffer_full w ↦ rw w.self-is (
        i.ensures.same ∙ c.loop.invariant.0,
        c.loop.invariant.1 ∙ turn_again d (65535 - (c.loop.counter + 1)) (refuses 11) (poll (listed_turn scancode_sets)) _ _ (omega arith)
            (keyboard_empty d (listed_turn scancode_sets) _ _ i.result i.ensures.ran w.if-is_output_buffer_full.false),
      )
    ]

pub returns-clause-ran : goal.returns-clause-ran
returns-clause-ran g c =
    turns_over (on_controller g.H.Hardware.device) (refuses 11) (poll (listed_turn scancode_sets)) _ (omega arith)
    ∙ sym c.loop.invariant.1
