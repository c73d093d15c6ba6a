-- `keyboard::handle_in_place` meets its contract: the places with the new event, or as they were.
use native.Mathlib.Omega.{arith}
use Rattle.keyboard_record.proofs.WellFormed.{WellFormed}
use Rattle.keyboard.specs.KeyboardLamps.{keyboard_lamps}
use Rattle.keyboard.proofs.Effects.{called_with_lem, queued_well}
use Rattle.keyboard.proofs.handle_in_place.Goals as goal
use Rattle.keyboard.proofs.handle_in_place.Goals.{In-Some, in-Some, in_default}

-- where there is a new event, the state was well formed
well : (c : In-Some) → WellFormed c.args.handler.now.state
well c =
    let x = c.handle_state-effect in
    queued_well keyboard_lamps _ _ _ _ x.result c.in-Some.is x.ensures.0

pub overflow_add-place : goal.overflow_add-place
overflow_add-place c = omega (arith, (well c).start_in, (well c).count_in)

pub returns : goal.returns
returns c =
    let x = c.handle_state-effect in (
      elim c.match-effect.branch [
        | in-Some w ↦ rw w.handler-is (called_with_lem keyboard_lamps _ _ _ c.args.handler.now x.result w.in-Some.is x.ensures.0)
        | in_default w ↦ rw w.handler-is (called_with_lem keyboard_lamps _ _ _ c.args.handler.now x.result w.in_default.is x.ensures.0)
      ],
      x.ensures.1,
    )
