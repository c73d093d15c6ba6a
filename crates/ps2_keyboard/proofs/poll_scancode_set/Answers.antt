-- `ps2_keyboard::poll_scancode_set` meets its contract: each turn of the loop is one poll of what is left.
use native.Mathlib.Omega.{arith}
use mathlib.Core.Path.{ap, ◌∙◌}
use Rattle.ps2_bytes.specs.Data.{scancode_sets}
use Rattle.ps2_answers.proofs.Then.{exit}
use Rattle.ps2_answers.proofs.Reading.{turns_over, turn_again, turn_found, turn_stops}
use Rattle.ps2_polling.proofs.Polls.{of_poll, poll_turn}
use Rattle.ps2_command.specs.Search.{listed_turn}
use Rattle.ps2_keyboard.proofs.Turns.{set_turn}
use Rattle.ps2_keyboard.proofs.poll_scancode_set.Goals as goal
use Rattle.ps2_keyboard.proofs.poll_scancode_set.Goals.{in-Some+in_default-try_from, in_default}

pub loop-polls-preserved : goal.loop-polls-preserved
loop-polls-preserved c =
    let worth = of_poll (listed_turn scancode_sets) in
    let r = c.poll_data.ensures in
    elim c.match-at.branch [
      | in-Some+in_default-try_from w ↦
          turn_again (omega (arith, c.well_formed)) c.loop-polls.at _ _ _ c.loop-polls.invariant worth _ (poll_turn (listed_turn scancode_sets) _ _ r) r.no_pairs _ c.in_ok-at.ensures _ (omega arith)
          (ap worth w.in-Some.is ∙ set_turn w.in-Some.b w.try_from.ensures w.in_default-try_from.is)
      | in_default w ↦
          turn_again (omega (arith, c.well_formed)) c.loop-polls.at _ _ _ c.loop-polls.invariant worth _ (poll_turn (listed_turn scancode_sets) _ _ r) r.no_pairs _ c.in_ok-at.ensures _ (omega arith)
          (ap worth w.in_default.is)
    ]

pub returns-then-polls-eq0 : goal.returns-then-polls-eq0
returns-then-polls-eq0 c = rw c.with.ensures (turns_over (omega (arith, c.well_formed)) c.loop-polls.at _ _ _ c.loop-polls.invariant (omega arith))

pub returns-in-Ok : goal.returns-in-Ok
returns-in-Ok c =
    let worth = of_poll (listed_turn scancode_sets) in
    let r = c.poll_data.ensures in
    rw c.with-in-Ok.ensures
    (turn_found (omega (arith, c.well_formed)) c.loop-polls.at _ _ _ c.loop-polls.invariant worth _ (poll_turn (listed_turn scancode_sets) _ _ r) r.no_pairs _ c.in_ok-at.ensures (omega arith)
    (ap worth c.in-Some.is ∙ set_turn c.in-Some.b c.try_from.ensures c.in-Ok.is))

pub returns-in_err-at : goal.returns-in_err-at
returns-in_err-at c =
    let worth = of_poll (listed_turn scancode_sets) in
    let r = c.poll_data.ensures in
    rw (exit _ _ c.from_residual.ensures.1)
    (turn_stops (omega (arith, c.well_formed)) c.loop-polls.at _ _ _ c.loop-polls.invariant worth _ (poll_turn (listed_turn scancode_sets) _ _ r) r.no_pairs _ c.in_err-at.ensures (omega arith))
