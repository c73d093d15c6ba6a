-- `ps2_detect::poll_keyboard_type` meets its contract: each turn of a loop is one poll of what is left, of the outer search or of the inner one.
use native.Mathlib.Omega.{arith}
use borrow.Author.Tests.{eq-eqb, ne_eqb}
use mathlib.Core.Path.{ap, ◌∙◌}
use Rattle.exchange.specs.Exchange.{yields}
use Rattle.exchange.proofs.Reading.{read_to_done}
use Rattle.exchange.proofs.ReadingThen.{read_to_then_over, read_to_then_again, read_to_then_found, read_to_then_end}
use Rattle.ps2_answers.specs.Answers.{turn_end}
use Rattle.ps2_answers.proofs.Then.{exit}
use Rattle.ps2_answers.proofs.Reading.{read_start, reads_pairs, read_brought, read_stopped, turns_over, turn_again, turn_found, turn_stops}
use Rattle.ps2_polling.specs.Polling.{polled}
use Rattle.ps2_polling.proofs.Polls.{of_poll, poll_turn}
use Rattle.ps2_polling.proofs.Brought.{brings, poll_brings, poll_lacks}
use Rattle.ps2_command.specs.Search.{listed_turn}
use Rattle.ps2_detect.specs.Detection.{first_turn, outer_search, second_bytes, inner_search, type_search}
use Rattle.ps2_detect.proofs.Turns.{second_turn, first_00, first_ab, first_other}
use Rattle.ps2_detect.proofs.poll_keyboard_type.Goals as goal
use Rattle.ps2_detect.proofs.poll_keyboard_type.Goals.{in-Some+else-first-eq-ANCIENT+else-first, in_default, in-Some-value+in_default-second_byte, in_default-value}

-- ---- the outer search

pub outer-init : goal.outer-init
unfolding type_search outer_search
outer-init c = rw c.new-at.ensures (read_start _ _)

pub outer-preserved : goal.outer-preserved
outer-preserved c =
    let at = c.outer.invariant in
    let r = c.poll_data.ensures in
    let k = read_brought (omega (arith, c.well_formed)) c.outer.at at _ r _ c.in_ok-at.ensures in
    elim c.match-at.branch [
      | in-Some+else-first-eq-ANCIENT+else-first w ↦ rw k.used
          (record {
            to = read_to_then_again _ _ _ _ at.to (poll_brings first_turn _ c.in_ok-at.at.value (rw (ap (turn_end polled) k.is) at r)) _ (omega arith)
                (ap (λ t. yields t) (ap (brings first_turn) w.in-Some.is ∙ first_other w.in-Some.first (ne_eqb _ _ w.if-first-eq-ANCIENT.false) (ne_eqb _ _ w.if-first.false)));
            no_pairs = omega (arith, k.pairs, at.no_pairs, r.no_pairs);
          })
      | in_default w ↦ rw k.used
          (record {
            to = read_to_then_again _ _ _ _ at.to (poll_brings first_turn _ c.in_ok-at.at.value (rw (ap (turn_end polled) k.is) at r)) _ (omega arith) (ap (λ t. yields t) (ap (brings first_turn) w.in_default.is));
            no_pairs = omega (arith, k.pairs, at.no_pairs, r.no_pairs);
          })
    ]

pub returns-then-polls-eq0 : goal.returns-then-polls-eq0
returns-then-polls-eq0 c =
    rw c.with.ensures (reads_pairs (read_to_done (read_to_then_over _ _ _ _ c.outer.invariant.to (omega arith))) c.outer.invariant.no_pairs)

pub returns-then-first-eq-ANCIENT : goal.returns-then-first-eq-ANCIENT
returns-then-first-eq-ANCIENT c =
    let at = c.outer.invariant in
    let r = c.poll_data.ensures in
    let k = read_brought (omega (arith, c.well_formed)) c.outer.at at _ r _ c.in_ok-at.ensures in
    rw (c.with-then-first-eq-ANCIENT.ensures, k.used)
    (reads_pairs (read_to_done (read_to_then_found _ _ _ _ at.to (poll_brings first_turn _ c.in_ok-at.at.value (rw (ap (turn_end polled) k.is) at r)) (omega arith)
    (ap (λ t. yields t) (ap (brings first_turn) c.in-Some.is ∙ first_00 c.in-Some.first (eq-eqb _ _ c.if-first-eq-ANCIENT.true))))) (omega (arith, k.pairs, at.no_pairs, r.no_pairs)))

pub returns-in_err-at : goal.returns-in_err-at
returns-in_err-at c =
    let at = c.outer.invariant in
    let r = c.poll_data.ensures in
    let k = read_stopped (omega (arith, c.well_formed)) c.outer.at at _ r _ c.in_err-at.ensures in
    rw (exit _ _ c.from_residual.ensures.1, k.used)
    (reads_pairs (read_to_then_end _ _ _ _ at.to (poll_lacks first_turn _ c.in_err-at.field-0.0.value (rw (ap (turn_end polled) k.is) at r)) (omega arith)) (omega (arith, k.pairs, at.no_pairs, r.no_pairs)))

-- ---- the inner search, which AB starts

pub loop-inner_polls-init : goal.loop-inner_polls-init
unfolding inner_search
loop-inner_polls-init c =
    let at = c.outer.invariant in
    let r = c.poll_data.ensures in
    let k = read_brought (omega (arith, c.well_formed)) c.outer.at at _ r _ c.in_ok-at.ensures in
    rw k.used
    (record {
      to = read_to_then_found _ _ _ _ at.to (poll_brings first_turn _ c.in_ok-at.at.value (rw (ap (turn_end polled) k.is) at r)) (omega arith)
          (ap (λ t. yields t) (ap (brings first_turn) c.in-Some.is ∙ first_ab c.in-Some.first (ne_eqb _ _ c.if-first-eq-ANCIENT.false) (eq-eqb _ _ c.if-first.true)));
      no_pairs = omega (arith, k.pairs, at.no_pairs, r.no_pairs);
    })

pub loop-inner_polls-preserved : goal.loop-inner_polls-preserved
loop-inner_polls-preserved c =
    let worth = of_poll (listed_turn second_bytes) in
    let r = c.poll_data-in-loop-inner_polls.ensures in
    elim c.match-at-2.branch [
      | in-Some-value+in_default-second_byte w ↦
          turn_again (omega (arith, c.well_formed)) c.loop-inner_polls.at _ _ _ c.loop-inner_polls.invariant worth _ (poll_turn (listed_turn second_bytes) _ _ r) r.no_pairs _ c.in_ok-at-2.ensures _ (omega arith)
          (ap worth w.in-Some-value.is ∙ second_turn w.in-Some-value.second w.second_byte.ensures w.in_default-second_byte.is)
      | in_default-value w ↦
          turn_again (omega (arith, c.well_formed)) c.loop-inner_polls.at _ _ _ c.loop-inner_polls.invariant worth _ (poll_turn (listed_turn second_bytes) _ _ r) r.no_pairs _ c.in_ok-at-2.ensures _ (omega arith)
          (ap worth w.in_default-value.is)
    ]

pub returns-then-inner_polls-eq0 : goal.returns-then-inner_polls-eq0
returns-then-inner_polls-eq0 c = rw c.with-then-inner_polls-eq0.ensures (turns_over (omega (arith, c.well_formed)) c.loop-inner_polls.at _ _ _ c.loop-inner_polls.invariant (omega arith))

pub returns-in-Some-second_byte : goal.returns-in-Some-second_byte
returns-in-Some-second_byte c =
    let worth = of_poll (listed_turn second_bytes) in
    let r = c.poll_data-in-loop-inner_polls.ensures in
    rw c.with-in-Some-second_byte.ensures
    (turn_found (omega (arith, c.well_formed)) c.loop-inner_polls.at _ _ _ c.loop-inner_polls.invariant worth _ (poll_turn (listed_turn second_bytes) _ _ r) r.no_pairs _ c.in_ok-at-2.ensures (omega arith)
    (ap worth c.in-Some-value.is ∙ second_turn c.in-Some-value.second c.second_byte.ensures c.in-Some-second_byte.is))

pub returns-in_err-at-2 : goal.returns-in_err-at-2
returns-in_err-at-2 c =
    let worth = of_poll (listed_turn second_bytes) in
    let r = c.poll_data-in-loop-inner_polls.ensures in
    rw (exit _ _ c.from_residual-in_err-at-2.ensures.1)
    (turn_stops (omega (arith, c.well_formed)) c.loop-inner_polls.at _ _ _ c.loop-inner_polls.invariant worth _ (poll_turn (listed_turn second_bytes) _ _ r) r.no_pairs _ c.in_err-at-2.ensures (omega arith))
