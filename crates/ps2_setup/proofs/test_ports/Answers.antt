-- `ps2_setup::test_ports` meets its contract: the first test, forgiven, then the second on what is left; one that passed is enough.
use Prim.Native.Nat.{ℕ, ◌*◌, ◌<◌, ◌^◌}
use native.Mathlib.Omega.{arith}
use mathlib.Core.Bool.{Bool, true, false, ◌||◌, true≢false}
use mathlib.Core.List.{List}
use mathlib.Core.Path.{◌≡◌, sym, ◌∙◌}
use lib.ListN.{length}
use Rattle.std.specs.Prelude.{Result, Ok, Err}
use Rattle.exchange.specs.Exchange.{Exchange, done, bind, play}
use Rattle.exchange.specs.Answer.{Answer, gives}
use Rattle.exchange.specs.Parts.{part, restored}
use Rattle.exchange.specs.Position.{Reached}
use Rattle.exchange.proofs.Position.{reached_same, reached_done}
use Rattle.ps2_bytes.specs.declared.command.HostToControllerCommand.TheVariants.{TestPort1}
use Rattle.ps2_answers.specs.declared.Counted.{Counted}
use Rattle.ps2_answers.specs.declared.Refusal.{Refusal}
use Rattle.ps2_answers.specs.Refusals.{Success}
use Rattle.ps2_answers.specs.Answers.{told, behind}
use Rattle.ps2_answers.proofs.Then.{exit, then_steps, then_stops}
use Rattle.ps2_polling.specs.Polling.{test_port}
use Rattle.ps2_setup.specs.declared.WorkingPorts.{WorkingPorts}
use Rattle.ps2_setup.specs.Answers.{Forgiven}
use Rattle.ps2_setup.specs.SetUp.{test_second, at_least_one, test_ports}
use Rattle.ps2_setup.proofs.Trials.{given_then, tried_steps, tried_stops}
use Rattle.ps2_setup.proofs.test_ports.Goals as goal
use Rattle.ps2_setup.proofs.test_ports.Goals.{then-first, else-first}

-- where it has come to when each port is tested
module _ (mouse : Bool) where
  abbrev second_test : Exchange (Answer Bool)
  second_test = bind (test_second mouse) (λ second. done (gives second))

  abbrev judged : Bool → Bool → Exchange (Answer WorkingPorts)
  judged first second = done (at_least_one first second)

  abbrev second_next : Bool → Exchange (Answer WorkingPorts)
  second_next first = bind (test_second mouse) (judged first)

  module _ (s l : List ℕ) (hs : length s < 2 ^ 64) (hl : length l < 2 ^ 64) (t : Result (Counted Success) (Counted Refusal)) {l₁ : List ℕ}
      (r : told t l₁ ≡ play (test_port TestPort1) s l) {first : Counted Bool} (f : Forgiven t (Ok first)) where
    at_first : Reached (test_ports mouse) s l (second_next first.value) first.used first.pairs l₁
    unfolding test_ports
    at_first = tried_steps (test_port TestPort1) second_next s l t r first f

    module _ (b : Result (Counted Bool) (Counted Refusal)) {m : List ℕ} (r₂ : told b m ≡ play second_test (part first.used s) (part (2 * first.pairs) l₁)) where
      at_second : {second : Counted Bool} → Ok second ≡ behind first b → Reached (test_ports mouse) s l (judged first.value second.value) second.used second.pairs (restored (2 * first.pairs) l₁ m)
      at_second {second} q = then_steps hs hl first second_test (judged first.value) (reached_same at_first (sym (given_then (test_second mouse) (judged first.value)))) b r₂ second q

      stops_second : (e : Counted Refusal) → Err e ≡ behind first b → told {T = WorkingPorts} (Err e) (restored (2 * first.pairs) l₁ m) ≡ play (test_ports mouse) s l
      stops_second e q = then_stops hs hl first second_test (judged first.value) (reached_same at_first (sym (given_then (test_second mouse) (judged first.value)))) b r₂ e q

pub returns-in_err-first : goal.returns-in_err-first
unfolding test_ports
returns-in_err-first c =
    rw (exit _ _ c.from_residual.ensures.1) (tried_stops (test_port TestPort1) (second_next c.args.has_mouse) _ _ _ c.test_port1.ensures _ c.in_err-first.ensures)

pub returns-in_err-second : goal.returns-in_err-second
returns-in_err-second c =
    rw (exit _ _ c.from_residual-in_err-second.ensures.1)
    (stops_second c.args.has_mouse _ _ (omega (arith, c.well_formed)) (omega (arith, c.well_formed)) _ c.test_port1.ensures c.in_ok-first.ensures _ c.test_second.ensures _ c.in_err-second.ensures)

pub returns-then-second : goal.returns-then-second
returns-then-second c =
    let q : (c.in_ok-first.first.value || c.in_ok-second.second.value) ≡ true =
    elim c.if-first.branch [
      | then-first w ↦ rw w.if-first.true
      | else-first w ↦ rw w.if-first.false (sym w.value-is ∙ c.if-second.true)
    ] in
    rw c.with.ensures
    (rw q at (reached_done (at_second c.args.has_mouse _ _ (omega (arith, c.well_formed)) (omega (arith, c.well_formed)) _ c.test_port1.ensures c.in_ok-first.ensures _ c.test_second.ensures c.in_ok-second.ensures)))

pub returns-else-second : goal.returns-else-second
returns-else-second c =
    let q : (c.in_ok-first.first.value || c.in_ok-second.second.value) ≡ false =
    elim c.if-first.branch [
      | then-first w ↦ absurd (true≢false (sym w.if-first.true ∙ sym w.value-is ∙ c.if-second.false))
      | else-first w ↦ rw w.if-first.false (sym w.value-is ∙ c.if-second.false)
    ] in
    rw c.with-else-second.ensures
    (rw q at (reached_done (at_second c.args.has_mouse _ _ (omega (arith, c.well_formed)) (omega (arith, c.well_formed)) _ c.test_port1.ensures c.in_ok-first.ensures _ c.test_second.ensures c.in_ok-second.ensures)))

pub slice_bounds-test_second-count : goal.slice_bounds-test_second-count
slice_bounds-test_second-count c = (at_first c.args.has_mouse _ _ (omega (arith, c.well_formed)) (omega (arith, c.well_formed)) _ c.test_port1.ensures c.in_ok-first.ensures).used_le

pub slice_bounds-test_second-start : goal.slice_bounds-test_second-start
slice_bounds-test_second-start c = (at_first c.args.has_mouse _ _ (omega (arith, c.well_formed)) (omega (arith, c.well_formed)) _ c.test_port1.ensures c.in_ok-first.ensures).used_le

pub overflow_mul-first : goal.overflow_mul-first
overflow_mul-first c =
    let at = at_first c.args.has_mouse _ _ (omega (arith, c.well_formed)) (omega (arith, c.well_formed)) _ c.test_port1.ensures c.in_ok-first.ensures in
    omega (arith, at.pairs_le, at.same_length, c.well_formed)

pub slice_bounds-test_second-count-2 : goal.slice_bounds-test_second-count-2
slice_bounds-test_second-count-2 c = (at_first c.args.has_mouse _ _ (omega (arith, c.well_formed)) (omega (arith, c.well_formed)) _ c.test_port1.ensures c.in_ok-first.ensures).pairs_le

pub slice_bounds-test_second-start-2 : goal.slice_bounds-test_second-start-2
slice_bounds-test_second-start-2 c = (at_first c.args.has_mouse _ _ (omega (arith, c.well_formed)) (omega (arith, c.well_formed)) _ c.test_port1.ensures c.in_ok-first.ensures).pairs_le
