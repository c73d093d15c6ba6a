-- `ps2_init::reset_devices` meets its contract: both resets, forgiven, and the last read, each on what is left.
use Prim.Native.Nat.{ℕ, ◌*◌, ◌<◌, ◌^◌}
use native.Mathlib.Omega.{arith}
use mathlib.Core.Bool.{Bool}
use mathlib.Core.List.{List}
use mathlib.Core.Path.{◌≡◌}
use lib.ListN.{length}
use Rattle.std.specs.Prelude.{Result, Ok}
use Rattle.exchange.specs.Exchange.{Exchange, done, bind, play}
use Rattle.exchange.specs.Answer.{Answer, gives}
use Rattle.exchange.specs.Refuses.{succeeds}
use Rattle.exchange.specs.Parts.{part, restored}
use Rattle.exchange.specs.Position.{Reached}
use Rattle.ps2_answers.specs.declared.Counted.{Counted}
use Rattle.ps2_answers.specs.declared.Refusal.{Refusal}
use Rattle.ps2_answers.specs.Refusals.{Success}
use Rattle.ps2_answers.specs.Answers.{told, behind}
use Rattle.ps2_answers.proofs.Then.{exit, then_steps, then_stops, given_here}
use Rattle.ps2_ports.specs.Ports.{read_config}
use Rattle.ps2_keyboard.specs.Keyboard.{reset_keyboard}
use Rattle.ps2_mouse.specs.Mouse.{reset_mouse}
use Rattle.ps2_setup.specs.Answers.{Forgiven}
use Rattle.ps2_setup.proofs.Trials.{tried_steps, tried_stops, tried_then_steps, tried_then_stops}
use Rattle.ps2_init.specs.declared.PS2Controller.{PS2Controller}
use Rattle.ps2_init.specs.Init.{with_devices, reset_devices, read_last}
use Rattle.ps2_init.proofs.Resets.{resets_then}
use Rattle.ps2_init.proofs.reset_devices.Goals as goal

-- what follows each reset
abbrev mouse_next : Bool → Bool → Exchange (Answer PS2Controller)
mouse_next keyboard mouse = read_last (with_devices keyboard mouse)

abbrev keyboard_next : Bool → Exchange (Answer PS2Controller)
keyboard_next keyboard = bind (succeeds reset_mouse) (mouse_next keyboard)

-- where it has come to after each
module _ (s l : List ℕ) (hs : length s < 2 ^ 64) (hl : length l < 2 ^ 64) (k : Result (Counted Success) (Counted Refusal)) {l₁ : List ℕ} (r : told k l₁ ≡ play reset_keyboard s l)
    {keyboard : Counted Bool} (f : Forgiven k (Ok keyboard)) where
  at_keyboard : Reached (bind reset_devices read_last) s l (keyboard_next keyboard.value) keyboard.used keyboard.pairs l₁
  at_keyboard = rw (resets_then read_last) (tried_steps reset_keyboard keyboard_next s l k r keyboard f)

  module _ (m : Result (Counted Success) (Counted Refusal)) {l₂ : List ℕ} (r₂ : told m l₂ ≡ play reset_mouse (part keyboard.used s) (part (2 * keyboard.pairs) l₁))
      (b : Result (Counted Bool) (Counted Refusal)) (f₂ : Forgiven m b) {mouse : Counted Bool} (q₂ : Ok mouse ≡ behind keyboard b) where
    at_mouse : Reached (bind reset_devices read_last) s l (mouse_next keyboard.value mouse.value) mouse.used mouse.pairs (restored (2 * keyboard.pairs) l₁ l₂)
    at_mouse = tried_then_steps reset_mouse (mouse_next keyboard.value) hs hl keyboard at_keyboard m r₂ b f₂ mouse q₂

pub returns-in_err-keyboard : goal.returns-in_err-keyboard
returns-in_err-keyboard c =
    rw (exit _ _ c.from_residual.ensures.1, resets_then read_last) (tried_stops reset_keyboard keyboard_next _ _ _ c.reset_keyboard.ensures _ c.in_err-keyboard.ensures)

pub returns-in_err-mouse : goal.returns-in_err-mouse
returns-in_err-mouse c =
    rw (exit _ _ c.from_residual-in_err-mouse.ensures.1)
    (tried_then_stops reset_mouse (mouse_next c.in_ok-keyboard.keyboard.value) (omega (arith, c.well_formed)) (omega (arith, c.well_formed)) c.in_ok-keyboard.keyboard
    (at_keyboard _ _ (omega (arith, c.well_formed)) (omega (arith, c.well_formed)) _ c.reset_keyboard.ensures c.in_ok-keyboard.ensures) _ c.reset.ensures _ c.tried-2.ensures _ c.in_err-mouse.ensures)

pub returns-in_err-last : goal.returns-in_err-last
returns-in_err-last c =
    rw (exit _ _ c.from_residual-in_err-last.ensures.1)
    (then_stops (omega (arith, c.well_formed)) (omega (arith, c.well_formed)) c.in_ok-mouse.mouse read_config (λ _. done (gives (with_devices c.in_ok-keyboard.keyboard.value c.in_ok-mouse.mouse.value)))
    (at_mouse _ _ (omega (arith, c.well_formed)) (omega (arith, c.well_formed)) _ c.reset_keyboard.ensures c.in_ok-keyboard.ensures _ c.reset.ensures _ c.tried-2.ensures c.in_ok-mouse.ensures) _ c.read_config.ensures _ c.in_err-last.ensures)

pub returns : goal.returns
returns c =
    rw c.with.ensures
    (given_here _
    (then_steps (omega (arith, c.well_formed)) (omega (arith, c.well_formed)) c.in_ok-mouse.mouse read_config (λ _. done (gives (with_devices c.in_ok-keyboard.keyboard.value c.in_ok-mouse.mouse.value)))
    (at_mouse _ _ (omega (arith, c.well_formed)) (omega (arith, c.well_formed)) _ c.reset_keyboard.ensures c.in_ok-keyboard.ensures _ c.reset.ensures _ c.tried-2.ensures c.in_ok-mouse.ensures) _ c.read_config.ensures _ c.in_ok-last.ensures))

pub slice_bounds-reset-count : goal.slice_bounds-reset-count
slice_bounds-reset-count c = (at_keyboard _ _ (omega (arith, c.well_formed)) (omega (arith, c.well_formed)) _ c.reset_keyboard.ensures c.in_ok-keyboard.ensures).used_le

pub slice_bounds-reset-start : goal.slice_bounds-reset-start
slice_bounds-reset-start c = (at_keyboard _ _ (omega (arith, c.well_formed)) (omega (arith, c.well_formed)) _ c.reset_keyboard.ensures c.in_ok-keyboard.ensures).used_le

pub overflow_mul-keyboard : goal.overflow_mul-keyboard
overflow_mul-keyboard c =
    let at = (at_keyboard _ _ (omega (arith, c.well_formed)) (omega (arith, c.well_formed)) _ c.reset_keyboard.ensures c.in_ok-keyboard.ensures) in
    omega (arith, at.pairs_le, at.same_length, c.well_formed)

pub slice_bounds-reset-count-2 : goal.slice_bounds-reset-count-2
slice_bounds-reset-count-2 c = (at_keyboard _ _ (omega (arith, c.well_formed)) (omega (arith, c.well_formed)) _ c.reset_keyboard.ensures c.in_ok-keyboard.ensures).pairs_le

pub slice_bounds-reset-start-2 : goal.slice_bounds-reset-start-2
slice_bounds-reset-start-2 c = (at_keyboard _ _ (omega (arith, c.well_formed)) (omega (arith, c.well_formed)) _ c.reset_keyboard.ensures c.in_ok-keyboard.ensures).pairs_le

pub slice_bounds-read_config-count : goal.slice_bounds-read_config-count
slice_bounds-read_config-count c = (at_mouse _ _ (omega (arith, c.well_formed)) (omega (arith, c.well_formed)) _ c.reset_keyboard.ensures c.in_ok-keyboard.ensures _ c.reset.ensures _ c.tried-2.ensures c.in_ok-mouse.ensures).used_le

pub slice_bounds-read_config-start : goal.slice_bounds-read_config-start
slice_bounds-read_config-start c = (at_mouse _ _ (omega (arith, c.well_formed)) (omega (arith, c.well_formed)) _ c.reset_keyboard.ensures c.in_ok-keyboard.ensures _ c.reset.ensures _ c.tried-2.ensures c.in_ok-mouse.ensures).used_le

pub overflow_mul-mouse : goal.overflow_mul-mouse
overflow_mul-mouse c =
    let at = (at_mouse _ _ (omega (arith, c.well_formed)) (omega (arith, c.well_formed)) _ c.reset_keyboard.ensures c.in_ok-keyboard.ensures _ c.reset.ensures _ c.tried-2.ensures c.in_ok-mouse.ensures) in
    omega (arith, at.pairs_le, at.same_length, c.well_formed)

pub slice_bounds-read_config-count-2 : goal.slice_bounds-read_config-count-2
slice_bounds-read_config-count-2 c = (at_mouse _ _ (omega (arith, c.well_formed)) (omega (arith, c.well_formed)) _ c.reset_keyboard.ensures c.in_ok-keyboard.ensures _ c.reset.ensures _ c.tried-2.ensures c.in_ok-mouse.ensures).pairs_le

pub slice_bounds-read_config-start-2 : goal.slice_bounds-read_config-start-2
slice_bounds-read_config-start-2 c = (at_mouse _ _ (omega (arith, c.well_formed)) (omega (arith, c.well_formed)) _ c.reset_keyboard.ensures c.in_ok-keyboard.ensures _ c.reset.ensures _ c.tried-2.ensures c.in_ok-mouse.ensures).pairs_le
