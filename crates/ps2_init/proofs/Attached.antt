-- A device is attached exactly where its reset passed, whatever the record said before.
use Prim.Native.Nat.{ℕ}
use mathlib.Core.Bool.{Bool, true}
use mathlib.Core.List.{List}
use mathlib.Core.Path.{◌≡◌}
use Rattle.exchange.specs.Exchange.{Exchange, done, bind, yields, play}
use Rattle.exchange.specs.Answer.{Answer}
use Rattle.exchange.specs.Refuses.{given, succeeds}
use Rattle.exchange.specs.Search.{script_after, log_after}
use Rattle.exchange.proofs.Search.{bind_after}
use Rattle.ps2_answers.specs.Refusals.{Success}
use Rattle.ps2_keyboard.specs.Keyboard.{reset_keyboard}
use Rattle.ps2_mouse.specs.Mouse.{reset_mouse}
use Rattle.ps2_init.specs.declared.PS2Controller.{PS2Controller}
use Rattle.ps2_init.specs.Init.{reset_devices}

-- whether an operation succeeded, by what it answered
pub succeeds_given : {A : Type 0} (t : Exchange (Answer A)) (s l : List ℕ) (b : Bool) → (play (succeeds t) s l).end ≡ yields b
    → (a : Answer A) × ((play t s l).end ≡ yields a) × (b ≡ given a)
unfolding succeeds play
succeeds_given t s l b h =
    let z = bind_after (λ a. done (given a)) t s l b h in
    (z.0, z.1.before, cc z.1.after)

-- the keyboard's flag, by the answer of its reset; then the mouse's, by the answer of its own on what is left
pub attached : (s l : List ℕ) (c : PS2Controller) → (play reset_devices s l).end ≡ yields c
    → ((a : Answer Success) × ((play reset_keyboard s l).end ≡ yields a) × (c.keyboard_attached ≡ given a))
    × ((a : Answer Success) × ((play reset_mouse (script_after (succeeds reset_keyboard) s l) (log_after (succeeds reset_keyboard) s l)).end ≡ yields a) × (c.mouse_attached ≡ given a))
unfolding reset_devices play
attached s l c h =
    let s' = script_after (succeeds reset_keyboard) s l in
    let l' = log_after (succeeds reset_keyboard) s l in
    let z = bind_after (λ keyboard. bind (succeeds reset_mouse) (λ mouse. done (record { initialized = true; keyboard_attached = keyboard; mouse_attached = mouse }))) (succeeds reset_keyboard) s l c h in
    let y = bind_after (λ mouse. done (record { initialized = true; keyboard_attached = z.0; mouse_attached = mouse })) (succeeds reset_mouse) s' l' c z.1.after in
    let k = succeeds_given reset_keyboard s l z.0 z.1.before in
    let m = succeeds_given reset_mouse s' l' y.0 y.1.before in
    ((k.0, k.1, cc (y.1.after, k.2)), (m.0, m.1, cc (y.1.after, m.2)))
