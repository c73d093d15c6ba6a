-- Presses among codes are presses among the events that they stand for.
use mathlib.Core.Path.{◌≡◌, refl}
use mathlib.Core.List.{List, [], ◌∷◌, map}
use Prim.Native.Nat.{ℕ, ◌+◌, ◌%◌, ◌<◌}
use native.Mathlib.Omega.{arith}
use lib.Dec.{eqb}
use borrow.Author.Tests.{ne_eqb}
use Rattle.keycodes_ascii.specs.declared.KeyAction.{KeyAction}
use Rattle.keycodes_ascii.specs.declared.KeyAction.TheVariants.{Pressed, Released}
use Rattle.keycodes_ascii.specs.declared.KeyEvent.{KeyEvent}
use Rattle.keycodes_ascii.specs.Keycode.{number_of}
use Rattle.report.specs.Keys.{key_count}
use Rattle.report.specs.Events.{is_press, code_of, event_code, press_events, presses}

-- the code of a release is no keycode's number
press_code : (key : ℕ) → key < key_count → (action : KeyAction) (number : ℕ) → eqb (code_of action number) key ≡ is_press key action number
press_code key h Pressed number = refl
press_code key h Released number = ne_eqb (number % 128 + 128) key (λ (e : number % 128 + 128 ≡ key). omega arith)

pub presses_events : (key : ℕ) → key < key_count → (events : List KeyEvent) → presses key (map event_code events) ≡ press_events key events
unfolding presses press_events
presses_events key h [] = refl
presses_events key h (e ∷ events) =
    let p = press_code key h e.action (number_of e.keycode) in rw (p, presses_events key h events)
