-- After an interrupt the log is still the one that was lent.
use Prim.Native.Nat.{ℕ}
use mathlib.Core.Bool.{Bool, true, false, cond}
use mathlib.Core.List.{List}
use mathlib.Core.Path.{◌≡◌, refl, ap, ◌∙◌}
use Rattle.exchange.specs.Exchange.{p60}
use Rattle.keycodes_ascii.specs.declared.KeyEvent.{KeyEvent}
use Rattle.keyboard_scancodes.specs.Strokes.{stroke, is_silent}
use Rattle.keyboard_scancodes.specs.FlagTable.{presses_lock}
use Rattle.keyboard_scancodes.specs.Lamps.{lamps_lit}
use Rattle.ps2_keyboard.specs.Keyboard.{set_keyboard_led}
use Rattle.theseus_keyboard.specs.Handler.{rusts_table, lamps_of, lit_by_byte, next_byte, past_byte, Interrupted}
use Rattle.theseus_ps2.specs.Controller.{on_controller}
use Rattle.theseus_ps2.specs.Recording.{recording}
use Rattle.theseus_ps2.specs.declared.PS2Controller.{PS2Controller}
use Rattle.theseus_ps2.specs.declared.recording.Recording.{Recording}
use Rattle.theseus_calls.proofs.Recorded.{reading_lent, controller_lent}

lit_lent : (b flags : ℕ) (c : PS2Controller Recording) → (lit_by_byte (on_controller recording) b flags c).hardware.log.ghost_name ≡ c.hardware.log.ghost_name
lit_lent b flags c =
    elim (is_silent b) as (λ y. (cond y c (cond (presses_lock rusts_table (stroke b false)) (lamps_of (on_controller recording) flags c) c)).hardware.log.ghost_name ≡ c.hardware.log.ghost_name) [
      | true ↦ refl
      | false ↦
          elim (presses_lock rusts_table (stroke b false)) as (λ x. (cond x (lamps_of (on_controller recording) flags c) c).hardware.log.ghost_name ≡ c.hardware.log.ghost_name) [
            | true ↦ controller_lent (set_keyboard_led (record { bits = lamps_lit flags })) c
            | false ↦ refl
          ]
    ]

pub interrupted_lent : (c c' : PS2Controller Recording) (x x' : Bool) (m m' : ℕ) (q q' : List KeyEvent)
    → Interrupted (on_controller recording) c x m q c' x' m' q' → c'.hardware.log.ghost_name ≡ c.hardware.log.ghost_name
interrupted_lent c c' x x' m m' q q' i =
    ap (λ (x : PS2Controller Recording). x.hardware.log.ghost_name) i.2
    ∙ lit_lent (next_byte (on_controller recording) c) m' (past_byte (on_controller recording) c) ∙ reading_lent c.hardware p60
