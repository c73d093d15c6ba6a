-- What the Rust's handler leaves of a recording, and ours of the same script and log, agree.
use mathlib.Core.Path.{◌≡◌, refl, sym, ap, subst, ◌∙◌}
use mathlib.Core.Bool.{Bool}
use mathlib.Core.List.{List}
use Prim.Native.Nat.{ℕ}
use Rattle.exchange.specs.Exchange.{play}
use Rattle.keycodes_ascii.specs.declared.KeyEvent.{KeyEvent}
use Rattle.keyboard_sides.specs.declared.Side.{Side}
use Rattle.keyboard_record.specs.declared.KeyboardHandler.{KeyboardHandler}
use Rattle.keyboard.specs.Handler.{Called, log_left, handled}
use Rattle.keyboard.specs.KeyboardLamps.{keyboard_lamps}
use Rattle.theseus_ps2.specs.Comparison.{Starts, TellsPlay}
use Rattle.theseus_ps2.specs.Controller.{on_controller}
use Rattle.theseus_ps2.specs.Recording.{recording}
use Rattle.theseus_ps2.specs.declared.PS2Controller.{PS2Controller}
use Rattle.theseus_ps2.specs.declared.recording.Recording.{Recording}
use Rattle.theseus_ps2.proofs.Agreed.{tells}
use Rattle.theseus_keyboard.specs.Handler.{next_byte, flags_of_byte, Interrupted}
use Rattle.theseus_keyboard.specs.Both.{Base, base_flags, Alike, answer_to, AgreeCall, first_of}
use Rattle.theseus_keyboard.proofs.Call.{rusts_call, ran_call}
use Rattle.theseus_keyboard.proofs.Agree.{whole}

-- the byte that the recording brings first
pub first_is : (c : PS2Controller Recording) (script log : List ℕ) → Starts script log c.hardware → next_byte (on_controller recording) c ≡ first_of script
first_is c script log b = rw (b.0.2, b.0.0, b.1) refl

module _ (h : KeyboardHandler) (ok : Base h) (script log : List ℕ) (c c' : PS2Controller Recording) (b : Starts script log c.hardware)
    (x x' : Bool) (m m' : ℕ) (q q' : List KeyEvent) (i : Interrupted (on_controller recording) c x m q c' x' m' q') (same : Alike h x m q) where
  pub agree : AgreeCall (handled keyboard_lamps Side.First h script log) (log_left keyboard_lamps Side.First h.state script log) (answer_to (first_of script) q) x' m' q' c'.hardware
  agree =
      let n = next_byte (on_controller recording) c in
      let e : n ≡ first_of script = first_is c script log b in
      let t = tells (rusts_call x m) c n c' (ran_call (on_controller recording) c c' x x' m m' q q' i) b.0 in
      let t2 : TellsPlay (play (rusts_call h.state.first.prefix (base_flags h.state.first.modifiers.bits)) script log) n c'.hardware =
      subst (λ (z : Bool × ℕ). TellsPlay (play (rusts_call z.0 z.1) script log) n c'.hardware) (ap (λ (y : Bool). (y, m)) same.prefix_is ∙ ap (λ (y : ℕ). (h.state.first.prefix, y)) same.flags_are)
      (subst (λ (z : List ℕ × List ℕ). TellsPlay (play (rusts_call x m) z.0 z.1) n c'.hardware) (ap (λ (y : List ℕ). (y, c.hardware.log.now)) b.1 ∙ ap (λ (y : List ℕ). (script, y)) b.2) t) in
      subst (λ (y : ℕ). AgreeCall (handled keyboard_lamps Side.First h script log) (log_left keyboard_lamps Side.First h.state script log) (answer_to y q) x' m' q' c'.hardware) e
      (whole h ok q same.queue_is x' m' q' n c'.hardware i.0
      (i.1 ∙ ap (λ (z : Bool × ℕ). flags_of_byte n z.0 z.1) (ap (λ (y : Bool). (y, m)) same.prefix_is ∙ ap (λ (y : ℕ). (h.state.first.prefix, y)) same.flags_are))
      i.3 script log t2)

  pub agree_ours : {log2 : List ℕ} → log2 ≡ log → (ours : Called) (log' : List ℕ) → ours ≡ handled keyboard_lamps Side.First h script log2 → log' ≡ log_left keyboard_lamps Side.First h.state script log2
      → AgreeCall ours log' (answer_to (first_of script) q) x' m' q' c'.hardware
  agree_ours e ours log' p l =
      subst (λ (z : Called × List ℕ). AgreeCall z.0 z.1 (answer_to (first_of script) q) x' m' q' c'.hardware)
      (sym (ap (λ (y : Called). (y, log')) (p ∙ ap (handled keyboard_lamps Side.First h script) e)
      ∙ ap (λ (y : List ℕ). (handled keyboard_lamps Side.First h script log, y)) (l ∙ ap (log_left keyboard_lamps Side.First h.state script) e))) agree
