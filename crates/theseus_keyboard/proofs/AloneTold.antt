-- What ours and the Rust's handler for one keyboard alone leave, agree.
use mathlib.Core.Path.{◌≡◌, sym, ap, subst, ◌∙◌}
use mathlib.Core.Bool.{Bool}
use mathlib.Core.List.{List}
use Prim.Native.Nat.{ℕ}
use Rattle.exchange.specs.Exchange.{told_end, Played, played, play}
use Rattle.ps2_ports.specs.declared.DevicePort.{DevicePort}
use Rattle.keycodes_ascii.specs.declared.KeyEvent.{KeyEvent}
use Rattle.keyboard_scancodes.specs.Strokes.{is_prefix}
use Rattle.keyboard_sides.specs.declared.Side.{Side}
use Rattle.keyboard_record.specs.declared.KeyboardHandler.{KeyboardHandler}
use Rattle.keyboard_record.specs.Record.{keyboard_at}
use Rattle.keyboard_record.proofs.WellFormed.{call_is}
use Rattle.keyboard.specs.Rules.{rules_at}
use Rattle.keyboard.specs.Byte.{Keyed, on_byte, take_byte, key_call}
use Rattle.keyboard.specs.Handler.{Outcome, Called, called_with, effects_by, after_byte, handle, effects, log_left, handled}
use Rattle.keyboard.specs.KeyboardLamps.{port_of, keyboard_lamps, port_rules}
use Rattle.keyboard.proofs.Calls.{formed_play}
use Rattle.theseus_ps2.specs.Comparison.{Starts, TellsPlay}
use Rattle.theseus_ps2.specs.Controller.{on_controller}
use Rattle.theseus_ps2.specs.Recording.{recording}
use Rattle.theseus_ps2.specs.declared.PS2Controller.{PS2Controller}
use Rattle.theseus_ps2.specs.declared.recording.Recording.{Recording}
use Rattle.theseus_ps2.proofs.Agreed.{tells}
use Rattle.theseus_keyboard.specs.Handler.{next_byte, flags_of_byte, queue_of_byte, Interrupted}
use Rattle.theseus_keyboard.specs.Both.{first_of}
use Rattle.theseus_keyboard.specs.Alone.{waiting_at, with_oldest, profile_of, BaseAlone, BothRoom, AlikeQueue, LampsAlike, AgreeFollowed, AgreeQueued, AgreePorts, AgreeSent}
use Rattle.theseus_keyboard.proofs.Call.{rusts_call, ran_call}
use Rattle.theseus_keyboard.proofs.Told.{first_is}
use Rattle.theseus_keyboard.proofs.Alone.{called_by, followed, agreed, take_only}
use Rattle.theseus_keyboard.proofs.AlonePorts.{ports, agree_ports}
use Rattle.theseus_keyboard.proofs.AloneSent.{sent, agree_sent_by}

module _ (side : Side) (h : KeyboardHandler) (script log rusts_script rusts_log : List ℕ) (long : rusts_script ≡ with_oldest (waiting_at side h) script)
    (c c' : PS2Controller Recording) (b : Starts rusts_script rusts_log c.hardware)
    (x x' : Bool) (m m' : ℕ) (q q' : List KeyEvent) (i : Interrupted (on_controller recording) c x m q c' x' m' q')
    (ok : BaseAlone side h script rusts_script x m) (ours : Called) (log' : List ℕ)
    (said : ours ≡ handled keyboard_lamps side h script log) (left : log' ≡ log_left keyboard_lamps side h.state script log) where
  abbrev part : Played Keyed
  part = play (take_byte (waiting_at side h) (on_byte (rules_at h.state.table keyboard_lamps side) (keyboard_at side h.state))) script log

  played_is : play (handle keyboard_lamps side h.state) script log ≡ played (told_end (after_byte side h.state) part.end) part.used part.pairs part.log
  unfolding key_call
  played_is = formed_play keyboard_lamps side h.state script log ok.formed

  ours_is : ours ≡ called_by side h part.end part.used part.pairs part.log
  unfolding handled effects
  ours_is = said ∙ ap (λ (o : Played Outcome). called_with h (effects_by h.state o)) played_is

  log_is : log' ≡ part.log
  unfolding log_left
  log_is = left ∙ ap (λ (o : Played Outcome). o.log) played_is

  byte_is : next_byte (on_controller recording) c ≡ first_of (with_oldest (waiting_at side h) script)
  byte_is = first_is c rusts_script rusts_log b ∙ ap first_of long

  abbrev byte : ℕ
  byte = first_of (with_oldest (waiting_at side h) script)

  prefix_left : x' ≡ is_prefix byte
  prefix_left = i.0 ∙ ap is_prefix byte_is

  flags_left : m' ≡ flags_of_byte byte x m
  flags_left = i.1 ∙ ap (λ (n : ℕ). flags_of_byte n x m) byte_is

  queue_left : q' ≡ queue_of_byte byte m' q
  queue_left = i.3 ∙ ap (λ (n : ℕ). queue_of_byte n m' q) byte_is

  pub agree_followed : AgreeFollowed side ours x' m'
  agree_followed =
      subst (λ (o : Called). AgreeFollowed side o x' m') (sym ours_is)
      (followed side h x m byte ok.alike.prefix_is ok.alike.flags_are x' m' prefix_left flags_left part.end part.used part.pairs part.log
      (take_only (rules_at h.state.table keyboard_lamps side) (keyboard_at side h.state) (waiting_at side h) script log))

  pub agree_queued : BothRoom side h q → AlikeQueue side h q → AgreeQueued side (profile_of h) (first_of rusts_script) q ours q'
  agree_queued room alike =
      subst (λ (z : ℕ × Called). AgreeQueued side (profile_of h) z.0 q z.1 q')
      (ap (λ (n : ℕ). (n, called_by side h part.end part.used part.pairs part.log)) (sym (ap first_of long)) ∙ ap (λ (o : Called). (first_of rusts_script, o)) (sym ours_is))
      (agreed side h x m byte ok.alike.prefix_is ok.alike.flags_are x' m' prefix_left flags_left q alike room.ours room.rusts
      (call_is side h.state ok.formed).1.start_in ok.places_are q' queue_left part.end part.used part.pairs part.log
      (take_only (rules_at h.state.table keyboard_lamps side) (keyboard_at side h.state) (waiting_at side h) script log))

  pub agree_sent : LampsAlike (profile_of h) (first_of rusts_script) → AgreeSent (waiting_at side h) ours log' c'.hardware
  agree_sent lamps =
      let k = keyboard_at side h.state in
      let n = next_byte (on_controller recording) c in
      let ws = waiting_at side h in
      let t : TellsPlay (play (rusts_call x m) c.hardware.script.now c.hardware.log.now) n c'.hardware =
      tells (rusts_call x m) c n c' (ran_call (on_controller recording) c c' x x' m m' q q' i) b.0 in
      let t2 : TellsPlay (play (rusts_call k.prefix m) (with_oldest ws script) rusts_log) n c'.hardware =
      subst (λ (z : List ℕ × List ℕ). TellsPlay (play (rusts_call k.prefix m) z.0 z.1) n c'.hardware)
      (ap (λ (y : List ℕ). (y, c.hardware.log.now)) (b.1 ∙ long) ∙ ap (λ (y : List ℕ). (with_oldest ws script, y)) b.2)
      (subst (λ (y : Bool). TellsPlay (play (rusts_call y m) c.hardware.script.now c.hardware.log.now) n c'.hardware) ok.alike.prefix_is t) in
      subst (λ (z : Called × List ℕ). AgreeSent ws z.0 z.1 c'.hardware)
      (ap (λ (l : List ℕ). (called_by side h part.end part.used part.pairs part.log, l)) (sym log_is) ∙ ap (λ (o : Called). (o, log')) (sym ours_is))
      (agree_sent_by k m (profile_of h) ok.alike.flags_are (port_of side) side h ws n c'.hardware part (play (rusts_call k.prefix m) (with_oldest ws script) rusts_log)
      (λ a y oe pe. sent k m (profile_of h) ok.alike.flags_are (port_of side) ws script log rusts_log a y (subst (λ (y : List ℕ). LampsAlike (profile_of h) (first_of y)) long lamps) oe pe)
      t2)

  shown_by : AgreePorts (waiting_at side h) (called_by side h part.end part.used part.pairs part.log) part.log c'.hardware → AgreePorts (waiting_at side h) ours log' c'.hardware
  shown_by a =
      subst (λ (z : Called × List ℕ). AgreePorts (waiting_at side h) z.0 z.1 c'.hardware)
      (ap (λ (l : List ℕ). (called_by side h part.end part.used part.pairs part.log, l)) (sym log_is) ∙ ap (λ (o : Called). (o, log')) (sym ours_is)) a

module _ (h : KeyboardHandler) (script log rusts_script rusts_log : List ℕ) (c c' : PS2Controller Recording) (b : Starts rusts_script rusts_log c.hardware)
    (x x' : Bool) (m m' : ℕ) (q q' : List KeyEvent) (i : Interrupted (on_controller recording) c x m q c' x' m' q')
    (ours : Called) (log' : List ℕ) (same : log ≡ rusts_log) (lamps : LampsAlike (profile_of h) (first_of rusts_script)) where
  -- what is asked of a side
  abbrev Shown : Side → Type 0
  Shown side =
      BaseAlone side h script rusts_script x m → ours ≡ handled keyboard_lamps side h script log
      → log' ≡ log_left keyboard_lamps side h.state script log → AgreePorts (waiting_at side h) ours log' c'.hardware

  first_shown : Shown Side.First
  first_shown ok said left =
      let long = ok.script_is in
      let k = keyboard_at Side.First h.state in
      let n = next_byte (on_controller recording) c in
      let ws = waiting_at Side.First h in
      let t : TellsPlay (play (rusts_call x m) c.hardware.script.now c.hardware.log.now) n c'.hardware =
      tells (rusts_call x m) c n c' (ran_call (on_controller recording) c c' x x' m m' q q' i) b.0 in
      let t2 : TellsPlay (play (rusts_call k.prefix m) (with_oldest ws script) log) n c'.hardware =
      subst (λ (z : List ℕ × List ℕ). TellsPlay (play (rusts_call k.prefix m) z.0 z.1) n c'.hardware)
      (ap (λ (y : List ℕ). (y, c.hardware.log.now)) (b.1 ∙ long) ∙ ap (λ (y : List ℕ). (with_oldest ws script, y)) (b.2 ∙ sym same))
      (subst (λ (y : Bool). TellsPlay (play (rusts_call y m) c.hardware.script.now c.hardware.log.now) n c'.hardware) ok.alike.prefix_is t) in
      shown_by Side.First h script log rusts_script rusts_log long c c' b x x' m m' q q' i ok ours log' said left
      (agree_ports k m (profile_of h) ok.alike.flags_are Side.First h ws n c'.hardware
      (play (take_byte ws (on_byte (port_rules (profile_of h) DevicePort.Port1) k)) script log) (play (rusts_call k.prefix m) (with_oldest ws script) log)
      (ports k m (profile_of h) ok.alike.flags_are ws script log (subst (λ (y : List ℕ). LampsAlike (profile_of h) (first_of y)) long lamps)) t2)

  pub agree_shown : (side : Side) → side ≡ Side.First → Shown side
  agree_shown side first = subst Shown (sym first) first_shown
