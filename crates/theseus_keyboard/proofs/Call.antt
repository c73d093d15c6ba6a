-- The Rust's handler as an operation on the ports, and that ours is the same one, but for what it yields.
use mathlib.Core.Path.{◌≡◌, refl, sym, ap, ap₂, ◌∙◌, fun_ext}
use mathlib.Core.Bool.{Bool, true, false, cond}
use mathlib.Core.List.{List, []}
use mathlib.Core.Option.{Option, none}
use Prim.Native.Nat.{ℕ}
use Rattle.bits.specs.Bits.{put_bit}
use Rattle.bits.proofs.Bits.{bit_put_other}
use Rattle.bits.proofs.PutBits.{put_put}
use Rattle.exchange.specs.Exchange.{p60, Exchange, done, read, bind, told_end, Played, played, play}
use Rattle.exchange.specs.Answer.{Answer, gives}
use Rattle.exchange.specs.Keeping.{Kept, keeping}
use Rattle.exchange.proofs.Keeping.{keeping_forgets}
use Rattle.exchange.proofs.Sequence.{bind_assoc}
use Rattle.exchange.proofs.Told.{bind_told}
use Rattle.ps2_answers.specs.Refusals.{Success, success}
use Rattle.ps2_kept.specs.Kept.{kept_of}
use Rattle.ps2_kept.specs.Thrown.{thrown}
use Rattle.ps2_keyboard.specs.Keyboard.{command_to_keyboard, set_keyboard_led, set_port_led}
use Rattle.ps2_ports.specs.declared.DevicePort.{DevicePort}
use Rattle.keycodes_ascii.specs.declared.KeyEvent.{KeyEvent}
use Rattle.keyboard_modifiers.specs.Flags.{alt_right}
use Rattle.keyboard_scancodes.specs.declared.KeyboardState.{KeyboardState}
use Rattle.keyboard_scancodes.specs.declared.Profile.{Profile}
use Rattle.keyboard_scancodes.specs.Strokes.{Stroke, stroke, is_prefix, is_silent}
use Rattle.keyboard_scancodes.specs.FlagTable.{flag_table, presses_lock, flag_row, right, is_of}
use Rattle.keyboard_scancodes.specs.FlagsAfter.{flags_after, row_after, flags_then}
use Rattle.keyboard_scancodes.specs.Profile.{followed, presses_followed}
use Rattle.keyboard_scancodes.specs.Lamps.{lamps_lit}
use Rattle.keyboard_scancodes.specs.Waiting.{bytes_from}
use Rattle.keyboard_scancodes.specs.Remembered.{keyboard_of}
use Rattle.keyboard_scancodes.proofs.Flags.{after_apart}
use Rattle.keyboard.specs.KeyboardLamps.{port_lamps, port_rules}
use Rattle.keyboard.specs.Byte.{Keyed, keyed, key_event, after_lamps, shown, lamp_exchange, on_byte, take_byte, key_call}
use Rattle.theseus_ps2.specs.Hardware.{Device, ran, run}
use Rattle.theseus_ps2.proofs.Run.{run_bind, run_done}
use Rattle.theseus_keyboard.specs.Handler.{rusts_table, lamps_of, next_byte, past_byte, Interrupted}
use Rattle.theseus_keyboard.specs.Both.{base_flags}

-- ---- the Rust's call on the ports: it yields the byte that it takes

abbrev pub lamps_sent : ℕ → Exchange (Answer Success)
lamps_sent flags = set_keyboard_led (record { bits = lamps_lit flags })

unfoldable pub after_taking : Bool → ℕ → ℕ → Exchange ℕ
after_taking x m b =
    cond (is_silent b) (done b)
    (cond (presses_lock rusts_table (stroke b false)) (bind (lamps_sent (flags_after rusts_table (stroke b x) m)) (λ a. done b)) (done b))

unfoldable pub rusts_call : Bool → ℕ → Exchange ℕ
rusts_call x m = read p60 (after_taking x m)

module _ {S : Type 0} (d : Device S) where
  ran_cases : (b : ℕ) (s : S) (m m' f : ℕ) (c p : Bool) → m' ≡ cond c m f
      → ran b (cond c s (cond p (lamps_of d m' s) s)) ≡ run d (cond c (done b) (cond p (bind (lamps_sent f) (λ a. done b)) (done b))) s
  ran_cases b s m m' f true p e = run_done d b s
  ran_cases b s m m' f false true e =
      rw e (run_done d b (run d (lamps_sent f) s).now ∙ sym (run_bind d (lamps_sent f) (λ a. done b) s))
  ran_cases b s m m' f false false e = run_done d b s

  pub ran_call : (s s' : S) (x x' : Bool) (m m' : ℕ) (q q' : List KeyEvent) → Interrupted d s x m q s' x' m' q'
      → ran (next_byte d s) s' ≡ run d (rusts_call x m) s
  unfolding rusts_call after_taking run
  ran_call s s' x x' m m' q q' h =
      let b = next_byte d s in
      ap (ran b) h.2
      ∙ ran_cases b (past_byte d s) m m' (flags_after rusts_table (stroke b x) m) (is_silent b) (presses_lock rusts_table (stroke b false)) h.1

-- ---- the flags without the right Alt's own

table_after : (s : Stroke) (w : ℕ) → flags_after flag_table s w ≡ flags_after rusts_table s (row_after (flag_row alt_right right 0x38) s w)
unfolding flag_table flags_after
table_after s w = refl

row_base : (s : Stroke) (w : ℕ) (v c : Bool) → base_flags (cond c (put_bit alt_right v w) w) ≡ base_flags w
row_base s w v true = put_put alt_right false v w
row_base s w v false = refl

pub base_after : (s : Stroke) (w : ℕ) → base_flags (flags_after flag_table s w) ≡ flags_after rusts_table s (base_flags w)
base_after s w =
    ap base_flags (table_after s w)
    ∙ sym (after_apart s alt_right false rusts_table (row_after (flag_row alt_right right 0x38) s w) refl)
    ∙ ap (flags_after rusts_table s) (row_base s w s.pressed (is_of (flag_row alt_right right 0x38) s))

pub base_then : (k : KeyboardState) (b : ℕ) → base_flags (flags_then Profile.Any k b) ≡ flags_after rusts_table (stroke b k.prefix) (base_flags k.modifiers.bits)
unfolding flags_then followed
base_then k b = base_after (stroke b k.prefix) k.modifiers.bits

pub base_lamps : (w : ℕ) → lamps_lit w ≡ lamps_lit (base_flags w)
unfolding lamps_lit
base_lamps w =
    rw (
      bit_put_other 9 alt_right false w (λ e. cc),
      bit_put_other 8 alt_right false w (λ e. cc),
      bit_put_other 7 alt_right false w (λ e. cc),
    ) refl

pub same_locks : (b : ℕ) → presses_followed Profile.Any b ≡ presses_lock rusts_table (stroke b false)
unfolding followed flag_table presses_lock
same_locks b = refl

pub same_exchange : (lamps : ℕ) → port_lamps DevicePort.Port1 lamps ≡ set_keyboard_led (record { bits = lamps })
unfolding set_port_led set_keyboard_led command_to_keyboard
same_exchange lamps = refl

-- ---- what ours yields, as far as the Rust has it

abbrev pub Seen : Type 0
Seen = Answer (Option KeyEvent) × (Bool × ℕ)

abbrev pub view : Keyed → Seen
view o = (o.given, (o.keyboard.prefix, o.keyboard.modifiers.bits))

abbrev pub seen : KeyboardState → ℕ → Seen
seen k b =
    cond (is_silent b) (gives none, (is_prefix b, k.modifiers.bits))
    (key_event b (flags_then Profile.Any k b), (false, flags_then Profile.Any k b))

-- ---- an operation whose answer is let go

module _ {A B : Type 0} (t : Exchange A) (v : B) where
  without_note : bind (keeping thrown [] t) (λ k. done v) ≡ bind t (λ a. done v)
  unfolding bind
  without_note =
      sym (bind_assoc (keeping thrown [] t) (λ k. done k.value) (λ a. done v))
      ∙ ap (λ (u : Exchange A). bind u (λ a. done v)) (keeping_forgets thrown [] t)

pub rusts_cases : {A B : Type 0} (c p : Bool) (t : Exchange A) (b : ℕ) (g : ℕ → Exchange B)
    → bind (cond c (done b) (cond p (bind t (λ a. done b)) (done b))) g ≡ cond c (g b) (cond p (bind t (λ a. g b)) (g b))
unfolding bind
rusts_cases true p t b g = refl
rusts_cases false true t b g = bind_assoc t (λ a. done b) g
rusts_cases false false t b g = refl

module _ (o : Keyed) (after : Kept (List ℕ) (Answer Success) → Keyed) (v : Seen) (same : (k : Kept (List ℕ) (Answer Success)) → view (after k) ≡ v) where
  key_cases : (t : Exchange (Answer Success))
      → bind (bind (keeping thrown [] t) (λ k. done (after k))) (λ o. done (view o)) ≡ bind t (λ a. done v)
  unfolding bind
  key_cases t =
      bind_assoc (keeping thrown [] t) (λ k. done (after k)) (λ o. done (view o))
      ∙ ap (λ (g : Kept (List ℕ) (Answer Success) → Exchange Seen). bind (keeping thrown [] t) g) (fun_ext (λ k. ap done (same k)))
      ∙ without_note t v

  lit_cases : (p : Bool) (t : Exchange (Answer Success))
      → bind (cond p (bind t (λ a. done (shown a))) (done (gives success))) (λ a. done v) ≡ cond p (bind t (λ a. done v)) (done v)
  unfolding bind
  lit_cases true t = bind_assoc t (λ a. done (shown a)) (λ a. done v)
  lit_cases false t = refl

  pub ours_cases : (c p : Bool) (t : Exchange (Answer Success))
      → bind (cond c (done o) (bind (keeping thrown [] (cond p (bind t (λ a. done (shown a))) (done (gives success)))) (λ k. done (after k)))) (λ o. done (view o))
      ≡ cond c (done (cond c (view o) v)) (cond p (bind t (λ a. done (cond c (view o) v))) (done (cond c (view o) v)))
  unfolding bind
  ours_cases true p t = refl
  ours_cases false p t = key_cases (cond p (bind t (λ a. done (shown a))) (done (gives success))) ∙ lit_cases p t

module _ (k : KeyboardState) where
  same_byte : (b : ℕ) → bind (on_byte (port_rules Profile.Any DevicePort.Port1) k [] b) (λ o. done (view o))
      ≡ bind (after_taking k.prefix (base_flags k.modifiers.bits) b) (λ x. done (seen k x))
  unfolding on_byte after_taking lamp_exchange
  same_byte b =
      let f = flags_then Profile.Any k b in
      let e : lamps_lit f ≡ lamps_lit (flags_after rusts_table (stroke b k.prefix) (base_flags k.modifiers.bits)) = base_lamps f ∙ ap lamps_lit (base_then k b) in
      ours_cases (keyed (gives none) (gives success) (keyboard_of (is_prefix b) k.modifiers.bits (record { bytes = (kept_of []).bytes; count = (kept_of []).count })) 0)
      (λ lit. after_lamps b f (kept_of lit.bytes) lit.value) (key_event b f, (false, f)) (λ lit. refl)
      (is_silent b) (presses_followed Profile.Any b) (port_lamps DevicePort.Port1 (lamps_lit f))
      ∙ ap₂ (λ (p : Bool) (t : Exchange (Answer Success)). cond (is_silent b) (done (seen k b)) (cond p (bind t (λ a. done (seen k b))) (done (seen k b))))
      (same_locks b) (same_exchange (lamps_lit f) ∙ ap (λ (lamps : ℕ). set_keyboard_led (record { bits = lamps })) e)
      ∙ sym (rusts_cases (is_silent b) (presses_lock rusts_table (stroke b false)) (lamps_sent (flags_after rusts_table (stroke b k.prefix) (base_flags k.modifiers.bits))) b (λ x. done (seen k x)))

  same_call : k.waiting.count ≡ 0 → bind (key_call (port_rules Profile.Any DevicePort.Port1) k) (λ o. done (view o))
      ≡ bind (rusts_call k.prefix (base_flags k.modifiers.bits)) (λ x. done (seen k x))
  unfolding key_call rusts_call bytes_from bind
  same_call e =
      ap (λ (n : ℕ). bind (take_byte (bytes_from k.waiting.bytes 0 n) (on_byte (port_rules Profile.Any DevicePort.Port1) k)) (λ o. done (view o))) e
      ∙ ap (read p60) (fun_ext same_byte)

  pub same_play : k.waiting.count ≡ 0 → (script log : List ℕ)
      → (λ (o : Played Keyed). played (told_end view o.end) o.used o.pairs o.log) (play (key_call (port_rules Profile.Any DevicePort.Port1) k) script log)
      ≡ (λ (o : Played ℕ). played (told_end (seen k) o.end) o.used o.pairs o.log) (play (rusts_call k.prefix (base_flags k.modifiers.bits)) script log)
  same_play e script log =
      bind_told (key_call (port_rules Profile.Any DevicePort.Port1) k) view script log refl refl
      ∙ ap (λ (t : Exchange Seen). play t script log) (same_call e)
      ∙ sym (bind_told (rusts_call k.prefix (base_flags k.modifiers.bits)) (seen k) script log refl refl)
