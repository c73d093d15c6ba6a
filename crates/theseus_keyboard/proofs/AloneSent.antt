-- On either side the script bytes used and the bytes sent are the Rust's: D4, which the second side's lamp bytes come after, reads nothing and goes to the other port.
use mathlib.Core.Path.{◌≡◌, refl, sym, ap, subst, ◌∙◌}
use mathlib.Core.Bool.{Bool, true, false, cond, true≢false}
use mathlib.Core.List.{List, [], ◌∷◌}
use Prim.Native.Nat.{ℕ}
use Rattle.std.specs.Prelude.{suc}
use Rattle.exchange.specs.Exchange.{Port, p64, Lack, Exchange, done, read, write, bind, End, yields, lacks, told_end, Played, play}
use Rattle.exchange.specs.Answer.{Answer, gives, refuses, and_then, on_given, renumbered, refusing_as}
use Rattle.exchange.proofs.Told.{bind_told}
use Rattle.ps2_answers.specs.Refusals.{Success}
use Rattle.ps2_bytes.specs.declared.command.HostToKeyboardCommand.TheVariants as Command
use Rattle.ps2_bytes.specs.declared.writable.HostToDevice.{HostToDevice}
use Rattle.ps2_bytes.specs.declared.writable.HostToDevice.TheVariants.{Keyboard}
use Rattle.ps2_bytes.specs.declared.writable.HostToKeyboardCommandOrData.TheVariants as Byte
use Rattle.ps2_command.specs.Command.{command, command_to_port2, command_by}
use Rattle.ps2_keyboard.specs.Keyboard.{command_to_keyboard, set_led_by, set_keyboard_led, set_port_led}
use Rattle.ps2_layouts.specs.declared.leds.LEDState.{LEDState}
use Rattle.ps2_ports.specs.declared.DevicePort.{DevicePort}
use Rattle.ps2_ports.specs.Ports.{write_port}
use Rattle.keyboard_scancodes.specs.declared.KeyboardState.{KeyboardState}
use Rattle.keyboard_scancodes.specs.declared.Profile.{Profile}
use Rattle.keyboard_scancodes.specs.FlagsAfter.{flags_then}
use Rattle.keyboard_scancodes.specs.Lamps.{lamps_lit}
use Rattle.keyboard_scancodes.specs.Profile.{presses_followed}
use Rattle.keyboard_scancodes.specs.Strokes.{is_silent}
use Rattle.keyboard_sides.specs.declared.Side.{Side}
use Rattle.keyboard_record.specs.declared.KeyboardHandler.{KeyboardHandler}
use Rattle.keyboard.specs.Byte.{Keyed, on_byte, take_byte}
use Rattle.keyboard.specs.KeyboardLamps.{port_lamps, port_rules}
use Rattle.theseus_ps2.specs.Comparison.{TellsEnd, TellsPlay}
use Rattle.theseus_ps2.specs.declared.recording.Recording.{Recording}
use Rattle.theseus_keyboard.specs.Both.{first_of}
use Rattle.theseus_keyboard.specs.Alone.{with_oldest, with_taken, both_follow, LampsAlike, data_written, AgreeSent}
use Rattle.theseus_keyboard.proofs.Call.{Seen, view, rusts_call, after_taking, same_exchange}
use Rattle.theseus_keyboard.proofs.Alone.{seen_by, byte_exchange, called_by}
use Rattle.theseus_keyboard.proofs.AlonePorts.{same_byte}

-- ---- an operation that reads as another does, and writes all that it does, and commands besides

data Padded {A : Type 0} : Exchange A → Exchange A → Type 0 where
  at_end : (a : A) → Padded (done a) (done a)
  at_read : (p : Port) {f g : ℕ → Exchange A} → ((b : ℕ) → Padded (f b) (g b)) → Padded (read p f) (read p g)
  at_write : (p : Port) (v : ℕ) {t u : Exchange A} → Padded t u → Padded (write p v t) (write p v u)
  more : (v : ℕ) {t u : Exchange A} → Padded t u → Padded (write p64 v t) u

no_yield : {A : Type 0} {l : Lack} {a : A} → lacks l ≡ yields a → ⊥
no_yield e = cc

same_used : {A : Type 0} {t u : Exchange A} → Padded t u → (s l m : List ℕ) (a b : A) → (play t s l).end ≡ yields a → (play u s m).end ≡ yields b
    → (play u s m).used ≡ (play t s l).used
unfolding play
same_used (at_end x) s l m a b p q = refl
same_used (at_read port h) [] l m a b p q = absurd (no_yield p)
same_used (at_read port h) (x ∷ s) l m a b p q = ap suc (same_used (h x) s l m a b p q)
same_used (at_write port v h) s [] m a b p q = absurd (no_yield p)
same_used (at_write port v h) s (x ∷ []) m a b p q = absurd (no_yield p)
same_used (at_write port v h) s (x ∷ y ∷ l) [] a b p q = absurd (no_yield q)
same_used (at_write port v h) s (x ∷ y ∷ l) (z ∷ []) a b p q = absurd (no_yield q)
same_used (at_write port v h) s (x ∷ y ∷ l) (z ∷ w ∷ m) a b p q = same_used h s l m a b p q
same_used (more v h) s [] m a b p q = absurd (no_yield p)
same_used (more v h) s (x ∷ []) m a b p q = absurd (no_yield p)
same_used (more v h) s (x ∷ y ∷ l) m a b p q = same_used h s l m a b p q

with_first : (c : Bool) (v : ℕ) {l m : List ℕ} → l ≡ m → cond c (v ∷ l) l ≡ cond c (v ∷ m) m
with_first c v e = ap (λ (rest : List ℕ). cond c (v ∷ rest) rest) e

same_written : {A : Type 0} {t u : Exchange A} → Padded t u → (s l m : List ℕ) (a b : A) → (play t s l).end ≡ yields a → (play u s m).end ≡ yields b
    → data_written (play u s m).pairs (play u s m).log ≡ data_written (play t s l).pairs (play t s l).log
unfolding play data_written
same_written (at_end x) s l m a b p q = refl
same_written (at_read port h) [] l m a b p q = absurd (no_yield p)
same_written (at_read port h) (x ∷ s) l m a b p q = same_written (h x) s l m a b p q
same_written (at_write port v h) s [] m a b p q = absurd (no_yield p)
same_written (at_write port v h) s (x ∷ []) m a b p q = absurd (no_yield p)
same_written (at_write port v h) s (x ∷ y ∷ l) [] a b p q = absurd (no_yield q)
same_written (at_write port v h) s (x ∷ y ∷ l) (z ∷ []) a b p q = absurd (no_yield q)
same_written (at_write port v h) s (x ∷ y ∷ l) (z ∷ w ∷ m) a b p q =
    with_first _ v (same_written h s l m a b p q)
same_written (more v h) s [] m a b p q = absurd (no_yield p)
same_written (more v h) s (x ∷ []) m a b p q = absurd (no_yield p)
same_written (more v h) s (x ∷ y ∷ l) m a b p q = same_written h s l m a b p q

padded_same : {A : Type 0} (t : Exchange A) → Padded t t
padded_same (done a) = at_end a
padded_same (read p f) = at_read p (λ b. padded_same (f b))
padded_same (write p v t) = at_write p v (padded_same t)

padded_bind : {A B : Type 0} {t u : Exchange A} {n m : A → Exchange B} → Padded t u → ((a : A) → Padded (n a) (m a)) → Padded (bind t n) (bind u m)
unfolding bind
padded_bind (at_end a) h = h a
padded_bind (at_read p g) h = at_read p (λ b. padded_bind (g b) h)
padded_bind (at_write p v g) h = at_write p v (padded_bind g h)
padded_bind (more v g) h = more v (padded_bind g h)

padded_given : {A B : Type 0} {n m : A → Exchange (Answer B)} → ((a : A) → Padded (n a) (m a)) → (a : Answer A) → Padded (on_given n a) (on_given m a)
padded_given h (gives a) = h a
padded_given h (refuses n) = at_end (refuses n)

padded_command : (port : DevicePort) (v : HostToDevice) → Padded (command_by port v) (command v)
unfolding command_to_port2 and_then bind write_port
padded_command DevicePort.Port1 v = padded_same (command v)
padded_command DevicePort.Port2 v = more 0xD4 (padded_same (command v))

padded_led : (port : DevicePort) (leds : LEDState) → Padded (set_port_led port leds) (set_keyboard_led leds)
unfolding set_port_led set_keyboard_led set_led_by refusing_as and_then command_to_keyboard
padded_led port leds =
    padded_bind
    (padded_bind (padded_command port (Keyboard (Byte.KeyboardCommand Command.SetLEDStatus))) (padded_given (λ (a : Success). padded_command port (Keyboard (Byte.LEDState leds)))))
    (λ (a : Answer Success). at_end (renumbered 14 a))

padded_lamps : (port : DevicePort) (lamps : ℕ) → Padded (port_lamps port lamps) (port_lamps DevicePort.Port1 lamps)
padded_lamps port lamps = subst (λ (t : Exchange (Answer Success)). Padded (port_lamps port lamps) t) (sym (same_exchange lamps)) (padded_led port (record { bits = lamps }))

padded_turn : (c p : Bool) (t u : Exchange (Answer Success)) (v : Seen) → Padded t u
    → Padded (cond c (done v) (cond p (bind t (λ a. done v)) (done v))) (cond c (done v) (cond p (bind u (λ a. done v)) (done v)))
padded_turn true p t u v h = at_end v
padded_turn false true t u v h = padded_bind h (λ a. at_end v)
padded_turn false false t u v h = at_end v

module _ (k : KeyboardState) (m : ℕ) (profile : Profile) (e : both_follow profile m ≡ both_follow profile k.modifiers.bits) (port : DevicePort) where
  padded_byte : (ws : List ℕ) (b : ℕ) → LampsAlike profile b
      → Padded (bind (on_byte (port_rules profile port) k ws b) (λ o. done (view o))) (bind (after_taking k.prefix m b) (λ y. done (seen_by profile k y)))
  padded_byte ws b h =
      subst (λ (t : Exchange Seen). Padded (bind (on_byte (port_rules profile port) k ws b) (λ o. done (view o))) t)
      (sym (byte_exchange (port_rules profile DevicePort.Port1) k ws b) ∙ same_byte k m profile e ws b h)
      (subst (λ (t : Exchange Seen). Padded t (cond (is_silent b) (done (seen_by profile k b)) (cond (presses_followed profile b) (bind (port_lamps DevicePort.Port1 (lamps_lit (flags_then profile k b))) (λ a. done (seen_by profile k b))) (done (seen_by profile k b)))))
      (sym (byte_exchange (port_rules profile port) k ws b))
      (padded_turn (is_silent b) (presses_followed profile b) (port_lamps port (lamps_lit (flags_then profile k b))) (port_lamps DevicePort.Port1 (lamps_lit (flags_then profile k b)))
      (seen_by profile k b) (padded_lamps port (lamps_lit (flags_then profile k b)))))

  -- what two plays come to, of which the Rust's has one byte more before it where a byte waited
  abbrev pub Sent : (ℕ → ℕ) → Played Keyed → Played ℕ → Type 0
  Sent taken o p = (p.used ≡ taken o.used) × (data_written p.pairs p.log ≡ data_written o.pairs o.log)

  byte_sent : (ws : List ℕ) (b : ℕ) (script log rusts_log : List ℕ) (o : Keyed) (y : ℕ) → LampsAlike profile b
      → (play (on_byte (port_rules profile port) k ws b) script log).end ≡ yields o → (play (after_taking k.prefix m b) script rusts_log).end ≡ yields y
      → Sent (λ n. n) (play (on_byte (port_rules profile port) k ws b) script log) (play (after_taking k.prefix m b) script rusts_log)
  byte_sent ws b script log rusts_log o y h p q =
      let ours = bind_told (on_byte (port_rules profile port) k ws b) view script log refl refl in
      let rusts = bind_told (after_taking k.prefix m b) (seen_by profile k) script rusts_log refl refl in
      let a = sym (ap (λ (x : Played Seen). x.end) ours) ∙ ap (told_end view) p in
      let c = sym (ap (λ (x : Played Seen). x.end) rusts) ∙ ap (told_end (seen_by profile k)) q in (
        ap (λ (x : Played Seen). x.used) rusts
            ∙ same_used (padded_byte ws b h) script log rusts_log (view o) (seen_by profile k y) a c
            ∙ sym (ap (λ (x : Played Seen). x.used) ours),
        ap (λ (x : Played Seen). data_written x.pairs x.log) rusts
            ∙ same_written (padded_byte ws b h) script log rusts_log (view o) (seen_by profile k y) a c
            ∙ sym (ap (λ (x : Played Seen). data_written x.pairs x.log) ours),
      )

  pub sent : (ws script log rusts_log : List ℕ) (o : Keyed) (y : ℕ) → LampsAlike profile (first_of (with_oldest ws script))
      → (play (take_byte ws (on_byte (port_rules profile port) k)) script log).end ≡ yields o → (play (rusts_call k.prefix m) (with_oldest ws script) rusts_log).end ≡ yields y
      → Sent (with_taken ws) (play (take_byte ws (on_byte (port_rules profile port) k)) script log) (play (rusts_call k.prefix m) (with_oldest ws script) rusts_log)
  unfolding play rusts_call
  sent [] [] log rusts_log o y h p q = absurd (no_yield p)
  sent [] (b ∷ script) log rusts_log o y h p q = let s = byte_sent [] b script log rusts_log o y h p q in (ap suc s.0, s.1)
  sent (b ∷ ws) script log rusts_log o y h p q = let s = byte_sent ws b script log rusts_log o y h p q in (ap suc s.0, s.1)

  -- of ends that are not looked at yet
  by_ends : (side : Side) (h : KeyboardHandler) (ws : List ℕ) (n : ℕ) (left : Recording) (o : Played Keyed) (p : Played ℕ) (e : End Keyed) (f : End ℕ)
      → o.end ≡ e → p.end ≡ f → ((a : Keyed) (y : ℕ) → o.end ≡ yields a → p.end ≡ yields y → Sent (with_taken ws) o p) → left.used ≡ p.used → data_written left.pairs left.log.now ≡ data_written p.pairs p.log
      → TellsEnd f n left.short left.asked → AgreeSent ws (called_by side h e o.used o.pairs o.log) o.log left
  by_ends side h ws n left o p (lacks l) f oe pe r u w t = tt
  by_ends side h ws n left o p (yields a) (yields y) oe pe r u w t = λ z. let s = r a y oe pe in (u ∙ s.0, w ∙ s.1)
  by_ends side h ws n left o p (yields a) (lacks l) oe pe r u w t = λ z. absurd (true≢false (sym t.0 ∙ z))

  pub agree_sent_by : (side : Side) (h : KeyboardHandler) (ws : List ℕ) (n : ℕ) (left : Recording) (o : Played Keyed) (p : Played ℕ)
      → ((a : Keyed) (y : ℕ) → o.end ≡ yields a → p.end ≡ yields y → Sent (with_taken ws) o p) → TellsPlay p n left
      → AgreeSent ws (called_by side h o.end o.used o.pairs o.log) o.log left
  agree_sent_by side h ws n left o p r t =
      by_ends side h ws n left o p o.end p.end refl refl r t.0 (ap (λ (n : ℕ). data_written n left.log.now) t.1 ∙ ap (data_written p.pairs) t.2) t.3
