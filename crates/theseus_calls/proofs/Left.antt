-- The same of operations that leave a record, and of a packet.
use Prim.Native.Nat.{ℕ}
use mathlib.Core.Bool.{Bool, true, false, ◌||◌}
use mathlib.Core.List.{List}
use mathlib.Core.Path.{◌≡◌, refl, sym, ap, ◌∙◌}
use Rattle.std.specs.Borrow.{MutBor}
use Rattle.exchange.specs.Exchange.{Exchange, End, yields, lacks, no_script, no_log, p60, p64, Played, play}
use Rattle.exchange.specs.Answer.{Answer, gives, refuses}
use Rattle.exchange.specs.Keeping.{Kept}
use Rattle.exchange.specs.Left.{Left, left}
use Rattle.exchange.specs.Refuses.{given}
use Rattle.ps2_answers.specs.Refusals.{Success}
use Rattle.ps2_bytes.specs.declared.response.MouseId.{MouseId}
use Rattle.ps2_init.specs.declared.PS2Controller.{PS2Controller as Ours}
use Rattle.ps2_kept.specs.declared.KeptBytes.{KeptBytes}
use Rattle.ps2_kept.specs.Kept.{nothing_kept}
use Rattle.ps2_kept.specs.Added.{keeping_onto}
use Rattle.ps2_mouse.specs.declared.PS2Mouse.{PS2Mouse}
use Rattle.ps2_mouse_identity.specs.Identity.{set_mouse_id}
use Rattle.ps2_packet.specs.declared.MousePacket.{MousePacket}
use Rattle.ps2_packet_reading.specs.Reading.{read_mouse_packet}
use Rattle.port_words.specs.Tells.{Tells}
use Rattle.controller_words.specs.declared.ControllerWords.{ControllerWords}
use Rattle.theseus_ps2.specs.Hardware.{Ran, ran, run}
use Rattle.theseus_ps2.specs.Record.{record_of}
use Rattle.theseus_ps2.specs.Recording.{recording}
use Rattle.theseus_ps2.specs.Controller.{on_controller}
use Rattle.theseus_ps2.specs.Comparison.{Starts, TellsEndKept, TellsKept}
use Rattle.theseus_ps2.specs.declared.PS2Controller.{PS2Controller}
use Rattle.theseus_ps2.specs.declared.recording.Recording.{Recording}
use Rattle.theseus_ps2.proofs.Agreed.{tells_kept, tells_noted}
use Rattle.theseus_calls.specs.declared.answers.NotedWords.{NotedWords}
use Rattle.theseus_calls.specs.declared.identity.PacketNotedWords.{PacketNotedWords}
use Rattle.theseus_calls.specs.declared.initialization.InitializedNotedWords.{InitializedNotedWords}
use Rattle.theseus_calls.proofs.Recorded.{run_lent}
use Rattle.theseus_calls.specs.Left.{identified_recorded, told_identified, initialized_recorded, told_initialized}
use Rattle.theseus_calls.specs.Packets.{packet_recorded, told_packet_noted}

-- ---- the mouse's identity

module _ (passed : MouseId) (answer : Answer Success) (id : MouseId) (s : Recording) where
  identity_end : (e : End (Kept KeptBytes (Left PS2Mouse Success))) → TellsEndKept e (left answer (record { id = id })) s.thrown s.short s.asked
      → identified_recorded passed answer id s ≡ told_identified passed e s.used s.pairs
  identity_end (yields k) h = rw (h.2, h.1, sym h.0) refl
  identity_end (lacks (no_script p60)) h = rw (h.0, h.1) refl
  identity_end (lacks (no_script p64)) h = rw (h.0, h.1) refl
  identity_end (lacks no_log) h = rw (h.0, h.1) refl

  identity_play : (o : Played (Kept KeptBytes (Left PS2Mouse Success))) → TellsKept o (left answer (record { id = id })) s
      → identified_recorded passed answer id s ≡ told_identified passed o.end o.used o.pairs
  identity_play o h = identity_end o.end h.3 ∙ rw (h.0, h.1) refl

pub identified : (passed : MouseId) {script log : List ℕ} {answer : Answer Success} {id : MouseId} {words : NotedWords} {log' : MutBor (List ℕ)} (c c' : PS2Controller Recording)
    → Starts script log c.hardware → ran (left answer (record { id = id })) c' ≡ run (on_controller recording) (set_mouse_id (record { id = passed })) c
    → words ≡ identified_recorded passed answer id c'.hardware → log' ≡ c'.hardware.log
    → Tells (told_identified passed) (keeping_onto nothing_kept (set_mouse_id (record { id = passed }))) script log words log'.now
identified passed {script = script} {log = log} {answer = answer} {id = id} c c' b q w e =
    let t = set_mouse_id (record { id = passed }) in
    let h : TellsKept (play (keeping_onto nothing_kept t) script log) (left answer (record { id = id })) c'.hardware = rw (b.1, b.2) at (tells_kept t c (left answer (record { id = id })) c' q b.0) in
    record { answered = w ∙ identity_play passed answer id c'.hardware (play (keeping_onto nothing_kept t) script log) h; logged = ap (λ (l : MutBor (List ℕ)). l.now) e ∙ h.2 }

-- ---- a packet

module _ (packet : MousePacket) (s : Recording) where
  packet_end : (e : End (Kept KeptBytes (Answer MousePacket))) → TellsEndKept e (gives packet) s.thrown s.short s.asked
      → packet_recorded packet s ≡ told_packet_noted e s.used s.pairs
  packet_end (yields k) h = rw (h.2, h.1, sym h.0) refl
  packet_end (lacks (no_script p60)) h = rw (h.0, h.1) refl
  packet_end (lacks (no_script p64)) h = rw (h.0, h.1) refl
  packet_end (lacks no_log) h = rw (h.0, h.1) refl

  packet_play : (o : Played (Kept KeptBytes (Answer MousePacket))) → TellsKept o (gives packet) s
      → packet_recorded packet s ≡ told_packet_noted o.end o.used o.pairs
  packet_play o h = packet_end o.end h.3 ∙ rw (h.0, h.1) refl

pub packet_read : (id : MouseId) {script log : List ℕ} {packet : MousePacket} {words : PacketNotedWords} {log' : MutBor (List ℕ)} (c c' : PS2Controller Recording)
    → Starts script log c.hardware → ran (gives packet) c' ≡ run (on_controller recording) (read_mouse_packet id) c
    → words ≡ packet_recorded packet c'.hardware → log' ≡ c'.hardware.log
    → Tells told_packet_noted (keeping_onto nothing_kept (read_mouse_packet id)) script log words log'.now
packet_read id {script = script} {log = log} {packet = packet} c c' b q w e =
    let t = read_mouse_packet id in
    let h : TellsKept (play (keeping_onto nothing_kept t) script log) (gives packet) c'.hardware = rw (b.1, b.2) at (tells_kept t c (gives packet) c' q b.0) in
    record { answered = w ∙ packet_play packet c'.hardware (play (keeping_onto nothing_kept t) script log) h; logged = ap (λ (l : MutBor (List ℕ)). l.now) e ∙ h.2 }

-- ---- the controller

module _ (passed : ControllerWords) (answer : Answer Success) (now : Ours) (s : Recording) where
  init_end : (e : End (Kept KeptBytes (Left Ours Success))) → TellsEndKept e (left answer now) s.thrown s.short s.asked
      → initialized_recorded passed answer now s ≡ told_initialized passed e s.used s.pairs
  init_end (yields k) h = rw (h.2, h.1, sym h.0) refl
  init_end (lacks (no_script p60)) h = rw (h.0, h.1) refl
  init_end (lacks (no_script p64)) h = rw (h.0, h.1) refl
  init_end (lacks no_log) h = rw (h.0, h.1) refl

  init_play : (o : Played (Kept KeptBytes (Left Ours Success))) → TellsKept o (left answer now) s
      → initialized_recorded passed answer now s ≡ told_initialized passed o.end o.used o.pairs
  init_play o h = init_end o.end h.3 ∙ rw (h.0, h.1) refl

pub initialized : (passed : ControllerWords) (t : Exchange (Left Ours Success)) {script log : List ℕ} {answer : Answer Success} {now : Ours} {words : InitializedNotedWords} {log' : MutBor (List ℕ)} (s s' : Recording)
    → Starts script log s → ran (left answer now) s' ≡ run recording t s
    → words ≡ initialized_recorded passed answer now s' → log' ≡ s'.log
    → Tells (told_initialized passed) (keeping_onto nothing_kept t) script log words log'.now
initialized passed t {script = script} {log = log} {answer = answer} {now = now} s s' b q w e =
    let h : TellsKept (play (keeping_onto nothing_kept t) script log) (left answer now) s' = rw (b.1, b.2) at (tells_noted t s (left answer now) s' q b.0) in
    record { answered = w ∙ init_play passed answer now s' (play (keeping_onto nothing_kept t) script log) h; logged = ap (λ (l : MutBor (List ℕ)). l.now) e ∙ h.2 }

-- Where the Rust's initialisation succeeded its static is completed, and its flags are the record.
pub now_told : (passed : ControllerWords) (answer : Answer Success) (is x keyboard mouse : Bool) (ours : Ours) (s : Recording) → is ≡ (x || given answer)
    → initialized_recorded passed answer (record { initialized = is; keyboard_attached = keyboard; mouse_attached = mouse }) s
    ≡ initialized_recorded passed answer (record_of is keyboard mouse ours) s
now_told passed (gives a) is true keyboard mouse ours s e = rw e refl
now_told passed (gives a) is false keyboard mouse ours s e = rw e refl
now_told passed (refuses n) is x keyboard mouse ours s e = refl

pub initialized_lent : {A : Type 0} (t : Exchange A) {answer : A} {name : ℕ} {log' : MutBor (List ℕ)} (s s' : Recording)
    → s.log.ghost_name ≡ name → ran answer s' ≡ run recording t s → log' ≡ s'.log → log'.ghost_name ≡ name
initialized_lent t s s' b q e =
    ap (λ (l : MutBor (List ℕ)). l.ghost_name) e ∙ ap (λ (r : Ran Recording _). r.now.log.ghost_name) q ∙ run_lent t s ∙ b
