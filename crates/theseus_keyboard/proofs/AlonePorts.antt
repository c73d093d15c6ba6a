-- On the first side, where lamps are lit alike, ours and the Rust's handler read and write alike.
use mathlib.Core.Path.{◌≡◌, refl, sym, ap, subst, ◌∙◌}
use mathlib.Core.Bool.{Bool, true, false, cond, true≢false}
use mathlib.Core.List.{List, [], ◌∷◌}
use Prim.Native.Nat.{ℕ}
use Rattle.std.specs.Prelude.{suc}
use Rattle.exchange.specs.Exchange.{Lack, Exchange, done, bind, End, yields, lacks, told_end, Played, played, play}
use Rattle.exchange.specs.Answer.{Answer}
use Rattle.exchange.proofs.Told.{bind_told}
use Rattle.ps2_answers.specs.Refusals.{Success}
use Rattle.ps2_keyboard.specs.Keyboard.{set_keyboard_led}
use Rattle.ps2_ports.specs.declared.DevicePort.{DevicePort}
use Rattle.keyboard_scancodes.specs.declared.KeyboardState.{KeyboardState}
use Rattle.keyboard_scancodes.specs.declared.Profile.{Profile}
use Rattle.keyboard_scancodes.specs.FlagsAfter.{flags_after, flags_then}
use Rattle.keyboard_scancodes.specs.FlagTable.{presses_lock}
use Rattle.keyboard_scancodes.specs.Lamps.{lamps_lit}
use Rattle.keyboard_scancodes.specs.Profile.{presses_followed}
use Rattle.keyboard_scancodes.specs.Strokes.{stroke, is_silent}
use Rattle.keyboard_sides.specs.declared.Side.{Side}
use Rattle.keyboard_record.specs.declared.KeyboardHandler.{KeyboardHandler}
use Rattle.keyboard.specs.Byte.{Keyed, on_byte, take_byte}
use Rattle.keyboard.specs.Handler.{Outcome, after_byte}
use Rattle.keyboard.specs.KeyboardLamps.{port_lamps, port_rules}
use Rattle.theseus_ps2.specs.Comparison.{TellsEnd, TellsPlay, number_lacked}
use Rattle.theseus_ps2.specs.declared.recording.Recording.{Recording}
use Rattle.theseus_keyboard.specs.Handler.{rusts_table}
use Rattle.theseus_keyboard.specs.Both.{first_of}
use Rattle.theseus_keyboard.specs.Alone.{with_oldest, with_taken, both_follow, LampsAlike, AgreeShort, AgreePorts}
use Rattle.theseus_keyboard.proofs.Call.{Seen, view, rusts_call, after_taking, lamps_sent, rusts_cases, base_lamps, same_locks, same_exchange}
use Rattle.theseus_keyboard.proofs.FollowedAlike.{same_flags_then, no_lock_followed}
use Rattle.theseus_keyboard.proofs.Alone.{seen_by, byte_exchange, called_by}

abbrev got : Seen → End Seen → Seen
got d (yields v) = v
got d (lacks l) = d

abbrev the_lack : Lack → End Seen → Lack
the_lack d (yields v) = d
the_lack d (lacks l) = l

abbrev Yields : End Seen → Type 0
Yields (yields v) = Unit {0}
Yields (lacks l) = ⊥

-- a lock that both follow, or neither
same_turn : (c p p' : Bool) (t t' : Exchange (Answer Success)) (v : Seen) → p ≡ p' → (p ≡ true → t ≡ t')
    → cond c (done v) (cond p (bind t (λ a. done v)) (done v)) ≡ cond c (done v) (cond p' (bind t' (λ a. done v)) (done v))
same_turn c p p' t t' v e q =
    ap (λ (r : Bool). cond c (done v) (cond p (bind t (λ a. done v)) (done v))) e
    ∙ by p refl
    ∙ ap (λ (r : Bool). cond c (done v) (cond r (bind t' (λ a. done v)) (done v))) e
  where
    by : (r : Bool) → p ≡ r → cond c (done v) (cond p (bind t (λ a. done v)) (done v)) ≡ cond c (done v) (cond p (bind t' (λ a. done v)) (done v))
    by true z = ap (λ (u : Exchange (Answer Success)). cond c (done v) (cond p (bind u (λ a. done v)) (done v))) (q z)
    by false z = ap (λ (r : Bool). cond c (done v) (cond r (bind t (λ a. done v)) (done v))) z ∙ sym (ap (λ (r : Bool). cond c (done v) (cond r (bind t' (λ a. done v)) (done v))) z)

module _ (k : KeyboardState) (m : ℕ) where
  same_lamps : (b : ℕ) → both_follow Profile.Any m ≡ both_follow Profile.Any k.modifiers.bits
      → lamps_lit (flags_then Profile.Any k b) ≡ lamps_lit (flags_after rusts_table (stroke b k.prefix) m)
  same_lamps b e =
      base_lamps (flags_then Profile.Any k b) ∙ ap lamps_lit (sym (same_flags_then Profile.Any k b m e)) ∙ sym (base_lamps (flags_after rusts_table (stroke b k.prefix) m))

  not_pressed : (p : Bool) → (p ≡ true → Profile.Tournament ≡ Profile.Any) → p ≡ false
  not_pressed true h = absurd (no_any (h refl))
    where
      no_any : Profile.Tournament ≡ Profile.Any → ⊥
      no_any e = cc
  not_pressed false h = refl

  same_locks_by : (profile : Profile) (b : ℕ) → LampsAlike profile b → presses_followed profile b ≡ presses_lock rusts_table (stroke b false)
  same_locks_by Profile.Any b h = same_locks b
  same_locks_by Profile.Tournament b h = no_lock_followed b ∙ sym (not_pressed (presses_lock rusts_table (stroke b false)) h)

  same_sent : (profile : Profile) (b : ℕ) → both_follow profile m ≡ both_follow profile k.modifiers.bits → presses_followed profile b ≡ true
      → port_lamps DevicePort.Port1 (lamps_lit (flags_then profile k b)) ≡ lamps_sent (flags_after rusts_table (stroke b k.prefix) m)
  same_sent Profile.Any b e p =
      same_exchange (lamps_lit (flags_then Profile.Any k b)) ∙ ap (λ (lamps : ℕ). set_keyboard_led (record { bits = lamps })) (same_lamps b e)
  same_sent Profile.Tournament b e p = absurd (true≢false (sym p ∙ no_lock_followed b))

  module _ (profile : Profile) (e : both_follow profile m ≡ both_follow profile k.modifiers.bits) where
    pub same_byte : (ws : List ℕ) (b : ℕ) → LampsAlike profile b
        → bind (on_byte (port_rules profile DevicePort.Port1) k ws b) (λ o. done (view o)) ≡ bind (after_taking k.prefix m b) (λ y. done (seen_by profile k y))
    unfolding after_taking
    same_byte ws b h =
        byte_exchange (port_rules profile DevicePort.Port1) k ws b
        ∙ same_turn (is_silent b) (presses_followed profile b) (presses_lock rusts_table (stroke b false)) (port_lamps DevicePort.Port1 (lamps_lit (flags_then profile k b)))
        (lamps_sent (flags_after rusts_table (stroke b k.prefix) m)) (seen_by profile k b) (same_locks_by profile b h) (same_sent profile b e)
        ∙ sym (rusts_cases (is_silent b) (presses_lock rusts_table (stroke b false)) (lamps_sent (flags_after rusts_table (stroke b k.prefix) m)) b (λ y. done (seen_by profile k y)))

    -- the two plays, of which the Rust's begins with the byte that waited
    pub record Ports (ws : List ℕ) (o : Played Keyed) (p : Played ℕ) : Type 0 where
      pub ends : told_end view o.end ≡ told_end (seen_by profile k) p.end
      pub uses : p.used ≡ with_taken ws o.used
      pub writes : p.pairs ≡ o.pairs
      pub leaves : p.log ≡ o.log

    plays_same : (ws : List ℕ) (b : ℕ) (script log : List ℕ) → LampsAlike profile b
        → played (told_end view (play (on_byte (port_rules profile DevicePort.Port1) k ws b) script log).end) (play (on_byte (port_rules profile DevicePort.Port1) k ws b) script log).used
        (play (on_byte (port_rules profile DevicePort.Port1) k ws b) script log).pairs (play (on_byte (port_rules profile DevicePort.Port1) k ws b) script log).log
        ≡ played (told_end (seen_by profile k) (play (after_taking k.prefix m b) script log).end) (play (after_taking k.prefix m b) script log).used
        (play (after_taking k.prefix m b) script log).pairs (play (after_taking k.prefix m b) script log).log
    plays_same ws b script log h =
        bind_told (on_byte (port_rules profile DevicePort.Port1) k ws b) view script log refl refl
        ∙ ap (λ (t : Exchange Seen). play t script log) (same_byte ws b h)
        ∙ sym (bind_told (after_taking k.prefix m b) (seen_by profile k) script log refl refl)

    pub ports : (ws script log : List ℕ) → LampsAlike profile (first_of (with_oldest ws script))
        → Ports ws (play (take_byte ws (on_byte (port_rules profile DevicePort.Port1) k)) script log) (play (rusts_call k.prefix m) (with_oldest ws script) log)
    unfolding play rusts_call
    ports [] [] log h = record { ends = refl; uses = refl; writes = refl; leaves = refl }
    ports [] (b ∷ script) log h =
        let s = plays_same [] b script log h in
        record {
          ends = ap (λ (o : Played Seen). o.end) s;
          uses = ap (λ (o : Played Seen). suc o.used) (sym s);
          writes = ap (λ (o : Played Seen). o.pairs) (sym s);
          leaves = ap (λ (o : Played Seen). o.log) (sym s);
        }
    ports (b ∷ ws) script log h =
        let s = plays_same ws b script log h in
        record {
          ends = ap (λ (o : Played Seen). o.end) s;
          uses = ap (λ (o : Played Seen). suc o.used) (sym s);
          writes = ap (λ (o : Played Seen). o.pairs) (sym s);
          leaves = ap (λ (o : Played Seen). o.log) (sym s);
        }

    short : (side : Side) (h : KeyboardHandler) (b : ℕ) (left : Recording) (e : End Keyed) (p : End ℕ) → told_end view e ≡ told_end (seen_by profile k) p
        → TellsEnd p b left.short left.asked → AgreeShort (told_end (λ (w : Outcome). w.answer) (told_end (after_byte side h.state) e)) left
    short side h b left (yields o) (yields y) r t = t.1
    short side h b left (yields o) (lacks l) r t = absurd (subst Yields r tt)
    short side h b left (lacks l) (yields y) r t = absurd (subst Yields (sym r) tt)
    short side h b left (lacks l) (lacks j) r t = (t.0, t.1 ∙ ap number_lacked (sym (ap (the_lack l) r)))

    pub agree_ports : (side : Side) (h : KeyboardHandler) (ws : List ℕ) (b : ℕ) (left : Recording) (o : Played Keyed) (p : Played ℕ) → Ports ws o p → TellsPlay p b left
        → AgreePorts ws (called_by side h o.end o.used o.pairs o.log) o.log left
    agree_ports side h ws b left o p s t =
        (t.0 ∙ s.uses, t.1 ∙ s.writes, t.2 ∙ s.leaves, short side h b left o.end p.end s.ends t.3)
