-- Where the Rust's run tells the play of its call, and ours is the play of its own, the two agree.
use mathlib.Core.Path.{◌≡◌, refl, sym, ap, subst, ◌∙◌}
use mathlib.Core.Bool.{Bool, true, false, cond, ◌&&◌}
use mathlib.Core.List.{List}
use mathlib.Core.Option.{none}
use Prim.Native.Nat.{ℕ, ◌<◌}
use Rattle.std.proofs.lemmas.Bool.{or_parts}
use Rattle.exchange.specs.Exchange.{Lack, End, yields, lacks, told_end, Played, played, play}
use Rattle.exchange.specs.Answer.{Answer, gives}
use Rattle.ps2_answers.specs.Refusals.{Success, success}
use Rattle.ps2_ports.specs.declared.DevicePort.{DevicePort}
use Rattle.keycodes_ascii.specs.declared.KeyEvent.{KeyEvent}
use Rattle.keyboard_scancodes.specs.declared.KeyboardState.{KeyboardState}
use Rattle.keyboard_scancodes.specs.declared.Profile.{Profile}
use Rattle.keyboard_scancodes.specs.Events.{is_known}
use Rattle.keyboard_scancodes.specs.FlagsAfter.{flags_after, flags_then}
use Rattle.keyboard_scancodes.specs.Strokes.{stroke, is_prefix, is_silent}
use Rattle.keyboard_sides.specs.declared.Side.{Side}
use Rattle.keyboard_record.specs.declared.KeyboardHandler.{KeyboardHandler}
use Rattle.keyboard_record.specs.declared.Table.{Table}
use Rattle.keyboard_record.specs.Queue.{places_with}
use Rattle.keyboard_record.specs.Record.{at_table, call_formed, well_formed}
use Rattle.keyboard_record.proofs.WellFormed.{well_is}
use Rattle.keyboard.specs.Byte.{Keyed, key_event, key_call}
use Rattle.keyboard.specs.Handler.{Outcome, called_with, effects_by, end_outcome, after_byte, effects, log_left, handled}
use Rattle.keyboard.specs.KeyboardLamps.{keyboard_lamps, port_rules}
use Rattle.keyboard.specs.Rules.{rules_at}
use Rattle.keyboard.proofs.Calls.{formed_play, key_play}
use Rattle.theseus_ps2.specs.Comparison.{TellsEnd, TellsPlay, number_lacked}
use Rattle.theseus_ps2.specs.declared.recording.Recording.{Recording}
use Rattle.theseus_keyboard.specs.Handler.{rusts_table, key_answer, key_queue, flags_of_byte, queue_of_byte}
use Rattle.theseus_keyboard.specs.Both.{Base, base_flags, base_events, Alike, answer_to, AgreeEnd, AgreeCall}
use Rattle.theseus_keyboard.proofs.Call.{Seen, view, seen, rusts_call, same_play, base_then}
use Rattle.theseus_keyboard.proofs.Left.{Left, decided}

-- ---- ends

abbrev got : Seen → End Seen → Seen
got d (yields v) = v
got d (lacks l) = d

abbrev the_lack : Lack → End Seen → Lack
the_lack d (yields v) = d
the_lack d (lacks l) = l

abbrev Yields : End Seen → Type 0
Yields (yields v) = Unit {0}
Yields (lacks l) = ⊥

no_prefix : (b : ℕ) → is_silent b ≡ false → is_prefix b ≡ false
no_prefix b e = (or_parts _ _ e).0

formed : (h : KeyboardHandler) → Base h → call_formed Side.First h.state ≡ true
unfolding call_formed
formed h ok = ap (λ (table : Table). at_table table.keyboards Side.First && well_formed h.state) ok.one ∙ ok.formed

start_in : (h : KeyboardHandler) → Base h → h.state.start < 128
start_in h ok = (well_is h.state ok.formed).start_in

-- what ours yields at a byte, by whether the byte is silent
module _ (k : KeyboardState) (b : ℕ) where
  parts : (c : Bool) → is_silent b ≡ c
      → ((seen k b).0 ≡ cond c (gives none) (key_event b (flags_then Profile.Any k b))) × (((seen k b).1.0 ≡ cond c (is_prefix b) false) × ((seen k b).1.1 ≡ cond c k.modifiers.bits (flags_then Profile.Any k b)))
  parts true e = rw e (refl, (refl, refl))
  parts false e = rw e (refl, (refl, refl))

module _ (h : KeyboardHandler) (ok : Base h) (q : List KeyEvent) (row : q ≡ base_events h)
    (x' : Bool) (m' : ℕ) (q' : List KeyEvent) where
  silent_or : (b : ℕ) (c : Bool) → is_silent b ≡ c → x' ≡ is_prefix b → x' ≡ cond c (is_prefix b) false
  silent_or b true e p = p
  silent_or b false e p = p ∙ no_prefix b e

  flags_or : (k : KeyboardState) (b : ℕ) (c : Bool) → cond c (base_flags k.modifiers.bits) (flags_after rusts_table (stroke b k.prefix) (base_flags k.modifiers.bits))
      ≡ base_flags (cond c k.modifiers.bits (flags_then Profile.Any k b))
  flags_or k b true = refl
  flags_or k b false = sym (base_then k b)

  then_flags : (k : KeyboardState) (b : ℕ) (c : Bool) → m' ≡ cond c (base_flags k.modifiers.bits) (flags_after rusts_table (stroke b k.prefix) (base_flags k.modifiers.bits))
      → c ≡ false → m' ≡ base_flags (flags_then Profile.Any k b)
  then_flags k b c e n = e ∙ ap (λ (c : Bool). cond c (base_flags k.modifiers.bits) (flags_after rusts_table (stroke b k.prefix) (base_flags k.modifiers.bits))) n ∙ sym (base_then k b)

  byte_left : (b : ℕ) (o : Keyed) (c : Bool) → is_silent b ≡ c → view o ≡ seen h.state.first b → x' ≡ is_prefix b
      → m' ≡ flags_of_byte b h.state.first.prefix (base_flags h.state.first.modifiers.bits) → q' ≡ queue_of_byte b m' q
      → Left h x' m' (answer_to b q) q' (after_byte Side.First h.state o)
  unfolding key_event
  byte_left b o c e v px pm pq =
      let k = h.state.first in
      let f = flags_then Profile.Any k b in
      let p = parts k b c e in
      let pm2 : m' ≡ cond c (base_flags k.modifiers.bits) (flags_after rusts_table (stroke b k.prefix) (base_flags k.modifiers.bits)) = pm ∙ ap (λ (c : Bool). cond c (base_flags k.modifiers.bits) (flags_after rusts_table (stroke b k.prefix) (base_flags k.modifiers.bits))) e in
      let bits : o.keyboard.modifiers.bits ≡ cond c k.modifiers.bits f = ap (λ (s : Seen). s.1.1) v ∙ p.1.1 in
      let w = decided h o.keyboard o.lamps o.dropped q x' m' ok.one ok.places_are (start_in h ok) row
      (silent_or b c e px ∙ sym (ap (λ (s : Seen). s.1.0) v ∙ p.1.0))
      (pm2 ∙ flags_or k b c ∙ ap base_flags (sym bits))
      c (is_known b) b f o.given (ap (λ (s : Seen). s.0) v ∙ p.0) (then_flags k b c pm2) in
      subst (λ (a : Answer Success). Left h x' m' a q' (after_byte Side.First h.state o)) (ap (λ (c : Bool). cond c (gives success) (key_answer b q)) (sym e))
      (subst (λ (l : List KeyEvent). Left h x' m' (cond c (gives success) (key_answer b q)) l (after_byte Side.First h.state o))
      (ap (λ (c : Bool). cond c q (key_queue b m' q)) (sym e) ∙ sym pq) w)

  module _ (b : ℕ) (left : Recording) (px : x' ≡ is_prefix b) (pm : m' ≡ flags_of_byte b h.state.first.prefix (base_flags h.state.first.modifiers.bits)) (pq : q' ≡ queue_of_byte b m' q) where
    ends : (e : End Keyed) (p : End ℕ) → told_end view e ≡ told_end (seen h.state.first) p → TellsEnd p b left.short left.asked
        → AgreeEnd (told_end (λ (w : Outcome). w.answer) (told_end (after_byte Side.First h.state) e)) (answer_to b q)
        (Alike (record { state = (end_outcome h.state (told_end (after_byte Side.First h.state) e)).state; places = places_with h (end_outcome h.state (told_end (after_byte Side.First h.state) e)).event }) x' m' q') left
    ends (yields o) (yields y) r t =
        let v : view o ≡ seen h.state.first b = ap (got (view o)) r ∙ ap (seen h.state.first) (sym t.0) in
        let w = byte_left b o (is_silent b) refl v px pm pq in
        (w.0, w.1, t.1)
    ends (yields o) (lacks l) r t = absurd (subst Yields r tt)
    ends (lacks l) (yields y) r t = absurd (subst Yields (sym r) tt)
    ends (lacks l) (lacks j) r t = (t.0, t.1 ∙ ap number_lacked (sym (ap (the_lack l) r)))

    agree_play : (o : Played Keyed) (p : Played ℕ)
        → played (told_end view o.end) o.used o.pairs o.log ≡ played (told_end (seen h.state.first) p.end) p.used p.pairs p.log → TellsPlay p b left
        → AgreeCall (called_with h (effects_by h.state (played (told_end (after_byte Side.First h.state) o.end) o.used o.pairs o.log))) o.log (answer_to b q) x' m' q' left
    agree_play o p r t = (
      t.0 ∙ sym (ap (λ (o : Played Seen). o.used) r),
      t.1 ∙ sym (ap (λ (o : Played Seen). o.pairs) r),
      t.2 ∙ sym (ap (λ (o : Played Seen). o.log) r),
      ends o.end p.end (ap (λ (o : Played Seen). o.end) r) t.3,
    )

    pub whole : (script log : List ℕ) → TellsPlay (play (rusts_call h.state.first.prefix (base_flags h.state.first.modifiers.bits)) script log) b left
        → AgreeCall (handled keyboard_lamps Side.First h script log) (log_left keyboard_lamps Side.First h.state script log) (answer_to b q) x' m' q' left
    unfolding handled effects log_left
    whole script log t =
        let f : call_formed Side.First h.state ≡ true = formed h ok in
        let g = formed_play keyboard_lamps Side.First h.state script log f in
        let same : key_play keyboard_lamps Side.First h.state script log ≡ play (key_call (port_rules Profile.Any DevicePort.Port1) h.state.first) script log =
        ap (λ (table : Table). play (key_call (rules_at table keyboard_lamps Side.First) h.state.first) script log) ok.one in
        subst (λ (o : Played Outcome). AgreeCall (called_with h (effects_by h.state o)) o.log (answer_to b q) x' m' q' left) (sym g)
        (subst (λ (o : Played Keyed). AgreeCall (called_with h (effects_by h.state (played (told_end (after_byte Side.First h.state) o.end) o.used o.pairs o.log))) o.log (answer_to b q) x' m' q' left) (sym same)
        (agree_play (play (key_call (port_rules Profile.Any DevicePort.Port1) h.state.first) script log) (play (rusts_call h.state.first.prefix (base_flags h.state.first.modifiers.bits)) script log)
        (same_play h.state.first ok.none_wait script log) t))
