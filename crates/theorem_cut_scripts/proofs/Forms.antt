-- The law for each form of contract: where one call met its contract on the whole script and another on the first n bytes of it, with the same records and log, the second handed back what it should. docs/CUT-SCRIPTS.md has the form of every entry.
use Prim.Native.Nat.{ℕ}
use mathlib.Core.List.{List}
use mathlib.Core.Path.{◌≡◌, refl, ap, ap₂, sym, ◌∙◌}
use lib.ListN.{take}
use Rattle.exchange.specs.Exchange.{Exchange, End, yields, lacks, told_end, Played, played, play, Reads}
use Rattle.exchange.specs.Answer.{Answer}
use Rattle.exchange.specs.Keeping.{Kept, kept_end}
use Rattle.exchange.specs.Left.{Left, left, record_after}
use Rattle.ps2_kept.specs.declared.KeptBytes.{KeptBytes}
use Rattle.ps2_kept.specs.Kept.{nothing_kept, kept_or}
use Rattle.ps2_kept.specs.Added.{keeping_onto}
use Rattle.ps2_kept.specs.Promises.{ReadsKept, PlaysKept, PlaysLent}
use Rattle.keyboard_sides.specs.declared.Side.{Side}
use Rattle.keyboard_record.specs.declared.HandlerState.{HandlerState}
use Rattle.keyboard_record.specs.declared.KeyboardHandler.{KeyboardHandler}
use Rattle.keyboard_record.specs.Queue.{places_with}
use Rattle.keyboard.specs.Handler.{Outcome, end_outcome, Effects, Called, handle, effects, log_left, handled}
use Rattle.theorem_cut_scripts.specs.CutShort.{Handed, handed, next_port, CutShort}
use Rattle.theorem_cut_scripts.specs.Forms.{lack, AnswerWith, answer_with, lack_kept, lack_with, StateBack, RecordBack, state_back, record_back, lack_state, lack_record}
use Rattle.theorem_cut_scripts.proofs.CutShort.{handed_by, cut_short}

-- ---- an answer and a value: a script and a log, and a script alone

module _ {A : Type 0} (t : Exchange A) (n : ℕ) (script log : List ℕ) where
  pub plays_cut : {e e' : End A} {u u' w w' : ℕ} {l l' : List ℕ} → played e u w l ≡ play t script log → played e' u' w' l' ≡ play t (take n script) log
      → CutShort n (lack (next_port n t script log)) log (handed e u w l) (handed e' u' w' l')
  plays_cut p q = cut_short (λ (e : End A). e) t n script log (ap (handed_by (λ (e : End A). e)) p) (ap (handed_by (λ (e : End A). e)) q)

  pub reads_cut : {e e' : End A} {u u' w w' : ℕ} → Reads t script e u w → Reads t (take n script) e' u' w'
      → CutShort n (lack (next_port n t script log)) log (handed e u w log) (handed e' u' w' log)
  reads_cut r r' = rw (r.no_pairs, r'.no_pairs) (plays_cut (r.with_any log) (r'.with_any log))

-- ---- the same with the bytes that were thrown away

-- after a lack: nothing, or the bytes that were lent
abbrev tell_kept : {A : Type 0} → KeptBytes → End (Kept KeptBytes A) → AnswerWith KeptBytes A
tell_kept otherwise (yields k) = answer_with (yields k.value) k.bytes
tell_kept otherwise (lacks x) = answer_with (lacks x) otherwise

told_kept : {A : Type 0} (otherwise : KeptBytes) (e : End A) {k : KeptBytes} → k ≡ kept_or otherwise e k → answer_with e k ≡ tell_kept otherwise (kept_end e k)
told_kept otherwise (yields a) h = refl
told_kept otherwise (lacks x) h = ap (answer_with (lacks x)) h

module _ {A : Type 0} (t : Exchange (Kept KeptBytes A)) (otherwise : KeptBytes) (log : List ℕ) where
  handed_kept : (s : List ℕ) {e : End A} {u w : ℕ} {l : List ℕ} {k : KeptBytes} → k ≡ kept_or otherwise e k → played (kept_end e k) u w l ≡ play t s log
      → handed (answer_with e k) u w l ≡ handed_by (tell_kept otherwise) (play t s log)
  handed_kept s {e} {u} {w} {l} {k} h p = ap (λ (x : AnswerWith KeptBytes A). handed x u w l) (told_kept otherwise e h) ∙ ap (handed_by (tell_kept otherwise)) p

module _ {A : Type 0} (t : Exchange (Kept KeptBytes A)) (n : ℕ) (script log : List ℕ) where
  pub plays_kept_cut : {e e' : End A} {u u' w w' : ℕ} {l l' : List ℕ} {k k' : KeptBytes} → PlaysKept t script log e u w l k → PlaysKept t (take n script) log e' u' w' l' k'
      → CutShort n (lack_kept (next_port n t script log)) log (handed (answer_with e k) u w l) (handed (answer_with e' k') u' w' l')
  plays_kept_cut c c' = cut_short (tell_kept nothing_kept) t n script log (handed_kept t nothing_kept log script c.ended c.plays) (handed_kept t nothing_kept log (take n script) c'.ended c'.plays)

  pub reads_kept_cut : {e e' : End A} {u u' w w' : ℕ} {k k' : KeptBytes} → ReadsKept t script e u w k → ReadsKept t (take n script) e' u' w' k'
      → CutShort n (lack_kept (next_port n t script log)) log (handed (answer_with e k) u w log) (handed (answer_with e' k') u' w' log)
  reads_kept_cut c c' =
      rw (c.reads.no_pairs, c'.reads.no_pairs)
      (cut_short (tell_kept nothing_kept) t n script log (handed_kept t nothing_kept log script c.ended (c.reads.with_any log)) (handed_kept t nothing_kept log (take n script) c'.ended (c'.reads.with_any log)))

-- bytes that were lent: after a lack they are as they were lent
module _ {A : Type 0} (lent : KeptBytes) (t : Exchange A) (n : ℕ) (script log : List ℕ) where
  pub plays_keeping_cut : {e e' : End A} {u u' w w' : ℕ} {l l' : List ℕ} {k k' : KeptBytes} → PlaysLent lent t script log e u w l k → PlaysLent lent t (take n script) log e' u' w' l' k'
      → CutShort n (lack_with lent (next_port n (keeping_onto lent t) script log)) log (handed (answer_with e k) u w l) (handed (answer_with e' k') u' w' l')
  plays_keeping_cut c c' =
      cut_short (tell_kept lent) (keeping_onto lent t) n script log (handed_kept (keeping_onto lent t) lent log script c.ended c.plays) (handed_kept (keeping_onto lent t) lent log (take n script) c'.ended c'.plays)

-- ---- an answer with a record that was passed in, and with one that is made

abbrev tell_left : {X A : Type 0} → X → End (Left X A) → AnswerWith X (Answer A)
tell_left passed e = answer_with (told_end (λ v. v.answer) e) (record_after passed e)

told_left : {X A : Type 0} (e : End (Answer A)) (x : X) → told_end (λ (v : Left X A). v.answer) (told_end (λ a. left a x) e) ≡ e
told_left (yields a) x = refl
told_left (lacks y) x = refl

module _ {X A : Type 0} (t : Exchange (Left X A)) (passed : X) (n : ℕ) (script log : List ℕ) where
  handed_left : (s : List ℕ) {e : End (Answer A)} {x : X} {u w : ℕ} {l : List ℕ} → played (told_end (λ a. left a x) e) u w l ≡ play t s log → x ≡ record_after passed (play t s log).end
      → handed (answer_with e x) u w l ≡ handed_by (tell_left passed) (play t s log)
  handed_left s {e} {x} {u} {w} {l} p q =
      ap₂ {C = Handed (AnswerWith X (Answer A))} (λ (a : End (Answer A)) (y : X). handed (answer_with a y) u w l) (sym (told_left e x)) q
      ∙ ap (λ (o : Played (Left X A)). handed (answer_with (told_end (λ v. v.answer) o.end) (record_after passed (play t s log).end)) o.used o.pairs o.log) p

  pub left_cut : {e e' : End (Answer A)} {x x' : X} {u u' w w' : ℕ} {l l' : List ℕ}
      → (played (told_end (λ a. left a x) e) u w l ≡ play t script log) × (x ≡ record_after passed (play t script log).end)
      → (played (told_end (λ a. left a x') e') u' w' l' ≡ play t (take n script) log) × (x' ≡ record_after passed (play t (take n script) log).end)
      → CutShort n (lack_with passed (next_port n t script log)) log (handed (answer_with e x) u w l) (handed (answer_with e' x') u' w' l')
  left_cut c c' = cut_short (tell_left passed) t n script log (handed_left script c.0 c.1) (handed_left (take n script) c'.0 c'.1)

module _ {X A : Type 0} (t : Exchange A) (made : X) (n : ℕ) (script log : List ℕ) where
  handed_made : (s : List ℕ) {e : End A} {x : X} {u w : ℕ} {l : List ℕ} → played e u w l ≡ play t s log → x ≡ made
      → handed (answer_with e x) u w l ≡ handed_by (λ (a : End A). answer_with a made) (play t s log)
  handed_made s {e} {x} {u} {w} {l} p q = ap (λ (y : X). handed (answer_with e y) u w l) q ∙ ap (handed_by (λ (a : End A). answer_with a made)) p

  pub made_cut : {e e' : End A} {x x' : X} {u u' w w' : ℕ} {l l' : List ℕ} → (played e u w l ≡ play t script log) × (x ≡ made) → (played e' u' w' l' ≡ play t (take n script) log) × (x' ≡ made)
      → CutShort n (lack_with made (next_port n t script log)) log (handed (answer_with e x) u w l) (handed (answer_with e' x') u' w' l')
  made_cut c c' = cut_short (λ (a : End A). answer_with a made) t n script log (handed_made script c.0 c.1) (handed_made (take n script) c'.0 c'.1)

-- ---- a handler call, for either side, with or without waiting bytes, on any record

abbrev tell_state : HandlerState → End Outcome → StateBack
tell_state s e =
    let o = end_outcome s e in
    record { end = told_end (λ x. x.answer) e; lamps = o.lamps; state = o.state; event = o.event; dropped = o.dropped }

abbrev tell_record : KeyboardHandler → End Outcome → RecordBack
tell_record h e =
    let o = end_outcome h.state e in
    record { end = told_end (λ x. x.answer) e; lamps = o.lamps; handler = record { state = o.state; places = places_with h o.event }; dropped = o.dropped }

module _ {A : Type 0} (lamps : Side → ℕ → Exchange (Answer A)) (side : Side) (n : ℕ) (script log : List ℕ) where
  module _ (s : HandlerState) where
    handed_state : (bytes : List ℕ) {x : Effects} {l : List ℕ} → x ≡ effects lamps side s bytes log → l ≡ log_left lamps side s bytes log
        → handed (state_back x) x.used x.pairs l ≡ handed_by (tell_state s) (play (handle lamps side s) bytes log)
    unfolding effects log_left
    handed_state bytes p q = ap₂ {C = Handed StateBack} (λ (y : Effects) (m : List ℕ). handed (state_back y) y.used y.pairs m) p q

    pub effects_cut : {x x' : Effects} {l l' : List ℕ}
        → (x ≡ effects lamps side s script log) × (l ≡ log_left lamps side s script log)
        → (x' ≡ effects lamps side s (take n script) log) × (l' ≡ log_left lamps side s (take n script) log)
        → CutShort n (lack_state s (next_port n (handle lamps side s) script log)) log (handed (state_back x) x.used x.pairs l) (handed (state_back x') x'.used x'.pairs l')
    effects_cut c c' = cut_short (tell_state s) (handle lamps side s) n script log (handed_state script c.0 c.1) (handed_state (take n script) c'.0 c'.1)

  module _ (h : KeyboardHandler) where
    handed_record : (bytes : List ℕ) {x : Called} {l : List ℕ} → x ≡ handled lamps side h bytes log → l ≡ log_left lamps side h.state bytes log
        → handed (record_back x) x.used x.pairs l ≡ handed_by (tell_record h) (play (handle lamps side h.state) bytes log)
    unfolding handled effects log_left
    handed_record bytes p q = ap₂ {C = Handed RecordBack} (λ (y : Called) (m : List ℕ). handed (record_back y) y.used y.pairs m) p q

    pub handled_cut : {x x' : Called} {l l' : List ℕ}
        → (x ≡ handled lamps side h script log) × (l ≡ log_left lamps side h.state script log)
        → (x' ≡ handled lamps side h (take n script) log) × (l' ≡ log_left lamps side h.state (take n script) log)
        → CutShort n (lack_record h (next_port n (handle lamps side h.state) script log)) log (handed (record_back x) x.used x.pairs l) (handed (record_back x') x'.used x'.pairs l')
    handled_cut c c' = cut_short (tell_record h) (handle lamps side h.state) n script log (handed_record script c.0 c.1) (handed_record (take n script) c'.0 c'.1)
