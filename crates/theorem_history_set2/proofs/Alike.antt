-- Codes and the bytes that they become say the same prefix, the same flags and the same events.
use mathlib.Core.Path.{◌≡◌, refl, sym, ap, ap₂, ◌∙◌}
use mathlib.Core.Bool.{Bool, true, false, cond}
use mathlib.Core.List.{List, [], ◌∷◌, ◌++◌, append-nil}
use Prim.Native.Nat.{ℕ}
use lib.Dec.{eqb}
use Rattle.exchange.specs.Answer.{gives}
use Rattle.keycodes_ascii.specs.declared.KeyEvent.{KeyEvent}
use Rattle.scancode_set2.specs.Codes.{is_prefix, Code}
use Rattle.scancode_set2.specs.Convert.{becomes}
use Rattle.scancode_set2.specs.Stops.{Became, no_codes, one_code}
use Rattle.keyboard_scancodes.specs.Strokes.{Stroke, stroke, is_silent}
use Rattle.keyboard_scancodes.specs.declared.Profile.{Profile}
use Rattle.keyboard_scancodes.specs.Profile.{followed}
use Rattle.keyboard_scancodes.specs.FlagsAfter.{flags_after}
use Rattle.keyboard_scancodes.specs.Events.{gives_event, event_of}
use Rattle.keyboard_scancodes.proofs.Flags.{table_distinct}
use Rattle.keyboard_scancodes.proofs.Silent.{silent_flags, silent_gives}
use Rattle.theorem_history.specs.Past.{Past, nothing, ◌▸◌, onto}
use Rattle.theorem_history.specs.Said.{prefix_said, strokes, said, flags_said, event_given, events_given}
use Rattle.theorem_history.proofs.Flags.{word_after, said_more, flags_more}
use Rattle.theorem_history.proofs.Row.{given_none, given_one}
use Rattle.theorem_history_set2.specs.SaidSet2.{is_prefix_code, prefix_set2, stroke_of, stroke_set2, strokes_set2, flags_set2, event_of_stroke, event_of_strokes, event_set2, events_set2}
use Rattle.theorem_history_set2.specs.Turns.{each_set2, each_said}
use Rattle.theorem_history_set2.proofs.Says.{says, prefix_says, stroke_says, nonzero_says}

-- each code of the one became the byte of the other
pub data Reads : Past Code → Past ℕ → Type 0 where
  no_reads : Reads nothing nothing
  one_read : {codes : Past Code} {bytes : Past ℕ} {c : Code} {b : ℕ} → Reads codes bytes → becomes c ≡ gives b → Reads (codes ▸ c) (bytes ▸ b)

reads_onto : {cs : List Code} {bs : List ℕ} → Became cs bs → {codes : Past Code} {bytes : Past ℕ} → Reads codes bytes → Reads (onto codes cs) (onto bytes bs)
unfolding onto
reads_onto no_codes r = r
reads_onto (one_code q rest) r = reads_onto rest (one_read r q)

pub reads_all : {cs : List Code} {bs : List ℕ} → Became cs bs → Reads (onto nothing cs) (onto nothing bs)
reads_all h = reads_onto h no_reads

-- ---- the prefix

pub prefix_reads : {codes : Past Code} {bytes : Past ℕ} → Reads codes bytes → prefix_said bytes ≡ prefix_set2 codes
unfolding prefix_said prefix_set2
prefix_reads no_reads = refl
prefix_reads (one_read {c = c} r q) = prefix_says (says c q)

-- ---- the flags

module _ (profile : Profile) (codes : Past Code) (c : Code) where
  stroke_none : is_prefix_code c ≡ true → stroke_set2 codes c ≡ []
  unfolding stroke_set2
  stroke_none e = rw e

  stroke_one : is_prefix_code c ≡ false → stroke_set2 codes c ≡ stroke_of c (prefix_set2 codes)
  unfolding stroke_set2
  stroke_one e = rw e

  flags_none_more : stroke_set2 codes c ≡ [] → flags_set2 profile (codes ▸ c) ≡ flags_set2 profile codes
  unfolding flags_set2 strokes_set2 onto
  flags_none_more e = rw e

  flags_one_more : (s : Stroke) → stroke_set2 codes c ≡ s ∷ [] → flags_set2 profile (codes ▸ c) ≡ flags_after (followed profile) s (flags_set2 profile codes)
  unfolding flags_set2 strokes_set2 onto
  flags_one_more s e =
      rw e (word_after (said (strokes_set2 codes)) (said (strokes_set2 codes ▸ s)) s (λ r. said_more r.kind r (strokes_set2 codes) s) (followed profile) (table_distinct profile))

-- the stroke of a key's code is that of the byte, after as many others
key_stroke : (profile : Profile) {codes : Past Code} {bytes : Past ℕ} → Reads codes bytes → (c : Code) {b : ℕ} → becomes c ≡ gives b → is_prefix_code c ≡ false
    → stroke_set2 codes c ≡ stroke b (prefix_said bytes) ∷ []
key_stroke profile {codes} {bytes} r c {b} q n =
    stroke_one profile codes c n ∙ stroke_says (says c q) n (prefix_set2 codes) ∙ ap (λ (x : Bool). stroke b x ∷ []) (sym (prefix_reads r))

prefix_silent : (c : Code) {b : ℕ} → becomes c ≡ gives b → is_prefix_code c ≡ true → is_silent b ≡ true
prefix_silent c {b} q p = let e : is_prefix b ≡ true = prefix_says (says c q) ∙ p in rw e

flags_step : (profile : Profile) {codes : Past Code} {bytes : Past ℕ} → Reads codes bytes → flags_said profile bytes ≡ flags_set2 profile codes → (c : Code) {b : ℕ} → becomes c ≡ gives b
    → flags_said profile (bytes ▸ b) ≡ flags_set2 profile (codes ▸ c)
flags_step profile {codes} {bytes} r same c {b} q = by (is_prefix_code c) refl
  where
    by : (t : Bool) → is_prefix_code c ≡ t → flags_said profile (bytes ▸ b) ≡ flags_set2 profile (codes ▸ c)
    by true p =
        flags_more profile bytes b ∙ silent_flags b (prefix_silent c q p) profile (prefix_said bytes) (flags_said profile bytes) ∙ same
        ∙ sym (flags_none_more profile codes c (stroke_none profile codes c p))
    by false n =
        flags_more profile bytes b ∙ ap (flags_after (followed profile) (stroke b (prefix_said bytes))) same
        ∙ sym (flags_one_more profile codes c (stroke b (prefix_said bytes)) (key_stroke profile r c q n))

pub flags_reads : (profile : Profile) {codes : Past Code} {bytes : Past ℕ} → Reads codes bytes → flags_said profile bytes ≡ flags_set2 profile codes
unfolding flags_said flags_set2 strokes strokes_set2
flags_reads profile no_reads = refl
flags_reads profile (one_read {c = c} r q) = flags_step profile r (flags_reads profile r) c q

-- ---- the events

-- the event of a byte's stroke is the event of the byte
event_stroke : (b flags : ℕ) (x : Bool) → eqb b 0x00 ≡ false → event_of_strokes flags (stroke b x ∷ []) ≡ cond (gives_event b) (event_of b flags ∷ []) []
unfolding event_of
event_stroke b flags x n = rw (n, append-nil (event_of_stroke flags (stroke b x)))

given_cond : (profile : Profile) (bytes : Past ℕ) (b : ℕ) → event_given profile bytes b ≡ cond (gives_event b) (event_of b (flags_said profile (bytes ▸ b)) ∷ []) []
given_cond profile bytes b = by (gives_event b) refl
  where
    by : (t : Bool) → gives_event b ≡ t → event_given profile bytes b ≡ cond t (event_of b (flags_said profile (bytes ▸ b)) ∷ []) []
    by true e = given_one profile bytes b e
    by false e = given_none profile bytes b e

pub event_reads : (profile : Profile) {codes : Past Code} {bytes : Past ℕ} → Reads codes bytes → (c : Code) {b : ℕ} → becomes c ≡ gives b → event_given profile bytes b ≡ event_set2 profile codes c
unfolding event_set2
event_reads profile {codes} {bytes} r c {b} q = by (is_prefix_code c) refl
  where
    by : (t : Bool) → is_prefix_code c ≡ t → event_given profile bytes b ≡ event_of_strokes (flags_set2 profile (codes ▸ c)) (stroke_set2 codes c)
    by true p = given_none profile bytes b (silent_gives b (prefix_silent c q p)) ∙ sym (ap (event_of_strokes (flags_set2 profile (codes ▸ c))) (stroke_none profile codes c p))
    by false n =
        given_cond profile bytes b
        ∙ ap (λ (w : ℕ). cond (gives_event b) (event_of b w ∷ []) []) (flags_step profile r (flags_reads profile r) c q)
        ∙ sym (event_stroke b (flags_set2 profile (codes ▸ c)) (prefix_said bytes) (nonzero_says (says c q)))
        ∙ sym (ap (event_of_strokes (flags_set2 profile (codes ▸ c))) (key_stroke profile r c q n))

pub events_reads : (profile : Profile) {codes : Past Code} {bytes : Past ℕ} → Reads codes bytes → events_given profile bytes ≡ events_set2 profile codes
unfolding events_given events_set2
events_reads profile no_reads = refl
events_reads profile (one_read {c = c} r q) = ap₂ {C = List KeyEvent} (λ (x y : List KeyEvent). x ++ y) (events_reads profile r) (event_reads profile r c q)

-- and the same, one by one
pub each_reads : (profile : Profile) {codes : Past Code} {bytes : Past ℕ} → Reads codes bytes → each_said profile bytes ≡ each_set2 profile codes
unfolding each_said each_set2
each_reads profile no_reads = refl
each_reads profile (one_read {c = c} r q) = ap₂ {C = Past (List KeyEvent)} (λ (past : Past (List KeyEvent)) (es : List KeyEvent). past ▸ es) (each_reads profile r) (event_reads profile r c q)
