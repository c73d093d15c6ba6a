-- What the bytes of a typed text say: their press events have the text's characters, and after them no flag is on.
use mathlib.Core.Path.{◌≡◌, refl, sym, ap, ap₂, subst⁻¹, ◌∙◌}
use mathlib.Core.Bool.{Bool, true, false}
use mathlib.Core.List.{List, [], ◌∷◌, ◌++◌, append-nil, append_assoc}
use mathlib.Core.Option.{some}
use Prim.Native.Nat.{ℕ}
use Rattle.bits.specs.Bits.{put_bit}
use Rattle.keycodes_ascii.specs.declared.KeyEvent.{KeyEvent}
use Rattle.keycodes_ascii.specs.declared.Keycode.{Keycode}
use Rattle.keycodes_ascii.specs.Keycode.{number_of}
use Rattle.keycodes_ascii.specs.Characters.{character_of}
use Rattle.scancode_set1.specs.Set1.{release_of}
use Rattle.typing.specs.Keys.{Key, gives_it, key_of}
use Rattle.typing.specs.Typing.{strokes_of, scancodes}
use Rattle.typing.proofs.Keys.{chosen}
use Rattle.typing.proofs.Texts.{Keyed, no_text, one_key}
use Rattle.keyboard_scancodes.specs.Strokes.{stroke}
use Rattle.keyboard_scancodes.specs.declared.Profile.{Profile}
use Rattle.keyboard_scancodes.specs.Profile.{followed, presses_followed}
use Rattle.keyboard_scancodes.specs.FlagsAfter.{flags_after}
use Rattle.keyboard_scancodes.specs.Events.{event_of}
use Rattle.theorem_history.specs.Past.{Past, nothing, ◌▸◌, onto}
use Rattle.theorem_history.specs.Said.{prefix_said, flags_said, event_given, events_given}
use Rattle.theorem_history.proofs.Flags.{flags_none, flags_more}
use Rattle.theorem_history.proofs.Row.{given_one}
use Rattle.theorem_typed.specs.Fed.{of_press, or_passed_over, characters}
use Rattle.theorem_typed.proofs.Keys.{held, Strikes, press_strikes, release_strikes, shift_strikes, shift_released_strikes, press_character, release_character, shift_character}

-- none of the bytes presses a lock
pub data NoLocks : Past ℕ → Type 0 where
  no_bytes : NoLocks nothing
  one_more : {past : Past ℕ} {b : ℕ} → NoLocks past → presses_followed Profile.Any b ≡ false → NoLocks (past ▸ b)

-- the bytes say that Shift is held, or not, and nothing else
pub record At (shift : Bool) (past : Past ℕ) : Type 0 where
  pub flags : flags_said Profile.Any past ≡ held shift
  pub prefix : prefix_said past ≡ false

pub at_first : At false nothing
unfolding prefix_said put_bit
at_first = record { flags = flags_none Profile.Any; prefix = refl }

-- bytes behind others, whose press events have these characters
pub record Says (past : Past ℕ) (shift : Bool) (text : List ℕ) (bytes : Past ℕ) : Type 0 where
  pub at : At shift bytes
  pub is_text : characters (events_given Profile.Any bytes) ≡ characters (events_given Profile.Any past) ++ text
  pub locks : NoLocks past → NoLocks bytes

characters-append : (es ks : List KeyEvent) → characters (es ++ ks) ≡ characters es ++ characters ks
unfolding characters
characters-append [] ks = refl
characters-append (e ∷ es) ks =
    let first = of_press e.action (or_passed_over (character_of e.keycode e.modifiers)) in
    ap (λ (l : List ℕ). first ++ l) (characters-append es ks) ∙ sym (append_assoc first (characters es) (characters ks))

says_then : {a b c : Past ℕ} {s t : Bool} {x y : List ℕ} → Says a s x b → Says b t y c → Says a t (x ++ y) c
says_then {a} {b} {c} {s} {t} {x} {y} h g =
    record {
      at = g.at;
      is_text = g.is_text ∙ ap (λ (l : List ℕ). l ++ y) h.is_text ∙ append_assoc (characters (events_given Profile.Any a)) x y;
      locks = λ n. g.locks (h.locks n);
    }

-- ---- a byte

says_byte : {past : Past ℕ} {s t : Bool} {b : ℕ} {text : List ℕ} → At s past → Strikes b (held s) (held t)
    → characters (event_of b (held t) ∷ []) ≡ text → Says past t text (past ▸ b)
unfolding prefix_said events_given
says_byte {past} {s} {t} {b} {text} a x e =
    let flags : flags_said Profile.Any (past ▸ b) ≡ held t =
    flags_more Profile.Any past b ∙ ap₂ (λ (p : Bool) (w : ℕ). flags_after (followed Profile.Any) (stroke b p) w) a.prefix a.flags ∙ x.flags in
    let event : event_given Profile.Any past b ≡ event_of b (held t) ∷ [] = given_one Profile.Any past b x.has_event ∙ ap (λ (w : ℕ). event_of b w ∷ []) flags in
    record {
      at = record { flags = flags; prefix = x.no_prefix };
      is_text =
          characters-append (events_given Profile.Any past) (event_given Profile.Any past b)
          ∙ ap (λ (l : List ℕ). characters (events_given Profile.Any past) ++ l) (ap characters event ∙ e);
      locks = λ n. one_more n x.no_lock;
    }

-- ---- a key

module _ (c : ℕ) (k : Keycode) {past : Past ℕ} where
  says_plain : At false past → gives_it false c k ≡ true → Says past false (c ∷ []) (past ▸ number_of k ▸ release_of (number_of k))
  says_plain a e =
      let press = says_byte a (press_strikes false c k e) (press_character false c k e) in
      says_then press (says_byte press.at (release_strikes false c k e) (release_character (number_of k) (held false)))

  says_shifted : At false past → gives_it true c k ≡ true → Says past false (c ∷ []) (past ▸ 0x2A ▸ number_of k ▸ release_of (number_of k) ▸ 0xAA)
  says_shifted a e =
      let shift = says_byte a shift_strikes shift_character in
      let press = says_byte shift.at (press_strikes true c k e) (press_character true c k e) in
      let release = says_byte press.at (release_strikes true c k e) (release_character (number_of k) (held true)) in
      says_then (says_then (says_then shift press) release) (says_byte release.at shift_released_strikes (release_character 0x2A (held false)))

says_key : (c : ℕ) {k : Key} {past : Past ℕ} → At false past → key_of c ≡ some k → Says past false (c ∷ []) (onto past (strokes_of k))
unfolding strokes_of onto
says_key c {k} {past} a e = by k.shift (chosen c e).right
  where
    by : (shift : Bool) → gives_it shift c k.keycode ≡ true → Says past false (c ∷ []) (onto past (strokes_of (record { keycode = k.keycode; shift = shift })))
    by true g = says_shifted c k.keycode a g
    by false g = says_plain c k.keycode a g

-- ---- a text

onto-append : (past : Past ℕ) (l m : List ℕ) → onto past (l ++ m) ≡ onto (onto past l) m
unfolding onto
onto-append past [] m = refl
onto-append past (b ∷ l) m = onto-append (past ▸ b) l m

pub says_text : {text : List ℕ} {ks : List Key} {past : Past ℕ} → Keyed text ks → At false past → Says past false text (onto past (scancodes ks))
unfolding scancodes onto
says_text {past = past} no_text a = record { at = a; is_text = sym (append-nil (characters (events_given Profile.Any past))); locks = λ n. n }
says_text {past = past} (one_key {c = c} {k = k} {text = text} {ks = ks} e h) a =
    let one = says_key c a e in
    subst⁻¹ (Says past false (c ∷ text)) (onto-append past (strokes_of k) (scancodes ks)) (says_then one (says_text h one.at))
