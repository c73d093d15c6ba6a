-- A keyboard that is remembered as some counted bytes and waiting bytes say: a fresh one is, and each call leaves one, with the event that they say.
use mathlib.Core.Path.{◌≡◌, refl, ap, ap₂, sym, ◌∙◌, fun_ext}
use mathlib.Core.Bool.{Bool, true, false, ◌||◌}
use mathlib.Core.List.{List, [], ◌∷◌, ◌++◌, append-nil}
use mathlib.Core.Logic.{⊎_elim}
use mathlib.Core.Option.{Option, none, some}
use Prim.Native.Nat.{ℕ, ◌≤◌}
use native.Mathlib.Omega.{arith}
use lib.Dec.{eqb}
use lib.ListN.{length, take, drop, length-drop}
use lib.Seq.{take-nil, drop-nil}
use Rattle.std.proofs.lemmas.Bool.{or_parts}
use Rattle.exchange.specs.Exchange.{Exchange, Lack, End, yields, lacks}
use Rattle.exchange.specs.Answer.{Answer, gives, refuses}
use Rattle.keycodes_ascii.specs.declared.KeyEvent.{KeyEvent}
use Rattle.keyboard_scancodes.specs.declared.KeyboardState.{KeyboardState}
use Rattle.keyboard_scancodes.specs.Strokes.{stroke, is_prefix, is_silent}
use Rattle.keyboard_scancodes.specs.declared.Profile.{Profile}
use Rattle.keyboard_scancodes.specs.Profile.{followed}
use Rattle.keyboard_scancodes.specs.FlagsAfter.{flags_after, flags_then}
use Rattle.keyboard_scancodes.specs.Events.{is_known, event_of}
use Rattle.keyboard_scancodes.specs.Remembered.{fresh_keyboard}
use Rattle.keyboard_scancodes.specs.Waiting.{bytes_from, waiting_bytes}
use Rattle.keyboard_scancodes.proofs.Tests.{which}
use Rattle.keyboard_scancodes.proofs.Silent.{silent_flags, silent_gives, key_gives}
use Rattle.keyboard_scancodes.proofs.Waiting.{length_bytes}
use Rattle.keyboard_record.proofs.WellFormed.{Formed}
use Rattle.keyboard.specs.Rules.{Rules, rules_of}
use Rattle.keyboard.specs.Scancode.{Took, takes, caught, scancode}
use Rattle.keyboard.specs.Byte.{Keyed, key_event, end_keyed, key_effects}
use Rattle.keyboard.proofs.Ways.{end_of, scanned, Course, lacking, at_silent, at_key}
use Rattle.keyboard.proofs.Courses.{course}
use Rattle.keyboard.proofs.Waiting.{waits_left}
use Rattle.theorem_history.specs.Past.{Past, nothing, ◌▸◌}
use Rattle.theorem_history.specs.Said.{prefix_said, flags_said, event_given}
use Rattle.theorem_history.specs.Counted.{count, behind, room, scancode_after, thrown_by, thrown_after, behind_after, joined_after, dropped_after, waiting_after}
use Rattle.theorem_history.specs.Row.{event_of_call}
use Rattle.theorem_history.proofs.Row.{given_none, given_one}
use Rattle.theorem_history.proofs.Waited.{take_joins, length_dropped, few_behind, few_joined, behind_took, none_takes, uncounted_caught}
use Rattle.theorem_history.proofs.Flags.{flags_none, flags_more, flags_lt}

-- a keyboard whose flags and prefix are what the bytes say, and of which these bytes wait
pub record AsKeyboard (profile : Profile) (k : KeyboardState) (bytes : Past ℕ) (ws : List ℕ) : Type 0 where
  pub flags : k.modifiers.bits ≡ flags_said profile bytes
  pub prefix : k.prefix ≡ prefix_said bytes
  pub bytes_wait : waiting_bytes k.waiting ≡ ws
  pub few : length ws ≤ 16

pub as_fresh_keyboard : (profile : Profile) → AsKeyboard profile fresh_keyboard nothing []
unfolding prefix_said bytes_from
as_fresh_keyboard profile = record { flags = sym (flags_none profile); prefix = refl; bytes_wait = refl; few = omega arith }

-- what the end of a keyboard's part gives: an event, or none
pub data Gives (e : End Keyed) (es : List KeyEvent) : Type 0 where
  gives_lack : (x : Lack) → e ≡ lacks x → es ≡ [] → Gives e es
  gives_none : (o : Keyed) → e ≡ yields o → o.given ≡ gives none → es ≡ [] → Gives e es
  gives_unknown : (o : Keyed) → e ≡ yields o → o.given ≡ refuses 19 → es ≡ [] → Gives e es
  gives_event : (o : Keyed) (ev : KeyEvent) → e ≡ yields o → o.given ≡ gives (some ev) → es ≡ ev ∷ [] → Gives e es

module _ {profile : Profile} {k : KeyboardState} {bytes : Past ℕ} {ws : List ℕ} (a : AsKeyboard profile k bytes ws) where
  -- as many bytes wait as are counted
  pub as_bytes : length ws ≡ k.waiting.count
  as_bytes = ap length (sym a.bytes_wait) ∙ length_bytes k.waiting.bytes 0 k.waiting.count

  pub as_formed : Formed k
  as_formed = record { flags_in = rw a.flags (flags_lt profile bytes); waiting_in = rw (← as_bytes) a.few }

  -- the flags just after a byte are those that the bytes say, with it counted
  pub as_then : (b : ℕ) → flags_then profile k b ≡ flags_said profile (bytes ▸ b)
  unfolding flags_then
  as_then b = ap₂ (λ (x : Bool) (w : ℕ). flags_after (followed profile) (stroke b x) w) a.prefix a.flags ∙ sym (flags_more profile bytes b)

  module _ {A : Type 0} (lamps : ℕ → Exchange (Answer A)) (s l : List ℕ) where
    abbrev rules : Rules A
    rules = rules_of profile lamps

    -- the scancode that the call counts, by its memory, is the one that the bytes say
    pub scanned_said : scanned rules k s l ≡ scancode_after rules bytes ws s l
    unfolding scancode_after
    scanned_said =
        ap (λ (f : ℕ → ℕ). scancode rules true f (waiting_bytes k.waiting) s l) (fun_ext (λ b. as_then b))
        ∙ ap (λ (w : List ℕ). scancode rules true (λ b. flags_said profile (bytes ▸ b)) w s l) a.bytes_wait

    abbrev sc : Option ℕ
    sc = scancode_after rules bytes ws s l

    -- ---- flags and prefix, and the event that is given

    abbrev Said : Option ℕ → End Keyed → Type 0
    Said n e =
        ((end_keyed k e).keyboard.modifiers.bits ≡ flags_said profile (count bytes n)) × ((end_keyed k e).keyboard.prefix ≡ prefix_said (count bytes n))

    -- a byte of no key leaves the flags as they are
    kept_flags : (b : ℕ) → is_silent b ≡ true → k.modifiers.bits ≡ flags_said profile (bytes ▸ b)
    unfolding flags_then
    kept_flags b q = sym (silent_flags b q profile k.prefix k.modifiers.bits) ∙ as_then b

    key_prefix : (b : ℕ) → is_silent b ≡ false → false ≡ is_prefix b
    key_prefix b q = sym (or_parts (is_prefix b) (eqb b 0x00 || eqb b 0xFA) q).0

    said : Course rules k s l → Said (scanned rules k s l) (end_of rules k s l)
    unfolding prefix_said
    said (lacking x e n) = rw (e, n) (a.flags, a.prefix)
    said (at_silent t q g e n) = rw (e, n) (kept_flags t.byte q, refl)
    said (at_key t lit q g e n) = rw (e, n) (as_then t.byte, key_prefix t.byte q)

    event_one : (b : ℕ) → is_silent b ≡ false → is_known b ≡ true → event_given profile bytes b ≡ event_of b (flags_then profile k b) ∷ []
    event_one b q c = given_one profile bytes b (key_gives b q true c) ∙ ap (λ (w : ℕ). event_of b w ∷ []) (sym (as_then b))

    known : (b : ℕ) → is_known b ≡ true → key_event b (flags_then profile k b) ≡ gives (some (event_of b (flags_then profile k b)))
    unfolding key_event
    known b c = rw c

    unknown : (b : ℕ) → is_known b ≡ false → key_event b (flags_then profile k b) ≡ refuses 19
    unfolding key_event
    unknown b c = rw c

    gives_said : Course rules k s l → Gives (end_of rules k s l) (event_of_call profile bytes (scanned rules k s l))
    gives_said (lacking x e n) = gives_lack x e (rw n)
    gives_said (at_silent t q g e n) = gives_none _ e refl (rw (n, given_none profile bytes t.byte (silent_gives t.byte q)))
    gives_said (at_key t lit q g e n) =
        ⊎_elim
        (λ c. gives_event _ (event_of t.byte (flags_then profile k t.byte)) e (known t.byte c) (rw n (event_one t.byte q c)))
        (λ c. gives_unknown _ e (unknown t.byte c) (rw n (given_none profile bytes t.byte (key_gives t.byte q false c))))
        (which (is_known t.byte))

    pub as_gives : Gives (end_of rules k s l) (event_of_call profile bytes sc)
    as_gives = rw (← scanned_said) (gives_said (course rules k s l))

    -- ---- the bytes that wait after it, and those that it drops

    -- what the memory and the number that it leaves are to be, where the rule says this of the bytes behind its own and of those thrown away
    abbrev Waited : List ℕ → List ℕ → Type 0
    Waited behind thrown =
        (waiting_bytes (key_effects rules k s l).keyboard.waiting ≡ behind ++ take (room behind) thrown)
        × ((key_effects rules k s l).dropped ≡ length (drop (room behind) thrown))

    some_none : {b : ℕ} → ◌≡◌ {A = Option ℕ} (some b) none → ⊥
    some_none q = let z : ◌≡◌ {A = ℕ} 0 1 = cc in omega arith

    none_left : scanned rules k s l ≡ none → Course rules k s l → ((key_effects rules k s l).keyboard ≡ k) × ((key_effects rules k s l).dropped ≡ 0)
    unfolding key_effects
    none_left m (lacking x e n) = rw e (refl, refl)
    none_left m (at_silent t q g e n) = absurd (some_none (sym n ∙ m))
    none_left m (at_key t lit q g e n) = absurd (some_none (sym n ∙ m))

    none_waited : sc ≡ none → Waited ws []
    none_waited n =
        let p = none_left (scanned_said ∙ n) (course rules k s l) in
        rw (p.0, p.1, take-nil {A = ℕ} (room ws), drop-nil {A = ℕ} (room ws), append-nil ws) (a.bytes_wait, refl)

    same_caught : (t : Took) → caught rules (flags_then profile k) t l ≡ caught rules (λ b. flags_said profile (bytes ▸ b)) t l
    same_caught t = ap (λ (f : ℕ → ℕ). caught rules f t l) (fun_ext (λ b. as_then b))

    some_waited : {b : ℕ} (t : Took) → sc ≡ some b → takes ws s ≡ some t → Waited (drop 1 ws) (caught rules (λ b. flags_said profile (bytes ▸ b)) t l)
    unfolding caught
    some_waited t n g =
        let w = waits_left rules k as_formed.waiting_in s l t (rw a.bytes_wait g) (scanned_said ∙ n) in
        let d = behind_took ws s g in
        let f : length (drop 1 ws) ≤ 16 = omega (arith, length-drop 1 ws, a.few) in
        let c = same_caught t in (
          w.0 ∙ rw (d, c) (take_joins (drop 1 ws) (caught rules (λ b. flags_said profile (bytes ▸ b)) t l) f),
          w.1 ∙ rw (d, c) (length_dropped (drop 1 ws) (caught rules (λ b. flags_said profile (bytes ▸ b)) t l) f),
        )

    by_scancode : (n : Option ℕ) (o : Option Took) → sc ≡ n → takes ws s ≡ o → Waited (behind n ws) (thrown_by rules (λ b. flags_said profile (bytes ▸ b)) o l)
    by_scancode none none n g = none_waited n
    by_scancode none (some t) n g = rw (uncounted_caught rules bytes ws s l t g n) (none_waited n)
    by_scancode (some b) none n g = absurd (none_takes rules bytes ws s l g n)
    by_scancode (some b) (some t) n g = some_waited t n g

    waited : Waited (behind_after rules bytes ws s l) (thrown_after rules bytes ws s l)
    unfolding behind_after thrown_after
    waited = by_scancode sc (takes ws s) refl refl

    pub as_dropped : (key_effects rules k s l).dropped ≡ length (dropped_after rules bytes ws s l)
    unfolding dropped_after
    as_dropped = waited.1

    few_wait : length (waiting_after rules bytes ws s l) ≤ 16
    unfolding behind_after joined_after
    few_wait = few_joined (behind_after rules bytes ws s l) (thrown_after rules bytes ws s l) (few_behind sc ws a.few)

    -- ---- the keyboard after the call

    said_after : Said sc (end_of rules k s l)
    said_after = rw (← scanned_said) (said (course rules k s l))

    pub as_keyed : AsKeyboard profile (key_effects rules k s l).keyboard (count bytes sc) (waiting_after rules bytes ws s l)
    unfolding key_effects joined_after
    as_keyed = record { flags = said_after.0; prefix = said_after.1; bytes_wait = waited.0; few = few_wait }
