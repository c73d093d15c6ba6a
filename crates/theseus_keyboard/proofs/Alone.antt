-- What a side's call and the Rust's handler for that keyboard alone come to.
use mathlib.Core.Path.{◌≡◌, refl, sym, ap, ap₂, subst, ◌∙◌}
use mathlib.Core.Bool.{Bool, true, false, not, cond, ◌&&◌}
use mathlib.Core.List.{List, [], ◌∷◌, ◌++◌}
use mathlib.Core.Option.{Option, none, some}
use Prim.Native.Nat.{ℕ, ◌<◌}
use lib.ListN.{length}
use Rattle.std.specs.Prelude.{map}
use Rattle.std.proofs.lemmas.Bool.{or_parts, lt-ltb}
use Rattle.std.proofs.lemmas.List.{map-append}
use Rattle.exchange.specs.Exchange.{Exchange, done, bind, End, yields, lacks, told_end, Played, played, play}
use Rattle.exchange.specs.Answer.{Answer, gives, refuses}
use Rattle.exchange.proofs.Told.{bind_told}
use Rattle.ps2_answers.specs.Refusals.{Success, success}
use Rattle.ps2_kept.specs.Kept.{kept_of}
use Rattle.keycodes_ascii.specs.declared.KeyEvent.{KeyEvent}
use Rattle.keyboard_scancodes.specs.declared.KeyboardState.{KeyboardState}
use Rattle.keyboard_scancodes.specs.declared.Profile.{Profile}
use Rattle.keyboard_scancodes.specs.Events.{is_known, event_of, keycode_at}
use Rattle.keyboard_scancodes.specs.FlagsAfter.{flags_after, flags_then}
use Rattle.keyboard_scancodes.specs.Lamps.{lamps_lit}
use Rattle.keyboard_scancodes.specs.Profile.{allows, presses_followed}
use Rattle.keyboard_scancodes.specs.Remembered.{keyboard_of}
use Rattle.keyboard_scancodes.specs.Strokes.{stroke, low_part, is_prefix, is_silent}
use Rattle.keyboard_scancodes.specs.Waiting.{waiting_of}
use Rattle.keyboard_sides.specs.declared.Side.{Side}
use Rattle.keyboard_sides.specs.Named.{of_side}
use Rattle.keyboard_sides.proofs.Named.{of_side-append, of_side_same}
use Rattle.keyboard_record.specs.declared.HandlerState.{HandlerState}
use Rattle.keyboard_record.specs.declared.KeyboardHandler.{KeyboardHandler}
use Rattle.keyboard_record.specs.declared.Table.{Table}
use Rattle.keyboard_record.specs.Queue.{waiting, waiting_sides, room, place, joined, one_more, if_given, places_with}
use Rattle.keyboard_record.specs.Record.{keyboard_at, with_keyboard}
use Rattle.keyboard_record.proofs.AtSides.{keyboard_at_with, table_with, start_with, place_with}
use Rattle.keyboard_record.proofs.Meeting.{admits_33, admits_allowed, table_joined, keyboard_at-joined}
use Rattle.keyboard_record.proofs.Waiting.{handler_of, waiting_with, waiting-joined}
use Rattle.keyboard.specs.Rules.{Rules}
use Rattle.keyboard.specs.Byte.{Keyed, keyed, key_event, after_lamps, lamp_exchange, on_byte, take_byte}
use Rattle.keyboard.specs.Handler.{Outcome, Called, called_with, effects_by, queued, after_byte}
use Rattle.theseus_keyboard.specs.Handler.{rusts_table, room_in, pushed, flags_of_byte, queue_of_byte}
use Rattle.theseus_keyboard.specs.Both.{first_of}
use Rattle.theseus_keyboard.specs.Alone.{with_oldest, profile_of, both_follow, followed_event, inside, is_outside, AlikeQueue, AgreeFollowed, AgreeQueued}
use Rattle.theseus_keyboard.proofs.Call.{Seen, view, ours_cases}
use Rattle.theseus_keyboard.proofs.FollowedAlike.{same_flags_then}

-- ---- what a keyboard's part of a call yields, by the byte that it takes

abbrev pub seen_by : Profile → KeyboardState → ℕ → Seen
seen_by profile k b =
    cond (is_silent b) (gives none, (is_prefix b, k.modifiers.bits))
    (key_event b (flags_then profile k b), (false, flags_then profile k b))

-- an end that yields this, if it yields
abbrev pub Only : Seen → End Seen → Type 0
Only v (yields a) = a ≡ v
Only v (lacks l) = Unit {0}

told_only : {A : Type 0} (v : Seen) (e : End A) → Only v (told_end (λ a. v) e)
told_only v (yields a) = refl
told_only v (lacks l) = tt

cases_only : (c p : Bool) (t : Exchange (Answer Success)) (v : Seen) (script log : List ℕ)
    → Only v (play (cond c (done v) (cond p (bind t (λ a. done v)) (done v))) script log).end
unfolding play
cases_only true p t v script log = refl
cases_only false false t v script log = refl
cases_only false true t v script log =
    subst (λ (o : Played Seen). Only v o.end) (bind_told t (λ a. v) script log refl refl) (told_only v (play t script log).end)

module _ (rules : Rules Success) (k : KeyboardState) where
  pub byte_exchange : (ws : List ℕ) (b : ℕ) → bind (on_byte rules k ws b) (λ o. done (view o))
      ≡ cond (is_silent b) (done (seen_by rules.profile k b))
      (cond (presses_followed rules.profile b) (bind (rules.lamps (lamps_lit (flags_then rules.profile k b))) (λ a. done (seen_by rules.profile k b))) (done (seen_by rules.profile k b)))
  unfolding on_byte lamp_exchange
  byte_exchange ws b =
      let f = flags_then rules.profile k b in
      ours_cases (keyed (gives none) (gives success) (keyboard_of (is_prefix b) k.modifiers.bits (waiting_of ws)) 0)
      (λ lit. after_lamps b f (kept_of (ws ++ lit.bytes)) lit.value) (key_event b f, (false, f)) (λ lit. refl)
      (is_silent b) (presses_followed rules.profile b) (rules.lamps (lamps_lit f))

  byte_only : (ws : List ℕ) (b : ℕ) (script log : List ℕ) → Only (seen_by rules.profile k b) (told_end view (play (on_byte rules k ws b) script log).end)
  byte_only ws b script log =
      subst (λ (o : Played Seen). Only (seen_by rules.profile k b) o.end)
      (sym (bind_told (on_byte rules k ws b) view script log refl refl ∙ ap (λ (t : Exchange Seen). play t script log) (byte_exchange ws b)))
      (cases_only (is_silent b) (presses_followed rules.profile b) (rules.lamps (lamps_lit (flags_then rules.profile k b))) (seen_by rules.profile k b) script log)

  pub take_only : (ws script log : List ℕ)
      → Only (seen_by rules.profile k (first_of (with_oldest ws script))) (told_end view (play (take_byte ws (on_byte rules k)) script log).end)
  unfolding play
  take_only [] [] log = tt
  take_only [] (b ∷ script) log = byte_only [] b script log
  take_only (b ∷ ws) script log = byte_only ws b script log

-- ---- its parts

no_prefix : (b : ℕ) → is_silent b ≡ false → is_prefix b ≡ false
no_prefix b e = (or_parts _ _ e).0

module _ (profile : Profile) (k : KeyboardState) (b : ℕ) where
  pub seen_parts : (c : Bool) → is_silent b ≡ c
      → ((seen_by profile k b).0 ≡ cond c (gives none) (key_event b (flags_then profile k b)))
      × (((seen_by profile k b).1.0 ≡ is_prefix b) × ((seen_by profile k b).1.1 ≡ cond c k.modifiers.bits (flags_then profile k b)))
  seen_parts true e = rw e (refl, (refl, refl))
  seen_parts false e = rw e (refl, (sym (no_prefix b e), refl))

  -- the flags that both follow are the same after the byte
  flags_same : (c : Bool) (m : ℕ) → both_follow profile m ≡ both_follow profile k.modifiers.bits
      → both_follow profile (cond c m (flags_after rusts_table (stroke b k.prefix) m)) ≡ both_follow profile (cond c k.modifiers.bits (flags_then profile k b))
  flags_same true m e = e
  flags_same false m e = same_flags_then profile k b m e

-- ---- the record that is left

queued_table : (side : Side) (k : KeyboardState) (s : HandlerState) (given : Answer (Option KeyEvent)) (lit : Answer Success) (dropped : ℕ)
    → (queued side (with_keyboard side k s) given lit dropped).state.table ≡ s.table
queued_table side k s (gives none) lit dropped = table_with side k s
queued_table side k s (gives (some e)) lit dropped = table_joined side e.keycode (with_keyboard side k s) ∙ table_with side k s
queued_table side k s (refuses n) lit dropped = table_with side k s

queued_keyboard : (side : Side) (k : KeyboardState) (s : HandlerState) (given : Answer (Option KeyEvent)) (lit : Answer Success) (dropped : ℕ)
    → keyboard_at side (queued side (with_keyboard side k s) given lit dropped).state ≡ k
queued_keyboard side k s (gives none) lit dropped = keyboard_at_with side k s
queued_keyboard side k s (gives (some e)) lit dropped = keyboard_at-joined side side e.keycode (with_keyboard side k s) ∙ keyboard_at_with side k s
queued_keyboard side k s (refuses n) lit dropped = keyboard_at_with side k s

places_same : (side : Side) (k : KeyboardState) (s : HandlerState) (places : List KeyEvent) (e : KeyEvent)
    → places_with (handler_of (with_keyboard side k s) places) (some e) ≡ places_with (handler_of s places) (some e)
places_same Side.First k s places e = refl
places_same Side.Second k s places e = refl

cond_append : {A : Type 0} (c : Bool) (a : A) (l m n : List A) → n ≡ l ++ m → cond c (a ∷ n) n ≡ cond c (a ∷ l) l ++ m
cond_append {A = A} true a l m n e = ap (λ (x : List A). a ∷ x) e
cond_append false a l m n e = e

inside-append : (profile : Profile) (l m : List KeyEvent) → inside profile (l ++ m) ≡ inside profile l ++ inside profile m
unfolding inside
inside-append profile [] m = refl
inside-append profile (e ∷ l) m =
    cond_append (allows profile e.keycode) (followed_event profile e) (inside profile l) (inside profile m) (inside profile (l ++ m)) (inside-append profile l m)

inside_one : (profile : Profile) (e : KeyEvent) (c : Bool) → allows profile e.keycode ≡ c → inside profile (e ∷ []) ≡ cond c (followed_event profile e ∷ []) []
unfolding inside
inside_one profile e c p = rw p refl

append_none : {A : Type 0} (l : List A) → l ++ [] ≡ l
append_none [] = refl
append_none {A = A} (x ∷ l) = ap (λ (y : List A). x ∷ y) (append_none l)

-- ---- the call's record and answer, of a side whose call is well formed

abbrev pub called_by : Side → KeyboardHandler → End Keyed → ℕ → ℕ → List ℕ → Called
called_by side h e used pairs log = called_with h (effects_by h.state (played (told_end (after_byte side h.state) e) used pairs log))

module _ (side : Side) (h : KeyboardHandler) (x : Bool) (m b : ℕ)
    (px : x ≡ (keyboard_at side h.state).prefix) (pm : both_follow (profile_of h) m ≡ both_follow (profile_of h) (keyboard_at side h.state).modifiers.bits)
    (x' : Bool) (m' : ℕ) (px' : x' ≡ is_prefix b) (pm' : m' ≡ flags_of_byte b x m) where
  abbrev before : KeyboardState
  before = keyboard_at side h.state

  abbrev flags_now : ℕ
  flags_now = cond (is_silent b) before.modifiers.bits (flags_then (profile_of h) before b)

  now_same : both_follow (profile_of h) m' ≡ both_follow (profile_of h) flags_now
  now_same =
      ap (both_follow (profile_of h)) (pm' ∙ ap (λ (y : Bool). flags_of_byte b y m) px)
      ∙ flags_same (profile_of h) before b (is_silent b) m pm

  pub followed : (e : End Keyed) (used pairs : ℕ) (log : List ℕ) → Only (seen_by (profile_of h) before b) (told_end view e)
      → AgreeFollowed side (called_by side h e used pairs log) x' m'
  followed (lacks l) used pairs log o = tt
  followed (yields y) used pairs log o =
      let parts = seen_parts (profile_of h) before b (is_silent b) refl in
      let table = queued_table side y.keyboard h.state y.given y.lamps y.dropped in
      let keyboard = queued_keyboard side y.keyboard h.state y.given y.lamps y.dropped in
      record {
        prefix_is = px' ∙ sym (parts.1.0) ∙ sym (ap (λ (s : Seen). s.1.0) o) ∙ sym (ap (λ (k : KeyboardState). k.prefix) keyboard);
        flags_are =
            subst (λ (t : Profile × ℕ). both_follow t.0 m' ≡ both_follow t.0 t.1)
            (ap (λ (n : ℕ). (profile_of h, n)) (sym (parts.1.1) ∙ sym (ap (λ (s : Seen). s.1.1) o) ∙ sym (ap (λ (k : KeyboardState). k.modifiers.bits) keyboard))
            ∙ ap (λ (p : Profile). (p, (keyboard_at side (queued side (with_keyboard side y.keyboard h.state) y.given y.lamps y.dropped).state).modifiers.bits)) (sym (ap (λ (t : Table). t.profile) table)))
            now_same;
      }

  module _ (q : List KeyEvent) (alike : AlikeQueue side h q) (free : room side h.state ≡ gives success) (fits : length q < 128)
      (start : h.state.start < 128) (long : length h.places ≡ 128) where
    abbrev events : KeyboardHandler → List KeyEvent
    events hh = map (followed_event (profile_of h)) (of_side side (waiting hh))

    abbrev left_by : Outcome → KeyboardHandler
    left_by w = record { state = w.state; places = places_with h w.event }

    abbrev Agreed : Answer Success → List KeyEvent → Outcome → Type 0
    Agreed a q' w = (w.answer ≡ a) × (inside (profile_of h) q' ≡ events (left_by w))

    module _ (k : KeyboardState) (lit : Answer Success) (dropped : ℕ) where
      abbrev s1 : HandlerState
      s1 = with_keyboard side k h.state

      unmoved : inside (profile_of h) q ≡ events (handler_of s1 h.places)
      unmoved = alike ∙ sym (ap (λ l. map (followed_event (profile_of h)) (of_side side l)) (waiting_with side k h.state h.places))

      module _ (e e' : KeyEvent) (key : e'.keycode ≡ e.keycode) (same : followed_event (profile_of h) e' ≡ followed_event (profile_of h) e) where
        key_free : (al : Bool) → allows (profile_of h) e.keycode ≡ al
            → Agreed (cond (not al) (refuses 33) (gives success)) (q ++ (e' ∷ [])) (queued side s1 (gives (some e)) lit dropped)
        key_free true p =
            let pl : place side e.keycode s1 ≡ gives success =
            place_with side side e.keycode k h.state ∙ admits_allowed h.state.table side (waiting_sides h.state) e.keycode p ∙ free in
            let w = waiting-joined side (handler_of s1 h.places) e long (subst (λ (n : ℕ). n < 128) (sym (start_with side k h.state)) start) pl in (
              pl,
              inside-append (profile_of h) q (e' ∷ [])
                  ∙ ap₂ {C = List KeyEvent} (λ (l n : List KeyEvent). l ++ n) unmoved (inside_one (profile_of h) e' true (ap (allows (profile_of h)) key ∙ p) ∙ ap (λ (y : KeyEvent). y ∷ []) same)
                  ∙ sym (map-append (followed_event (profile_of h)) (of_side side (waiting (handler_of s1 h.places))) (e ∷ []))
                  ∙ sym (ap (map (followed_event (profile_of h)))
                  (ap (λ (places : List KeyEvent). of_side side (waiting (handler_of (joined side e.keycode s1) places)))
                  (ap (λ (a : Answer Success). places_with h (if_given a (some e) none)) pl ∙ sym (places_same side k h.state h.places e))
                  ∙ ap (of_side side) w
                  ∙ of_side-append side (waiting (handler_of s1 h.places)) (record { side = side; one = e } ∷ [])
                  ∙ ap (λ (l : List KeyEvent). of_side side (waiting (handler_of s1 h.places)) ++ l) (of_side_same side e))),
            )
        key_free false p =
            let pl : place side e.keycode s1 ≡ refuses 33 =
            place_with side side e.keycode k h.state ∙ admits_33 h.state.table side (waiting_sides h.state) e.keycode p in (
              pl,
              inside-append (profile_of h) q (e' ∷ [])
                  ∙ ap₂ {C = List KeyEvent} (λ (l n : List KeyEvent). l ++ n) unmoved (inside_one (profile_of h) e' false (ap (allows (profile_of h)) key ∙ p))
                  ∙ append_none (events (handler_of s1 h.places))
                  ∙ sym (ap (λ (a : Answer Success). events (handler_of (if_given a (one_more side s1) s1) (places_with h (if_given a (some e) none)))) pl),
            )

      by_cases : (c kn al : Bool) (f : ℕ) (given : Answer (Option KeyEvent))
          → given ≡ cond c (gives none) (cond kn (gives (some (event_of b f))) (refuses 19))
          → allows (profile_of h) (keycode_at (low_part b)) ≡ al
          → (c ≡ false → both_follow (profile_of h) m' ≡ both_follow (profile_of h) f)
          → Agreed (cond (not c && (kn && not al)) (refuses 33) (cond c (gives success) (cond kn (gives success) (refuses 19))))
          (cond c q (cond kn (q ++ (event_of b m' ∷ [])) q)) (queued side s1 given lit dropped)
      unfolding event_of
      by_cases true kn al f given g p n =
          subst (λ (a : Answer (Option KeyEvent)). Agreed (gives success) q (queued side s1 a lit dropped)) (sym g) (refl, unmoved)
      by_cases false false al f given g p n =
          subst (λ (a : Answer (Option KeyEvent)). Agreed (refuses 19) q (queued side s1 a lit dropped)) (sym g) (refl, unmoved)
      by_cases false true al f given g p n =
          subst (λ (a : Answer (Option KeyEvent)). Agreed (cond (not al) (refuses 33) (gives success)) (q ++ (event_of b m' ∷ [])) (queued side s1 a lit dropped)) (sym g)
          (key_free (event_of b f) (event_of b m') refl
          (ap (λ (y : ℕ). record (event_of b f) { modifiers = record { bits = y } }) (n refl)) al p)

    room_is : room_in q ≡ gives success
    room_is = ap (λ (c : Bool). cond c (gives success) (refuses 20)) (lt-ltb _ _ fits)

    push_is : (e : KeyEvent) → pushed q e ≡ q ++ (e ∷ [])
    push_is e = ap (λ (c : Bool). cond c (q ++ (e ∷ [])) q) (lt-ltb _ _ fits)

    pub agreed : (q' : List KeyEvent) → q' ≡ queue_of_byte b m' q → (e : End Keyed) (used pairs : ℕ) (log : List ℕ)
        → Only (seen_by (profile_of h) before b) (told_end view e)
        → AgreeQueued side (profile_of h) b q (called_by side h e used pairs log) q'
    unfolding key_event
    agreed q' pq (lacks l) used pairs log o = tt
    agreed q' pq (yields y) used pairs log o =
        let f = flags_then (profile_of h) before b in
        let c = is_silent b in
        let given : y.given ≡ cond c (gives none) (key_event b f) = ap (λ (s : Seen). s.0) o ∙ (seen_parts (profile_of h) before b c refl).0 in
        let w = by_cases y.keyboard y.lamps y.dropped c (is_known b) (allows (profile_of h) (keycode_at (low_part b))) f y.given given refl
        (λ z. now_same ∙ ap (λ (d : Bool). both_follow (profile_of h) (cond d before.modifiers.bits f)) z) in
        let out = queued side (with_keyboard side y.keyboard h.state) y.given y.lamps y.dropped in
        let table = queued_table side y.keyboard h.state y.given y.lamps y.dropped in (
          w.0 ∙ ap (λ (a : Answer Success). cond (is_outside (profile_of h) b) (refuses 33) (cond c (gives success) (cond (is_known b) a (refuses 19)))) (sym room_is),
          subst (λ (p : Profile). inside p q' ≡ map (followed_event p) (of_side side (waiting (left_by out)))) (sym (ap (λ (t : Table). t.profile) table))
              (ap (inside (profile_of h)) (pq ∙ ap (λ (l : List KeyEvent). cond c q (cond (is_known b) l q)) (push_is (event_of b m'))) ∙ w.1),
        )
