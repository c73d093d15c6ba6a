-- Bytes of one side that press no lock, fed to the handler: each is counted, no lamp exchange is run, and the events given are those taken.
use mathlib.Core.Path.{◌≡◌, refl, sym, ap, ap₂, ◌∙◌}
use mathlib.Core.Bool.{Bool, true, false, not, true≢false}
use mathlib.Core.List.{List, [], ◌∷◌, ◌++◌, append-nil}
use mathlib.Core.Logic.{◌⊎◌, inl, inr}
use mathlib.Core.Option.{Option, some}
use Prim.Native.Nat.{ℕ, ◌≤◌}
use native.Mathlib.Omega.{arith}
use lib.ListN.{take}
use lib.Seq.{take-nil}
use Rattle.std.proofs.lemmas.List.{nil_from_length}
use Rattle.exchange.specs.Exchange.{Exchange, End, yields, lacks, Played, play}
use Rattle.exchange.specs.Answer.{Answer, gives}
use Rattle.ps2_answers.specs.Refusals.{success}
use Rattle.exchange.proofs.Kept.{used_le, pairs_le, log_length}
use Rattle.exchange.proofs.Longer.{play_longer}
use Rattle.keycodes_ascii.specs.declared.KeyEvent.{KeyEvent}
use Rattle.keycodes_ascii.specs.declared.Keycode.{Keycode}
use Rattle.keyboard_scancodes.specs.declared.Profile.{Profile}
use Rattle.keyboard_scancodes.specs.Profile.{allows, presses_followed}
use Rattle.keyboard_scancodes.specs.Events.{event_of, gives_event}
use Rattle.keyboard_scancodes.proofs.Tests.{which}
use Rattle.keyboard_sides.specs.declared.Side.{Side}
use Rattle.keyboard_sides.specs.Sides.{same_side, count_of}
use Rattle.keyboard_sides.specs.Named.{Sided, of_side, sides_in}
use Rattle.keyboard_record.specs.declared.Keyboards.{Keyboards}
use Rattle.keyboard_record.specs.Queue.{meets, admits}
use Rattle.keyboard_record.specs.Record.{at_table}
use Rattle.keyboard_record.specs.declared.HandlerState.{HandlerState}
use Rattle.keyboard_record.specs.declared.KeyboardHandler.{KeyboardHandler}
use Rattle.keyboard.specs.Answers.{ends2_3_21}
use Rattle.keyboard.specs.Rules.{Rules, rules_of}
use Rattle.keyboard.specs.Scancode.{is_some, caught, scancode}
use Rattle.keyboard.specs.Handler.{Outcome, handle, effects, handled, log_left}
use Rattle.keyboard.proofs.Counted.{answer_end, lack_ends}
use Rattle.theorem_history.specs.Past.{Past, nothing, ◌▸◌, each}
use Rattle.theorem_history.specs.Said.{flags_said, event_given, events_given}
use Rattle.theorem_history.specs.Counted.{Call, handling, taking, lent, own, count, room, scancode_after, thrown_after, behind_after, joined_after, counted, waits, counted_of, waits_of, scancode_of, counts}
use Rattle.theorem_history.specs.Row.{Given, events, less_met, given_to, event_of_call, rest, newly, row, given}
use Rattle.theorem_history.specs.Run.{after, answers, takings, events_taken}
use Rattle.theorem_history.proofs.History.{history}
use Rattle.theorem_history.proofs.Row.{given_none, given_one, less_none, less_room, less_append, events-append}
use Rattle.theorem_history.proofs.Own.{own_more, own_other}
use Rattle.theorem_typed.specs.Fed.{Feeds, nothing_fed, one_fed}
use Rattle.theorem_typed.specs.Played.{unrated, Quiet, no_call, quiet_call, quiet_taking}
use Rattle.theorem_typed.proofs.Bytes.{NoLocks, one_more}

-- ---- an empty row

-- has room for an event of any side
meets_free : (keyboards : Keyboards) (side : Side) (key : Keycode) → admits (unrated keyboards) side [] key ≡ gives success
unfolding admits allows meets count_of
meets_free Keyboards.One side key = refl
meets_free Keyboards.Two side key = refl

one_joins : (g : Given) (gs : List Given) → g.met ≡ gives success → less_met gs ≡ events gs → less_met (g ∷ gs) ≡ events (g ∷ gs)
unfolding less_met
one_joins g gs m e = rw m (ap (λ (l : List (Sided KeyEvent)). g.event ∷ l) e)

module _ (keyboards : Keyboards) (side : Side) where
  -- every event joins it
  all_join : (es : List KeyEvent) → less_met (given_to (unrated keyboards) side [] es) ≡ events (given_to (unrated keyboards) side [] es)
  unfolding less_met given_to sides_in
  all_join [] = refl
  all_join (e ∷ es) = one_joins (record { event = record { side = side; one = e }; met = admits (unrated keyboards) side [] e.keycode }) (given_to (unrated keyboards) side [] es) (meets_free keyboards side e.keycode) (all_join es)

  -- a byte gives one event at most, and the taking after it leaves none
  rest_none : (past : Past ℕ) (b : ℕ) → rest (less_met (given_to (unrated keyboards) side [] (event_given Profile.Any past b))) ≡ []
  unfolding sides_in
  rest_none past b = by (which (gives_event b))
    where
      by : (gives_event b ≡ true) ⊎ (gives_event b ≡ false) → rest (less_met (given_to (unrated keyboards) side [] (event_given Profile.Any past b))) ≡ []
      by (inl e) = rw (given_one Profile.Any past b e, less_room (unrated keyboards) side [] (event_of b (flags_said Profile.Any (past ▸ b))) (meets_free keyboards side _))
      by (inr e) = rw (given_none Profile.Any past b e, less_none (unrated keyboards) side [])

module _ {A : Type 0} (lamps : ℕ → Exchange (Answer A)) where
  abbrev rules : Rules A
  rules = rules_of Profile.Any lamps

  -- ---- one byte

  -- where none waits, a byte that presses no lock is counted, whatever script and log are, and none waits after it
  counts_byte : (bytes : Past ℕ) (b : ℕ) (more log : List ℕ) → presses_followed Profile.Any b ≡ false → scancode_after rules bytes [] (b ∷ more) log ≡ some b
  unfolding scancode_after scancode
  counts_byte bytes b more log e = rw e

  throws_none : (bytes : Past ℕ) (b : ℕ) (more log : List ℕ) → presses_followed Profile.Any b ≡ false → thrown_after rules bytes [] (b ∷ more) log ≡ []
  unfolding thrown_after caught
  throws_none bytes b more log e = rw e

  none_behind : (bytes : Past ℕ) (b : ℕ) (more log : List ℕ) → presses_followed Profile.Any b ≡ false → behind_after rules bytes [] (b ∷ more) log ≡ []
  unfolding behind_after
  none_behind bytes b more log e = rw (counts_byte bytes b more log e)

  none_joins : (bytes : Past ℕ) (b : ℕ) (more log : List ℕ) → presses_followed Profile.Any b ≡ false → joined_after rules bytes [] (b ∷ more) log ≡ []
  unfolding joined_after
  none_joins bytes b more log e =
      let n = room (behind_after rules bytes [] (b ∷ more) log) in
      ap (λ (l : List ℕ). take n l) (throws_none bytes b more log e) ∙ take-nil {A = ℕ} n

module _ {A : Type 0} (keyboards : Keyboards) (lamps : Side → ℕ → Exchange (Answer A)) (side : Side) (at : at_table keyboards side ≡ true) where
  -- ---- all of them

  own_fed : (calls : Past Call) (script log : List ℕ) → own keyboards side (calls ▸ handling side script log ▸ taking) ≡ own keyboards side calls ▸ lent script log
  unfolding own
  own_fed calls script log = own_more keyboards calls side script log at

  pub fed_waits : {bytes : Past ℕ} {calls : Past Call} → Feeds side bytes calls → NoLocks bytes → waits_of (unrated keyboards) lamps side calls ≡ []
  unfolding waits own
  fed_waits nothing_fed n = refl
  fed_waits (one_fed {bytes = bytes} {calls = calls} b more log f) (one_more n e) =
      let past = counted_of (unrated keyboards) lamps side calls in
      ap (waits (rules_of Profile.Any (lamps side))) (own_fed calls (b ∷ more) log)
      ∙ ap (λ (ws : List ℕ). behind_after (rules_of Profile.Any (lamps side)) past ws (b ∷ more) log ++ joined_after (rules_of Profile.Any (lamps side)) past ws (b ∷ more) log) (fed_waits f n)
      ∙ ap₂ {C = List ℕ} (λ (x y : List ℕ). x ++ y) (none_behind (lamps side) past b more log e) (none_joins (lamps side) past b more log e)

  -- where none waits, a byte that presses no lock is counted
  counts_fed : (calls : Past Call) (b : ℕ) (more log : List ℕ) → waits_of (unrated keyboards) lamps side calls ≡ [] → presses_followed Profile.Any b ≡ false
      → scancode_of (unrated keyboards) lamps calls side (b ∷ more) log ≡ some b
  unfolding scancode_of
  counts_fed calls b more log w e = rw (at, w) (counts_byte (lamps side) (counted_of (unrated keyboards) lamps side calls) b more log e)

  pub fed_counted : {bytes : Past ℕ} {calls : Past Call} → Feeds side bytes calls → NoLocks bytes → counted_of (unrated keyboards) lamps side calls ≡ bytes
  unfolding counted own
  fed_counted nothing_fed n = refl
  fed_counted (one_fed {bytes = bytes} {calls = calls} b more log f) (one_more n e) =
      let past = counted_of (unrated keyboards) lamps side calls in
      ap (counted (rules_of Profile.Any (lamps side))) (own_fed calls (b ∷ more) log)
      ∙ ap (λ (ws : List ℕ). count past (scancode_after (rules_of Profile.Any (lamps side)) past ws (b ∷ more) log)) (fed_waits f n)
      ∙ ap (count past) (counts_byte (lamps side) past b more log e)
      ∙ ap (λ (p : Past ℕ). p ▸ b) (fed_counted f n)

  -- another side has no bytes
  pub fed_other : {bytes : Past ℕ} {calls : Past Call} (other : Side) → same_side other side ≡ false → Feeds side bytes calls → counted_of (unrated keyboards) lamps other calls ≡ nothing
  unfolding counted own
  fed_other other d nothing_fed = refl
  fed_other other d (one_fed {calls = calls} b more log f) = ap (counted (rules_of Profile.Any (lamps other))) (own_other keyboards calls side (b ∷ more) log other d) ∙ fed_other other d f

  -- what a call with the next byte gives
  newly_fed : {bytes : Past ℕ} {calls : Past Call} (es : List (Sided KeyEvent)) (b : ℕ) (more log : List ℕ) → Feeds side bytes calls → NoLocks bytes → presses_followed Profile.Any b ≡ false
      → newly (unrated keyboards) lamps calls es side (b ∷ more) log ≡ given_to (unrated keyboards) side es (event_given Profile.Any (counted_of (unrated keyboards) lamps side calls) b)
  unfolding newly
  newly_fed {calls = calls} es b more log f n e =
      ap (λ (sc : Option ℕ). given_to (unrated keyboards) side es (event_of_call Profile.Any (counted_of (unrated keyboards) lamps side calls) sc)) (counts_fed calls b more log (fed_waits f n) e)

  pub fed_row : {bytes : Past ℕ} {calls : Past Call} → Feeds side bytes calls → NoLocks bytes → row (unrated keyboards) lamps calls ≡ []
  unfolding row
  fed_row nothing_fed n = refl
  fed_row (one_fed {bytes = bytes} {calls = calls} b more log f) (one_more n e) =
      ap (λ (es : List (Sided KeyEvent)). rest (es ++ less_met (newly (unrated keyboards) lamps calls es side (b ∷ more) log))) (fed_row f n)
      ∙ ap (λ (gs : List Given). rest (less_met gs)) (newly_fed [] b more log f n e)
      ∙ rest_none keyboards side (counted_of (unrated keyboards) lamps side calls) b

  fed_joins : {bytes : Past ℕ} {calls : Past Call} → Feeds side bytes calls → NoLocks bytes → less_met (given (unrated keyboards) lamps calls) ≡ events (given (unrated keyboards) lamps calls)
  unfolding given less_met
  fed_joins nothing_fed n = refl
  fed_joins (one_fed {bytes = bytes} {calls = calls} b more log f) (one_more n e) =
      let new_event = event_given Profile.Any (counted_of (unrated keyboards) lamps side calls) b in
      let new = newly (unrated keyboards) lamps calls (row (unrated keyboards) lamps calls) side (b ∷ more) log in
      let is_new : new ≡ given_to (unrated keyboards) side [] new_event =
      newly_fed (row (unrated keyboards) lamps calls) b more log f n e ∙ ap (λ (es : List (Sided KeyEvent)). given_to (unrated keyboards) side es new_event) (fed_row f n) in
      less_append (given (unrated keyboards) lamps calls) new
      ∙ ap₂ {C = List (Sided KeyEvent)} (λ (x y : List (Sided KeyEvent)). x ++ y) (fed_joins f n)
      (ap less_met is_new ∙ all_join keyboards side new_event ∙ sym (ap events is_new))
      ∙ sym (events-append (given (unrated keyboards) lamps calls) new)

  -- the events taken are those that the bytes of each side give
  pub fed_taken : {bytes : Past ℕ} {calls : Past Call} → Feeds side bytes calls → NoLocks bytes → (t : Side)
      → of_side t (events_taken (takings (unrated keyboards) lamps calls)) ≡ events_given Profile.Any (counted_of (unrated keyboards) lamps t calls)
  fed_taken {calls = calls} f n t =
      let h = history (unrated keyboards) lamps calls in
      let taken = events_taken (takings (unrated keyboards) lamps calls) in
      ap (of_side t) (
      sym (append-nil taken)
      ∙ ap (λ (l : List (Sided KeyEvent)). taken ++ l) (sym (h.queue ∙ fed_row f n))
      ∙ h.taken_then_waiting
      ∙ fed_joins f n
      )
      ∙ h.byte_order t

  -- ---- no lamp exchange

  -- a play that ends with a byte for its script and with no log
  yielded : (s : HandlerState) (b : ℕ) → ends2_3_21 (effects lamps side s (b ∷ []) []).end ≡ false → (o : Outcome) × ((play (handle lamps side s) (b ∷ []) []).end ≡ yields o)
  unfolding effects
  yielded s b e = by (play (handle lamps side s) (b ∷ []) []).end refl
    where
      by : (x : End Outcome) → (play (handle lamps side s) (b ∷ []) []).end ≡ x → (o : Outcome) × ((play (handle lamps side s) (b ∷ []) []).end ≡ yields o)
      by (yields o) q = (o, q)
      by (lacks x) q = absurd (true≢false (sym (lack_ends x) ∙ ap (λ (y : End Outcome). ends2_3_21 (answer_end y)) (sym q) ∙ e))

  record Alone (h : KeyboardHandler) (script log : List ℕ) : Type 0 where
    pub one_byte : (handled lamps side h script log).used ≤ 1
    pub no_pairs : (handled lamps side h script log).pairs ≡ 0
    pub same_log : log_left lamps side h.state script log ≡ log

  -- uses and writes no more with a longer script and with any log
  alone : (h : KeyboardHandler) (b : ℕ) (more log : List ℕ) → ends2_3_21 (handled lamps side h (b ∷ []) []).end ≡ false → Alone h (b ∷ more) log
  unfolding handled effects log_left
  alone h b more log e =
      let t = handle lamps side h.state in
      let short = play t (b ∷ []) [] in
      let longer = play_longer t (b ∷ []) [] more log (yielded h.state b e).1 in
      let none : short.log ≡ [] = nil_from_length short.log (log_length t (b ∷ []) []) in
      record {
        one_byte = rw longer (used_le t (b ∷ []) []);
        no_pairs = ap (λ (o : Played Outcome). o.pairs) longer ∙ omega (arith, pairs_le t (b ∷ []) []);
        same_log = ap (λ (o : Played Outcome). o.log) longer ∙ ap (λ (l : List ℕ). l ++ log) none;
      }

  -- the last of some answers
  abbrev last : Bool → Past Bool → Bool
  last d nothing = d
  last d (past ▸ x) = x

  -- where none waits, a byte that presses no lock ends in none of 2, 3 and 21, with no more script and no log
  ends_well : (past : Past Call) (b : ℕ) → waits_of (unrated keyboards) lamps side past ≡ [] → presses_followed Profile.Any b ≡ false
      → ends2_3_21 (handled lamps side (after (unrated keyboards) lamps past) (b ∷ []) []).end ≡ false
  unfolding each answers counts
  ends_well past b w e =
      ap (last true) (history (unrated keyboards) lamps (past ▸ handling side (b ∷ []) [])).left_out
      ∙ ap (λ (sc : Option ℕ). not (is_some sc)) (counts_fed past b [] [] w e)

  pub fed_quiet : {bytes : Past ℕ} {calls : Past Call} → Feeds side bytes calls → NoLocks bytes → Quiet keyboards lamps calls
  fed_quiet nothing_fed n = no_call
  fed_quiet (one_fed {bytes = bytes} {calls = calls} b more log f) (one_more n e) =
      let a = alone (after (unrated keyboards) lamps calls) b more log (ends_well calls b (fed_waits f n) e) in
      quiet_taking (quiet_call (fed_quiet f n) a.one_byte a.no_pairs a.same_log)
