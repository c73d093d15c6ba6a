-- A record that is as the counted bytes and waiting bytes of each side and a row of events say: a fresh one is, and each call leaves one, with the answers that they say.
use mathlib.Core.Path.{◌≡◌, refl, ap, ap₂, sym, subst⁻¹, ◌∙◌}
use mathlib.Core.Bool.{Bool, true, false, not}
use mathlib.Core.List.{List, [], ◌∷◌, ◌++◌, append-nil}
use mathlib.Core.Logic.{⊎_elim}
use mathlib.Core.Option.{Option, some}
use Prim.Native.Nat.{ℕ, ◌<◌, ◌≤◌}
use native.Mathlib.Omega.{arith}
use lib.Dec.{eqb}
use lib.ListN.{length, length-set}
use borrow.Author.Tests.{eqb-true, eqb-false, ne_eqb}
use Rattle.exchange.specs.Exchange.{no_script, no_log, Lack, Exchange, End, yields, lacks, told_end}
use Rattle.exchange.specs.Answer.{Answer, gives, refuses}
use Rattle.exchange.specs.Left.{Left}
use Rattle.ps2_answers.specs.Refusals.{Success, success}
use Rattle.keycodes_ascii.specs.declared.KeyEvent.{KeyEvent}
use Rattle.keycodes_ascii.specs.declared.Keycode.{Keycode}
use Rattle.keyboard_scancodes.specs.FlagsAfter.{flags_then}
use Rattle.keyboard_scancodes.specs.Waiting.{waiting_bytes}
use Rattle.keyboard_scancodes.proofs.Tests.{which}
use Rattle.keyboard_sides.specs.declared.Side.{Side}
use Rattle.keyboard_sides.specs.Sides.{same_side}
use Rattle.keyboard_sides.specs.Named.{Sided, sides_in}
use Rattle.keyboard_record.specs.declared.HandlerState.{HandlerState}
use Rattle.keyboard_record.specs.declared.KeyboardHandler.{KeyboardHandler}
use Rattle.keyboard_record.specs.declared.Table.{Table}
use Rattle.keyboard_record.specs.Queue.{meets, admits, room, place, one_more, places_with, waiting, waiting_sides, oldest, without_oldest}
use Rattle.keyboard_record.specs.Record.{at_table, keyboard_at, with_keyboard, fresh, well_formed, call_formed}
use Rattle.keyboard_record.specs.Taking.{taken}
use Rattle.keyboard_record.proofs.AtSides.{place_with, start_with, count_with, keyboard_at_left}
use Rattle.keyboard_record.proofs.Meeting.{Admits, not_admitted, admitted, admits_cases, place_says, joined_full}
use Rattle.keyboard_record.proofs.Taking.{taken_none, taken_one}
use Rattle.keyboard_record.proofs.Waiting.{handler_of, waiting_sides_lem, waiting_with, waiting_none, waiting_oldest, waiting_more}
use Rattle.keyboard_record.proofs.WellFormed.{WellFormed, is_well, is_call, fresh_well, well_taken}
use Rattle.keyboard.specs.Answers.{ends2_3_21, ends_with}
use Rattle.keyboard.specs.Rules.{rules_at}
use Rattle.keyboard.specs.Scancode.{is_some, scancode}
use Rattle.keyboard.specs.Byte.{Keyed, key_effects}
use Rattle.keyboard.specs.Handler.{Outcome, Called, queued, after_byte, effects, handled, end_outcome}
use Rattle.keyboard.proofs.Ways.{end_of}
use Rattle.keyboard.proofs.Calls.{call_scanned, formed_play}
use Rattle.keyboard.proofs.Counted.{answer_end, counted_exactly}
use Rattle.keyboard.proofs.Formed.{left_at, left_other, left_table, left_dropped, well_handled}
use Rattle.keyboard.proofs.Refused.{malformed_handled}
use Rattle.theorem_history.specs.Past.{Past, nothing}
use Rattle.theorem_history.specs.Counted.{count, scancode_after, dropped_after, waiting_after}
use Rattle.theorem_history.specs.Row.{less_met, any_met, given_to, event_of_call, first, rest}
use Rattle.theorem_history.proofs.Row.{less_none, met_none, less_room, less_full, met_one}
use Rattle.theorem_history.proofs.AsKeyboard.{AsKeyboard, as_fresh_keyboard, Gives, gives_lack, gives_none, gives_unknown, gives_event, scanned_said, as_gives, as_dropped, as_keyed}

-- a record for a table, each of whose keyboards is as its bytes and waiting bytes say, and in whose queue wait the events of a row
pub record As (table : Table) (h : KeyboardHandler) (bytes : Side → Past ℕ) (ws : Side → List ℕ) (row : List (Sided KeyEvent)) : Type 0 where
  pub laid : h.state.table ≡ table
  pub at : (side : Side) → AsKeyboard table.profile (keyboard_at side h.state) (bytes side) (ws side)
  pub places : length h.places ≡ 128
  pub formed : WellFormed h.state
  pub waits : waiting h ≡ row

fresh_at : (table : Table) (side : Side) → AsKeyboard table.profile (keyboard_at side (fresh table).state) nothing []
fresh_at table Side.First = as_fresh_keyboard table.profile
fresh_at table Side.Second = as_fresh_keyboard table.profile

pub as_fresh : (table : Table) → As table (fresh table) (λ side. nothing) (λ side. []) []
as_fresh table =
    record { laid = refl; at = fresh_at table; places = refl; formed = fresh_well table; waits = waiting_none (fresh table) refl }

module _ {table : Table} {h : KeyboardHandler} {bytes : Side → Past ℕ} {ws : Side → List ℕ} {row : List (Sided KeyEvent)} (a : As table h bytes ws row) where
  pub as_well : well_formed h.state ≡ true
  as_well = is_well h.state a.formed

  -- what one more event of a side meets, by the row
  row_sides : waiting_sides h.state ≡ sides_in row
  row_sides = sym (waiting_sides_lem h) ∙ ap sides_in a.waits

  pub as_meets : (side : Side) → room side h.state ≡ meets table.keyboards side (sides_in row)
  as_meets side = ap₂ (λ (t : Table) (l : List Side). meets t.keyboards side l) a.laid row_sides

  pub as_admits : (side : Side) (key : Keycode) → place side key h.state ≡ admits table side (sides_in row) key
  as_admits side key = ap₂ (λ (t : Table) (l : List Side). admits t side l key) a.laid row_sides

  -- ---- a taking

  abbrev AsTaken : Left KeyboardHandler (Option (Sided KeyEvent)) → Type 0
  AsTaken t = As table t.now bytes ws (rest row) × (t.answer ≡ first row)

  took_none : eqb h.state.count 0 ≡ true → AsTaken (taken h)
  took_none e =
      let n : row ≡ [] = sym a.waits ∙ waiting_none h (eqb-true h.state.count 0 e) in
      subst⁻¹ AsTaken (taken_none h as_well e)
      (record { laid = a.laid; at = a.at; places = a.places; formed = a.formed; waits = rw n (a.waits ∙ n) }, rw n)

  took_one : eqb h.state.count 0 ≡ false → AsTaken (taken h)
  took_one e =
      let c : 0 < h.state.count = omega (arith, eqb-false h.state.count 0 e) in
      let n : row ≡ oldest h ∷ waiting (without_oldest h) = sym a.waits ∙ waiting_oldest h c in
      let w = well_taken h a.formed in
      subst⁻¹ AsTaken (taken_one h as_well e) (
        record {
          laid = a.laid;
          at = λ side. rw (keyboard_at_left side h) (a.at side);
          places = a.places;
          formed = rw (taken_one h as_well e) at w;
          waits = rw n;
        },
        rw n,
      )

  pub as_taken : AsTaken (taken h)
  as_taken = ⊎_elim took_none took_one (which (eqb h.state.count 0))

-- ---- a handler call

-- a lack is neither 20, 31 nor 33
lack_ends : (x : Lack) (n : ℕ) → 20 ≤ n → ends_with n (lacks x) ≡ false
lack_ends (no_script p) n h = ne_eqb 2 n (λ e. omega arith)
lack_ends no_log n h = ne_eqb 3 n (λ e. omega arith)

module _ {table : Table} {h : KeyboardHandler} {bytes : Side → Past ℕ} {ws : Side → List ℕ} {row : List (Sided KeyEvent)} (a : As table h bytes ws row) (side : Side) where
  -- the record that an outcome leaves
  abbrev record_left : Outcome → KeyboardHandler
  record_left o = handler_of o.state (places_with h o.event)

  abbrev Joins : List KeyEvent → End Outcome → Type 0
  Joins es e =
      (waiting (record_left (end_outcome h.state e)) ≡ row ++ less_met (given_to table side row es))
      × (length (record_left (end_outcome h.state e)).places ≡ 128)
      × ((n : ℕ) → 20 ≤ n → ends_with n (answer_end e) ≡ any_met n (given_to table side row es))

  -- no event is given: the row stays
  row_stays : waiting h ≡ row ++ less_met (given_to table side row [])
  row_stays = a.waits ∙ sym (append-nil row) ∙ ap (λ (l : List (Sided KeyEvent)). row ++ l) (sym (less_none table side row))

  same_row : (o : Keyed) → waiting (handler_of (with_keyboard side o.keyboard h.state) h.places) ≡ row ++ less_met (given_to table side row [])
  same_row o = waiting_with side o.keyboard h.state h.places ∙ row_stays

  module _ (o : Keyed) (ev : KeyEvent) where
    -- the state with the keyboard as it is after the byte
    abbrev moved : HandlerState
    moved = with_keyboard side o.keyboard h.state

    abbrev moved_handler : KeyboardHandler
    moved_handler = handler_of moved h.places

    meets_row : {x : Answer Success} → place side ev.keycode moved ≡ x → admits table side (sides_in row) ev.keycode ≡ x
    meets_row e = sym (as_admits a side ev.keycode) ∙ sym (place_with side side ev.keycode o.keyboard h.state) ∙ e

    met_is : (n : ℕ) → ends_with n (yields (place side ev.keycode moved)) ≡ any_met n (given_to table side row (ev ∷ []))
    met_is n = ap (λ (x : Answer Success). ends_with n (yields x)) (sym (meets_row refl)) ∙ sym (met_one table side row ev n)

    -- the places behind a new event are those of the record as it was
    same_places : places_with moved_handler (some ev) ≡ places_with h (some ev)
    same_places = rw (start_with side o.keyboard h.state, count_with side o.keyboard h.state)

    by_place : Admits moved.table side (waiting_sides moved) ev.keycode → Joins (ev ∷ []) (yields (queued side moved (gives (some ev)) o.lamps o.dropped))
    by_place (not_admitted {n = m} r e) =
        (rw (joined_full side ev.keycode moved m e, e) (same_row o ∙ ap (λ (l : List (Sided KeyEvent)). row ++ l) (less_none table side row ∙ sym (less_full table side row ev (meets_row e)))), rw e a.places, λ n k. met_is n)
    by_place (admitted i r e) = (
      rw e (ap (λ (p : List KeyEvent). waiting (handler_of (one_more side moved) p)) (sym same_places)
          ∙ waiting_more side moved_handler ev a.places (rw (start_with side o.keyboard h.state) a.formed.start_in) (place_says side ev.keycode moved e).1.count_in
          ∙ ap₂ {C = List (Sided KeyEvent)} (λ (x y : List (Sided KeyEvent)). x ++ y) (waiting_with side o.keyboard h.state h.places ∙ a.waits) (sym (less_room table side row ev (meets_row e)))),
      rw e (simp length-set a.places),
      λ n k. met_is n,
    )

  by_gives : {e : End Keyed} {es : List KeyEvent} → Gives e es → Joins es (told_end (after_byte side h.state) e)
  by_gives (gives_lack x e m) = rw (e, m) (row_stays, a.places, λ n k. lack_ends x n k ∙ sym (met_none table side row n))
  by_gives (gives_none o e g m) = rw (e, m, g) (same_row o, a.places, λ n k. ne_eqb 0 n (λ q. omega arith) ∙ sym (met_none table side row n))
  by_gives (gives_unknown o e g m) = rw (e, m, g) (same_row o, a.places, λ n k. ne_eqb 19 n (λ q. omega arith) ∙ sym (met_none table side row n))
  by_gives (gives_event o ev e g m) = rw (e, m, g) (by_place o ev (admits_cases (moved o ev).table side (waiting_sides (moved o ev)) ev.keycode))

  module _ {A : Type 0} (lamps : Side → ℕ → Exchange (Answer A)) (s l : List ℕ) where
    abbrev k_end : End Keyed
    k_end = end_of (rules_at table lamps side) (keyboard_at side h.state) s l

    abbrev sc : Option ℕ
    sc = scancode_after (rules_at table lamps side) (bytes side) (ws side) s l

    module _ (at : at_table table.keyboards side ≡ true) where
      call_formed_lem : call_formed side h.state ≡ true
      call_formed_lem = is_call side h.state (rw a.laid at) a.formed

      call_end : handled lamps side h s l ≡ record {
        end = answer_end (told_end (after_byte side h.state) k_end);
        lamps = (end_outcome h.state (told_end (after_byte side h.state) k_end)).lamps;
        used = (handled lamps side h s l).used;
        pairs = (handled lamps side h s l).pairs;
        handler = record_left (end_outcome h.state (told_end (after_byte side h.state) k_end));
        dropped = (end_outcome h.state (told_end (after_byte side h.state) k_end)).dropped;
      }
      unfolding handled effects
      call_end = rw (formed_play lamps side h.state s l call_formed_lem, a.laid)

      pub as_left_out : ends2_3_21 (handled lamps side h s l).end ≡ not (is_some sc)
      unfolding handled
      as_left_out =
          let k = keyboard_at side h.state in
          let q : call_scanned lamps side h.state s l ≡ sc =
          ap₂ (λ (w : Bool) (t : Table). scancode (rules_at t lamps side) w (flags_then t.profile k) (waiting_bytes k.waiting) s l) call_formed_lem a.laid
          ∙ scanned_said (a.at side) (lamps side) s l in
          counted_exactly lamps side h.state s l ∙ ap (λ (n : Option ℕ). not (is_some n)) q

      joins : Joins (event_of_call table.profile (bytes side) sc) (told_end (after_byte side h.state) k_end)
      joins = by_gives (as_gives (a.at side) (lamps side) s l)

      pub as_ends : (n : ℕ) → 20 ≤ n → ends_with n (handled lamps side h s l).end ≡ any_met n (given_to table side row (event_of_call table.profile (bytes side) sc))
      as_ends n k = ap (λ (c : Called). ends_with n c.end) call_end ∙ joins.2 n k

      pub as_drops : (handled lamps side h s l).dropped ≡ length (dropped_after (rules_at table lamps side) (bytes side) (ws side) s l)
      unfolding key_effects
      as_drops = ap (λ (c : Called). c.dropped) call_end ∙ left_dropped side h.state k_end ∙ as_dropped (a.at side) (lamps side) s l

      -- the bytes of each side after the call, and those of its own that wait
      pub own_keyboard : AsKeyboard table.profile (keyboard_at side (handled lamps side h s l).handler.state) (count (bytes side) sc) (waiting_after (rules_at table lamps side) (bytes side) (ws side) s l)
      unfolding key_effects
      own_keyboard = rw (ap (λ (c : Called). keyboard_at side c.handler.state) call_end ∙ left_at side h.state k_end) (as_keyed (a.at side) (lamps side) s l)

      pub other_keyboard : (t : Side) → same_side side t ≡ false → AsKeyboard table.profile (keyboard_at t (handled lamps side h s l).handler.state) (bytes t) (ws t)
      other_keyboard t d = rw (ap (λ (c : Called). keyboard_at t c.handler.state) call_end ∙ left_other side h.state t d k_end) (a.at t)

      module _ (bytes' : Side → Past ℕ) (ws' : Side → List ℕ)
          (is : (t : Side) → AsKeyboard table.profile (keyboard_at t (handled lamps side h s l).handler.state) (bytes' t) (ws' t)) where
        well_left : WellFormed (handled lamps side h s l).handler.state
        unfolding handled
        well_left = well_handled lamps side h.state a.formed s l

        pub as_handled : As table (handled lamps side h s l).handler bytes' ws' (row ++ less_met (given_to table side row (event_of_call table.profile (bytes side) sc)))
        as_handled =
            record {
              laid = ap (λ (c : Called). c.handler.state.table) call_end ∙ left_table side h.state k_end ∙ a.laid;
              at = is;
              places = ap (λ (c : Called). length c.handler.places) call_end ∙ joins.1;
              formed = well_left;
              waits = ap (λ (c : Called). waiting c.handler) call_end ∙ joins.0;
            }

    -- a side that is not at the table
    module _ (absent : at_table table.keyboards side ≡ false) where
      not_formed : call_formed side h.state ≡ false
      unfolding call_formed
      not_formed = rw (a.laid, absent)

      pub absent_call : handled lamps side h s l ≡ record { end = yields (refuses 21); lamps = gives success; used = 0; pairs = 0; handler = h; dropped = 0 }
      absent_call = malformed_handled lamps side h s l not_formed
