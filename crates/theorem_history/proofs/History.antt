-- The history rule, for every lamp exchange, at a table with one keyboard or two, under either profile, and for every list of calls.
use mathlib.Core.Path.{◌≡◌, refl, ap, ap₂, sym, subst, ◌∙◌}
use mathlib.Core.Bool.{Bool, true, false, not, and-false}
use mathlib.Core.List.{List, [], ◌++◌, append-nil, append_assoc}
use mathlib.Core.Logic.{⊎_elim}
use mathlib.Core.Option.{Option, none}
use Prim.Native.Nat.{ℕ, ◌≤◌}
use native.Mathlib.Omega.{arith}
use lib.ListN.{length}
use borrow.Author.Tests.{ne_eqb}
use Rattle.exchange.specs.Exchange.{Exchange}
use Rattle.exchange.specs.Answer.{Answer}
use Rattle.keycodes_ascii.specs.declared.KeyEvent.{KeyEvent}
use Rattle.keyboard_scancodes.proofs.Tests.{which}
use Rattle.keyboard_sides.specs.declared.Side.{Side}
use Rattle.keyboard_sides.specs.Sides.{same_side}
use Rattle.keyboard_sides.specs.Named.{Sided, of_side}
use Rattle.keyboard_sides.proofs.Named.{of_side-append}
use Rattle.keyboard_record.specs.declared.KeyboardHandler.{KeyboardHandler}
use Rattle.keyboard_record.specs.declared.Table.{Table}
use Rattle.keyboard_record.specs.Queue.{are_two, waiting}
use Rattle.keyboard_record.specs.Record.{at_table, keyboard_at}
use Rattle.keyboard_record.proofs.Waiting.{waiting-of_side}
use Rattle.keyboard.specs.Answers.{ends2_3_21, ends_with}
use Rattle.keyboard.specs.Rules.{rules_at}
use Rattle.keyboard.specs.Handler.{Called, handled}
use Rattle.keyboard.specs.Scancode.{is_some}
use Rattle.theorem_history.specs.Past.{Past, nothing, ◌▸◌, each}
use Rattle.theorem_history.specs.Said.{events_given}
use Rattle.theorem_history.specs.Counted.{Call, handling, taking, own, scancode_after, counted, waits, counted_of, waits_of, scancode_of, counts}
use Rattle.theorem_history.specs.Waited.{dropped}
use Rattle.theorem_history.specs.Row.{events, less_met, any_met, given_to, event_of_call, newly, row, given, meets_with, removed}
use Rattle.theorem_history.specs.Run.{leaves, after, answers, takings, events_taken, reported}
use Rattle.theorem_history.specs.History.{History}
use Rattle.theorem_history.proofs.Row.{less_none, met_none, less_append, events-append, own_given, other_given, more_given, taken_first}
use Rattle.theorem_history.proofs.Own.{same_side_lem, which_side, own_more, own_other, own_absent}
use Rattle.theorem_history.proofs.AsKeyboard.{AsKeyboard}
use Rattle.theorem_history.proofs.AsSaid.{As, as_fresh, as_well, as_taken, as_left_out, as_ends, as_drops, own_keyboard, other_keyboard, as_handled, absent_call}

module _ {A : Type 0} (table : Table) (lamps : Side → ℕ → Exchange (Answer A)) where
  -- ---- one handler call more

  module _ (past : Past Call) (side : Side) (s l : List ℕ) where
    -- the scancode that it counts by its side's bytes, where the side is at the table
    abbrev sc : Option ℕ
    sc = scancode_after (rules_at table lamps side) (counted_of table lamps side past) (waits_of table lamps side past) s l

    abbrev next : Past Call
    next = past ▸ handling side s l

    at_scancode : at_table table.keyboards side ≡ true → scancode_of table lamps past side s l ≡ sc
    unfolding scancode_of
    at_scancode at = rw at

    absent_scancode : at_table table.keyboards side ≡ false → scancode_of table lamps past side s l ≡ none
    unfolding scancode_of
    absent_scancode ab = rw ab

    at_newly : (r : List (Sided KeyEvent)) → at_table table.keyboards side ≡ true
        → newly table lamps past r side s l ≡ given_to table side r (event_of_call table.profile (counted_of table lamps side past) sc)
    unfolding newly
    at_newly r at = rw (at_scancode at)

    absent_newly : (r : List (Sided KeyEvent)) → at_table table.keyboards side ≡ false → newly table lamps past r side s l ≡ given_to table side r []
    unfolding newly
    absent_newly r ab = rw (absent_scancode ab)

    module _ {h : KeyboardHandler} {r : List (Sided KeyEvent)} (a : As table h (λ t. counted_of table lamps t past) (λ t. waits_of table lamps t past) r) where
      -- each side's keyboard, by its own calls
      abbrev Now : Side → Type 0
      Now t = AsKeyboard table.profile (keyboard_at t (handled lamps side h s l).handler.state) (counted_of table lamps t next) (waits_of table lamps t next)

      own_now : at_table table.keyboards side ≡ true → Now side
      unfolding counted waits
      own_now at = rw (own_more table.keyboards past side s l at) (own_keyboard a side lamps s l at)

      at_now : at_table table.keyboards side ≡ true → (t : Side) → Now t
      at_now at t =
          ⊎_elim (λ e. subst Now (sym e) (own_now at))
          (λ d. rw (own_other table.keyboards past side s l t d.0) (other_keyboard a side lamps s l at t d.1)) (which_side t side)

      abbrev AsNow : List (Sided KeyEvent) → Type 0
      AsNow r' = As table (handled lamps side h s l).handler (λ t. counted_of table lamps t next) (λ t. waits_of table lamps t next) r'

      at_step : at_table table.keyboards side ≡ true → AsNow (r ++ less_met (newly table lamps past r side s l))
      at_step at =
          rw (at_newly r at)
          (as_handled a side lamps s l at (λ t. counted_of table lamps t next) (λ t. waits_of table lamps t next) (at_now at))

      absent_step : at_table table.keyboards side ≡ false → AsNow (r ++ less_met (newly table lamps past r side s l))
      absent_step ab =
          let same : (handled lamps side h s l).handler ≡ h = ap (λ (c : Called). c.handler) (absent_call a side lamps s l ab) in
          rw (absent_newly r ab, less_none table side r, append-nil r, same)
          (record {
            laid = a.laid;
            at = λ t. rw (own_absent table.keyboards past side s l t ab) (a.at t);
            places = a.places;
            formed = a.formed;
            waits = a.waits;
          })

      pub step : AsNow (r ++ less_met (newly table lamps past r side s l))
      step = ⊎_elim at_step absent_step (which (at_table table.keyboards side))

      pub step_left_out : ends2_3_21 (handled lamps side h s l).end ≡ not (is_some (scancode_of table lamps past side s l))
      step_left_out =
          ⊎_elim (λ at. rw (at_scancode at) (as_left_out a side lamps s l at)) (λ ab. rw (absent_scancode ab, absent_call a side lamps s l ab)) (which (at_table table.keyboards side))

      pub step_ends : (n : ℕ) → 20 ≤ n → (21 ≡ n → ⊥) → ends_with n (handled lamps side h s l).end ≡ any_met n (newly table lamps past r side s l)
      step_ends n k d =
          ⊎_elim (λ at. rw (at_newly r at) (as_ends a side lamps s l at n k))
          (λ ab. rw (absent_newly r ab, met_none table side r n, absent_call a side lamps s l ab) (ne_eqb 21 n d)) (which (at_table table.keyboards side))

    -- the events of a side that the call gives
    module _ (r : List (Sided KeyEvent)) where
      abbrev Events : Side → Type 0
      Events t = events_given table.profile (counted_of table lamps t next) ≡ events_given table.profile (counted_of table lamps t past) ++ of_side t (events (newly table lamps past r side s l))

      own_events : at_table table.keyboards side ≡ true → Events side
      unfolding counted
      own_events at =
          let es = event_of_call table.profile (counted_of table lamps side past) sc in
          rw (own_more table.keyboards past side s l at, at_newly r at, own_given table r side es) (more_given table.profile (counted_of table lamps side past) sc)

      other_events : (t : Side) → same_side t side ≡ false → Events t
      unfolding newly
      other_events t d =
          rw (own_other table.keyboards past side s l t d, other_given table r t side (event_of_call table.profile (counted_of table lamps side past) (scancode_of table lamps past side s l)) d)
          (sym (append-nil (events_given table.profile (counted_of table lamps t past))))

      absent_events : (t : Side) → at_table table.keyboards side ≡ false → Events t
      unfolding given_to of_side
      absent_events t ab = rw (own_absent table.keyboards past side s l t ab, absent_newly r ab) (sym (append-nil (events_given table.profile (counted_of table lamps t past))))

      step_events : (t : Side) → Events t
      step_events t =
          ⊎_elim (λ at. ⊎_elim (λ e. subst Events (sym e) (own_events at)) (λ d. other_events t d.0) (which_side t side)) (λ ab. absent_events t ab) (which (at_table table.keyboards side))

  -- ---- the list of calls

  pub as_after : (calls : Past Call) → As table (after table lamps calls) (λ t. counted_of table lamps t calls) (λ t. waits_of table lamps t calls) (row table lamps calls)
  unfolding after leaves own counted waits row
  as_after nothing = as_fresh table
  as_after (past ▸ handling side s l) = step past side s l (as_after past)
  as_after (past ▸ taking) = (as_taken (as_after past)).0

  all_left_out : (calls : Past Call) → each ends2_3_21 (answers table lamps calls) ≡ each not (counts table lamps calls)
  unfolding each answers counts
  all_left_out nothing = refl
  all_left_out (past ▸ handling side s l) =
      ap₂ {C = Past Bool} (λ (x : Past Bool) (y : Bool). x ▸ y) (all_left_out past) (step_left_out past side s l (as_after past))
  all_left_out (past ▸ taking) = all_left_out past

  all_ends : (n : ℕ) → 20 ≤ n → (21 ≡ n → ⊥) → (calls : Past Call) → each (ends_with n) (answers table lamps calls) ≡ meets_with table lamps n calls
  unfolding each answers meets_with
  all_ends n k d nothing = refl
  all_ends n k d (past ▸ handling side s l) =
      ap₂ {C = Past Bool} (λ (x : Past Bool) (y : Bool). x ▸ y) (all_ends n k d past) (step_ends past side s l (as_after past) n k d)
  all_ends n k d (past ▸ taking) = all_ends n k d past

  all_takings : (calls : Past Call) → takings table lamps calls ≡ removed table lamps calls
  unfolding takings removed
  all_takings nothing = refl
  all_takings (past ▸ handling side s l) = all_takings past
  all_takings (past ▸ taking) =
      ap₂ {C = Past (Answer (Option (Sided KeyEvent)))} (λ (x : Past (Answer (Option (Sided KeyEvent)))) (y : Answer (Option (Sided KeyEvent))). x ▸ y) (all_takings past) (as_taken (as_after past)).1

  all_events : (t : Side) (calls : Past Call) → of_side t (events (given table lamps calls)) ≡ events_given table.profile (counted_of table lamps t calls)
  unfolding given own counted events_given of_side
  all_events t nothing = refl
  all_events t (past ▸ handling side s l) =
      let new = newly table lamps past (row table lamps past) side s l in
      ap (of_side t) (events-append (given table lamps past) new)
      ∙ of_side-append t (events (given table lamps past)) (events new)
      ∙ ap (λ (x : List KeyEvent). x ++ of_side t (events new)) (all_events t past)
      ∙ sym (step_events past side s l (row table lamps past) t)
  all_events t (past ▸ taking) = all_events t past

  -- the events removed, then the row, are those given less those that met 33, 31 or 20
  all_kept : (calls : Past Call) → events_taken (removed table lamps calls) ++ row table lamps calls ≡ less_met (given table lamps calls)
  unfolding removed row given events_taken less_met
  all_kept nothing = refl
  all_kept (past ▸ handling side s l) =
      let new = newly table lamps past (row table lamps past) side s l in
      sym (append_assoc (events_taken (removed table lamps past)) (row table lamps past) (less_met new))
      ∙ ap (λ (x : List (Sided KeyEvent)). x ++ less_met new) (all_kept past)
      ∙ sym (less_append (given table lamps past) new)
  all_kept (past ▸ taking) = taken_first (removed table lamps past) (row table lamps past) ∙ all_kept past

  -- what the calls of a side report as dropped
  abbrev Reports : Past Call → Side → Type 0
  Reports calls t = reported table lamps t calls ≡ each length (dropped (rules_at table lamps t) (own table.keyboards t calls))

  module _ (past : Past Call) (side : Side) (s l : List ℕ) where
    own_reports : at_table table.keyboards side ≡ true → Reports past side → Reports (past ▸ handling side s l) side
    unfolding reported dropped each
    own_reports at e =
        rw (same_side_lem side, at, own_more table.keyboards past side s l at)
        (ap₂ {C = Past ℕ} (λ (x : Past ℕ) (y : ℕ). x ▸ y) e (as_drops (as_after past) side lamps s l at))

    other_reports : (t : Side) → same_side t side ≡ false → Reports past t → Reports (past ▸ handling side s l) t
    unfolding reported
    other_reports t d e = rw (d, own_other table.keyboards past side s l t d) e

    absent_reports : (t : Side) → at_table table.keyboards side ≡ false → Reports past t → Reports (past ▸ handling side s l) t
    unfolding reported
    absent_reports t ab e = rw (ab, and-false (same_side t side), own_absent table.keyboards past side s l t ab) e

    step_reports : (t : Side) → Reports past t → Reports (past ▸ handling side s l) t
    step_reports t e =
        ⊎_elim
        (λ at. ⊎_elim (λ q. subst (λ u. Reports past u → Reports (past ▸ handling side s l) u) (sym q) (own_reports at) e) (λ d. other_reports t d.0 e) (which_side t side))
        (λ ab. absent_reports t ab e)
        (which (at_table table.keyboards side))

  all_dropped : (t : Side) (calls : Past Call) → Reports calls t
  unfolding reported own dropped each
  all_dropped t nothing = refl
  all_dropped t (past ▸ handling side s l) = step_reports past side s l t (all_dropped t past)
  all_dropped t (past ▸ taking) = all_dropped t past

  all_shares : (calls : Past Call) → are_two table.keyboards ≡ true → (side : Side) → length (of_side side (waiting (after table lamps calls))) ≤ 96
  all_shares calls two side =
      let a = as_after calls in
      rw (waiting-of_side side (after table lamps calls)) (a.formed.shares side (rw a.laid two))

  pub history : (calls : Past Call) → History table lamps calls
  history calls =
      let a = as_after calls in
      record {
        left_out = all_left_out calls;
        well = as_well a;
        laid = a.laid;
        flags = λ side. (a.at side).flags;
        prefix = λ side. (a.at side).prefix;
        byte_order = λ side. all_events side calls;
        taking_answers = all_takings calls;
        queue = a.waits;
        taken_then_waiting =
            ap₂ {C = List (Sided KeyEvent)} (λ (t : Past (Answer (Option (Sided KeyEvent)))) (w : List (Sided KeyEvent)). events_taken t ++ w) (all_takings calls) a.waits ∙ all_kept calls;
        answers_20 = all_ends 20 (omega arith) (λ e. omega arith) calls;
        answers_31 = all_ends 31 (omega arith) (λ e. omega arith) calls;
        answers_33 = all_ends 33 (omega arith) (λ e. omega arith) calls;
        shares = all_shares calls;
        bytes_waiting = λ side. (a.at side).bytes_wait;
        drops = λ side. all_dropped side calls;
      }
