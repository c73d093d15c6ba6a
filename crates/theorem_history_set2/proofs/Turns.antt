-- The row of the history rule, turn by turn; and that its turns are those read over what the counted scancodes of each side give.
use mathlib.Core.Path.{◌≡◌, refl, sym, subst, ap, ap₂, ◌∙◌}
use mathlib.Core.Bool.{Bool, true, false, cond}
use mathlib.Core.List.{List, [], ◌++◌}
use mathlib.Core.Logic.{⊎_elim}
use mathlib.Core.Option.{Option, none, some}
use Prim.Native.Nat.{ℕ}
use Rattle.exchange.specs.Exchange.{Exchange}
use Rattle.exchange.specs.Answer.{Answer}
use Rattle.keycodes_ascii.specs.declared.KeyEvent.{KeyEvent}
use Rattle.keyboard_scancodes.proofs.Tests.{which}
use Rattle.keyboard_sides.specs.declared.Side.{Side}
use Rattle.keyboard_sides.specs.Sides.{same_side}
use Rattle.keyboard_sides.specs.Named.{Sided}
use Rattle.keyboard_record.specs.declared.Table.{Table}
use Rattle.keyboard_record.specs.Record.{at_table}
use Rattle.keyboard.specs.Scancode.{is_some}
use Rattle.theorem_history.specs.Past.{Past, nothing, ◌▸◌}
use Rattle.theorem_history.specs.Said.{event_given}
use Rattle.theorem_history.specs.Counted.{Call, handling, taking, count, own, counted, counted_of, scancode_of, counts}
use Rattle.theorem_history.specs.Row.{Given, less_met, any_met, given_to, event_of_call, first, rest, newly, row, given, meets_with, removed}
use Rattle.theorem_history.proofs.Own.{same_side_lem, which_side, own_more, own_other, own_absent}
use Rattle.theorem_history_set2.specs.Turns.{each_said, before, last_given, less_last, Turn, handled, took, turns, row_of, given_of, meets_of, removed_of}

module _ {A : Type 0} (table : Table) (lamps : Side → ℕ → Exchange (Answer A)) where
  -- the event, if any, that a handler call gives by the rule
  abbrev new_event : Past Call → Side → List ℕ → List ℕ → List KeyEvent
  new_event past side s l = event_of_call table.profile (counted_of table lamps side past) (scancode_of table lamps past side s l)

  -- the turns of the rule over the counted scancodes
  unfoldable pub turns_set1 : Past Call → Past Turn
  turns_set1 nothing = nothing
  turns_set1 (past ▸ handling side s l) = turns_set1 past ▸ handled side (new_event past side s l)
  turns_set1 (past ▸ taking) = turns_set1 past ▸ took

  -- ---- the rule's row is that of its turns

  pub row_turns : (calls : Past Call) → row table lamps calls ≡ row_of table (turns_set1 calls)
  unfolding row newly turns_set1 row_of
  row_turns nothing = refl
  row_turns (past ▸ handling side s l) =
      ap (λ (r : List (Sided KeyEvent)). r ++ less_met (given_to table side r (new_event past side s l))) (row_turns past)
  row_turns (past ▸ taking) = ap rest (row_turns past)

  pub given_turns : (calls : Past Call) → given table lamps calls ≡ given_of table (turns_set1 calls)
  unfolding given newly turns_set1 given_of
  given_turns nothing = refl
  given_turns (past ▸ handling side s l) =
      ap₂ {C = List Given} (λ (g : List Given) (r : List (Sided KeyEvent)). g ++ given_to table side r (new_event past side s l)) (given_turns past) (row_turns past)
  given_turns (past ▸ taking) = given_turns past

  pub meets_turns : (n : ℕ) (calls : Past Call) → meets_with table lamps n calls ≡ meets_of table n (turns_set1 calls)
  unfolding meets_with newly turns_set1 meets_of
  meets_turns n nothing = refl
  meets_turns n (past ▸ handling side s l) =
      ap₂ {C = Past Bool} (λ (m : Past Bool) (r : List (Sided KeyEvent)). m ▸ any_met n (given_to table side r (new_event past side s l))) (meets_turns n past) (row_turns past)
  meets_turns n (past ▸ taking) = meets_turns n past

  pub removed_turns : (calls : Past Call) → removed table lamps calls ≡ removed_of table (turns_set1 calls)
  unfolding removed turns_set1 removed_of
  removed_turns nothing = refl
  removed_turns (past ▸ handling side s l) = removed_turns past
  removed_turns (past ▸ taking) =
      ap₂ {C = Past (Answer (Option (Sided KeyEvent)))} (λ (m : Past (Answer (Option (Sided KeyEvent)))) (r : List (Sided KeyEvent)). m ▸ first r) (removed_turns past) (row_turns past)

  -- ---- one call more

  module _ (past : Past Call) (side : Side) (s l : List ℕ) where
    -- a side's bytes, where the call counts this scancode, or none
    abbrev next_bytes : Option ℕ → Side → Past ℕ
    next_bytes sc t = cond (same_side side t) (count (counted_of table lamps t past) sc) (counted_of table lamps t past)

    no_more : (t : Side) → next_bytes none t ≡ counted_of table lamps t past
    no_more t = by (same_side side t)
      where
        by : (x : Bool) → cond x (counted_of table lamps t past) (counted_of table lamps t past) ≡ counted_of table lamps t past
        by true = refl
        by false = refl

    abbrev Next : Side → Type 0
    Next t = counted_of table lamps t (past ▸ handling side s l) ≡ next_bytes (scancode_of table lamps past side s l) t

    next_own : at_table table.keyboards side ≡ true → Next side
    unfolding counted scancode_of
    next_own at = rw (own_more table.keyboards past side s l at, same_side_lem side, at)

    next_other : (t : Side) → (same_side t side ≡ false) × (same_side side t ≡ false) → Next t
    next_other t d = rw (own_other table.keyboards past side s l t d.0, d.1)

    next_absent : (t : Side) → at_table table.keyboards side ≡ false → Next t
    unfolding scancode_of
    next_absent t ab = rw (own_absent table.keyboards past side s l t ab, ab) (sym (no_more t))

    next_counted : (t : Side) → Next t
    next_counted t =
        ⊎_elim (λ at. ⊎_elim (λ e. subst Next (sym e) (next_own at)) (next_other t) (which_side t side)) (next_absent t) (which (at_table table.keyboards side))

  -- ---- and its turns are those of what the scancodes give

  abbrev Says : Past Call → (Side → Past (List KeyEvent)) → Type 0
  Says calls said = (t : Side) → said t ≡ each_said table.profile (counted_of table lamps t calls)

  module _ (past : Past Call) (side : Side) (s l : List ℕ)
      (same : (said : Side → Past (List KeyEvent)) → Says past said → turns_set1 past ≡ turns table lamps past said) where
    module _ (said : Side → Past (List KeyEvent)) where
      less_says : (b : ℕ) → ((t : Side) → said t ≡ each_said table.profile (next_bytes past side s l (some b) t)) → Says past (less_last side said)
      unfolding each_said
      less_says b is t = by (same_side side t) (is t)
        where
          by : (x : Bool) → said t ≡ each_said table.profile (cond x (counted_of table lamps t past ▸ b) (counted_of table lamps t past))
              → cond x (before (said t)) (said t) ≡ each_said table.profile (counted_of table lamps t past)
          by true e = ap before e
          by false e = e

      last_says : (b : ℕ) → said side ≡ each_said table.profile (next_bytes past side s l (some b) side) → event_given table.profile (counted_of table lamps side past) b ≡ last_given (said side)
      unfolding each_said
      last_says b e = sym (ap last_given (rw (same_side_lem side) at e))

      turn_same : (sc : Option ℕ) → ((t : Side) → said t ≡ each_said table.profile (next_bytes past side s l sc t))
          → turns_set1 past ▸ handled side (event_of_call table.profile (counted_of table lamps side past) sc)
          ≡ cond (is_some sc) (turns table lamps past (less_last side said) ▸ handled side (last_given (said side))) (turns table lamps past said ▸ handled side [])
      turn_same none is = ap (λ (t : Past Turn). t ▸ handled side []) (same said (λ t. is t ∙ ap (each_said table.profile) (no_more past side s l t)))
      turn_same (some b) is =
          ap₂ {C = Past Turn} (λ (t : Past Turn) (es : List KeyEvent). t ▸ handled side es) (same (less_last side said) (less_says b is)) (last_says b (is side))

  pub turns_same : (calls : Past Call) (said : Side → Past (List KeyEvent)) → Says calls said → turns_set1 calls ≡ turns table lamps calls said
  unfolding turns_set1 turns own counts
  turns_same nothing said is = refl
  turns_same (past ▸ handling side s l) said is =
      turn_same past side s l (λ said is. turns_same past said is) said (scancode_of table lamps past side s l) (λ t. is t ∙ ap (each_said table.profile) (next_counted past side s l t))
  turns_same (past ▸ taking) said is = ap (λ (t : Past Turn). t ▸ took) (turns_same past said is)
