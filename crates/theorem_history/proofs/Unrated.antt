-- "Without it all is as before": at a table without the profile no call is answered 33, and what an event meets is the question of the whole queue and of a side's share.
use mathlib.Core.Path.{◌≡◌, refl, ◌∙◌}
use mathlib.Core.Bool.{Bool, true, false}
use mathlib.Core.List.{List}
use mathlib.Core.Option.{Option, none, some}
use Prim.Native.Nat.{ℕ}
use native.Mathlib.Omega.{arith}
use Rattle.exchange.specs.Exchange.{Exchange, yields}
use Rattle.exchange.specs.Answer.{Answer}
use Rattle.keycodes_ascii.specs.declared.Keycode.{Keycode}
use Rattle.keyboard_scancodes.specs.declared.Profile.{Profile}
use Rattle.keyboard_scancodes.specs.Events.{event_of, gives_event}
use Rattle.keyboard_sides.specs.declared.Side.{Side}
use Rattle.keyboard_sides.specs.Named.{Sided, sides_in}
use Rattle.keycodes_ascii.specs.declared.KeyEvent.{KeyEvent}
use Rattle.keyboard_record.specs.declared.Keyboards.{Keyboards}
use Rattle.keyboard_record.specs.declared.Table.{Table}
use Rattle.keyboard_record.specs.Queue.{meets, admits}
use Rattle.keyboard_record.proofs.Meeting.{Meets, side_full, queue_full, free, meets_cases, admits_any}
use Rattle.keyboard.specs.Answers.{ends_with}
use Rattle.keyboard.specs.Handler.{handled}
use Rattle.theorem_history.specs.Past.{Past, ◌▸◌}
use Rattle.theorem_history.specs.Said.{flags_said, event_given}
use Rattle.theorem_history.specs.Counted.{Call, counted_of, scancode_of}
use Rattle.theorem_history.specs.Row.{any_met, given_to, event_of_call, newly, row}
use Rattle.theorem_history.specs.Run.{after}
use Rattle.theorem_history.proofs.Row.{given_none, given_one, met_none, met_one}
use Rattle.theorem_history.proofs.History.{as_after, step_ends}

module _ {A : Type 0} (keyboards : Keyboards) (lamps : Side → ℕ → Exchange (Answer A)) where
  abbrev table : Table
  table = record { keyboards = keyboards; profile = Profile.Any }

  module _ (side : Side) (r : List (Sided KeyEvent)) where
    not_met : Meets keyboards side (sides_in r) → ends_with 33 (yields (meets keyboards side (sides_in r))) ≡ false
    not_met (side_full t h e) = rw e
    not_met (queue_full i h e) = rw e
    not_met (free i h e) = rw e

    not_33 : (key : Keycode) → ends_with 33 (yields (admits table side (sides_in r) key)) ≡ false
    not_33 key = rw (admits_any keyboards side (sides_in r) key) (not_met (meets_cases keyboards side (sides_in r)))

    by_event : (bytes : Past ℕ) (b : ℕ) (c : Bool) → gives_event b ≡ c → any_met 33 (given_to table side r (event_given Profile.Any bytes b)) ≡ false
    by_event bytes b true g =
        let e = event_of b (flags_said Profile.Any (bytes ▸ b)) in
        rw (given_one Profile.Any bytes b g, met_one table side r e 33) (not_33 e.keycode)
    by_event bytes b false g = rw (given_none Profile.Any bytes b g) (met_none table side r 33)

    by_scancode : (bytes : Past ℕ) (sc : Option ℕ) → any_met 33 (given_to table side r (event_of_call Profile.Any bytes sc)) ≡ false
    by_scancode bytes none = met_none table side r 33
    by_scancode bytes (some b) = by_event bytes b (gives_event b) refl

  pub unrated_answers : (calls : Past Call) (side : Side) (script log : List ℕ) → ends_with 33 (handled lamps side (after table lamps calls) script log).end ≡ false
  unfolding newly
  unrated_answers calls side script log =
      step_ends table lamps calls side script log (as_after table lamps calls) 33 (omega arith) (λ e. omega arith)
      ∙ by_scancode side (row table lamps calls) (counted_of table lamps side calls) (scancode_of table lamps calls side script log)
