-- What two keyboards are promised of the one queue, over every list of calls: a side with few events waiting is never refused for want of room.
use mathlib.Core.Path.{◌≡◌, refl, sym, ◌∙◌}
use mathlib.Core.Bool.{Bool, true, false}
use mathlib.Core.List.{List}
use mathlib.Core.Logic.{⊎_elim}
use mathlib.Core.Option.{Option, none, some}
use Prim.Native.Nat.{ℕ, ◌<◌, ◌≤◌}
use native.Mathlib.Omega.{arith}
use lib.ListN.{length}
use borrow.Author.Tests.{ne_eqb}
use Rattle.exchange.specs.Exchange.{Exchange, yields}
use Rattle.exchange.specs.Answer.{Answer, gives}
use Rattle.ps2_answers.specs.Refusals.{success}
use Rattle.keycodes_ascii.specs.declared.Keycode.{Keycode}
use Rattle.keyboard_scancodes.specs.Profile.{allows}
use Rattle.keyboard_scancodes.proofs.Tests.{which}
use Rattle.keyboard_sides.specs.declared.Side.{Side}
use Rattle.keyboard_sides.specs.Named.{of_side, sides_in}
use Rattle.keyboard_record.specs.declared.Table.{Table}
use Rattle.keyboard_record.specs.Queue.{are_two, meets, admits, waiting}
use Rattle.keyboard_record.proofs.Meeting.{admits_33, admits_allowed}
use Rattle.keyboard_record.proofs.Waiting.{waiting-of_side}
use Rattle.keyboard_record.proofs.WellFormed.{room_below_32}
use Rattle.keyboard.specs.Answers.{ends_with}
use Rattle.keyboard.specs.Handler.{handled}
use Rattle.keyboard_scancodes.specs.Events.{event_of, gives_event}
use Rattle.theorem_history.specs.Past.{Past, ◌▸◌}
use Rattle.theorem_history.specs.Said.{flags_said, event_given}
use Rattle.theorem_history.specs.Counted.{Call, counted_of, scancode_of}
use Rattle.theorem_history.specs.Row.{any_met, given_to, event_of_call, newly, row}
use Rattle.theorem_history.specs.Run.{after}
use Rattle.theorem_history.proofs.Row.{given_none, given_one, met_none, met_one}
use Rattle.theorem_history.proofs.AsSaid.{as_meets}
use Rattle.theorem_history.proofs.History.{as_after, step_ends}

module _ {A : Type 0} (table : Table) (lamps : Side → ℕ → Exchange (Answer A)) (calls : Past Call) (side : Side) where
  -- "and below 32 never meets 20 or 31": a call for a side of which fewer than 32 events wait after a list of calls is answered neither
  module _ (two : are_two table.keyboards ≡ true) (few : length (of_side side (waiting (after table lamps calls))) < 32) where
    below : meets table.keyboards side (sides_in (row table lamps calls)) ≡ gives success
    below =
        let a = as_after table lamps calls in
        sym (as_meets a side)
        ∙ room_below_32 a.formed side (rw a.laid two) (rw (waiting-of_side side (after table lamps calls)) at few)

    -- so an event of a key inside the profile finds a place, and another meets 33
    neither : (key : Keycode) (n : ℕ) → 0 < n → (33 ≡ n → ⊥) → ends_with n (yields (admits table side (sides_in (row table lamps calls)) key)) ≡ false
    neither key n h d =
        ⊎_elim
        (λ i. rw (admits_allowed table side (sides_in (row table lamps calls)) key i, below) (ne_eqb 0 n (λ q. omega arith)))
        (λ o. rw (admits_33 table side (sides_in (row table lamps calls)) key o) (ne_eqb 33 n d))
        (which (allows table.profile key))

    -- a call gives one event at the most
    by_event : (bytes : Past ℕ) (b n : ℕ) → 0 < n → (33 ≡ n → ⊥) → (c : Bool) → gives_event b ≡ c → any_met n (given_to table side (row table lamps calls) (event_given table.profile bytes b)) ≡ false
    by_event bytes b n h d true e =
        rw (given_one table.profile bytes b e, met_one table side (row table lamps calls) (event_of b (flags_said table.profile (bytes ▸ b))) n) (neither (event_of b (flags_said table.profile (bytes ▸ b))).keycode n h d)
    by_event bytes b n h d false e = rw (given_none table.profile bytes b e) (met_none table side (row table lamps calls) n)

    by_scancode : (bytes : Past ℕ) (sc : Option ℕ) (n : ℕ) → 0 < n → (33 ≡ n → ⊥) → any_met n (given_to table side (row table lamps calls) (event_of_call table.profile bytes sc)) ≡ false
    by_scancode bytes none n h d = met_none table side (row table lamps calls) n
    by_scancode bytes (some b) n h d = by_event bytes b n h d (gives_event b) refl

    never : (n : ℕ) → 20 ≤ n → (21 ≡ n → ⊥) → (33 ≡ n → ⊥) → (script log : List ℕ) → ends_with n (handled lamps side (after table lamps calls) script log).end ≡ false
    unfolding newly
    never n h d x script log =
        step_ends table lamps calls side script log (as_after table lamps calls) n h d
        ∙ by_scancode (counted_of table lamps side calls) (scancode_of table lamps calls side script log) n (omega arith) x

    pub below_32 : (script log : List ℕ)
        → let end = (handled lamps side (after table lamps calls) script log).end in (ends_with 20 end ≡ false) × (ends_with 31 end ≡ false)
    below_32 script log = (never 20 (omega arith) (λ e. omega arith) (λ e. omega arith) script log, never 31 (omega arith) (λ e. omega arith) (λ e. omega arith) script log)
