-- The history rule speaks of the tournament profile: a short game with Caps Lock and Alt, whatever the lamp exchange. What the list says is computed; the record and the answers follow by the rule.
use mathlib.Core.Path.{◌≡◌, refl, ◌∙◌}
use mathlib.Core.Bool.{true, false}
use mathlib.Core.List.{List, [], ◌∷◌}
use Prim.Native.Nat.{ℕ}
use Rattle.bits.specs.Bits.{odd, put_bit}
use Rattle.exchange.specs.Exchange.{Exchange}
use Rattle.exchange.specs.Answer.{Answer}
use Rattle.keycodes_ascii.specs.declared.KeyEvent.{KeyEvent}
use Rattle.keycodes_ascii.specs.declared.Keycode.{Keycode}
use Rattle.keycodes_ascii.specs.Keycode.{keycode_of, numbered, keycodes}
use Rattle.keyboard_scancodes.specs.Profile.{allows, tournament_keys, code_among, followed}
use Rattle.keyboard_scancodes.specs.FlagTable.{flag_table, is_of, presses_lock}
use Rattle.keyboard_scancodes.specs.Events.{keycode_at, event_of}
use Rattle.keyboard_sides.specs.declared.Side.{Side}
use Rattle.keyboard_sides.specs.Sides.{count_of}
use Rattle.keyboard_sides.specs.Named.{Sided, sides_in}
use Rattle.keyboard_record.specs.Queue.{meets, admits, waiting}
use Rattle.keyboard.specs.Answers.{ends_with}
use Rattle.keyboard.specs.Scancode.{caught, scancode}
use Rattle.theorem_history.specs.Past.{nothing, ◌▸◌, each}
use Rattle.theorem_history.specs.Said.{prefix_said, strokes, times, last_was_press, said_of, word_of, flags_said, event_given}
use Rattle.theorem_history.specs.Counted.{own, scancode_after, thrown_after, behind_after, joined_after, counted, waits, scancode_of}
use Rattle.theorem_history.specs.Row.{less_met, any_met, given_to, newly, row, meets_with}
use Rattle.theorem_history.specs.Run.{after, answers}
use Rattle.theorem_history.specs.Examples.{rated, press, rated_game}
use Rattle.theorem_history.proofs.Row.{sided}
use Rattle.theorem_history.proofs.History.{history}

-- A without a flag; the left Shift and B with Alt and Shift: Caps Lock is off, Alt is followed
abbrev rated_events : List (Sided KeyEvent)
rated_events =
    sided Side.First (press Keycode.A 0) ∷ sided Side.First (press Keycode.LeftShift 0x11) ∷ sided Side.First (press Keycode.B 0x11) ∷ []

module _ {A : Type 0} (lamps : Side → ℕ → Exchange (Answer A)) where
  rated-row : row rated lamps rated_game ≡ rated_events
  unfolding row newly scancode_of own given_to sides_in count_of admits allows tournament_keys code_among meets less_met counted waits behind_after joined_after thrown_after caught scancode_after scancode flags_said word_of said_of times last_was_press strokes prefix_said followed flag_table is_of presses_lock put_bit odd event_given event_of keycode_at keycode_of numbered keycodes
  rated-row = refl

  pub rated_waits : waiting (after rated lamps rated_game) ≡ rated_events
  rated_waits = (history rated lamps rated_game).queue ∙ rated-row

  rated_met : meets_with rated lamps 33 rated_game ≡ nothing ▸ true ▸ false ▸ true ▸ false ▸ false ▸ true
  unfolding meets_with any_met row newly scancode_of own given_to sides_in count_of admits allows tournament_keys code_among meets less_met counted waits behind_after joined_after thrown_after caught scancode_after scancode flags_said word_of said_of times last_was_press strokes prefix_said followed flag_table is_of presses_lock put_bit odd event_given event_of keycode_at keycode_of numbered keycodes
  rated_met = refl

  -- the press of Caps Lock, Alt and the release of Caps Lock were answered 33
  pub rated-answers : each (ends_with 33) (answers rated lamps rated_game) ≡ nothing ▸ true ▸ false ▸ true ▸ false ▸ false ▸ true
  rated-answers = (history rated lamps rated_game).answers_33 ∙ rated_met
