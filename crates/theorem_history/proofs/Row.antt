-- The row of waiting events: what joins it, with room and without, and how the lists of events given grow.
use mathlib.Core.Path.{◌≡◌, refl, ap, sym}
use mathlib.Core.Bool.{true, false, or-false}
use mathlib.Core.List.{List, [], ◌∷◌, ◌++◌, append-nil, append_assoc}
use mathlib.Core.Option.{Option, none, some}
use Prim.Native.Nat.{ℕ}
use Rattle.exchange.specs.Exchange.{yields}
use Rattle.exchange.specs.Answer.{Answer, gives, refuses}
use Rattle.ps2_answers.specs.Refusals.{Success, success}
use Rattle.keycodes_ascii.specs.declared.KeyEvent.{KeyEvent}
use Rattle.keyboard_scancodes.specs.declared.Profile.{Profile}
use Rattle.keyboard_sides.specs.declared.Side.{Side}
use Rattle.keyboard_sides.specs.Sides.{same_side}
use Rattle.keyboard_sides.specs.Named.{Sided, of_side, sides_in}
use Rattle.keyboard_record.specs.declared.Table.{Table}
use Rattle.keyboard_record.specs.Queue.{admits, if_given}
use Rattle.keyboard_scancodes.specs.Events.{event_of, gives_event}
use Rattle.keyboard.specs.Answers.{ends_with}
use Rattle.theorem_history.specs.Past.{Past, ◌▸◌}
use Rattle.theorem_history.specs.Said.{flags_said, event_given, events_given}
use Rattle.theorem_history.specs.Counted.{count}
use Rattle.theorem_history.specs.Row.{Given, events, less_met, any_met, given_to, event_of_call, first, rest}
use Rattle.theorem_history.specs.Run.{events_taken}

-- ---- the event that a byte gives, and the row

module _ (profile : Profile) (bytes : Past ℕ) (b : ℕ) where
  pub given_none : gives_event b ≡ false → event_given profile bytes b ≡ []
  unfolding event_given
  given_none e = rw e

  pub given_one : gives_event b ≡ true → event_given profile bytes b ≡ event_of b (flags_said profile (bytes ▸ b)) ∷ []
  unfolding event_given
  given_one e = rw e

-- an event of a side
abbrev pub sided : Side → KeyEvent → Sided KeyEvent
sided side e = record { side = side; one = e }

module _ (table : Table) (side : Side) (row : List (Sided KeyEvent)) where
  pub less_none : less_met (given_to table side row []) ≡ []
  unfolding less_met given_to
  less_none = refl

  pub met_none : (n : ℕ) → any_met n (given_to table side row []) ≡ false
  unfolding any_met given_to
  met_none n = refl

  module _ (e : KeyEvent) where
    pub less_room : admits table side (sides_in row) e.keycode ≡ gives success → less_met (given_to table side row (e ∷ [])) ≡ sided side e ∷ []
    unfolding less_met given_to
    less_room h = rw h

    pub less_full : {n : ℕ} → admits table side (sides_in row) e.keycode ≡ refuses n → less_met (given_to table side row (e ∷ [])) ≡ []
    unfolding less_met given_to
    less_full h = rw h

    -- it met what its call would answer
    pub met_one : (n : ℕ) → any_met n (given_to table side row (e ∷ [])) ≡ ends_with n (yields (admits table side (sides_in row) e.keycode))
    unfolding any_met given_to
    met_one n = or-false (ends_with n (yields (admits table side (sides_in row) e.keycode)))

-- ---- lists of events given

pub less_append : (gs hs : List Given) → less_met (gs ++ hs) ≡ less_met gs ++ less_met hs
unfolding less_met
less_append [] hs = refl
less_append (g ∷ gs) hs = go g.met (less_append gs hs)
  where
    go : (m : Answer Success) → less_met (gs ++ hs) ≡ less_met gs ++ less_met hs
        → if_given m (g.event ∷ less_met (gs ++ hs)) (less_met (gs ++ hs)) ≡ if_given m (g.event ∷ less_met gs) (less_met gs) ++ less_met hs
    go (gives x) e = ap (λ (l : List (Sided KeyEvent)). g.event ∷ l) e
    go (refuses n) e = e

pub events-append : (gs hs : List Given) → events (gs ++ hs) ≡ events gs ++ events hs
events-append [] hs = refl
events-append (g ∷ gs) hs = ap (λ (l : List (Sided KeyEvent)). g.event ∷ l) (events-append gs hs)

-- the events of a side among those that a side gives: all of them, or none
module _ (table : Table) (row : List (Sided KeyEvent)) where
  pub own_given : (side : Side) (ks : List KeyEvent) → of_side side (events (given_to table side row ks)) ≡ ks
  unfolding given_to of_side
  own_given Side.First [] = refl
  own_given Side.Second [] = refl
  own_given Side.First (k ∷ ks) = ap (λ (l : List KeyEvent). k ∷ l) (own_given Side.First ks)
  own_given Side.Second (k ∷ ks) = ap (λ (l : List KeyEvent). k ∷ l) (own_given Side.Second ks)

  pub other_given : (t side : Side) (ks : List KeyEvent) → same_side t side ≡ false → of_side t (events (given_to table side row ks)) ≡ []
  unfolding given_to of_side
  other_given t side [] n = refl
  other_given t side (k ∷ ks) n = rw n (other_given t side ks n)

-- the events of one more counted scancode, if there is one
pub more_given : (profile : Profile) (bytes : Past ℕ) (sc : Option ℕ) → events_given profile (count bytes sc) ≡ events_given profile bytes ++ event_of_call profile bytes sc
unfolding events_given
more_given profile bytes none = sym (append-nil (events_given profile bytes))
more_given profile bytes (some b) = refl

-- a taking that answers a row's first, then the row without it
pub taken_first : (past : Past (Answer (Option (Sided KeyEvent)))) (es : List (Sided KeyEvent)) → events_taken (past ▸ first es) ++ rest es ≡ events_taken past ++ es
unfolding events_taken
taken_first past [] = refl
taken_first past (e ∷ es) = append_assoc (events_taken past) (e ∷ []) es
