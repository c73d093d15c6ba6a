-- The events of one side, by its own bytes alone: the rule's clauses on byte order and on the row, put together.
use mathlib.Core.Path.{◌≡◌, refl, ap, sym, ◌∙◌}
use mathlib.Core.Bool.{Bool, true, false, cond}
use mathlib.Core.List.{List, [], ◌∷◌}
use Prim.Native.Nat.{ℕ, suc}
use lib.ListN.{length}
use Rattle.exchange.specs.Exchange.{Exchange}
use Rattle.exchange.specs.Answer.{Answer, gives, refuses}
use Rattle.ps2_answers.specs.Refusals.{Success}
use Rattle.keycodes_ascii.specs.declared.KeyEvent.{KeyEvent}
use Rattle.keyboard_sides.specs.declared.Side.{Side}
use Rattle.keyboard_sides.specs.Sides.{same_side}
use Rattle.keyboard_sides.specs.Named.{Sided, of_side}
use Rattle.keyboard_sides.proofs.Named.{of_side-append}
use Rattle.keyboard_record.specs.declared.Table.{Table}
use Rattle.keyboard_record.specs.Queue.{if_given, waiting}
use Rattle.theorem_history.specs.Past.{Past}
use Rattle.theorem_history.specs.Counted.{Call}
use Rattle.theorem_history.specs.Row.{Given, events, less_met, met_by, less_those, given}
use Rattle.theorem_history.specs.Run.{after, takings, events_taken}
use Rattle.theorem_history.specs.OwnEvents.{OwnEvents}
use Rattle.theorem_history.proofs.History.{history}

less_one : (side : Side) (x : Sided KeyEvent) (met : Answer Success) (l : List (Sided KeyEvent)) (m : List (Answer Success)) (es : List KeyEvent)
    → of_side side l ≡ less_those m es → (b : Bool) → same_side side x.side ≡ b
    → of_side side (if_given met (x ∷ l) l) ≡ less_those (cond b (met ∷ m) m) (cond b (x.one ∷ es) es)
unfolding of_side less_those
less_one side x (gives s) l m es h true e = rw e (ap (λ (k : List KeyEvent). x.one ∷ k) h)
less_one side x (gives s) l m es h false e = rw e h
less_one side x (refuses n) l m es h true e = h
less_one side x (refuses n) l m es h false e = h

-- of each side, those given less those that met something are its own, less those of its own that did
pub less-of_side : (side : Side) (given : List Given) → of_side side (less_met given) ≡ less_those (met_by side given) (of_side side (events given))
unfolding of_side less_met met_by less_those
less-of_side side [] = refl
less-of_side side (g ∷ given) =
    less_one side g.event g.met (less_met given) (met_by side given) (of_side side (events given)) (less-of_side side given) (same_side side g.event.side) refl

one_more : (b : Bool) (met : Answer Success) (e : KeyEvent) (m : List (Answer Success)) (es : List KeyEvent) → length m ≡ length es → length (cond b (met ∷ m) m) ≡ length (cond b (e ∷ es) es)
one_more true met e m es h = ap suc h
one_more false met e m es h = h

pub met_by-length : (side : Side) (given : List Given) → length (met_by side given) ≡ length (of_side side (events given))
unfolding of_side met_by
met_by-length side [] = refl
met_by-length side (g ∷ given) =
    one_more (same_side side g.event.side) g.met g.event.one (met_by side given) (of_side side (events given)) (met_by-length side given)

module _ {A : Type 0} (table : Table) (lamps : Side → ℕ → Exchange (Answer A)) (calls : Past Call) where
  pub own_events : (side : Side) → OwnEvents table lamps calls side
  own_events side =
      let h = history table lamps calls in
      let all = given table lamps calls in
      record {
        taken_then_waiting =
            sym (of_side-append side (events_taken (takings table lamps calls)) (waiting (after table lamps calls)))
            ∙ ap (of_side side) h.taken_then_waiting
            ∙ less-of_side side all
            ∙ ap (less_those (met_by side all)) (h.byte_order side);
        one_each = met_by-length side all ∙ ap length (h.byte_order side);
      }
