-- Same hands, same flags, through the dispatcher: its handler record is the one that the steps' handler calls leave, and of these the statement holds.
use mathlib.Core.Bool.{Bool}
use mathlib.Core.Path.{ap, sym, ◌∙◌}
use Prim.Native.Nat.{ℕ}
use Rattle.keyboard_sides.specs.declared.Side.{Side}
use Rattle.keyboard_record.specs.declared.KeyboardHandler.{KeyboardHandler}
use Rattle.keyboard_record.specs.Record.{keyboard_at}
use Rattle.theorem_dispatcher.proofs.Through.{history_through}
use Rattle.theorem_same_hands.specs.SameHands.{SameProfile, Agree}
use Rattle.theorem_same_hands.specs.Through.{Turns, calls_in, SameThrough}
use Rattle.theorem_same_hands.proofs.SameHands.{same_hands}

abbrev flags_of : Side → KeyboardHandler → ℕ
flags_of side h = (keyboard_at side h.state).modifiers.bits

abbrev prefix_of : Side → KeyboardHandler → Bool
prefix_of side h = (keyboard_at side h.state).prefix

pub same_hands_through : {A B : Type 0} (side : Side) (one : Turns A) (other : Turns B) → SameProfile (calls_in one) (calls_in other) → Agree side (calls_in one) (calls_in other) → SameThrough side one other
same_hands_through side one other profile agree =
    let left = (history_through one.table one.lamps one.mouse one.moves).handler in
    let left' = (history_through other.table other.lamps other.mouse other.moves).handler in
    let same = same_hands side (calls_in one) (calls_in other) profile agree in
    record {
      flags = ap (flags_of side) left ∙ same.flags ∙ sym (ap (flags_of side) left');
      prefix = ap (prefix_of side) left ∙ same.prefix ∙ sym (ap (prefix_of side) left');
    }
