-- Events dropped or not: of 130 presses a table with one keyboard drops the events of two, and one with two keyboards those of 34; flags and prefix are the same.
use Prim.Native.Nat.{ℕ, zero, suc}
use mathlib.Core.List.{[], ◌∷◌}
use mathlib.Core.Path.{◌≡◌, refl, ap, ◌∙◌}
use lib.ListN.{length}
use Rattle.exchange.specs.Exchange.{Exchange}
use Rattle.exchange.specs.Answer.{Answer}
use Rattle.keyboard_sides.specs.declared.Side.{Side}
use Rattle.keyboard_record.specs.declared.Keyboards.{Keyboards}
use Rattle.keyboard_record.specs.Queue.{waiting}
use Rattle.keyboard.specs.Rules.{rules_at}
use Rattle.theorem_history.specs.Past.{Past, nothing, ◌▸◌}
use Rattle.theorem_history.specs.Counted.{Lent, lent, own, counted}
use Rattle.theorem_history.specs.Run.{after}
use Rattle.theorem_history.specs.Examples.{one, two, then_presses}
use Rattle.theorem_history.proofs.History.{history}
use Rattle.theorem_history.proofs.Witness.{row_full}
use Rattle.theorem_same_hands.specs.SameHands.{SameHands}
use Rattle.theorem_same_hands.specs.Examples.{pressed}
use Rattle.theorem_same_hands.proofs.SameHands.{same_hands}

own_same : (n : ℕ) → own Keyboards.One Side.First (then_presses Side.First n nothing) ≡ own Keyboards.Two Side.First (then_presses Side.First n nothing)
unfolding own then_presses
own_same zero = refl
own_same (suc n) = ap (λ (past : Past Lent). past ▸ lent (0x1E ∷ []) []) (own_same n)

module _ {A : Type 0} (lamps : Side → ℕ → Exchange (Answer A)) where
  pub dropped_same : SameHands Side.First (pressed one lamps) (pressed two lamps)
  dropped_same = same_hands Side.First (pressed one lamps) (pressed two lamps) refl (ap (counted (rules_at one lamps Side.First)) (own_same 130))

  pub waits_one : length (waiting (after one lamps (pressed one lamps).calls)) ≡ 128
  waits_one = ap length ((history one lamps (pressed one lamps).calls).queue ∙ row_full one lamps Side.First refl 2)

  pub waits_two : length (waiting (after two lamps (pressed two lamps).calls)) ≡ 96
  waits_two = ap length ((history two lamps (pressed two lamps).calls).queue ∙ row_full two lamps Side.First refl 34)
