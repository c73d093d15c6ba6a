-- A step on a dispatcher's numbers is the step on the state that they stand for.
use mathlib.Core.Path.{◌≡◌, refl, sym, ap, ◌∙◌}
use mathlib.Core.Bool.{true, false, true≢false}
use mathlib.Core.List.{List}
use Rattle.std.specs.Prelude.{Bool, Option, None, Some}
use Rattle.std.specs.Array.{IsWholeChunk}
use Prim.Native.Nat.{ℕ}
use lib.ListN.{length, get_or}
use Rattle.keyboard_sides.specs.declared.Side.{Side}
use Rattle.keyboard.specs.KeyboardLamps.{keyboard_lamps}
use Rattle.dispatcher.specs.declared.Source.{Source}
use Rattle.dispatcher.specs.declared.Each.{Each}
use Rattle.dispatcher.specs.Turns.{served}
use Rattle.dispatcher.specs.Sources.{Scripts, scripts, script_of, waits_now}
use Rattle.dispatcher.specs.Step.{Stepped, serve_mouse, serve_keyboard, serve, step_of}
use Rattle.dispatcher.specs.Said.{wait_in}
use Rattle.dispatcher.specs.Runs.{service_of}
use Rattle.dispatcher.proofs.Serving.{step_served}
use Rattle.dispatcher_words.specs.declared.StepWords.{StepWords}
use Rattle.dispatcher_words.specs.Layout.{last_at, dispatcher_length}
use Rattle.dispatcher_words.specs.Words.{last_of, names_all, dispatcher_of}
use Rattle.dispatcher_words.specs.Steps.{no_call, words_stepped, Made, StepOn, StepMade}
use Rattle.dispatcher_words.specs.Parts.{SideServed, MouseServed}

module _ (ws : List ℕ) (s : Scripts) (log : List ℕ) (w : Each Bool) (is : (source : Source) → wait_in w source ≡ waits_now (dispatcher_of ws) s source)
    {last : Option Source} (l : last ≡ last_of (get_or ws last_at 0)) {t : Option Source} (q : t ≡ served (wait_in w) last) where
  abbrev by : Option Source → Stepped
  by o = serve keyboard_lamps (dispatcher_of ws) s log o

  whom : t ≡ served (wait_in w) (dispatcher_of ws).last
  unfolding dispatcher_of
  whom = rw l at q

  step_is : {o : Option Source} → t ≡ o → by o ≡ step_of keyboard_lamps (dispatcher_of ws) s log
  step_is e = step_served keyboard_lamps (dispatcher_of ws) s log w is whom e refl

  service_by : (o : Option Source) → service_of (by o).answer ≡ o
  unfolding serve_keyboard serve_mouse
  service_by None = refl
  service_by (Some (Source.Keyboard side)) = refl
  service_by (Some Source.Mouse) = refl

  module _ {answer : StepWords} {ws' log' : List ℕ} where
    made_by : {o : Option Source} → t ≡ o → Made (by o) (words_stepped o (by o) s log ws) answer ws' log' → StepOn ws s log answer ws' log'
    made_by {o} e m = rw (← step_is e, service_by o) m

    pub side_step : (side : Side) → t ≡ Some (Source.Keyboard side) → SideServed side ws (script_of (Source.Keyboard side) s) log answer ws' log' → StepOn ws s log answer ws' log'
    unfolding dispatcher_of
    side_step Side.First e m = made_by e m
    side_step Side.Second e m = made_by e m

    pub mouse_step : t ≡ Some Source.Mouse → MouseServed ws s.mouse log answer ws' log' → StepOn ws s log answer ws' log'
    mouse_step e m = made_by e m

  pub idle_step : t ≡ None → {answer : StepWords} → answer ≡ no_call 0 → StepOn ws s log answer ws log
  idle_step e a = made_by e (record { answered = a; leaves = refl; writes = refl; logged = refl })

-- a step on the numbers as they were lent at their length, is the one on the numbers that were passed
module _ {ws us first second third log : List ℕ} {answer : StepWords} (w : IsWholeChunk ws us dispatcher_length) where
  pub step_made : names_all us ≡ true → {ws' log' : List ℕ} → StepOn us (scripts first second third) log answer ws' log' → StepMade ws first second third log answer ws' log'
  step_made n x =
      record { long = λ _ _. rw w.same at x; unnamed = λ e. absurd (true≢false (sym n ∙ ap names_all w.same ∙ e)); other = λ n. absurd (n w.long) }

  pub step_unnamed : names_all us ≡ false → answer ≡ no_call 21 → StepMade ws first second third log answer us log
  step_unnamed n a =
      record { long = λ _ e. absurd (true≢false (sym e ∙ ap names_all (sym w.same) ∙ n)); unnamed = λ _. (a, w.same, refl); other = λ n. absurd (n w.long) }

-- at another length
pub step_other : {ws first second third log : List ℕ} {answer : StepWords} → (length ws ≡ dispatcher_length → ⊥) → answer ≡ no_call 21 → StepMade ws first second third log answer ws log
step_other n a = record { long = λ l _. absurd (n l); unnamed = λ _. (a, refl, refl); other = λ _. (a, refl, refl) }
