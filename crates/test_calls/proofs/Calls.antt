-- Handler calls in a row, one more at a time: what holds in a loop of them, by value, in place or on the state alone.
use mathlib.Core.Path.{◌≡◌, refl, ap, ◌∙◌}
use mathlib.Core.List.{List}
use native.Mathlib.Numerals.{add-one}
use Prim.Native.Nat.{ℕ, ◌+◌}
use Rattle.keyboard_sides.specs.declared.Side.{Side}
use Rattle.keyboard_record.specs.declared.HandlerState.{HandlerState}
use Rattle.keyboard_record.specs.declared.KeyboardHandler.{KeyboardHandler}
use Rattle.keyboard.specs.KeyboardLamps.{keyboard_lamps}
use Rattle.keyboard.specs.Handler.{effects, handled, log_left}
use Rattle.test_calls.specs.Calls.{Left, left, one_more, in_turn, called}

-- from a record and a log on, calls for a side with two scripts in turn
module _ (side : Side) (script other : List ℕ) (h₀ : KeyboardHandler) (log₀ : List ℕ) where
  -- after i calls: the record and the log are what i calls leave
  abbrev pub Reached : KeyboardHandler → List ℕ → ℕ → Type 0
  Reached h log i = left h log ≡ called side i script other (left h₀ log₀)

  pub none_called : {h : KeyboardHandler} → h ≡ h₀ → Reached h log₀ 0
  unfolding called
  none_called e = rw e

  pub one_more_called : {h h' : KeyboardHandler} {l l' s : List ℕ} {side' : Side} (i : ℕ) → Reached h l i → side' ≡ side → s ≡ in_turn i script other
      → h' ≡ (handled keyboard_lamps side' h s l).handler → l' ≡ log_left keyboard_lamps side' h.state s l → Reached h' l' (i + 1)
  unfolding called
  one_more_called i so_far same turn a b = rw (add-one i, a, b, same, turn) (ap (one_more side (in_turn i script other)) so_far)

  -- what the exported functions answer, once no call is left
  pub all_called : {h : KeyboardHandler} {l : List ℕ} {i times : ℕ} → Reached h l i → i ≡ times
      → (h.state.count ≡ (called side times script other (left h₀ log₀)).handler.state.count) × (l ≡ (called side times script other (left h₀ log₀)).log)
  all_called {times = times} so_far all =
      let done : left _ _ ≡ called side times script other (left h₀ log₀) = so_far ∙ ap (λ (k : ℕ). called side k script other (left h₀ log₀)) all in
      (ap (λ (y : Left). y.handler.state.count) done, ap (λ (y : Left). y.log) done)

  -- ---- on the state alone: it is that of the record, whatever the places hold

  abbrev pub StateReached : HandlerState → List ℕ → ℕ → Type 0
  StateReached s log i =
      let x = called side i script other (left h₀ log₀) in
      (s ≡ x.handler.state) × (log ≡ x.log)

  pub none_called_on : {s : HandlerState} → s ≡ h₀.state → StateReached s log₀ 0
  unfolding called
  none_called_on e = (e, refl)

  pub one_more_called_on : {s s' : HandlerState} {l l' t : List ℕ} {side' : Side} (i : ℕ) → StateReached s l i → side' ≡ side → t ≡ in_turn i script other
      → s' ≡ (effects keyboard_lamps side' s t l).state → l' ≡ log_left keyboard_lamps side' s t l → StateReached s' l' (i + 1)
  unfolding called handled
  one_more_called_on i so_far same turn a b = (rw (add-one i, a, same, turn, so_far.0, so_far.1), rw (add-one i, b, same, turn, so_far.0, so_far.1))

  pub all_called_on : {s : HandlerState} {l : List ℕ} {i times : ℕ} → StateReached s l i → i ≡ times
      → (s.count ≡ (called side times script other (left h₀ log₀)).handler.state.count) × (l ≡ (called side times script other (left h₀ log₀)).log)
  all_called_on so_far all = rw (← all) (ap (λ (x : HandlerState). x.count) so_far.0, so_far.1)
