-- Who waits, by a dispatcher's numbers.
use mathlib.Core.Path.{◌≡◌, refl, sym, ap, ◌∙◌}
use mathlib.Core.Bool.{Bool, true, false, cond}
use mathlib.Core.List.{List}
use Prim.Native.Nat.{ℕ}
use native.Mathlib.Omega.{arith}
use lib.Dec.{eqb}
use lib.ListN.{get_or}
use lib.Seq.{get_or-take}
use borrow.Author.Tests.{ne_eqb}
use Rattle.ps2_bytes.specs.declared.response.MouseId.{MouseId}
use Rattle.keyboard_scancodes.specs.Remembered.{fresh_keyboard}
use Rattle.keyboard_sides.specs.declared.Side.{Side}
use Rattle.handler_words.specs.Layout.{words_length}
use Rattle.handler_words.specs.Words.{keyboard_in, state_of}
use Rattle.dispatcher.specs.declared.Source.{Source}
use Rattle.dispatcher.specs.Sources.{Scripts, unused, keyboard_waits, mouse_waits, waits_now}
use Rattle.dispatcher.specs.Said.{wait_in}
use Rattle.dispatcher.proofs.Serving.{waits_are}
use Rattle.dispatcher_words.specs.Layout.{mouse_at}
use Rattle.dispatcher_words.specs.Words.{identity_of, handler_in, place_in, dispatcher_of}

module _ (ws : List ℕ) where
  -- how many bytes of a side wait
  first_waiting : get_or ws 2 0 ≡ (dispatcher_of ws).handler.state.first.waiting.count
  unfolding dispatcher_of state_of keyboard_in
  first_waiting = rw (get_or-take words_length ws 2 0 (omega arith))

  second_count : (two : Bool) → (cond two (keyboard_in (handler_in ws) 5) fresh_keyboard).waiting.count ≡ cond two (get_or ws 7 0) 0
  unfolding keyboard_in
  second_count true = get_or-take words_length ws 7 0 (omega arith)
  second_count false = refl

  second_is : cond (eqb (get_or ws 10 0) 2) (get_or ws 7 0) 0 ≡ (dispatcher_of ws).handler.state.second.waiting.count
  unfolding dispatcher_of state_of
  second_is = sym (second_count (eqb (get_or ws 10 0) 2)) ∙ ap (λ (n : ℕ). (cond (eqb n 2) (keyboard_in (handler_in ws) 5) fresh_keyboard).waiting.count) (sym (get_or-take words_length ws 10 0 (omega arith)))

  pub two_waiting : get_or ws 10 0 ≡ 2 → get_or ws 7 0 ≡ (dispatcher_of ws).handler.state.second.waiting.count
  two_waiting e = ap (λ (n : ℕ). cond (eqb n 2) (get_or ws 7 0) 0) (sym e) ∙ second_is

  pub one_waiting : (get_or ws 10 0 ≡ 2 → ⊥) → 0 ≡ (dispatcher_of ws).handler.state.second.waiting.count
  one_waiting n = ap (λ (b : Bool). cond b (get_or ws 7 0) 0) (sym (ne_eqb (get_or ws 10 0) 2 n)) ∙ second_is

module _ (ws : List ℕ) (s : Scripts) where
  pub waits_words : {one two three : ℕ} {id : MouseId} → one ≡ place_in (Source.Keyboard Side.First) ws → two ≡ place_in (Source.Keyboard Side.Second) ws → three ≡ place_in Source.Mouse ws
      → id ≡ identity_of (get_or ws mouse_at 0) → {first second mouse : Bool} → first ≡ keyboard_waits (unused one s.first) (get_or ws 2 0)
      → second ≡ keyboard_waits (unused two s.second) (dispatcher_of ws).handler.state.second.waiting.count → mouse ≡ mouse_waits (unused three s.mouse) id
      → (source : Source) → wait_in (record { first = first; second = second; mouse = mouse }) source ≡ waits_now (dispatcher_of ws) s source
  unfolding dispatcher_of
  waits_words p q r i a b c = waits_are (dispatcher_of ws) s (rw (p, first_waiting ws) at a) (rw q at b) (rw (r, i) at c)
