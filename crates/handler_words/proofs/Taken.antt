-- A taking from a record's numbers is the taking from the record that they stand for.
use mathlib.Core.Path.{◌≡◌, refl, sym, ap, ◌∙◌}
use mathlib.Core.Bool.{true, false}
use mathlib.Core.List.{List, ◌∷◌}
use mathlib.Core.Option.{Option, none, some}
use Prim.Native.Nat.{ℕ, ◌+◌, ◌-◌, ◌%◌}
use native.Mathlib.Omega.{arith}
use lib.Dec.{eqb}
use lib.ListN.{length, get_or, drop, get_or-map}
use lib.Seq.{get_or-drop}
use Rattle.exchange.specs.Answer.{Answer, gives, refuses}
use Rattle.exchange.specs.Left.{left}
use Rattle.keycodes_ascii.specs.declared.KeyEvent.{KeyEvent}
use Rattle.keyboard_sides.specs.declared.Side.{Side}
use Rattle.keyboard_sides.specs.declared.Sides.{Sides}
use Rattle.keyboard_sides.specs.Sides.{oldest_side, without_oldest_side}
use Rattle.keyboard_sides.specs.Named.{Sided}
use Rattle.keyboard_record.specs.declared.HandlerState.{HandlerState}
use Rattle.keyboard_record.specs.declared.KeyboardHandler.{KeyboardHandler}
use Rattle.keyboard_record.specs.Queue.{empty_event}
use Rattle.keyboard_record.specs.Record.{well_formed}
use Rattle.keyboard_record.specs.Taking.{taken}
use Rattle.keyboard_record.proofs.Taking.{taken_malformed, taken_none, taken_one}
use Rattle.keyboard_record.proofs.WellFormed.{well_is}
use Rattle.handler_words.specs.declared.TakenWords.{TakenWords}
use Rattle.handler_words.specs.Layout.{words_length}
use Rattle.handler_words.specs.Words.{event_at, word_of, keyboard_in, names_all, state_of, record_of}
use Rattle.handler_words.specs.Parts.{sides_pass}
use Rattle.handler_words.specs.Calls.{taken_numbers, with_queue_at, after_taking, WordsTaken}
use Rattle.handler_words.proofs.Events.{event_at_lem}
use Rattle.handler_words.proofs.Passing.{well_names, not_passing}
use Rattle.handler_words.proofs.Words.{by_numbers}

-- what a place's number stands for, and the number of an empty place
pub empty_at : event_at 0 ≡ empty_event
unfolding word_of
empty_at = event_at_lem empty_event (omega arith)

place_at : (ws : List ℕ) (i : ℕ) → get_or (record_of ws).places i empty_event ≡ event_at (get_or ws (16 + i) 0)
place_at ws i =
    ap (λ (d : KeyEvent). get_or (record_of ws).places i d) (sym empty_at) ∙ get_or-map event_at (drop 16 ws) i 0 ∙ ap event_at (get_or-drop 16 ws i 0)

-- start, count and sides stored
abbrev Moved : ℕ → ℕ → Sides → List ℕ → Type 0
Moved start count sides ws =
    names_all ws ≡ true
    → record_of (with_queue_at start count sides ws)
    ≡ record {
      state = record { first = (state_of ws).first; second = (state_of ws).second; table = (state_of ws).table; start = start; count = count; sides = sides };
      places = (record_of ws).places;
    }

moved : (start count : ℕ) (sides : Sides) (a b c d e f g i j k l m n o p q : ℕ) (rest : List ℕ)
    → Moved start count sides (a ∷ b ∷ c ∷ d ∷ e ∷ f ∷ g ∷ i ∷ j ∷ k ∷ l ∷ m ∷ n ∷ o ∷ p ∷ q ∷ rest)
unfolding state_of keyboard_in names_all
moved start count sides a b c d e f g i j k l m n o p q rest v = rw v

queue_stored : (start count : ℕ) (sides : Sides) (ws : List ℕ) → length ws ≡ words_length → Moved start count sides ws
queue_stored start count sides = by_numbers (Moved start count sides) (moved start count sides)

module _ (ws : List ℕ) (h : length ws ≡ words_length) where
  by_taking : {a : Answer (Option (Sided KeyEvent))} {g : KeyboardHandler} → taken (record_of ws) ≡ left a g → {answer : TakenWords} → answer ≡ taken_numbers a
      → {ws' : List ℕ} → record_of ws' ≡ g → ws' ≡ after_taking a g.state ws → WordsTaken ws answer ws'
  by_taking t e r w =
      record { long = λ _. record { answered = rw t e; leaves = rw t r; writes = rw t w }; other = λ n. absurd (n h) }

  pub take_unread : sides_pass ws ≡ false → {answer : TakenWords} → answer ≡ taken_numbers (refuses 21) → WordsTaken ws answer ws
  take_unread w e = by_taking (taken_malformed (record_of ws) (not_passing ws w)) e refl refl

  module _ {state : HandlerState} (is : state ≡ state_of ws) where
    pub take_malformed : well_formed state ≡ false → {answer : TakenWords} → answer ≡ taken_numbers (refuses 21) → WordsTaken ws answer ws
    take_malformed w e = by_taking (taken_malformed (record_of ws) (rw is at w)) e refl refl

    module _ (w : well_formed state ≡ true) where
      pub take_none : eqb state.count 0 ≡ true → {answer : TakenWords} → answer ≡ taken_numbers (gives none) → WordsTaken ws answer ws
      take_none z e = by_taking (taken_none (record_of ws) (rw is at w) (rw is at z)) e refl refl

      pub take_one : eqb state.count 0 ≡ false → {side : Side} → side ≡ oldest_side state.sides → {sides : Sides} → sides ≡ without_oldest_side state.sides
          → {answer : TakenWords} → answer ≡ taken_numbers (gives (some (record { side = side; one = event_at (get_or ws (16 + state.start) 0) })))
          → {ws' : List ℕ} → ws' ≡ with_queue_at ((state.start + 1) % 128) (state.count - 1) sides ws → WordsTaken ws answer ws'
      take_one z {side} p {sides} q {answer} e {ws'} u =
          let s = state_of ws in
          let others = without_oldest_side s.sides in
          let v : ws' ≡ with_queue_at ((s.start + 1) % 128) (s.count - 1) others ws = rw (q, is) at u in
          by_taking (taken_one (record_of ws) (rw is at w) (rw is at z)) (rw (p, is, ← place_at ws s.start) at e)
          (ap record_of v ∙ queue_stored ((s.start + 1) % 128) (s.count - 1) others ws h (well_names ws (well_is s (rw is at w)))) v
