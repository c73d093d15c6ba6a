-- The numbers of a taken event stand for it.
use mathlib.Core.Bool.{Bool, true, false, cond}
use mathlib.Core.List.{List, [], ◌∷◌, map}
use mathlib.Core.Option.{none, some}
use mathlib.Core.Path.{◌≡◌, refl, ap, ◌∙◌}
use Prim.Native.Nat.{ℕ, zero, suc, ◌<◌}
use native.Mathlib.Omega.{arith}
use Rattle.std.specs.Prelude.{Some}
use borrow.Author.Tests.{lt-ltb}
use lib.Dec.{eqb}
use lib.ListN.{length, get_or, drop}
use Rattle.exchange.specs.Answer.{gives, refuses}
use Rattle.exchange.specs.Left.{left}
use Rattle.keycodes_ascii.specs.declared.KeyAction.{KeyAction}
use Rattle.keycodes_ascii.specs.declared.KeyEvent.{KeyEvent}
use Rattle.keycodes_ascii.proofs.Codes.{keycode_number}
use Rattle.keyboard_sides.specs.Named.{Sided}
use Rattle.keyboard_record.specs.declared.KeyboardHandler.{KeyboardHandler}
use Rattle.keyboard_record.specs.Queue.{empty_event, oldest, without_oldest}
use Rattle.keyboard_record.specs.Record.{well_formed}
use Rattle.keyboard_record.specs.Taking.{taken}
use Rattle.handler_words.specs.declared.TakenWords.{TakenWords}
use Rattle.handler_words.specs.Layout.{words_length}
use Rattle.handler_words.specs.Words.{action_number, event_at, record_of}
use Rattle.handler_words.specs.Calls.{taken_numbers, WordsTaken}
use Rattle.bytes_words.specs.Keys.{flags_limit, action_at}
use Rattle.vurdellow.specs.Events.{GivenOn}

-- an event whose flags have 16 bits is found again

action_back : (a : KeyAction) → action_at (action_number a) ≡ Some a
action_back KeyAction.Pressed = refl
action_back KeyAction.Released = refl

given_on : (e : Sided KeyEvent) → e.one.modifiers.bits < flags_limit → GivenOn e.one (taken_numbers (gives (some e)))
given_on e h =
    record {
      character = rw (keycode_number e.one.keycode, lt-ltb e.one.modifiers.bits flags_limit h);
      code = rw (keycode_number e.one.keycode, action_back e.one.action);
    }

-- ---- the flags of every event of a lent record have

word_flags : (w : ℕ) → (event_at w).modifiers.bits < flags_limit
unfolding event_at
word_flags w = omega arith

place_flags : (ws : List ℕ) (i : ℕ) → (get_or (map event_at ws) i empty_event).modifiers.bits < flags_limit
place_flags [] i = omega arith
place_flags (w ∷ ws) zero = word_flags w
place_flags (w ∷ ws) (suc i) = place_flags ws i

-- an event that is taken is the oldest
oldest_taken : (h : KeyboardHandler) {e : Sided KeyEvent} (well none? : Bool)
    → (cond well (cond none? (left (gives none) h) (left (gives (some (oldest h))) (without_oldest h))) (left (refuses 21) h)).answer ≡ gives (some e) → e ≡ oldest h
oldest_taken h true true t = cc
oldest_taken h true false t = cc
oldest_taken h false none? t = cc

taken_oldest : (h : KeyboardHandler) {e : Sided KeyEvent} → (taken h).answer ≡ gives (some e) → e ≡ oldest h
unfolding taken
taken_oldest h t = oldest_taken h (well_formed h.state) (eqb h.state.count 0) t

-- ---- so every event that `vd_take` gives is given on by its numbers

pub taken_given_on : (ws : List ℕ) (answer : TakenWords) (ws' : List ℕ) → length ws ≡ words_length → WordsTaken ws answer ws'
    → (e : Sided KeyEvent) → (taken (record_of ws)).answer ≡ gives (some e) → GivenOn e.one answer
taken_given_on ws answer ws' h made e t =
    let flags : e.one.modifiers.bits < flags_limit = rw (taken_oldest (record_of ws) t) (place_flags (drop 16 ws) _) in
    rw ((made.long h).answered ∙ ap taken_numbers t) (given_on e flags)
