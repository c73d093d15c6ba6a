-- Steps in a row, one more at a time.
use mathlib.Core.Path.{◌≡◌, ap, ◌∙◌}
use mathlib.Core.List.{List}
use native.Mathlib.Numerals.{add-one}
use Prim.Native.Nat.{ℕ, ◌+◌}
use Rattle.ps2_mouse.specs.declared.PS2Mouse.{PS2Mouse}
use Rattle.ps2_mouse.specs.Answers.{fresh_mouse}
use Rattle.keyboard_record.specs.declared.KeyboardHandler.{KeyboardHandler}
use Rattle.keyboard_record.specs.Record.{fresh}
use Rattle.dispatcher.specs.declared.Dispatcher.{Dispatcher}
use Rattle.dispatcher.specs.Sources.{Scripts}
use Rattle.dispatcher.specs.Step.{new_dispatcher}
use Rattle.test_calls.specs.Steps.{Left, left, one_more, made, two_keyboards}

-- the state before any step
abbrev pub at_first : Dispatcher
at_first = new_dispatcher (fresh two_keyboards) fresh_mouse

pub none_made : (s : Scripts) (log : List ℕ) {d : Dispatcher} {h : KeyboardHandler} {m : PS2Mouse} → h ≡ fresh two_keyboards → m ≡ fresh_mouse → d ≡ new_dispatcher h m
    → left d log ≡ made 0 s (left at_first log)
unfolding made
none_made s log a b e = rw (e, a, b)

pub one_more_made : (n : ℕ) (s : Scripts) (x : Left) {d d' : Dispatcher} {l l' : List ℕ} → left d l ≡ made n s x → left d' l' ≡ one_more s (left d l)
    → left d' l' ≡ made (n + 1) s x
unfolding made
one_more_made n s x so_far e = rw (add-one n) (e ∙ ap (one_more s) so_far)
