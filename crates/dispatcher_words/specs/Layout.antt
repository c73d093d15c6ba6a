-- Which number of a lent dispatcher stands for what: those of the handler's record, and five more.
use Rattle.std.specs.Prelude.{ℕ, ◌+◌}
use Rattle.handler_words.specs.Layout.{words_length}
use Rattle.keyboard_sides.specs.declared.Side.{Side}
use Rattle.dispatcher.specs.declared.Source.{Source}

-- The handler's record comes first, so that a taking from the
-- queue is one from these numbers. Then the mouse's identity.
abbrev pub mouse_at : ℕ
mouse_at = words_length

-- Then the places in the three scripts, in the order of the round.
abbrev pub place_at : Source → ℕ
place_at (Source.Keyboard Side.First) = words_length + 1
place_at (Source.Keyboard Side.Second) = words_length + 2
place_at Source.Mouse = words_length + 3

-- And then who was served last.
abbrev pub last_at : ℕ
last_at = words_length + 4

abbrev pub dispatcher_length : ℕ
dispatcher_length = words_length + 5
