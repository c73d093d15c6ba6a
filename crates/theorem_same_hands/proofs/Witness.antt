-- The game and its replay, which differ in table, scripts, lamp replies, takings and the other side: the same scancodes are counted, so flags and prefix are the same, Caps Lock and E0.
use mathlib.Core.Bool.{true}
use mathlib.Core.Path.{◌≡◌, refl, sym, ◌∙◌}
use Rattle.bits.specs.Bits.{odd, bit, put_bit}
use Rattle.bits.specs.Table.{decode}
use Rattle.exchange.specs.Exchange.{play}
use Rattle.exchange.specs.Keeping.{keeping}
use Rattle.keyboard_scancodes.specs.declared.Profile.{Profile}
use Rattle.keyboard_scancodes.specs.Profile.{followed}
use Rattle.keyboard_scancodes.specs.FlagTable.{flag_table, is_of, presses_lock}
use Rattle.keyboard_sides.specs.declared.Side.{Side}
use Rattle.keyboard.specs.Scancode.{caught, scancode}
use Rattle.theorem_history.specs.Past.{nothing, ◌▸◌}
use Rattle.theorem_history.specs.Said.{prefix_said, strokes, times, last_was_press, said_of, word_of, flags_said}
use Rattle.theorem_history.specs.Counted.{own, scancode_after, thrown_after, behind_after, joined_after, counted, waits}
use Rattle.theorem_history.specs.Examples.{until_fa}
use Rattle.theorem_history.proofs.History.{history}
use Rattle.theorem_same_hands.specs.SameHands.{counted_in, flags_in, prefix_in, SameHands}
use Rattle.theorem_same_hands.specs.Examples.{game, replayed}
use Rattle.theorem_same_hands.proofs.SameHands.{same_hands}

game_counted : counted_in Side.First game ≡ nothing ▸ 0x3A ▸ 0xE0
unfolding own counted waits behind_after joined_after thrown_after caught scancode_after scancode keeping decode play followed flag_table is_of presses_lock
game_counted = refl

replayed_counted : counted_in Side.First replayed ≡ nothing ▸ 0x3A ▸ 0xE0
unfolding own counted waits behind_after joined_after thrown_after caught scancode_after scancode keeping decode play until_fa followed flag_table is_of presses_lock
replayed_counted = refl

pub replay_same : SameHands Side.First game replayed
replay_same = same_hands Side.First game replayed refl (game_counted ∙ sym replayed_counted)

-- what both say of the game: Caps Lock is on, and E0 came last
caps_said : flags_said Profile.Any (nothing ▸ 0x3A ▸ 0xE0) ≡ 0x80
unfolding flags_said word_of said_of times last_was_press strokes prefix_said followed flag_table is_of presses_lock put_bit odd bit
caps_said = refl

prefix_said_lem : prefix_said (nothing ▸ 0x3A ▸ 0xE0) ≡ true
unfolding prefix_said
prefix_said_lem = refl

pub replayed_flags : flags_in Side.First replayed ≡ 0x80
replayed_flags = (history replayed.table replayed.lamps replayed.calls).flags Side.First ∙ rw replayed_counted caps_said

pub replayed_prefix : prefix_in Side.First replayed ≡ true
replayed_prefix = (history replayed.table replayed.lamps replayed.calls).prefix Side.First ∙ rw replayed_counted prefix_said_lem
