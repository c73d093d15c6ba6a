-- The game and its replay through the dispatcher: the calls that the steps make, in which the same scancodes are counted, so flags and prefix are the same.
use mathlib.Core.List.{[], ◌∷◌}
use mathlib.Core.Path.{◌≡◌, refl, sym, ap, ◌∙◌}
use Rattle.bits.specs.Table.{decode}
use Rattle.exchange.specs.Exchange.{bind, play}
use Rattle.exchange.specs.Keeping.{keeping}
use Rattle.keyboard_scancodes.specs.Profile.{allows, followed}
use Rattle.keyboard_scancodes.specs.FlagTable.{flag_table, flag_limit, is_of, presses_lock}
use Rattle.keyboard_scancodes.specs.Waiting.{bytes_from}
use Rattle.keyboard_sides.specs.declared.Side.{Side}
use Rattle.keyboard_sides.specs.Sides.{bit_sides, count_of, with_side}
use Rattle.keyboard_sides.specs.Named.{named}
use Rattle.keyboard_record.specs.Queue.{meets, admits}
use Rattle.keyboard_record.specs.Record.{keyboard_formed, fair, well_formed, call_formed}
use Rattle.keyboard.specs.Byte.{key_event, lamp_exchange, on_byte, key_call}
use Rattle.keyboard.specs.Handler.{handle, effects, handled}
use Rattle.keyboard.specs.Scancode.{caught, scancode}
use Rattle.theorem_history.specs.Past.{Past, nothing, ◌▸◌}
use Rattle.theorem_history.specs.Counted.{Call, handling, taking, own, scancode_after, thrown_after, behind_after, joined_after, counted, waits, counted_of}
use Rattle.theorem_history.specs.Run.{leaves, after}
use Rattle.theorem_history.specs.Examples.{until_fa, four_free}
use Rattle.dispatcher.specs.Turns.{first_waiting, served}
use Rattle.theorem_dispatcher.specs.Told.{waits_told, told}
use Rattle.theorem_same_hands.specs.SameHands.{counted_in}
use Rattle.theorem_same_hands.specs.Through.{calls_in, SameThrough}
use Rattle.theorem_same_hands.specs.Examples.{game_turns, replayed_turns}
use Rattle.theorem_same_hands.proofs.Through.{same_hands_through}

-- the second step goes on where the first one's call ended
abbrev game_calls : Past Call
game_calls = nothing ▸ handling Side.First (0x3A ∷ 0xFE ∷ 0xE0 ∷ []) four_free ▸ handling Side.First (0xE0 ∷ []) four_free

game_calls_lem : (calls_in game_turns).calls ≡ game_calls
unfolding told waits_told served first_waiting own counted waits behind_after joined_after thrown_after caught scancode_after scancode after leaves handled effects handle call_formed keyboard_formed key_call on_byte key_event lamp_exchange keeping decode bytes_from play bind well_formed followed flag_table admits allows meets count_of bit_sides with_side named flag_limit is_of presses_lock
game_calls_lem = refl

-- the third step reads the packet; the last one takes the byte that the lamp exchange caught
abbrev replayed_calls : Past Call
replayed_calls =
    nothing ▸ handling Side.First (0x3A ∷ 0xE0 ∷ 0xFA ∷ []) four_free ▸ handling Side.Second (0x1E ∷ []) four_free ▸ taking ▸ handling Side.First [] four_free

replayed_calls_lem : (calls_in replayed_turns).calls ≡ replayed_calls
unfolding told waits_told served first_waiting own counted waits behind_after joined_after thrown_after caught scancode_after scancode after leaves handled effects handle call_formed keyboard_formed key_call on_byte key_event lamp_exchange keeping decode bytes_from play bind well_formed fair followed flag_table admits allows meets count_of bit_sides with_side named flag_limit is_of presses_lock until_fa
replayed_calls_lem = refl

game_listed : counted_of game_turns.table game_turns.lamps Side.First game_calls ≡ nothing ▸ 0x3A ▸ 0xE0
unfolding own counted waits behind_after joined_after thrown_after caught scancode_after scancode keeping decode play followed flag_table is_of presses_lock
game_listed = refl

replayed_listed : counted_of replayed_turns.table replayed_turns.lamps Side.First replayed_calls ≡ nothing ▸ 0x3A ▸ 0xE0
unfolding own counted waits behind_after joined_after thrown_after caught scancode_after scancode keeping decode play until_fa followed flag_table is_of presses_lock
replayed_listed = refl

game_turns_counted : counted_in Side.First (calls_in game_turns) ≡ nothing ▸ 0x3A ▸ 0xE0
game_turns_counted = ap (counted_of game_turns.table game_turns.lamps Side.First) game_calls_lem ∙ game_listed

replayed_turns_counted : counted_in Side.First (calls_in replayed_turns) ≡ nothing ▸ 0x3A ▸ 0xE0
replayed_turns_counted = ap (counted_of replayed_turns.table replayed_turns.lamps Side.First) replayed_calls_lem ∙ replayed_listed

pub turns_same : SameThrough Side.First game_turns replayed_turns
turns_same = same_hands_through Side.First game_turns replayed_turns refl (game_turns_counted ∙ sym replayed_turns_counted)
