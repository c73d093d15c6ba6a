-- The example of a listing, and the ends of a lamp exchange, by computation.
use mathlib.Core.Path.{◌≡◌, refl}
use mathlib.Core.Bool.{xor}
use mathlib.Core.List.{[], ◌∷◌}
use Rattle.bits.specs.Bits.{bit, odd, put_bit}
use Rattle.bits.specs.Table.{decode}
use Rattle.exchange.specs.Exchange.{bind, play}
use Rattle.exchange.specs.Answer.{and_then, refusing_as}
use Rattle.exchange.specs.Keeping.{keeping}
use Rattle.exchange.specs.Repeat.{repeat}
use Rattle.keycodes_ascii.specs.Keycode.{keycode_of, numbered, keycodes}
use Rattle.keycodes_ascii.specs.Characters.{character_of}
use Rattle.ps2_polling.specs.Polling.{send_try, polling_send, poll, polling_receive, polling_send_receive}
use Rattle.ps2_command.specs.Command.{attempt, command}
use Rattle.ps2_keyboard.specs.Keyboard.{set_led_by, set_port_led}
use Rattle.keyboard_scancodes.specs.Events.{keycode_at, event_of}
use Rattle.keyboard_scancodes.specs.Profile.{allows, followed}
use Rattle.keyboard_scancodes.specs.FlagTable.{flag_table, flag_limit, is_of, presses_lock}
use Rattle.keyboard_scancodes.specs.FlagsAfter.{flags_after, flags_then}
use Rattle.keyboard.specs.Byte.{key_event, lamp_exchange, on_byte, key_call}
use Rattle.keyboard.specs.Handler.{handle, effects, handled}
use Rattle.keyboard_scancodes.specs.Lamps.{lamps_lit}
use Rattle.keyboard_scancodes.specs.Waiting.{bytes_from}
use Rattle.keyboard_sides.specs.Sides.{bit_sides, without_oldest_side, with_side}
use Rattle.keyboard_record.specs.Queue.{meets, admits}
use Rattle.keyboard_record.specs.Record.{keyboard_formed, well_formed, call_formed}
use Rattle.keyboard_record.specs.Taking.{taken}
use Rattle.key_listing.specs.Text.{ascii, decimal}
use Rattle.key_listing.specs.Lines.{event_line, refusal_line}
use Rattle.key_listing.specs.Listing.{call_text, record_after, calls_text, listing}

-- "Input 2A 1E 9E AA prints".
pub shifted_a : listing (0x2A ∷ 0x1E ∷ 0x9E ∷ 0xAA ∷ []) ≡ ascii "2A P 001 -\n1E P 001 65\n1E R 001 65\n2A R 000 -\n"
unfolding listing calls_text call_text record_after refusal_line event_line decimal handled effects handle key_call on_byte key_event lamp_exchange bit_sides with_side without_oldest_side admits allows meets keyboard_formed well_formed call_formed taken bytes_from keeping followed flag_table flag_limit flags_then flags_after is_of presses_lock put_bit bit odd event_of keycode_at keycode_of numbered keycodes character_of play bind xor
shifted_a = refl

-- In order: Caps Lock with its replies, and A; the same where the keyboard fails its self test at ED; A, then Caps Lock in whose lamp exchange the script ends; 5E, which no key has, and A.
pub runs :
    (listing (0x3A ∷ 0x00 ∷ 0x01 ∷ 0xFA ∷ 0x00 ∷ 0x01 ∷ 0xFA ∷ 0x1E ∷ []) ≡ ascii "3A P 080 -\n1E P 080 65\n")
    × (listing (0x3A ∷ 0x00 ∷ 0x01 ∷ 0xFC ∷ 0x1E ∷ []) ≡ ascii "3A P 080 -\n1E P 080 65\n")
    × (listing (0x1E ∷ 0x3A ∷ 0x00 ∷ 0x01 ∷ []) ≡ ascii "1E P 000 97\nrefused 2\n")
    × (listing (0x5E ∷ 0x1E ∷ []) ≡ ascii "refused 19\n1E P 000 97\n")
unfolding listing calls_text call_text record_after refusal_line event_line decimal handled effects handle key_call on_byte key_event lamp_exchange bit_sides with_side without_oldest_side admits allows meets keyboard_formed well_formed call_formed taken bytes_from keeping followed flag_table flag_limit flags_then flags_after is_of presses_lock put_bit bit odd event_of keycode_at keycode_of numbered keycodes character_of play bind xor and_then refusing_as repeat command attempt polling_send_receive polling_send send_try polling_receive poll decode set_led_by set_port_led lamps_lit
runs = (refl, refl, refl, refl)

-- In order: Caps Lock, and A during its lamp exchange, printed after the script is used; a lock that waits at the end, which finds no script for its own exchange; and Shift during Caps Lock's exchange, which is followed before the A behind the exchange.
pub waiting_runs :
    (listing (0x3A ∷ 0x00 ∷ 0x01 ∷ 0x1E ∷ 0x01 ∷ 0xFA ∷ 0x00 ∷ 0x01 ∷ 0xFA ∷ []) ≡ ascii "3A P 080 -\n1E P 080 65\n")
    × (listing (0x3A ∷ 0x00 ∷ 0x01 ∷ 0x45 ∷ 0x01 ∷ 0xFA ∷ 0x00 ∷ 0x01 ∷ 0xFA ∷ []) ≡ ascii "3A P 080 -\nrefused 2\n")
    × (listing (0x3A ∷ 0x00 ∷ 0x01 ∷ 0x2A ∷ 0x01 ∷ 0xFA ∷ 0x00 ∷ 0x01 ∷ 0xFA ∷ 0x1E ∷ []) ≡ ascii "3A P 080 -\n2A P 081 -\n1E P 081 97\n")
unfolding listing calls_text call_text record_after refusal_line event_line decimal handled effects handle key_call on_byte key_event lamp_exchange bit_sides with_side without_oldest_side admits allows meets keyboard_formed well_formed call_formed taken bytes_from keeping followed flag_table flag_limit flags_then flags_after is_of presses_lock put_bit bit odd event_of keycode_at keycode_of numbered keycodes character_of play bind xor and_then refusing_as repeat command attempt polling_send_receive polling_send send_try polling_receive poll decode set_led_by set_port_led lamps_lit
waiting_runs = (refl, refl, refl)
