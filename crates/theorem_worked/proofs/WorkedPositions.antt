-- The thirteen worked positions, one table, hold: by computing the definitions of every layer.
use mathlib.Core.Path.{◌≡◌, refl, sym, subst}
use mathlib.Core.Bool.{false, xor}
use mathlib.Core.List.{List, [], ◌∷◌}
use Prim.Native.Nat.{ℕ}
use Rattle.bits.specs.Bits.{bit, odd, put_bit}
use Rattle.bits.specs.Table.{decode}
use Rattle.exchange.specs.Exchange.{bind, play}
use Rattle.exchange.specs.Answer.{and_then, refusing_as}
use Rattle.exchange.specs.Keeping.{keeping}
use Rattle.exchange.specs.Repeat.{repeat}
use Rattle.keyboard_modifiers.specs.Flags.{control_right, num_lock}
use Rattle.keycodes_ascii.specs.declared.KeyEvent.{KeyEvent}
use Rattle.keycodes_ascii.specs.Characters.{character_of}
use Rattle.keycodes_ascii.specs.Keycode.{keycode_of, numbered, keycodes}
use Rattle.ps2_ports.specs.Ports.{write_port}
use Rattle.ps2_polling.specs.Polling.{send_try, polling_send, poll, polling_receive, polling_send_receive}
use Rattle.ps2_command.specs.Command.{attempt, command, command_to_port2}
use Rattle.ps2_keyboard.specs.Keyboard.{set_led_by, set_port_led}
use Rattle.ps2_mouse.specs.Mouse.{command_to_mouse}
use Rattle.ps2_packet_reading.specs.Reading.{read_mouse_packet}
use Rattle.keyboard_scancodes.specs.Events.{keycode_at, event_of}
use Rattle.keyboard_scancodes.specs.Profile.{allows, followed}
use Rattle.keyboard_scancodes.specs.FlagTable.{flag_table, flag_limit, is_of, presses_lock}
use Rattle.keyboard_scancodes.specs.FlagsAfter.{flags_after, flags_then}
use Rattle.keyboard.specs.Byte.{key_event, lamp_exchange, on_byte, key_call}
use Rattle.keyboard.specs.Handler.{handle, effects, handled, log_left}
use Rattle.keyboard_scancodes.specs.Lamps.{lamps_lit}
use Rattle.keyboard_scancodes.specs.Remembered.{keyboard_of, fresh_keyboard}
use Rattle.keyboard_scancodes.specs.Waiting.{bytes_from}
use Rattle.keyboard_sides.specs.Sides.{no_sides, bit_sides, with_side}
use Rattle.keyboard_sides.specs.Named.{named}
use Rattle.keyboard_record.specs.declared.HandlerState.{HandlerState}
use Rattle.keyboard_record.specs.declared.KeyboardHandler.{KeyboardHandler}
use Rattle.keyboard_record.specs.Queue.{round, admits, meets}
use Rattle.keyboard_record.specs.Record.{fresh, keyboard_formed, well_formed, call_formed}
use Rattle.theorem_worked.specs.Positions.{Seen, flags, script_of}
use Rattle.theorem_worked.specs.Holds.{word, last_call, Sees, All, all, ◌&◌, laid, RowHolds}
use Rattle.theorem_worked.specs.Table.{table}

-- the same, whatever the first three bytes of a packet are
whatever : {A : Type 0} {a : A} (b1 b2 b3 : ℕ) → a ≡ a
whatever b1 b2 b3 = refl

-- calls in two parts: where the first leaves state s, the second may begin at s, whatever lies in the places. Put together they are computed anew for each use of the record between them, and six calls take 2 GB
in_parts : (h : KeyboardHandler) (s : HandlerState) (script : List ℕ) (more : List (List ℕ)) (seen : Seen) → h.state ≡ s
    → ((places : List KeyEvent) → Sees (last_call (record { state = s; places = places }) script more) seen) → Sees (last_call h script more) seen
in_parts h s script more seen is rest = subst (λ (t : HandlerState). Sees (last_call (record { state = t; places = h.places }) script more) seen) (sym is) (rest h.places)

-- row 8's state after E1 1D 45
abbrev halfway : HandlerState
halfway =
    record {
      first = keyboard_of false (word (control_right ∷ num_lock ∷ [])) fresh_keyboard.waiting;
      second = fresh_keyboard;
      table = laid;
      start = 0;
      count = 2;
      sides = no_sides;
    }

pub worked_positions : All RowHolds table
unfolding table handled effects bytes_from keeping log_left handle key_call on_byte key_event lamp_exchange round named bit_sides with_side admits allows meets event_of keycode_at keycode_of numbered keycodes flags_then flags_after followed flag_table flag_limit is_of presses_lock lamps_lit keyboard_formed well_formed call_formed character_of set_port_led set_led_by command_to_mouse command_to_port2 read_mouse_packet write_port command attempt polling_send_receive polling_send send_try polling_receive poll play bind and_then refusing_as repeat decode bit odd put_bit xor
worked_positions =
    ((refl & refl & all) & all)
    & ((refl & refl & all) & all)
    & ((refl & refl & refl & all) & all)
    & ((refl & all) & all)
    & ((refl & all) & all)
    & ((refl & all) & (refl & all) & all)
    & ((refl & all) & (refl & all) & (refl & all) & all)
    & ((in_parts (last_call (fresh laid) (script_of 0xE1) (script_of 0x1D ∷ script_of 0x45 ∷ [])).gives_back.handler halfway (script_of 0xE1) (script_of 0x9D ∷ script_of 0xC5 ∷ []) (flags (num_lock ∷ [])) refl (λ places. refl) & all) & all)
    & (refl & refl & all)
    & (refl & refl & all)
    & (whatever & whatever & all)
    & (refl & refl & refl & refl & all)
    & (refl & all)
    & all
