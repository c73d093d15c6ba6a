-- The table of worked positions. Above each row stands what
-- it says in words; bytes are hexadecimal.
use Rattle.std.specs.Prelude.{List, [], ◌∷◌, pos, neg_ℤ}
use Rattle.keycodes_ascii.specs.declared.KeyAction.TheVariants.{Pressed, Released}
use Rattle.keycodes_ascii.specs.declared.Keycode.TheVariants.{A, Num1, Menu, OverflowError}
use Rattle.keyboard_modifiers.specs.Flags.{shift_left, shift_right, control_left, control_right, caps_lock, num_lock}
use Rattle.ps2_bytes.specs.declared.command.HostToMouseCommand.TheVariants.{GetDeviceID}
use Rattle.ps2_bytes.specs.declared.response.MouseId.TheVariants.{Three, Four}
use Rattle.theorem_worked.specs.Positions.{event, writes, no_event, flags, refused, used, log, scripts, scancodes, x_is, wheel_is, character, mouse_sends, Row, row}

unfoldable pub table : List Row
table =
    -- 1E: A Pressed, 'a'.
    row 1 (scancodes (0x1E ∷ []) (event A Pressed [] ∷ writes "a" ∷ []) ∷ [])
    -- 2A 1E: A carries bit 0, 'A'.
    ∷ row 2 (scancodes (0x2A ∷ 0x1E ∷ []) (event A Pressed (0 ∷ []) ∷ writes "A" ∷ []) ∷ [])
    -- Script 3A 00 01 FA 00 01 FA: caps on, log 60 ED 60 04, 7 bytes used.
    ∷ row 3 (scripts ((0x3A ∷ 0x00 ∷ 0x01 ∷ 0xFA ∷ 0x00 ∷ 0x01 ∷ 0xFA ∷ []) ∷ [])
    (flags (caps_lock ∷ []) ∷ log (0x60 ∷ 0xED ∷ 0x60 ∷ 0x04 ∷ []) ∷ used 7 ∷ []) ∷ [])
    -- E0 1D 9D: CONTROL_RIGHT still held.
    ∷ row 4 (scancodes (0xE0 ∷ 0x1D ∷ 0x9D ∷ []) (flags (control_right ∷ []) ∷ []) ∷ [])
    -- E0 FA 1D: CONTROL_LEFT.
    ∷ row 5 (scancodes (0xE0 ∷ 0xFA ∷ 0x1D ∷ []) (flags (control_left ∷ []) ∷ []) ∷ [])
    -- 80: OverflowError Released. 00: no event.
    ∷ row 6 (scancodes (0x80 ∷ []) (event OverflowError Released [] ∷ []) ∷ scancodes (0x00 ∷ [])
    (no_event ∷ []) ∷ [])
    -- 5D: Menu. 5E and DE: 19.
    ∷ row 7 (scancodes (0x5D ∷ []) (event Menu Pressed [] ∷ []) ∷ scancodes (0x5E ∷ [])
    (refused 19 ∷ []) ∷ scancodes (0xDE ∷ []) (refused 19 ∷ []) ∷ [])
    -- Scancodes E1 1D 45 E1 9D C5: NUM_LOCK on, nothing held.
    ∷ row 8 (scancodes (0xE1 ∷ 0x1D ∷ 0x45 ∷ 0xE1 ∷ 0x9D ∷ 0xC5 ∷ []) (flags (num_lock ∷ []) ∷ [])
    ∷ [])
    -- Mouse 18 FF 00: x is -1. 18 00 00: -256.
    ∷ row 9 (x_is (0x18 ∷ 0xFF ∷ 0x00 ∷ []) (neg_ℤ (pos 1)) ∷ x_is (0x18 ∷ 0x00 ∷ 0x00 ∷ [])
    (neg_ℤ (pos 256)) ∷ [])
    -- Mouse 48 00 00: x is 255. 58 00 00: -1.
    ∷ row 10 (x_is (0x48 ∷ 0x00 ∷ 0x00 ∷ []) (pos 255) ∷ x_is (0x58 ∷ 0x00 ∷ 0x00 ∷ [])
    (neg_ℤ (pos 1)) ∷ [])
    -- Byte 4 0F at identity 4: wheel 15. FF at identity 3: -1.
    ∷ row 11 (wheel_is Four 0x0F (pos 15) ∷ wheel_is Three 0xFF (neg_ℤ (pos 1)) ∷ [])
    -- Shift and caps: Num1 '!', A 'a'. Either Shift.
    ∷ row 12
    (character (shift_left ∷ caps_lock ∷ []) Num1 "!" ∷ character (shift_left ∷ caps_lock ∷ []) A
    "a"
    ∷ character (shift_right ∷ caps_lock ∷ []) Num1 "!" ∷ character (shift_right ∷ caps_lock ∷ []) A
    "a" ∷ [])
    -- Mouse F2, script 00 01 FE 00 01 FA: log 64 D4 60 F2 60 F2.
    ∷ row 13 (mouse_sends GetDeviceID (0x00 ∷ 0x01 ∷ 0xFE ∷ 0x00 ∷ 0x01 ∷ 0xFA ∷ [])
    (0x64 ∷ 0xD4 ∷ 0x60 ∷ 0xF2 ∷ 0x60 ∷ 0xF2 ∷ []) ∷ [])
    ∷ []
