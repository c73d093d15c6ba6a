-- Scan code set 2, as the OSDev Wiki's page "PS/2 Keyboard" lists it.
use Rattle.std.specs.Prelude.{List, [], ◌∷◌, ℕ}
use Prim.Native.String.{String}

-- The codes of the keys, with the wiki's names: a key's
-- press is its code, its release F0 and its code.
abbrev pub set2 : List (ℕ × String)
set2 =
    (0x01, "F9") ∷ (0x03, "F5") ∷ (0x04, "F3") ∷ (0x05, "F1") ∷ (0x06, "F2") ∷ (0x07, "F12")
    ∷ (0x09, "F10") ∷
    (0x0A, "F8") ∷ (0x0B, "F6") ∷ (0x0C, "F4") ∷ (0x0D, "tab") ∷ (0x0E, "`") ∷ (0x11, "left alt") ∷
    (0x12, "left shift") ∷ (0x14, "left control") ∷ (0x15, "Q") ∷ (0x16, "1") ∷ (0x1A, "Z")
    ∷ (0x1B, "S") ∷
    (0x1C, "A") ∷ (0x1D, "W") ∷ (0x1E, "2") ∷ (0x21, "C") ∷ (0x22, "X") ∷ (0x23, "D") ∷ (0x24, "E")
    ∷ (0x25, "4") ∷
    (0x26, "3") ∷ (0x29, "space") ∷ (0x2A, "V") ∷ (0x2B, "F") ∷ (0x2C, "T") ∷ (0x2D, "R")
    ∷ (0x2E, "5") ∷
    (0x31, "N") ∷ (0x32, "B") ∷ (0x33, "H") ∷ (0x34, "G") ∷ (0x35, "Y") ∷ (0x36, "6") ∷ (0x3A, "M")
    ∷ (0x3B, "J") ∷
    (0x3C, "U") ∷ (0x3D, "7") ∷ (0x3E, "8") ∷ (0x41, ",") ∷ (0x42, "K") ∷ (0x43, "I") ∷ (0x44, "O")
    ∷ (0x45, "0") ∷
    (0x46, "9") ∷ (0x49, ".") ∷ (0x4A, "/") ∷ (0x4B, "L") ∷ (0x4C, ";") ∷ (0x4D, "P") ∷ (0x4E, "-")
    ∷ (0x52, "'") ∷
    (0x54, "[") ∷ (0x55, "=") ∷ (0x58, "CapsLock") ∷ (0x59, "right shift") ∷ (0x5A, "enter")
    ∷ (0x5B, "]") ∷
    (0x5D, "\\") ∷ (0x66, "backspace") ∷ (0x69, "keypad 1") ∷ (0x6B, "keypad 4")
    ∷ (0x6C, "keypad 7") ∷
    (0x70, "keypad 0") ∷ (0x71, "keypad .") ∷ (0x72, "keypad 2") ∷ (0x73, "keypad 5")
    ∷ (0x74, "keypad 6") ∷
    (0x75, "keypad 8") ∷ (0x76, "escape") ∷ (0x77, "NumberLock") ∷ (0x78, "F11")
    ∷ (0x79, "keypad +") ∷
    (0x7A, "keypad 3") ∷ (0x7B, "keypad -") ∷ (0x7C, "keypad *") ∷ (0x7D, "keypad 9")
    ∷ (0x7E, "ScrollLock") ∷
    (0x83, "F7") ∷ []

-- The codes that stand after the prefix E0, without
-- multimedia keys; a release has F0 between E0 and the code.
abbrev pub set2_after_e0 : List (ℕ × String)
set2_after_e0 =
    (0x11, "right alt") ∷ (0x14, "right control") ∷ (0x1F, "left GUI") ∷ (0x27, "right GUI")
    ∷ (0x2F, "apps") ∷
    (0x4A, "keypad /") ∷ (0x5A, "keypad enter") ∷ (0x69, "end") ∷ (0x6B, "cursor left")
    ∷ (0x6C, "home") ∷
    (0x70, "insert") ∷ (0x71, "delete") ∷ (0x72, "cursor down") ∷ (0x74, "cursor right")
    ∷ (0x75, "cursor up") ∷
    (0x7A, "page down") ∷ (0x7D, "page up") ∷ []
