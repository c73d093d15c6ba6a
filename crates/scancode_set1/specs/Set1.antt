-- Scan code set 1, as the OSDev Wiki's page "PS/2 Keyboard"
-- lists it, and which of its keys each keycode is.
use Rattle.std.specs.Prelude.{List, [], ◌∷◌, ℕ, ◌+◌}
use Prim.Native.String.{String}
use Rattle.keycodes_ascii.specs.declared.Keycode.{Keycode}

-- The press codes, with the wiki's names of the keys.
abbrev pub set1 : List (ℕ × String)
set1 =
    (0x01, "escape") ∷ (0x02, "1") ∷ (0x03, "2") ∷ (0x04, "3") ∷ (0x05, "4") ∷ (0x06, "5")
    ∷ (0x07, "6") ∷
    (0x08, "7") ∷ (0x09, "8") ∷ (0x0A, "9") ∷ (0x0B, "0") ∷ (0x0C, "-") ∷ (0x0D, "=")
    ∷ (0x0E, "backspace") ∷
    (0x0F, "tab") ∷ (0x10, "Q") ∷ (0x11, "W") ∷ (0x12, "E") ∷ (0x13, "R") ∷ (0x14, "T")
    ∷ (0x15, "Y") ∷
    (0x16, "U") ∷ (0x17, "I") ∷ (0x18, "O") ∷ (0x19, "P") ∷ (0x1A, "[") ∷ (0x1B, "]")
    ∷ (0x1C, "enter") ∷
    (0x1D, "left control") ∷ (0x1E, "A") ∷ (0x1F, "S") ∷ (0x20, "D") ∷ (0x21, "F") ∷ (0x22, "G") ∷
    (0x23, "H") ∷ (0x24, "J") ∷ (0x25, "K") ∷ (0x26, "L") ∷ (0x27, ";") ∷ (0x28, "'") ∷ (0x29, "`")
    ∷
    (0x2A, "left shift") ∷ (0x2B, "\\") ∷ (0x2C, "Z") ∷ (0x2D, "X") ∷ (0x2E, "C") ∷ (0x2F, "V")
    ∷ (0x30, "B") ∷
    (0x31, "N") ∷ (0x32, "M") ∷ (0x33, ",") ∷ (0x34, ".") ∷ (0x35, "/") ∷ (0x36, "right shift") ∷
    (0x37, "keypad *") ∷ (0x38, "left alt") ∷ (0x39, "space") ∷ (0x3A, "CapsLock") ∷ (0x3B, "F1") ∷
    (0x3C, "F2") ∷ (0x3D, "F3") ∷ (0x3E, "F4") ∷ (0x3F, "F5") ∷ (0x40, "F6") ∷ (0x41, "F7")
    ∷ (0x42, "F8") ∷
    (0x43, "F9") ∷ (0x44, "F10") ∷ (0x45, "NumberLock") ∷ (0x46, "ScrollLock") ∷ (0x47, "keypad 7")
    ∷
    (0x48, "keypad 8") ∷ (0x49, "keypad 9") ∷ (0x4A, "keypad -") ∷ (0x4B, "keypad 4")
    ∷ (0x4C, "keypad 5") ∷
    (0x4D, "keypad 6") ∷ (0x4E, "keypad +") ∷ (0x4F, "keypad 1") ∷ (0x50, "keypad 2")
    ∷ (0x51, "keypad 3") ∷
    (0x52, "keypad 0") ∷ (0x53, "keypad .") ∷ (0x57, "F11") ∷ (0x58, "F12") ∷ []

-- The press codes that stand after the prefix E0. Multimedia keys are left out: those up to 5D
-- share their numbers with the keys above, and those past it are no keycodes.
abbrev pub set1_after_e0 : List (ℕ × String)
set1_after_e0 =
    (0x1C, "keypad enter") ∷ (0x1D, "right control") ∷ (0x35, "keypad /") ∷ (0x38, "right alt") ∷
    (0x47, "home") ∷ (0x48, "cursor up") ∷ (0x49, "page up") ∷ (0x4B, "cursor left")
    ∷ (0x4D, "cursor right") ∷
    (0x4F, "end") ∷ (0x50, "cursor down") ∷ (0x51, "page down") ∷ (0x52, "insert")
    ∷ (0x53, "delete") ∷
    (0x5B, "left GUI") ∷ (0x5C, "right GUI") ∷ (0x5D, "apps") ∷ []

-- A release code is the press code with the top bit set.
abbrev pub release_of : ℕ → ℕ
release_of press = press + 0x80

-- What a keycode is by the wiki: a key of the table; a key that the wiki has only after E0; the
-- release of one of these; or a number that the wiki has no key for.
pub data Listed : Type 0 where
  key : String → Listed
  key_after_e0 : String → Listed
  release_of_key : String → Listed
  release_of_key_after_e0 : String → Listed
  not_listed : Listed

-- A keycode is one number for two keys where the wiki has the number both plain and after E0 (Home,
-- for one, is the keypad's 7): here it is the plain one.
abbrev pub listed_as : Keycode → Listed
listed_as Keycode.OverflowError = not_listed
listed_as Keycode.Escape = key "escape"
listed_as Keycode.Num1 = key "1"
listed_as Keycode.Num2 = key "2"
listed_as Keycode.Num3 = key "3"
listed_as Keycode.Num4 = key "4"
listed_as Keycode.Num5 = key "5"
listed_as Keycode.Num6 = key "6"
listed_as Keycode.Num7 = key "7"
listed_as Keycode.Num8 = key "8"
listed_as Keycode.Num9 = key "9"
listed_as Keycode.Num0 = key "0"
listed_as Keycode.Minus = key "-"
listed_as Keycode.Equals = key "="
listed_as Keycode.Backspace = key "backspace"
listed_as Keycode.Tab = key "tab"
listed_as Keycode.Q = key "Q"
listed_as Keycode.W = key "W"
listed_as Keycode.E = key "E"
listed_as Keycode.R = key "R"
listed_as Keycode.T = key "T"
listed_as Keycode.Y = key "Y"
listed_as Keycode.U = key "U"
listed_as Keycode.I = key "I"
listed_as Keycode.O = key "O"
listed_as Keycode.P = key "P"
listed_as Keycode.LeftBracket = key "["
listed_as Keycode.RightBracket = key "]"
listed_as Keycode.Enter = key "enter"
listed_as Keycode.Control = key "left control"
listed_as Keycode.A = key "A"
listed_as Keycode.S = key "S"
listed_as Keycode.D = key "D"
listed_as Keycode.F = key "F"
listed_as Keycode.G = key "G"
listed_as Keycode.H = key "H"
listed_as Keycode.J = key "J"
listed_as Keycode.K = key "K"
listed_as Keycode.L = key "L"
listed_as Keycode.Semicolon = key ";"
listed_as Keycode.Quote = key "'"
listed_as Keycode.Backtick = key "`"
listed_as Keycode.LeftShift = key "left shift"
listed_as Keycode.Backslash = key "\\"
listed_as Keycode.Z = key "Z"
listed_as Keycode.X = key "X"
listed_as Keycode.C = key "C"
listed_as Keycode.«V» = key "V"
listed_as Keycode.B = key "B"
listed_as Keycode.N = key "N"
listed_as Keycode.M = key "M"
listed_as Keycode.Comma = key ","
listed_as Keycode.Period = key "."
listed_as Keycode.Slash = key "/"
listed_as Keycode.RightShift = key "right shift"
listed_as Keycode.PadMultiply = key "keypad *"
listed_as Keycode.Alt = key "left alt"
listed_as Keycode.Space = key "space"
listed_as Keycode.CapsLock = key "CapsLock"
listed_as Keycode.F1 = key "F1"
listed_as Keycode.F2 = key "F2"
listed_as Keycode.F3 = key "F3"
listed_as Keycode.F4 = key "F4"
listed_as Keycode.F5 = key "F5"
listed_as Keycode.F6 = key "F6"
listed_as Keycode.F7 = key "F7"
listed_as Keycode.F8 = key "F8"
listed_as Keycode.F9 = key "F9"
listed_as Keycode.F10 = key "F10"
listed_as Keycode.NumLock = key "NumberLock"
listed_as Keycode.ScrollLock = key "ScrollLock"
listed_as Keycode.Home = key "keypad 7"
listed_as Keycode.Up = key "keypad 8"
listed_as Keycode.PageUp = key "keypad 9"
listed_as Keycode.PadMinus = key "keypad -"
listed_as Keycode.Left = key "keypad 4"
listed_as Keycode.Pad5 = key "keypad 5"
listed_as Keycode.Right = key "keypad 6"
listed_as Keycode.PadPlus = key "keypad +"
listed_as Keycode.End = key "keypad 1"
listed_as Keycode.Down = key "keypad 2"
listed_as Keycode.PageDown = key "keypad 3"
listed_as Keycode.Insert = key "keypad 0"
listed_as Keycode.Delete = key "keypad ."
listed_as Keycode.Unknown1 = not_listed
listed_as Keycode.Unknown2 = not_listed
listed_as Keycode.NonUsBackslash = not_listed
listed_as Keycode.F11 = key "F11"
listed_as Keycode.F12 = key "F12"
listed_as Keycode.Pause = not_listed
listed_as Keycode.Unknown3 = not_listed
listed_as Keycode.SuperKeyLeft = key_after_e0 "left GUI"
listed_as Keycode.SuperKeyRight = key_after_e0 "right GUI"
listed_as Keycode.Menu = key_after_e0 "apps"
listed_as Keycode.ControlReleased = release_of_key "left control"
listed_as Keycode.AltReleased = release_of_key "left alt"
listed_as Keycode.LeftShiftReleased = release_of_key "left shift"
listed_as Keycode.RightShiftReleased = release_of_key "right shift"
listed_as Keycode.SuperKeyLeftReleased = release_of_key_after_e0 "left GUI"
listed_as Keycode.SuperKeyRightReleased = release_of_key_after_e0 "right GUI"

-- The keycodes that the Rust has and the wiki has not: 00,
-- 54, 55, 56 (the extra key of 102-key boards), 59 and 5A.
abbrev pub unlisted : List Keycode
unlisted = Keycode.OverflowError ∷ Keycode.Unknown1 ∷ Keycode.Unknown2 ∷ Keycode.NonUsBackslash
    ∷ Keycode.Pause ∷ Keycode.Unknown3 ∷ []

-- Which key a keycode is directly after E0: the wiki's other key of its number, or the only one.
abbrev pub after_e0_as : List (Keycode × String)
after_e0_as =
    (Keycode.Enter, "keypad enter") ∷ (Keycode.Control, "right control")
    ∷ (Keycode.Slash, "keypad /") ∷ (Keycode.Alt, "right alt") ∷
    (Keycode.Home, "home") ∷ (Keycode.Up, "cursor up") ∷ (Keycode.PageUp, "page up")
    ∷ (Keycode.Left, "cursor left") ∷
    (Keycode.Right, "cursor right") ∷ (Keycode.End, "end") ∷ (Keycode.Down, "cursor down")
    ∷ (Keycode.PageDown, "page down") ∷
    (Keycode.Insert, "insert") ∷ (Keycode.Delete, "delete") ∷ (Keycode.SuperKeyLeft, "left GUI") ∷
    (Keycode.SuperKeyRight, "right GUI") ∷ (Keycode.Menu, "apps") ∷ []
