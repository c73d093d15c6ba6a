-- The keycodes and their numbers: a keycode's number is the key's press code in scan code set 1.
use Rattle.std.specs.Prelude.{cond, List, [], ◌∷◌, ℕ, eqb, Option, Some, None, Result, ok_or}
use Rattle.keycodes_ascii.specs.declared.Keycode.{Keycode}
use Rattle.keycodes_ascii.specs.declared.NoKeycode.{NoKeycode}

-- The number of a keycode: 00 to 5D, and the release codes of the six modifier keys, which are
-- values of the Rust's type and occur in no event.
abbrev pub number_of : Keycode → ℕ
number_of Keycode.OverflowError = 0x00
number_of Keycode.Escape = 0x01
number_of Keycode.Num1 = 0x02
number_of Keycode.Num2 = 0x03
number_of Keycode.Num3 = 0x04
number_of Keycode.Num4 = 0x05
number_of Keycode.Num5 = 0x06
number_of Keycode.Num6 = 0x07
number_of Keycode.Num7 = 0x08
number_of Keycode.Num8 = 0x09
number_of Keycode.Num9 = 0x0A
number_of Keycode.Num0 = 0x0B
number_of Keycode.Minus = 0x0C
number_of Keycode.Equals = 0x0D
number_of Keycode.Backspace = 0x0E
number_of Keycode.Tab = 0x0F
number_of Keycode.Q = 0x10
number_of Keycode.W = 0x11
number_of Keycode.E = 0x12
number_of Keycode.R = 0x13
number_of Keycode.T = 0x14
number_of Keycode.Y = 0x15
number_of Keycode.U = 0x16
number_of Keycode.I = 0x17
number_of Keycode.O = 0x18
number_of Keycode.P = 0x19
number_of Keycode.LeftBracket = 0x1A
number_of Keycode.RightBracket = 0x1B
number_of Keycode.Enter = 0x1C
number_of Keycode.Control = 0x1D
number_of Keycode.A = 0x1E
number_of Keycode.S = 0x1F
number_of Keycode.D = 0x20
number_of Keycode.F = 0x21
number_of Keycode.G = 0x22
number_of Keycode.H = 0x23
number_of Keycode.J = 0x24
number_of Keycode.K = 0x25
number_of Keycode.L = 0x26
number_of Keycode.Semicolon = 0x27
number_of Keycode.Quote = 0x28
number_of Keycode.Backtick = 0x29
number_of Keycode.LeftShift = 0x2A
number_of Keycode.Backslash = 0x2B
number_of Keycode.Z = 0x2C
number_of Keycode.X = 0x2D
number_of Keycode.C = 0x2E
number_of Keycode.«V» = 0x2F
number_of Keycode.B = 0x30
number_of Keycode.N = 0x31
number_of Keycode.M = 0x32
number_of Keycode.Comma = 0x33
number_of Keycode.Period = 0x34
number_of Keycode.Slash = 0x35
number_of Keycode.RightShift = 0x36
number_of Keycode.PadMultiply = 0x37
number_of Keycode.Alt = 0x38
number_of Keycode.Space = 0x39
number_of Keycode.CapsLock = 0x3A
number_of Keycode.F1 = 0x3B
number_of Keycode.F2 = 0x3C
number_of Keycode.F3 = 0x3D
number_of Keycode.F4 = 0x3E
number_of Keycode.F5 = 0x3F
number_of Keycode.F6 = 0x40
number_of Keycode.F7 = 0x41
number_of Keycode.F8 = 0x42
number_of Keycode.F9 = 0x43
number_of Keycode.F10 = 0x44
number_of Keycode.NumLock = 0x45
number_of Keycode.ScrollLock = 0x46
number_of Keycode.Home = 0x47
number_of Keycode.Up = 0x48
number_of Keycode.PageUp = 0x49
number_of Keycode.PadMinus = 0x4A
number_of Keycode.Left = 0x4B
number_of Keycode.Pad5 = 0x4C
number_of Keycode.Right = 0x4D
number_of Keycode.PadPlus = 0x4E
number_of Keycode.End = 0x4F
number_of Keycode.Down = 0x50
number_of Keycode.PageDown = 0x51
number_of Keycode.Insert = 0x52
number_of Keycode.Delete = 0x53
number_of Keycode.Unknown1 = 0x54
number_of Keycode.Unknown2 = 0x55
number_of Keycode.NonUsBackslash = 0x56
number_of Keycode.F11 = 0x57
number_of Keycode.F12 = 0x58
number_of Keycode.Pause = 0x59
number_of Keycode.Unknown3 = 0x5A
number_of Keycode.SuperKeyLeft = 0x5B
number_of Keycode.SuperKeyRight = 0x5C
number_of Keycode.Menu = 0x5D
number_of Keycode.ControlReleased = 0x9D
number_of Keycode.AltReleased = 0xB8
number_of Keycode.LeftShiftReleased = 0xAA
number_of Keycode.RightShiftReleased = 0xB6
number_of Keycode.SuperKeyLeftReleased = 0xDB
number_of Keycode.SuperKeyRightReleased = 0xDC

-- All of them.
unfoldable pub keycodes : List Keycode
keycodes =
    Keycode.OverflowError ∷ Keycode.Escape ∷ Keycode.Num1 ∷ Keycode.Num2 ∷ Keycode.Num3
    ∷ Keycode.Num4 ∷
    Keycode.Num5 ∷ Keycode.Num6 ∷ Keycode.Num7 ∷ Keycode.Num8 ∷ Keycode.Num9 ∷ Keycode.Num0
    ∷ Keycode.Minus ∷
    Keycode.Equals ∷ Keycode.Backspace ∷ Keycode.Tab ∷ Keycode.Q ∷ Keycode.W ∷ Keycode.E ∷ Keycode.R
    ∷ Keycode.T ∷
    Keycode.Y ∷ Keycode.U ∷ Keycode.I ∷ Keycode.O ∷ Keycode.P ∷ Keycode.LeftBracket
    ∷ Keycode.RightBracket ∷
    Keycode.Enter ∷ Keycode.Control ∷ Keycode.A ∷ Keycode.S ∷ Keycode.D ∷ Keycode.F ∷ Keycode.G
    ∷ Keycode.H ∷
    Keycode.J ∷ Keycode.K ∷ Keycode.L ∷ Keycode.Semicolon ∷ Keycode.Quote ∷ Keycode.Backtick
    ∷ Keycode.LeftShift ∷
    Keycode.Backslash ∷ Keycode.Z ∷ Keycode.X ∷ Keycode.C ∷ Keycode.«V» ∷ Keycode.B ∷ Keycode.N
    ∷ Keycode.M ∷
    Keycode.Comma ∷ Keycode.Period ∷ Keycode.Slash ∷ Keycode.RightShift ∷ Keycode.PadMultiply
    ∷ Keycode.Alt ∷
    Keycode.Space ∷ Keycode.CapsLock ∷ Keycode.F1 ∷ Keycode.F2 ∷ Keycode.F3 ∷ Keycode.F4
    ∷ Keycode.F5 ∷ Keycode.F6 ∷
    Keycode.F7 ∷ Keycode.F8 ∷ Keycode.F9 ∷ Keycode.F10 ∷ Keycode.NumLock ∷ Keycode.ScrollLock
    ∷ Keycode.Home ∷
    Keycode.Up ∷ Keycode.PageUp ∷ Keycode.PadMinus ∷ Keycode.Left ∷ Keycode.Pad5 ∷ Keycode.Right
    ∷ Keycode.PadPlus ∷
    Keycode.End ∷ Keycode.Down ∷ Keycode.PageDown ∷ Keycode.Insert ∷ Keycode.Delete
    ∷ Keycode.Unknown1 ∷
    Keycode.Unknown2 ∷ Keycode.NonUsBackslash ∷ Keycode.F11 ∷ Keycode.F12 ∷ Keycode.Pause
    ∷ Keycode.Unknown3 ∷
    Keycode.SuperKeyLeft ∷ Keycode.SuperKeyRight ∷ Keycode.Menu ∷ Keycode.ControlReleased
    ∷ Keycode.AltReleased ∷
    Keycode.LeftShiftReleased ∷ Keycode.RightShiftReleased ∷ Keycode.SuperKeyLeftReleased ∷
    Keycode.SuperKeyRightReleased ∷ []

-- The first of some keycodes that has the number b.
unfoldable pub numbered : List Keycode → ℕ → Option Keycode
numbered [] b = None
numbered (k ∷ ks) b = cond (eqb b (number_of k)) (Some k) (numbered ks b)

-- The keycode of a byte: the one that has it for its number. No other byte has one.
unfoldable pub keycode_of : ℕ → Option Keycode
keycode_of b = numbered keycodes b

-- What a byte is read as: its keycode, or the refusal that names it.
abbrev pub keycode_read : ℕ → Result Keycode NoKeycode
keycode_read b = ok_or (keycode_of b) (record { 0 = b })
