-- The characters, key by key: the US layout as the Rust has it.
use Rattle.std.specs.Prelude.{Bool, true, false, cond, ◌||◌, ℕ, Option, Some, None}
use Rattle.std.specs.Bool.{xor}
use Prim.Native.Char.{Char, code}
use Rattle.bits.specs.Bits.{bit}
use Rattle.keyboard_modifiers.specs.declared.KeyboardModifiers.{KeyboardModifiers}
use Rattle.keycodes_ascii.specs.declared.Keycode.{Keycode}
use Rattle.keycodes_ascii.specs.Keycode.{keycode_of}
use Rattle.keyboard_modifiers.specs.Flags.{shift_left, shift_right, caps_lock}

-- What a key writes: a letter, small and capital; a sign, without Shift and with it; the same
-- character with Shift or without;
-- a control character, by its number; nothing.
pub data Writes : Type 0 where
  letter : Char → Char → Writes
  sign : Char → Char → Writes
  same : Char → Writes
  control : ℕ → Writes
  nothing : Writes

-- The layout.
abbrev pub writes : Keycode → Writes
writes Keycode.OverflowError = nothing
writes Keycode.Escape = control 27
writes Keycode.Num1 = sign "1" "!"
writes Keycode.Num2 = sign "2" "@"
writes Keycode.Num3 = sign "3" "#"
writes Keycode.Num4 = sign "4" "$"
writes Keycode.Num5 = sign "5" "%"
writes Keycode.Num6 = sign "6" "^"
writes Keycode.Num7 = sign "7" "&"
writes Keycode.Num8 = sign "8" "*"
writes Keycode.Num9 = sign "9" "("
writes Keycode.Num0 = sign "0" ")"
writes Keycode.Minus = sign "-" "_"
writes Keycode.Equals = sign "=" "+"
writes Keycode.Backspace = control 8
writes Keycode.Tab = control 9
writes Keycode.Q = letter "q" "Q"
writes Keycode.W = letter "w" "W"
writes Keycode.E = letter "e" "E"
writes Keycode.R = letter "r" "R"
writes Keycode.T = letter "t" "T"
writes Keycode.Y = letter "y" "Y"
writes Keycode.U = letter "u" "U"
writes Keycode.I = letter "i" "I"
writes Keycode.O = letter "o" "O"
writes Keycode.P = letter "p" "P"
writes Keycode.LeftBracket = sign "[" "{"
writes Keycode.RightBracket = sign "]" "}"
writes Keycode.Enter = control 10
writes Keycode.Control = nothing
writes Keycode.A = letter "a" "A"
writes Keycode.S = letter "s" "S"
writes Keycode.D = letter "d" "D"
writes Keycode.F = letter "f" "F"
writes Keycode.G = letter "g" "G"
writes Keycode.H = letter "h" "H"
writes Keycode.J = letter "j" "J"
writes Keycode.K = letter "k" "K"
writes Keycode.L = letter "l" "L"
writes Keycode.Semicolon = sign ";" ":"
writes Keycode.Quote = sign "'" "\""
writes Keycode.Backtick = sign "`" "~"
writes Keycode.LeftShift = nothing
writes Keycode.Backslash = sign "\\" "|"
writes Keycode.Z = letter "z" "Z"
writes Keycode.X = letter "x" "X"
writes Keycode.C = letter "c" "C"
writes Keycode.«V» = letter "v" "V"
writes Keycode.B = letter "b" "B"
writes Keycode.N = letter "n" "N"
writes Keycode.M = letter "m" "M"
writes Keycode.Comma = sign "," "<"
writes Keycode.Period = sign "." ">"
writes Keycode.Slash = sign "/" "?"
writes Keycode.RightShift = nothing
writes Keycode.PadMultiply = same "*"
writes Keycode.Alt = nothing
writes Keycode.Space = same " "
writes Keycode.CapsLock = nothing
writes Keycode.F1 = nothing
writes Keycode.F2 = nothing
writes Keycode.F3 = nothing
writes Keycode.F4 = nothing
writes Keycode.F5 = nothing
writes Keycode.F6 = nothing
writes Keycode.F7 = nothing
writes Keycode.F8 = nothing
writes Keycode.F9 = nothing
writes Keycode.F10 = nothing
writes Keycode.NumLock = nothing
writes Keycode.ScrollLock = nothing
writes Keycode.Home = nothing
writes Keycode.Up = nothing
writes Keycode.PageUp = nothing
writes Keycode.PadMinus = same "-"
writes Keycode.Left = nothing
writes Keycode.Pad5 = nothing
writes Keycode.Right = nothing
writes Keycode.PadPlus = same "+"
writes Keycode.End = nothing
writes Keycode.Down = nothing
writes Keycode.PageDown = nothing
writes Keycode.Insert = nothing
writes Keycode.Delete = nothing
writes Keycode.Unknown1 = nothing
writes Keycode.Unknown2 = nothing
writes Keycode.NonUsBackslash = nothing
writes Keycode.F11 = nothing
writes Keycode.F12 = nothing
writes Keycode.Pause = nothing
writes Keycode.Unknown3 = nothing
writes Keycode.SuperKeyLeft = nothing
writes Keycode.SuperKeyRight = nothing
writes Keycode.Menu = nothing
writes Keycode.ControlReleased = nothing
writes Keycode.AltReleased = nothing
writes Keycode.LeftShiftReleased = nothing
writes Keycode.RightShiftReleased = nothing
writes Keycode.SuperKeyLeftReleased = nothing
writes Keycode.SuperKeyRightReleased = nothing

-- Whether a key is a letter.
abbrev pub is_letter : Writes → Bool
is_letter (letter a b) = true
is_letter (sign a b) = false
is_letter (same a) = false
is_letter (control n) = false
is_letter nothing = false

-- The character of a key where Shift is held or not and Caps Lock is on or not. Caps Lock turns
-- Shift round for letters, and does nothing to any other key.
abbrev pub character : Writes → Bool → Bool → Option ℕ
character (letter a b) shift caps = Some (cond (xor shift caps) (code b) (code a))
character (sign a b) shift caps = Some (cond shift (code b) (code a))
character (same a) shift caps = Some (code a)
character (control n) shift caps = Some n
character nothing shift caps = None

-- The character of a key under some flags: only both Shifts and Caps Lock matter.
unfoldable pub character_of : Keycode → KeyboardModifiers → Option ℕ
character_of k m =
    character (writes k) (bit shift_left m.bits || bit shift_right m.bits) (bit caps_lock m.bits)

-- The character of a byte: that of its keycode, if it has one.
abbrev pub character_of_found : Option Keycode → KeyboardModifiers → Option ℕ
character_of_found (Some k) m = character_of k m
character_of_found None m = None

unfoldable pub scancode_character : KeyboardModifiers → ℕ → Option ℕ
scancode_character m b = character_of_found (keycode_of b) m
