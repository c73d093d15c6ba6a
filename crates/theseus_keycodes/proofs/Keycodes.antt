-- A keycode of the Rust's is told by ours.
use mathlib.Core.Path.{◌≡◌, refl, sym, ap, ◌∙◌}
use Prim.Native.Nat.{ℕ}
use Rattle.std.specs.Prelude.{Option, Some, None, Result, Ok, Err}
use Rattle.std.proofs.Common.{subst}
use Rattle.keycodes_ascii.specs.declared.Keycode.{Keycode as Ours}
use Rattle.keycodes_ascii.specs.Keycode.{number_of, keycode_of}
use Rattle.keycodes_ascii.proofs.Codes.{Has, keycode_has, keycode_number}
use Rattle.theseus_keycodes.specs.declared.Keycode.{Keycode}
use Rattle.theseus_keycodes.specs.declared.NoKeycode.{NoKeycode}
use Rattle.theseus_keycodes.specs.Keycode.{ours, read_as_ours}

unfoldable theirs : Ours → Keycode
theirs Ours.OverflowError = Keycode.OverflowError
theirs Ours.Escape = Keycode.Escape
theirs Ours.Num1 = Keycode.Num1
theirs Ours.Num2 = Keycode.Num2
theirs Ours.Num3 = Keycode.Num3
theirs Ours.Num4 = Keycode.Num4
theirs Ours.Num5 = Keycode.Num5
theirs Ours.Num6 = Keycode.Num6
theirs Ours.Num7 = Keycode.Num7
theirs Ours.Num8 = Keycode.Num8
theirs Ours.Num9 = Keycode.Num9
theirs Ours.Num0 = Keycode.Num0
theirs Ours.Minus = Keycode.Minus
theirs Ours.Equals = Keycode.Equals
theirs Ours.Backspace = Keycode.Backspace
theirs Ours.Tab = Keycode.Tab
theirs Ours.Q = Keycode.Q
theirs Ours.W = Keycode.W
theirs Ours.E = Keycode.E
theirs Ours.R = Keycode.R
theirs Ours.T = Keycode.T
theirs Ours.Y = Keycode.Y
theirs Ours.U = Keycode.U
theirs Ours.I = Keycode.I
theirs Ours.O = Keycode.O
theirs Ours.P = Keycode.P
theirs Ours.LeftBracket = Keycode.LeftBracket
theirs Ours.RightBracket = Keycode.RightBracket
theirs Ours.Enter = Keycode.Enter
theirs Ours.Control = Keycode.Control
theirs Ours.A = Keycode.A
theirs Ours.S = Keycode.S
theirs Ours.D = Keycode.D
theirs Ours.F = Keycode.F
theirs Ours.G = Keycode.G
theirs Ours.H = Keycode.H
theirs Ours.J = Keycode.J
theirs Ours.K = Keycode.K
theirs Ours.L = Keycode.L
theirs Ours.Semicolon = Keycode.Semicolon
theirs Ours.Quote = Keycode.Quote
theirs Ours.Backtick = Keycode.Backtick
theirs Ours.LeftShift = Keycode.LeftShift
theirs Ours.Backslash = Keycode.Backslash
theirs Ours.Z = Keycode.Z
theirs Ours.X = Keycode.X
theirs Ours.C = Keycode.C
theirs Ours.«V» = Keycode.«V»
theirs Ours.B = Keycode.B
theirs Ours.N = Keycode.N
theirs Ours.M = Keycode.M
theirs Ours.Comma = Keycode.Comma
theirs Ours.Period = Keycode.Period
theirs Ours.Slash = Keycode.Slash
theirs Ours.RightShift = Keycode.RightShift
theirs Ours.PadMultiply = Keycode.PadMultiply
theirs Ours.Alt = Keycode.Alt
theirs Ours.Space = Keycode.Space
theirs Ours.CapsLock = Keycode.CapsLock
theirs Ours.F1 = Keycode.F1
theirs Ours.F2 = Keycode.F2
theirs Ours.F3 = Keycode.F3
theirs Ours.F4 = Keycode.F4
theirs Ours.F5 = Keycode.F5
theirs Ours.F6 = Keycode.F6
theirs Ours.F7 = Keycode.F7
theirs Ours.F8 = Keycode.F8
theirs Ours.F9 = Keycode.F9
theirs Ours.F10 = Keycode.F10
theirs Ours.NumLock = Keycode.NumLock
theirs Ours.ScrollLock = Keycode.ScrollLock
theirs Ours.Home = Keycode.Home
theirs Ours.Up = Keycode.Up
theirs Ours.PageUp = Keycode.PageUp
theirs Ours.PadMinus = Keycode.PadMinus
theirs Ours.Left = Keycode.Left
theirs Ours.Pad5 = Keycode.Pad5
theirs Ours.Right = Keycode.Right
theirs Ours.PadPlus = Keycode.PadPlus
theirs Ours.End = Keycode.End
theirs Ours.Down = Keycode.Down
theirs Ours.PageDown = Keycode.PageDown
theirs Ours.Insert = Keycode.Insert
theirs Ours.Delete = Keycode.Delete
theirs Ours.Unknown1 = Keycode.Unknown1
theirs Ours.Unknown2 = Keycode.Unknown2
theirs Ours.NonUsBackslash = Keycode.NonUsBackslash
theirs Ours.F11 = Keycode.F11
theirs Ours.F12 = Keycode.F12
theirs Ours.Pause = Keycode.Pause
theirs Ours.Unknown3 = Keycode.Unknown3
theirs Ours.SuperKeyLeft = Keycode.SuperKeyLeft
theirs Ours.SuperKeyRight = Keycode.SuperKeyRight
theirs Ours.Menu = Keycode.Menu
theirs Ours.ControlReleased = Keycode.ControlReleased
theirs Ours.AltReleased = Keycode.AltReleased
theirs Ours.LeftShiftReleased = Keycode.LeftShiftReleased
theirs Ours.RightShiftReleased = Keycode.RightShiftReleased
theirs Ours.SuperKeyLeftReleased = Keycode.SuperKeyLeftReleased
theirs Ours.SuperKeyRightReleased = Keycode.SuperKeyRightReleased

back : (k : Keycode) → theirs (ours k) ≡ k
unfolding theirs
back Keycode.OverflowError = refl
back Keycode.Escape = refl
back Keycode.Num1 = refl
back Keycode.Num2 = refl
back Keycode.Num3 = refl
back Keycode.Num4 = refl
back Keycode.Num5 = refl
back Keycode.Num6 = refl
back Keycode.Num7 = refl
back Keycode.Num8 = refl
back Keycode.Num9 = refl
back Keycode.Num0 = refl
back Keycode.Minus = refl
back Keycode.Equals = refl
back Keycode.Backspace = refl
back Keycode.Tab = refl
back Keycode.Q = refl
back Keycode.W = refl
back Keycode.E = refl
back Keycode.R = refl
back Keycode.T = refl
back Keycode.Y = refl
back Keycode.U = refl
back Keycode.I = refl
back Keycode.O = refl
back Keycode.P = refl
back Keycode.LeftBracket = refl
back Keycode.RightBracket = refl
back Keycode.Enter = refl
back Keycode.Control = refl
back Keycode.A = refl
back Keycode.S = refl
back Keycode.D = refl
back Keycode.F = refl
back Keycode.G = refl
back Keycode.H = refl
back Keycode.J = refl
back Keycode.K = refl
back Keycode.L = refl
back Keycode.Semicolon = refl
back Keycode.Quote = refl
back Keycode.Backtick = refl
back Keycode.LeftShift = refl
back Keycode.Backslash = refl
back Keycode.Z = refl
back Keycode.X = refl
back Keycode.C = refl
back Keycode.«V» = refl
back Keycode.B = refl
back Keycode.N = refl
back Keycode.M = refl
back Keycode.Comma = refl
back Keycode.Period = refl
back Keycode.Slash = refl
back Keycode.RightShift = refl
back Keycode.PadMultiply = refl
back Keycode.Alt = refl
back Keycode.Space = refl
back Keycode.CapsLock = refl
back Keycode.F1 = refl
back Keycode.F2 = refl
back Keycode.F3 = refl
back Keycode.F4 = refl
back Keycode.F5 = refl
back Keycode.F6 = refl
back Keycode.F7 = refl
back Keycode.F8 = refl
back Keycode.F9 = refl
back Keycode.F10 = refl
back Keycode.NumLock = refl
back Keycode.ScrollLock = refl
back Keycode.Home = refl
back Keycode.Up = refl
back Keycode.PageUp = refl
back Keycode.PadMinus = refl
back Keycode.Left = refl
back Keycode.Pad5 = refl
back Keycode.Right = refl
back Keycode.PadPlus = refl
back Keycode.End = refl
back Keycode.Down = refl
back Keycode.PageDown = refl
back Keycode.Insert = refl
back Keycode.Delete = refl
back Keycode.Unknown1 = refl
back Keycode.Unknown2 = refl
back Keycode.NonUsBackslash = refl
back Keycode.F11 = refl
back Keycode.F12 = refl
back Keycode.Pause = refl
back Keycode.Unknown3 = refl
back Keycode.SuperKeyLeft = refl
back Keycode.SuperKeyRight = refl
back Keycode.Menu = refl
back Keycode.ControlReleased = refl
back Keycode.AltReleased = refl
back Keycode.LeftShiftReleased = refl
back Keycode.RightShiftReleased = refl
back Keycode.SuperKeyLeftReleased = refl
back Keycode.SuperKeyRightReleased = refl

pub ours_one : (j k : Keycode) → ours j ≡ ours k → j ≡ k
ours_one j k e = sym (back j) ∙ ap theirs e ∙ back k

-- a byte that reads as a keycode is the number of ours
module _ (b : ℕ) {t : Result Keycode NoKeycode} (p : read_as_ours t ≡ keycode_of b) where
  pub keyed : {k k2 : Keycode} → t ≡ Ok k → k ≡ k2 → b ≡ number_of (ours k2)
  keyed q r = subst (Has b) (sym p ∙ ap read_as_ours q ∙ ap (λ k. Some (ours k)) r) (keycode_has b)

-- and one that does not is not
abbrev the_ours : Ours → Option Ours → Ours
the_ours d (Some k) = k
the_ours d None = d

some_one : (j k : Ours) → Some j ≡ Some k → j ≡ k
some_one j k e = ap (the_ours j) e

abbrev Found : Option Ours → Type 0
Found (Some k) = Unit {0}
Found None = ⊥

none_some : (k : Ours) → None ≡ Some k → ⊥
none_some k e = subst Found (sym e) tt

is_read : (k : Keycode) (t : Result Keycode NoKeycode) → read_as_ours t ≡ Some (ours k) → t ≡ Ok k
is_read k (Ok j) e = ap Ok (ours_one j k (some_one (ours j) (ours k) e))
is_read k (Err x) e = absurd (none_some (ours k) e)

pub not_keyed : (b : ℕ) {t : Result Keycode NoKeycode} (k : Keycode) → read_as_ours t ≡ keycode_of b → (t ≡ Ok k → ⊥) → b ≡ number_of (ours k) → ⊥
not_keyed b {t} k p h e = h (is_read k t (p ∙ ap keycode_of e ∙ keycode_number (ours k)))
