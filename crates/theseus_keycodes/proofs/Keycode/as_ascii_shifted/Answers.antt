-- `theseus_keycodes::Keycode::as_ascii_shifted` meets its contract: a letter's arms, and the keys that have none.
use mathlib.Core.Path.{◌≡◌, refl, ◌∙◌}
use mathlib.Core.Bool.{true, false, xor}
use Rattle.keycodes_ascii.specs.Characters.{writes, character}
use Rattle.theseus_keycodes.specs.declared.Keycode.{Keycode}
use Rattle.theseus_keycodes.specs.Keycode.{ours}
use Rattle.theseus_keycodes.proofs.Keycode.as_ascii_shifted.Goals as goal

pub returns-in-Q : goal.returns-in-Q
unfolding xor
returns-in-Q c = rw c.in-Q.is refl

pub returns-in-W : goal.returns-in-W
unfolding xor
returns-in-W c = rw c.in-W.is refl

pub returns-in-E : goal.returns-in-E
unfolding xor
returns-in-E c = rw c.in-E.is refl

pub returns-in-R : goal.returns-in-R
unfolding xor
returns-in-R c = rw c.in-R.is refl

pub returns-in-T : goal.returns-in-T
unfolding xor
returns-in-T c = rw c.in-T.is refl

pub returns-in-Y : goal.returns-in-Y
unfolding xor
returns-in-Y c = rw c.in-Y.is refl

pub returns-in-U : goal.returns-in-U
unfolding xor
returns-in-U c = rw c.in-U.is refl

pub returns-in-I : goal.returns-in-I
unfolding xor
returns-in-I c = rw c.in-I.is refl

pub returns-in-O : goal.returns-in-O
unfolding xor
returns-in-O c = rw c.in-O.is refl

pub returns-in-P : goal.returns-in-P
unfolding xor
returns-in-P c = rw c.in-P.is refl

pub returns-in-A : goal.returns-in-A
unfolding xor
returns-in-A c = rw c.in-A.is refl

pub returns-in-S : goal.returns-in-S
unfolding xor
returns-in-S c = rw c.in-S.is refl

pub returns-in-D : goal.returns-in-D
unfolding xor
returns-in-D c = rw c.in-D.is refl

pub returns-in-F : goal.returns-in-F
unfolding xor
returns-in-F c = rw c.in-F.is refl

pub returns-in-G : goal.returns-in-G
unfolding xor
returns-in-G c = rw c.in-G.is refl

pub returns-in-H : goal.returns-in-H
unfolding xor
returns-in-H c = rw c.in-H.is refl

pub returns-in-J : goal.returns-in-J
unfolding xor
returns-in-J c = rw c.in-J.is refl

pub returns-in-K : goal.returns-in-K
unfolding xor
returns-in-K c = rw c.in-K.is refl

pub returns-in-L : goal.returns-in-L
unfolding xor
returns-in-L c = rw c.in-L.is refl

pub returns-in-Z : goal.returns-in-Z
unfolding xor
returns-in-Z c = rw c.in-Z.is refl

pub returns-in-X : goal.returns-in-X
unfolding xor
returns-in-X c = rw c.in-X.is refl

pub returns-in-C : goal.returns-in-C
unfolding xor
returns-in-C c = rw c.in-C.is refl

pub returns-in-V : goal.returns-in-V
unfolding xor
returns-in-V c = rw c.in-V.is refl

pub returns-in-B : goal.returns-in-B
unfolding xor
returns-in-B c = rw c.in-B.is refl

pub returns-in-N : goal.returns-in-N
unfolding xor
returns-in-N c = rw c.in-N.is refl

pub returns-in-M : goal.returns-in-M
unfolding xor
returns-in-M c = rw c.in-M.is refl

others : (c : goal.After-as_ascii) (k : Keycode) → c.args.self.now ≡ k → character (writes (ours k)) false false ≡ character (writes (ours k)) true false
unfolding xor
others c Keycode.OverflowError e = refl
others c Keycode.Escape e = refl
others c Keycode.Num1 e = absurd (c.in_default.not-Num1 e)
others c Keycode.Num2 e = absurd (c.in_default.not-Num2 e)
others c Keycode.Num3 e = absurd (c.in_default.not-Num3 e)
others c Keycode.Num4 e = absurd (c.in_default.not-Num4 e)
others c Keycode.Num5 e = absurd (c.in_default.not-Num5 e)
others c Keycode.Num6 e = absurd (c.in_default.not-Num6 e)
others c Keycode.Num7 e = absurd (c.in_default.not-Num7 e)
others c Keycode.Num8 e = absurd (c.in_default.not-Num8 e)
others c Keycode.Num9 e = absurd (c.in_default.not-Num9 e)
others c Keycode.Num0 e = absurd (c.in_default.not-Num0 e)
others c Keycode.Minus e = absurd (c.in_default.not-Minus e)
others c Keycode.Equals e = absurd (c.in_default.not-Equals e)
others c Keycode.Backspace e = refl
others c Keycode.Tab e = refl
others c Keycode.Q e = absurd (c.in_default.not-Q e)
others c Keycode.W e = absurd (c.in_default.not-W e)
others c Keycode.E e = absurd (c.in_default.not-E e)
others c Keycode.R e = absurd (c.in_default.not-R e)
others c Keycode.T e = absurd (c.in_default.not-T e)
others c Keycode.Y e = absurd (c.in_default.not-Y e)
others c Keycode.U e = absurd (c.in_default.not-U e)
others c Keycode.I e = absurd (c.in_default.not-I e)
others c Keycode.O e = absurd (c.in_default.not-O e)
others c Keycode.P e = absurd (c.in_default.not-P e)
others c Keycode.LeftBracket e = absurd (c.in_default.not-LeftBracket e)
others c Keycode.RightBracket e = absurd (c.in_default.not-RightBracket e)
others c Keycode.Enter e = refl
others c Keycode.Control e = refl
others c Keycode.A e = absurd (c.in_default.not-A e)
others c Keycode.S e = absurd (c.in_default.not-S e)
others c Keycode.D e = absurd (c.in_default.not-D e)
others c Keycode.F e = absurd (c.in_default.not-F e)
others c Keycode.G e = absurd (c.in_default.not-G e)
others c Keycode.H e = absurd (c.in_default.not-H e)
others c Keycode.J e = absurd (c.in_default.not-J e)
others c Keycode.K e = absurd (c.in_default.not-K e)
others c Keycode.L e = absurd (c.in_default.not-L e)
others c Keycode.Semicolon e = absurd (c.in_default.not-Semicolon e)
others c Keycode.Quote e = absurd (c.in_default.not-Quote e)
others c Keycode.Backtick e = absurd (c.in_default.not-Backtick e)
others c Keycode.LeftShift e = refl
others c Keycode.Backslash e = absurd (c.in_default.not-Backslash e)
others c Keycode.Z e = absurd (c.in_default.not-Z e)
others c Keycode.X e = absurd (c.in_default.not-X e)
others c Keycode.C e = absurd (c.in_default.not-C e)
others c Keycode.«V» e = absurd (c.in_default.not-V e)
others c Keycode.B e = absurd (c.in_default.not-B e)
others c Keycode.N e = absurd (c.in_default.not-N e)
others c Keycode.M e = absurd (c.in_default.not-M e)
others c Keycode.Comma e = absurd (c.in_default.not-Comma e)
others c Keycode.Period e = absurd (c.in_default.not-Period e)
others c Keycode.Slash e = absurd (c.in_default.not-Slash e)
others c Keycode.RightShift e = refl
others c Keycode.PadMultiply e = refl
others c Keycode.Alt e = refl
others c Keycode.Space e = refl
others c Keycode.CapsLock e = refl
others c Keycode.F1 e = refl
others c Keycode.F2 e = refl
others c Keycode.F3 e = refl
others c Keycode.F4 e = refl
others c Keycode.F5 e = refl
others c Keycode.F6 e = refl
others c Keycode.F7 e = refl
others c Keycode.F8 e = refl
others c Keycode.F9 e = refl
others c Keycode.F10 e = refl
others c Keycode.NumLock e = refl
others c Keycode.ScrollLock e = refl
others c Keycode.Home e = refl
others c Keycode.Up e = refl
others c Keycode.PageUp e = refl
others c Keycode.PadMinus e = refl
others c Keycode.Left e = refl
others c Keycode.Pad5 e = refl
others c Keycode.Right e = refl
others c Keycode.PadPlus e = refl
others c Keycode.End e = refl
others c Keycode.Down e = refl
others c Keycode.PageDown e = refl
others c Keycode.Insert e = refl
others c Keycode.Delete e = refl
others c Keycode.Unknown1 e = refl
others c Keycode.Unknown2 e = refl
others c Keycode.NonUsBackslash e = refl
others c Keycode.F11 e = refl
others c Keycode.F12 e = refl
others c Keycode.Pause e = refl
others c Keycode.Unknown3 e = refl
others c Keycode.SuperKeyLeft e = refl
others c Keycode.SuperKeyRight e = refl
others c Keycode.Menu e = refl
others c Keycode.ControlReleased e = refl
others c Keycode.AltReleased e = refl
others c Keycode.LeftShiftReleased e = refl
others c Keycode.RightShiftReleased e = refl
others c Keycode.SuperKeyLeftReleased e = refl
others c Keycode.SuperKeyRightReleased e = refl

pub returns-in_default : goal.returns-in_default
returns-in_default c = c.as_ascii.ensures ∙ others c c.args.self.now refl
