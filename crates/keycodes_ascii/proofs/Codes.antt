-- Laws over all keycodes: each is listed, so a test that is computed over the list holds of every keycode; its number gives it back.
use mathlib.Core.Path.{◌≡◌, refl, sym, ap, subst, ◌∙◌}
use mathlib.Core.Bool.{Bool, true, false, cond}
use mathlib.Core.List.{List, [], ◌∷◌}
use Prim.Native.Nat.{ℕ}
use denote.Enum.Declared.{tag_of}
use lib.Dec.{T, eqb, eqb→eq}
use lib.ListN.{get_or}
use Rattle.bits.proofs.Every.{each, each_at}
use Rattle.bits.proofs.Table.{NoRow, decode_missing}
use Rattle.bits.specs.Table.{rows, decode}
use Rattle.keycodes_ascii.specs.contracts.Keycode.{the_type}
use Rattle.std.specs.Prelude.{Option, Some, None, Result, Ok, Err, ok_or}
use Rattle.std.specs.Result.{result_ok}
use Rattle.keycodes_ascii.specs.declared.Keycode.{Keycode}
use Rattle.keycodes_ascii.specs.declared.NoKeycode.{NoKeycode}
use Rattle.keycodes_ascii.specs.Keycode.{number_of, keycodes, numbered, keycode_of, keycode_read}

-- the place of a keycode among its type's variants, and the keycode at a place
abbrev pub place : Keycode → ℕ
place k = tag_of the_type k

abbrev pub keycode_at : ℕ → Keycode
keycode_at n = get_or keycodes n Keycode.OverflowError

pub at_place : (k : Keycode) → keycode_at (place k) ≡ k
unfolding keycodes
at_place Keycode.OverflowError = refl
at_place Keycode.Escape = refl
at_place Keycode.Num1 = refl
at_place Keycode.Num2 = refl
at_place Keycode.Num3 = refl
at_place Keycode.Num4 = refl
at_place Keycode.Num5 = refl
at_place Keycode.Num6 = refl
at_place Keycode.Num7 = refl
at_place Keycode.Num8 = refl
at_place Keycode.Num9 = refl
at_place Keycode.Num0 = refl
at_place Keycode.Minus = refl
at_place Keycode.Equals = refl
at_place Keycode.Backspace = refl
at_place Keycode.Tab = refl
at_place Keycode.Q = refl
at_place Keycode.W = refl
at_place Keycode.E = refl
at_place Keycode.R = refl
at_place Keycode.T = refl
at_place Keycode.Y = refl
at_place Keycode.U = refl
at_place Keycode.I = refl
at_place Keycode.O = refl
at_place Keycode.P = refl
at_place Keycode.LeftBracket = refl
at_place Keycode.RightBracket = refl
at_place Keycode.Enter = refl
at_place Keycode.Control = refl
at_place Keycode.A = refl
at_place Keycode.S = refl
at_place Keycode.D = refl
at_place Keycode.F = refl
at_place Keycode.G = refl
at_place Keycode.H = refl
at_place Keycode.J = refl
at_place Keycode.K = refl
at_place Keycode.L = refl
at_place Keycode.Semicolon = refl
at_place Keycode.Quote = refl
at_place Keycode.Backtick = refl
at_place Keycode.LeftShift = refl
at_place Keycode.Backslash = refl
at_place Keycode.Z = refl
at_place Keycode.X = refl
at_place Keycode.C = refl
at_place Keycode.«V» = refl
at_place Keycode.B = refl
at_place Keycode.N = refl
at_place Keycode.M = refl
at_place Keycode.Comma = refl
at_place Keycode.Period = refl
at_place Keycode.Slash = refl
at_place Keycode.RightShift = refl
at_place Keycode.PadMultiply = refl
at_place Keycode.Alt = refl
at_place Keycode.Space = refl
at_place Keycode.CapsLock = refl
at_place Keycode.F1 = refl
at_place Keycode.F2 = refl
at_place Keycode.F3 = refl
at_place Keycode.F4 = refl
at_place Keycode.F5 = refl
at_place Keycode.F6 = refl
at_place Keycode.F7 = refl
at_place Keycode.F8 = refl
at_place Keycode.F9 = refl
at_place Keycode.F10 = refl
at_place Keycode.NumLock = refl
at_place Keycode.ScrollLock = refl
at_place Keycode.Home = refl
at_place Keycode.Up = refl
at_place Keycode.PageUp = refl
at_place Keycode.PadMinus = refl
at_place Keycode.Left = refl
at_place Keycode.Pad5 = refl
at_place Keycode.Right = refl
at_place Keycode.PadPlus = refl
at_place Keycode.End = refl
at_place Keycode.Down = refl
at_place Keycode.PageDown = refl
at_place Keycode.Insert = refl
at_place Keycode.Delete = refl
at_place Keycode.Unknown1 = refl
at_place Keycode.Unknown2 = refl
at_place Keycode.NonUsBackslash = refl
at_place Keycode.F11 = refl
at_place Keycode.F12 = refl
at_place Keycode.Pause = refl
at_place Keycode.Unknown3 = refl
at_place Keycode.SuperKeyLeft = refl
at_place Keycode.SuperKeyRight = refl
at_place Keycode.Menu = refl
at_place Keycode.ControlReleased = refl
at_place Keycode.AltReleased = refl
at_place Keycode.LeftShiftReleased = refl
at_place Keycode.RightShiftReleased = refl
at_place Keycode.SuperKeyLeftReleased = refl
at_place Keycode.SuperKeyRightReleased = refl

-- a test that holds of each listed keycode holds of every keycode
pub every_keycode : (f : Keycode → Bool) → T (f Keycode.OverflowError) → T (each f keycodes) → (k : Keycode) → T (f k)
every_keycode f h t k = subst (λ (j : Keycode). T (f j)) (at_place k) (each_at f keycodes Keycode.OverflowError h t (place k))

-- two keycodes at one place are one
pub same_place : (j k : Keycode) → place j ≡ place k → j ≡ k
same_place j k e = sym (at_place j) ∙ ap keycode_at e ∙ at_place k

-- whether a byte's keycode is k
abbrev is_found : Keycode → Option Keycode → Bool
is_found k (Some j) = eqb (place j) (place k)
is_found k None = false

is_found_lem : (k : Keycode) (f : Option Keycode) → T (is_found k f) → f ≡ Some k
is_found_lem k (Some j) t = ap Some (same_place j k (eqb→eq (place j) (place k) t))
is_found_lem k None t = absurd t

-- a keycode's number gives the keycode back
pub keycode_number : (k : Keycode) → keycode_of (number_of k) ≡ Some k
unfolding keycode_of numbered keycodes
keycode_number k = is_found_lem k (keycode_of (number_of k)) (every_keycode (λ k. is_found k (keycode_of (number_of k))) tt tt k)

-- and a keycode that is found for a number has it
abbrev pub Has : ℕ → Option Keycode → Type 0
Has b (Some k) = b ≡ number_of k
Has b None = Unit {0}

has_first : (b : ℕ) (k : Keycode) (f : Option Keycode) (t : Bool) → (T t → b ≡ number_of k) → Has b f → Has b (cond t (Some k) f)
has_first b k f true e h = e tt
has_first b k f false e h = h

numbered_has : (ks : List Keycode) (b : ℕ) → Has b (numbered ks b)
unfolding numbered
numbered_has [] b = tt
numbered_has (k ∷ ks) b = has_first b k (numbered ks b) (eqb b (number_of k)) (eqb→eq b (number_of k)) (numbered_has ks b)

pub keycode_has : (b : ℕ) → Has b (keycode_of b)
unfolding keycode_of
keycode_has b = numbered_has keycodes b

-- the first keycode that has a number is what the table of all keycodes has for it
numbered_decode : (ks : List Keycode) (b : ℕ) → numbered ks b ≡ decode Some None (rows number_of ks) b
unfolding numbered decode
numbered_decode [] b = refl
numbered_decode (k ∷ ks) b = ap (cond (eqb b (number_of k)) (Some k)) (numbered_decode ks b)

-- a byte that is the number of no keycode has none
pub keycode_missing : (b : ℕ) → NoRow (Unit {0}) (rows number_of keycodes) b → None ≡ keycode_of b
unfolding keycode_of
keycode_missing b h = sym (numbered_decode keycodes b ∙ decode_missing Some None (Unit {0}) (rows number_of keycodes) b h)

-- what a byte is read as tells its keycode
ok_or_ok : {A E : Type 0} (o : Option A) (e : E) → result_ok (ok_or o e) ≡ o
ok_or_ok None e = refl
ok_or_ok (Some a) e = refl

pub ok_read : (b : ℕ) → result_ok (keycode_read b) ≡ keycode_of b
ok_read b = ok_or_ok (keycode_of b) (record { 0 = b })

pub read_ok : (b : ℕ) {r : Result Keycode NoKeycode} {k : Keycode} → r ≡ keycode_read b → r ≡ Ok k → Some k ≡ keycode_of b
read_ok b q e = ap result_ok (sym e ∙ q) ∙ ok_read b

pub read_err : (b : ℕ) {r : Result Keycode NoKeycode} {x : NoKeycode} → r ≡ keycode_read b → r ≡ Err x → None ≡ keycode_of b
read_err b q e = ap result_ok (sym e ∙ q) ∙ ok_read b
