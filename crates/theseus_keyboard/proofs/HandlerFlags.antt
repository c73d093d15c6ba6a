-- Each key's flags, as the table has them, and the keys that have none.
use mathlib.Core.Path.{◌≡◌, refl}
use mathlib.Core.Bool.{Bool, true, false, not, ◌&&◌}
use mathlib.Core.Logic.{◌≢◌}
use Prim.Native.Nat.{ℕ, ◌%◌, ◌<◌, ◌+◌}
use native.Mathlib.Omega.{arith}
use lib.Dec.{eqb, ltb, lit<}
use borrow.Author.Tests.{ne_eqb, eqb-true, ltb-true}
use Rattle.bits.specs.Bits.{bit, put_bit}
use Rattle.keyboard_scancodes.specs.Strokes.{stroke}
use Rattle.keyboard_scancodes.specs.FlagTable.{is_of, presses_lock}
use Rattle.keyboard_scancodes.specs.FlagsAfter.{flags_after}
use Rattle.theseus_keyboard.specs.Handler.{rusts_table}

not_both : (a c : Bool) → (a ≡ true → c ≡ true → ⊥) → (a && c) ≡ false
not_both true true n = absurd (n refl refl)
not_both true false n = refl
not_both false c n = refl

no_press : (b : ℕ) → b < 256 → (code : ℕ) → code < 128 → b ≢ code → (eqb (b % 128) code && ltb b 128) ≡ false
no_press b fits code l press =
    not_both (eqb (b % 128) code) (ltb b 128) (λ e t. omega (arith, eqb-true (b % 128) code e, ltb-true b 128 t, press))

no_code : (b c : ℕ) → b < 256 → c < 128 → b ≢ c → b ≢ c + 128 → eqb (b % 128) c ≡ false
no_code b c f l n m = ne_eqb (b % 128) c (λ e. omega (arith, e, n, m))

module _ (b : ℕ) (x : Bool) (m : ℕ) where
  pub Control_right : b ≡ 29 → x ≡ true → put_bit 3 true m ≡ flags_after rusts_table (stroke b x) m
  unfolding flags_after is_of
  Control_right e q = rw (e, q) refl

  pub Control_left : b ≡ 29 → x ≡ false → put_bit 2 true m ≡ flags_after rusts_table (stroke b x) m
  unfolding flags_after is_of
  Control_left e q = rw (e, q) refl

  pub Alt_flag : b ≡ 56 → put_bit 4 true m ≡ flags_after rusts_table (stroke b x) m
  unfolding flags_after is_of
  Alt_flag e = rw e refl

  pub LeftShift_flag : b ≡ 42 → put_bit 0 true m ≡ flags_after rusts_table (stroke b x) m
  unfolding flags_after is_of
  LeftShift_flag e = rw e refl

  pub RightShift_flag : b ≡ 54 → put_bit 1 true m ≡ flags_after rusts_table (stroke b x) m
  unfolding flags_after is_of
  RightShift_flag e = rw e refl

  pub SuperKeyLeft_flag : b ≡ 91 → put_bit 5 true m ≡ flags_after rusts_table (stroke b x) m
  unfolding flags_after is_of
  SuperKeyLeft_flag e = rw e refl

  pub SuperKeyRight_flag : b ≡ 92 → put_bit 6 true m ≡ flags_after rusts_table (stroke b x) m
  unfolding flags_after is_of
  SuperKeyRight_flag e = rw e refl

  pub ControlReleased_right : b ≡ 157 → x ≡ true → put_bit 3 false m ≡ flags_after rusts_table (stroke b x) m
  unfolding flags_after is_of
  ControlReleased_right e q = rw (e, q) refl

  pub ControlReleased_left : b ≡ 157 → x ≡ false → put_bit 2 false m ≡ flags_after rusts_table (stroke b x) m
  unfolding flags_after is_of
  ControlReleased_left e q = rw (e, q) refl

  pub AltReleased_flag : b ≡ 184 → put_bit 4 false m ≡ flags_after rusts_table (stroke b x) m
  unfolding flags_after is_of
  AltReleased_flag e = rw e refl

  pub LeftShiftReleased_flag : b ≡ 170 → put_bit 0 false m ≡ flags_after rusts_table (stroke b x) m
  unfolding flags_after is_of
  LeftShiftReleased_flag e = rw e refl

  pub RightShiftReleased_flag : b ≡ 182 → put_bit 1 false m ≡ flags_after rusts_table (stroke b x) m
  unfolding flags_after is_of
  RightShiftReleased_flag e = rw e refl

  pub SuperKeyLeftReleased_flag : b ≡ 219 → put_bit 5 false m ≡ flags_after rusts_table (stroke b x) m
  unfolding flags_after is_of
  SuperKeyLeftReleased_flag e = rw e refl

  pub SuperKeyRightReleased_flag : b ≡ 220 → put_bit 6 false m ≡ flags_after rusts_table (stroke b x) m
  unfolding flags_after is_of
  SuperKeyRightReleased_flag e = rw e refl

  pub CapsLock_flag : b ≡ 58 → put_bit 7 (not (bit 7 m)) m ≡ flags_after rusts_table (stroke b x) m
  unfolding flags_after is_of
  CapsLock_flag e = rw e refl

  pub ScrollLock_flag : b ≡ 70 → put_bit 9 (not (bit 9 m)) m ≡ flags_after rusts_table (stroke b x) m
  unfolding flags_after is_of
  ScrollLock_flag e = rw e refl

  pub NumLock_flag : b ≡ 69 → put_bit 8 (not (bit 8 m)) m ≡ flags_after rusts_table (stroke b x) m
  unfolding flags_after is_of
  NumLock_flag e = rw e refl

  pub no_flag : b < 256 → b ≢ 29 → b ≢ 56 → b ≢ 42 → b ≢ 54 → b ≢ 91 → b ≢ 92 → b ≢ 157 → b ≢ 184 → b ≢ 170 → b ≢ 182 → b ≢ 219 → b ≢ 220 → b ≢ 58 → b ≢ 70 → b ≢ 69 → m ≡ flags_after rusts_table (stroke b x) m
  unfolding flags_after is_of
  no_flag f n0 n1 n2 n3 n4 n5 n6 n7 n8 n9 n10 n11 n12 n13 n14 = rw (no_code b 29 f (lit< tt) n0 n6, no_code b 56 f (lit< tt) n1 n7, no_code b 42 f (lit< tt) n2 n8, no_code b 54 f (lit< tt) n3 n9, no_code b 91 f (lit< tt) n4 n10, no_code b 92 f (lit< tt) n5 n11, no_press b f 58 (lit< tt) n12, no_press b f 69 (lit< tt) n14, no_press b f 70 (lit< tt) n13) refl

-- whether a byte is a lock's press
pub Control_lock : (b : ℕ) → b ≡ 29 → presses_lock rusts_table (stroke b false) ≡ false
unfolding presses_lock is_of
Control_lock b e = rw e refl

pub Alt_lock : (b : ℕ) → b ≡ 56 → presses_lock rusts_table (stroke b false) ≡ false
unfolding presses_lock is_of
Alt_lock b e = rw e refl

pub LeftShift_lock : (b : ℕ) → b ≡ 42 → presses_lock rusts_table (stroke b false) ≡ false
unfolding presses_lock is_of
LeftShift_lock b e = rw e refl

pub RightShift_lock : (b : ℕ) → b ≡ 54 → presses_lock rusts_table (stroke b false) ≡ false
unfolding presses_lock is_of
RightShift_lock b e = rw e refl

pub SuperKeyLeft_lock : (b : ℕ) → b ≡ 91 → presses_lock rusts_table (stroke b false) ≡ false
unfolding presses_lock is_of
SuperKeyLeft_lock b e = rw e refl

pub SuperKeyRight_lock : (b : ℕ) → b ≡ 92 → presses_lock rusts_table (stroke b false) ≡ false
unfolding presses_lock is_of
SuperKeyRight_lock b e = rw e refl

pub ControlReleased_lock : (b : ℕ) → b ≡ 157 → presses_lock rusts_table (stroke b false) ≡ false
unfolding presses_lock is_of
ControlReleased_lock b e = rw e refl

pub AltReleased_lock : (b : ℕ) → b ≡ 184 → presses_lock rusts_table (stroke b false) ≡ false
unfolding presses_lock is_of
AltReleased_lock b e = rw e refl

pub LeftShiftReleased_lock : (b : ℕ) → b ≡ 170 → presses_lock rusts_table (stroke b false) ≡ false
unfolding presses_lock is_of
LeftShiftReleased_lock b e = rw e refl

pub RightShiftReleased_lock : (b : ℕ) → b ≡ 182 → presses_lock rusts_table (stroke b false) ≡ false
unfolding presses_lock is_of
RightShiftReleased_lock b e = rw e refl

pub SuperKeyLeftReleased_lock : (b : ℕ) → b ≡ 219 → presses_lock rusts_table (stroke b false) ≡ false
unfolding presses_lock is_of
SuperKeyLeftReleased_lock b e = rw e refl

pub SuperKeyRightReleased_lock : (b : ℕ) → b ≡ 220 → presses_lock rusts_table (stroke b false) ≡ false
unfolding presses_lock is_of
SuperKeyRightReleased_lock b e = rw e refl

pub CapsLock_lock : (b : ℕ) → b ≡ 58 → presses_lock rusts_table (stroke b false) ≡ true
unfolding presses_lock is_of
CapsLock_lock b e = rw e refl

pub ScrollLock_lock : (b : ℕ) → b ≡ 70 → presses_lock rusts_table (stroke b false) ≡ true
unfolding presses_lock is_of
ScrollLock_lock b e = rw e refl

pub NumLock_lock : (b : ℕ) → b ≡ 69 → presses_lock rusts_table (stroke b false) ≡ true
unfolding presses_lock is_of
NumLock_lock b e = rw e refl

pub no_lock : (b : ℕ) → b < 256 → b ≢ 0x3A → b ≢ 0x45 → b ≢ 0x46 → presses_lock rusts_table (stroke b false) ≡ false
unfolding presses_lock is_of
no_lock b f n0 n1 n2 = rw (no_press b f 58 (lit< tt) n0, no_press b f 69 (lit< tt) n1, no_press b f 70 (lit< tt) n2) refl
