-- A code of no key of the table has no flag; a byte that is no lock's press has no lamp exchange.
use mathlib.Core.Path.{◌≡◌, refl}
use mathlib.Core.Bool.{Bool, true, false, ◌&&◌}
use mathlib.Core.Logic.{◌≢◌}
use Prim.Native.Nat.{ℕ, ◌%◌, ◌<◌}
use native.Mathlib.Omega.{arith}
use lib.Dec.{eqb, ltb, lit<}
use borrow.Author.Tests.{ne_eqb, eqb-true, ltb-true}
use Rattle.keyboard_scancodes.specs.FlagTable.{flag_table, is_of, presses_lock}
use Rattle.keyboard_scancodes.specs.Strokes.{stroke}
use Rattle.keyboard_scancodes.specs.FlagsAfter.{held_flags, lock_flags}

not_both : (a c : Bool) → (a ≡ true → c ≡ true → ⊥) → (a && c) ≡ false
not_both true true n = absurd (n refl refl)
not_both true false n = refl
not_both false c n = refl

module _ (b : ℕ) (fits : b < 256) where
  -- a byte that is not a lock's press
  no_press : (code : ℕ) → code < 128 → b ≢ code → (eqb (b % 128) code && ltb b 128) ≡ false
  no_press code l press =
      not_both (eqb (b % 128) code) (ltb b 128) (λ e t. omega (arith, eqb-true (b % 128) code e, ltb-true b 128 t, press))

  pub no_lock : b ≢ 0x3A → b ≢ 0x45 → b ≢ 0x46 → presses_lock flag_table (stroke b false) ≡ false
  unfolding flag_table is_of presses_lock
  no_lock n1 n2 n3 = rw (no_press 0x3A (lit< tt) n1, no_press 0x45 (lit< tt) n2, no_press 0x46 (lit< tt) n3)

module _ (code : ℕ) where
  pub no_held : (x : Bool) → code ≢ 0x1D → code ≢ 0x38 → code ≢ 0x2A → code ≢ 0x36 → code ≢ 0x5B → code ≢ 0x5C → held_flags flag_table code x ≡ 0
  unfolding flag_table is_of
  no_held x n1 n2 n3 n4 n5 n6 =
      rw (ne_eqb code 0x1D n1, ne_eqb code 0x38 n2, ne_eqb code 0x2A n3, ne_eqb code 0x36 n4, ne_eqb code 0x5B n5, ne_eqb code 0x5C n6)

  pub no_lock_flag : code ≢ 0x3A → code ≢ 0x46 → code ≢ 0x45 → lock_flags flag_table code ≡ 0
  unfolding flag_table is_of
  no_lock_flag n1 n2 n3 = rw (ne_eqb code 0x3A n1, ne_eqb code 0x46 n2, ne_eqb code 0x45 n3)
