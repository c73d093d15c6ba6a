-- The byte of a key that has no flag: it is no silent one, its key has an event, and neither flags nor lamps follow it.
use mathlib.Core.Path.{◌≡◌, refl}
use mathlib.Core.Bool.{Bool, true, false, not, ◌&&◌, and-false, and-eq-true_iff}
use mathlib.Core.List.{List, [], ◌∷◌}
use Prim.Native.Nat.{ℕ, ◌<◌}
use native.Mathlib.Omega.{arith}
use lib.Dec.{eqb, leb, ltb}
use borrow.Author.Tests.{ne_eqb, ltb-true, leb-true, not-true}
use Rattle.std.proofs.lemmas.Bool.{or_parts}
use Rattle.keyboard_scancodes.specs.Strokes.{Stroke, low_part, stroke, is_silent}
use Rattle.keyboard_scancodes.specs.FlagTable.{FlagRow, flag_table, is_lock, is_of, presses_lock}
use Rattle.keyboard_scancodes.specs.declared.Profile.{Profile}
use Rattle.keyboard_scancodes.specs.Profile.{followed, presses_followed}
use Rattle.keyboard_scancodes.specs.Events.{last_keycode, is_known}
use Rattle.keyboard_scancodes.specs.Plain.{has_flag, is_plain_code, is_plain}
use Rattle.keyboard_scancodes.specs.FlagsAfter.{flags_after}
use Rattle.keyboard_scancodes.proofs.Flags.{touches, untouched}

-- a code that no row has: its strokes are of no row's key, and press no lock
no_row : (s : Stroke) (rows : List FlagRow) → has_flag rows s.code ≡ false → (touches rows s ≡ false) × (presses_lock rows s ≡ false)
unfolding has_flag is_of presses_lock
no_row s [] e = (refl, refl)
no_row s (r ∷ rows) e =
    let p = or_parts (eqb s.code r.code) (has_flag rows s.code) e in
    rw (p.0, and-false (is_lock r.kind)) (no_row s rows p.1)

module _ (b : ℕ) (e : is_plain b ≡ true) where
  parts : (0 < low_part b) × (is_known b ≡ true) × (has_flag flag_table (low_part b) ≡ false)
  unfolding is_plain_code
  parts =
      let p = (and-eq-true_iff (ltb 0x00 (low_part b)) (leb (low_part b) last_keycode && not (has_flag flag_table (low_part b)))).0 e in
      let q = (and-eq-true_iff (leb (low_part b) last_keycode) (not (has_flag flag_table (low_part b)))).0 p.1 in
      (ltb-true 0x00 (low_part b) p.0, q.0, not-true _ q.1)

  pub plain_known : is_known b ≡ true
  plain_known = parts.1

  pub plain_not_silent : is_silent b ≡ false
  plain_not_silent =
      let l = parts.0 in
      let h = leb-true (low_part b) last_keycode parts.1 in
      rw (ne_eqb b 0xE0 (λ q. omega (arith, l, h, q)), ne_eqb b 0xE1 (λ q. omega (arith, l, h, q)), ne_eqb b 0x00 (λ q. omega (arith, l, h, q)), ne_eqb b 0xFA (λ q. omega (arith, l, h, q)))

  pub plain_flags : (x : Bool) (w : ℕ) → flags_after (followed Profile.Any) (stroke b x) w ≡ w
  unfolding followed
  plain_flags x w = untouched (stroke b x) w flag_table (no_row (stroke b x) flag_table parts.2).0

  pub plain_lamps : presses_followed Profile.Any b ≡ false
  unfolding followed
  plain_lamps = (no_row (stroke b false) flag_table parts.2).1
