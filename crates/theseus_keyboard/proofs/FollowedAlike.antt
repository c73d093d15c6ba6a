-- The flags that both follow, after a stroke of the same key, under either profile.
use mathlib.Core.Path.{◌≡◌, refl, sym, ap, ◌∙◌}
use mathlib.Core.Bool.{Bool, true, false, not, cond}
use mathlib.Core.List.{List, [], ◌∷◌}
use Prim.Native.Nat.{ℕ}
use Rattle.bits.specs.Bits.{bit, put_bit}
use Rattle.bits.proofs.PutBits.{put_put}
use Rattle.keyboard_modifiers.specs.Flags.{alt_right, caps_lock, num_lock, scroll_lock}
use Rattle.keyboard_scancodes.specs.declared.KeyboardState.{KeyboardState}
use Rattle.keyboard_scancodes.specs.declared.Profile.{Profile}
use Rattle.keyboard_scancodes.specs.Strokes.{Stroke, stroke}
use Rattle.keyboard_scancodes.specs.FlagTable.{FlagRow, flag_row, flag_table, right, lock, is_of, presses_lock}
use Rattle.keyboard_scancodes.specs.FlagsAfter.{flags_after, row_after, flags_then}
use Rattle.keyboard_scancodes.specs.Profile.{without_locks, followed, presses_followed}
use Rattle.keyboard_scancodes.proofs.Flags.{after_apart}
use Rattle.theseus_keyboard.specs.Handler.{rusts_table}
use Rattle.theseus_keyboard.specs.Both.{base_flags}
use Rattle.theseus_keyboard.specs.Alone.{both_follow}
use Rattle.theseus_keyboard.proofs.Call.{base_after}

abbrev plain_rows : List FlagRow
plain_rows = without_locks rusts_table

abbrev caps_row : FlagRow
caps_row = flag_row caps_lock lock 0x3A

abbrev num_row : FlagRow
num_row = flag_row num_lock lock 0x45

abbrev scroll_row : FlagRow
scroll_row = flag_row scroll_lock lock 0x46

abbrev alt_row : FlagRow
alt_row = flag_row alt_right right 0x38

abbrev lock_rows : List FlagRow
lock_rows = caps_row ∷ num_row ∷ scroll_row ∷ []

-- the flags that both follow under the tournament's profile
abbrev held : ℕ → ℕ
held w = both_follow Profile.Tournament w

-- a flag that is cleared, whether it was put before or not
cleared : (f : ℕ) (v c : Bool) (w : ℕ) → put_bit f false (cond c (put_bit f v w) w) ≡ put_bit f false w
cleared f v true w = put_put f false v w
cleared f v false w = refl

module _ (s : Stroke) where
  rusts_split : (w : ℕ) → flags_after rusts_table s w ≡ flags_after plain_rows s (flags_after lock_rows s w)
  unfolding flags_after
  rusts_split w = refl

  ours_split : (w : ℕ) → flags_after (followed Profile.Tournament) s w ≡ flags_after plain_rows s (row_after alt_row s w)
  unfolding followed flag_table flags_after
  ours_split w = refl

  -- the rows of held keys leave the flags that are cleared
  plain_held : (w : ℕ) → held (flags_after plain_rows s w) ≡ flags_after plain_rows s (held w)
  plain_held w =
      let a = base_flags w in
      let c = put_bit caps_lock false a in
      let n = put_bit num_lock false c in
      ap (λ (x : ℕ). put_bit scroll_lock false (put_bit num_lock false (put_bit caps_lock false x))) (sym (after_apart s alt_right false plain_rows w refl))
      ∙ ap (λ (x : ℕ). put_bit scroll_lock false (put_bit num_lock false x)) (sym (after_apart s caps_lock false plain_rows a refl))
      ∙ ap (λ (x : ℕ). put_bit scroll_lock false x) (sym (after_apart s num_lock false plain_rows c refl))
      ∙ sym (after_apart s scroll_lock false plain_rows n refl)

  -- and those of locks change no other
  locks_held : (w : ℕ) → held (flags_after lock_rows s w) ≡ held w
  unfolding flags_after
  locks_held w =
      let a = base_flags w in
      let c = put_bit caps_lock false a in
      let n = put_bit num_lock false c in
      let below = flags_after (num_row ∷ scroll_row ∷ []) s a in
      let last = flags_after (scroll_row ∷ []) s c in
      ap (λ (x : ℕ). put_bit scroll_lock false (put_bit num_lock false (put_bit caps_lock false x))) (sym (after_apart s alt_right false lock_rows w refl))
      ∙ ap (λ (x : ℕ). put_bit scroll_lock false (put_bit num_lock false x))
      (cleared caps_lock (not (bit caps_lock below)) (is_of caps_row s) below ∙ sym (after_apart s caps_lock false (num_row ∷ scroll_row ∷ []) a refl))
      ∙ ap (λ (x : ℕ). put_bit scroll_lock false x)
      (cleared num_lock (not (bit num_lock last)) (is_of num_row s) last ∙ sym (after_apart s num_lock false (scroll_row ∷ []) c refl))
      ∙ cleared scroll_lock (not (bit scroll_lock n)) (is_of scroll_row s) n

  alt_held : (w : ℕ) → held (row_after alt_row s w) ≡ held w
  alt_held w = ap (λ (x : ℕ). put_bit scroll_lock false (put_bit num_lock false (put_bit caps_lock false x))) (cleared alt_right s.pressed (is_of alt_row s) w)

  pub same_flags : (profile : Profile) (m w : ℕ) → both_follow profile m ≡ both_follow profile w
      → both_follow profile (flags_after rusts_table s m) ≡ both_follow profile (flags_after (followed profile) s w)
  unfolding followed
  same_flags Profile.Any m w e = sym (after_apart s alt_right false rusts_table m refl) ∙ ap (flags_after rusts_table s) e ∙ sym (base_after s w)
  same_flags Profile.Tournament m w e =
      ap held (rusts_split m)
      ∙ plain_held (flags_after lock_rows s m)
      ∙ ap (flags_after plain_rows s) (locks_held m ∙ e ∙ sym (alt_held w))
      ∙ sym (plain_held (row_after alt_row s w))
      ∙ ap held (sym (ours_split w))

-- under the tournament's profile no byte presses a lock that is followed
pub no_lock_followed : (b : ℕ) → presses_followed Profile.Tournament b ≡ false
unfolding followed flag_table presses_lock
no_lock_followed b = refl

pub same_flags_then : (profile : Profile) (k : KeyboardState) (b m : ℕ) → both_follow profile m ≡ both_follow profile k.modifiers.bits
    → both_follow profile (flags_after rusts_table (stroke b k.prefix) m) ≡ both_follow profile (flags_then profile k b)
unfolding flags_then
same_flags_then profile k b m e = same_flags (stroke b k.prefix) profile m k.modifiers.bits e
