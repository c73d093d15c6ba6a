-- A flag of ours is the Rust's of the same name.
use mathlib.Core.Path.{◌≡◌, ap₂}
use mathlib.Core.Bool.{◌||◌}
use Prim.Native.Nat.{ℕ}
use Rattle.bits.specs.Bits.{bit}
use Rattle.keyboard_modifiers.specs.Flags as Ours
use Rattle.theseus_keycodes.specs.Flags.{control_left, control_right, shift_left, shift_right, alt, alt_gr, super_key_left, super_key_right, caps_lock, num_lock, scroll_lock, renumbered}
use Rattle.theseus_keycodes.proofs.Renumbered.{look, read}

module _ (w : ℕ) where
  pub control_left_is : bit Ours.control_left (renumbered w) ≡ bit control_left w
  unfolding look
  control_left_is = read Ours.control_left w

  pub control_right_is : bit Ours.control_right (renumbered w) ≡ bit control_right w
  unfolding look
  control_right_is = read Ours.control_right w

  pub shift_left_is : bit Ours.shift_left (renumbered w) ≡ bit shift_left w
  unfolding look
  shift_left_is = read Ours.shift_left w

  pub shift_right_is : bit Ours.shift_right (renumbered w) ≡ bit shift_right w
  unfolding look
  shift_right_is = read Ours.shift_right w

  pub alt_is : bit Ours.alt (renumbered w) ≡ bit alt w
  unfolding look
  alt_is = read Ours.alt w

  pub alt_gr_is : bit Ours.alt_right (renumbered w) ≡ bit alt_gr w
  unfolding look
  alt_gr_is = read Ours.alt_right w

  pub super_key_left_is : bit Ours.super_key_left (renumbered w) ≡ bit super_key_left w
  unfolding look
  super_key_left_is = read Ours.super_key_left w

  pub super_key_right_is : bit Ours.super_key_right (renumbered w) ≡ bit super_key_right w
  unfolding look
  super_key_right_is = read Ours.super_key_right w

  pub caps_lock_is : bit Ours.caps_lock (renumbered w) ≡ bit caps_lock w
  unfolding look
  caps_lock_is = read Ours.caps_lock w

  pub num_lock_is : bit Ours.num_lock (renumbered w) ≡ bit num_lock w
  unfolding look
  num_lock_is = read Ours.num_lock w

  pub scroll_lock_is : bit Ours.scroll_lock (renumbered w) ≡ bit scroll_lock w
  unfolding look
  scroll_lock_is = read Ours.scroll_lock w

  pub shift_is : (bit Ours.shift_left (renumbered w) || bit Ours.shift_right (renumbered w)) ≡ (bit shift_left w || bit shift_right w)
  shift_is = ap₂ ◌||◌ shift_left_is shift_right_is

  pub control_is : (bit Ours.control_left (renumbered w) || bit Ours.control_right (renumbered w)) ≡ (bit control_left w || bit control_right w)
  control_is = ap₂ ◌||◌ control_left_is control_right_is

  pub super_key_is : (bit Ours.super_key_left (renumbered w) || bit Ours.super_key_right (renumbered w)) ≡ (bit super_key_left w || bit super_key_right w)
  super_key_is = ap₂ ◌||◌ super_key_left_is super_key_right_is
