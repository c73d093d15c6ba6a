-- The strokes of a key that gives a character: each gives an event, is no prefix, presses no lock and moves no flag.
use mathlib.Core.Path.{◌≡◌, refl}
use mathlib.Core.Bool.{Bool, true, false, not, ◌&&◌, ◌||◌, and-eq-true_iff, xor}
use mathlib.Core.List.{[], ◌∷◌}
use Prim.Native.Nat.{ℕ, ◌%◌}
use native.Mathlib.Omega.{arith}
use lib.Dec.{T, eqb}
use lib.Ieee.Bits.{is_true}
use borrow.Author.Tests.{eqb-true, lt-ltb, le-ltb, not-true}
use Rattle.bits.specs.Bits.{bit, odd, put_bit}
use Rattle.keycodes_ascii.specs.declared.Keycode.{Keycode}
use Rattle.keycodes_ascii.specs.Keycode.{number_of, keycode_of, numbered, keycodes}
use Rattle.keycodes_ascii.specs.Characters.{character_of}
use Rattle.keycodes_ascii.proofs.Codes.{keycode_number}
use Rattle.scancode_set1.specs.Set1.{release_of}
use Rattle.typing.specs.Keys.{flags_held, gives_it}
use Rattle.typing.proofs.Keys.{of_every, is_absent, gives_character, gives_press}
use Rattle.keyboard_scancodes.specs.Strokes.{stroke, is_prefix}
use Rattle.keyboard_scancodes.specs.declared.Profile.{Profile}
use Rattle.keyboard_scancodes.specs.Profile.{followed, presses_followed}
use Rattle.keyboard_scancodes.specs.FlagTable.{flag_table, is_of, presses_lock}
use Rattle.keyboard_scancodes.specs.FlagsAfter.{flags_after}
use Rattle.keyboard_scancodes.specs.Events.{keycode_at, event_of, gives_event}
use Rattle.theorem_typed.specs.Fed.{characters}

-- the word of flags while Shift is held, or not
abbrev pub held : Bool → ℕ
held shift = (flags_held shift).bits

-- ---- what each byte does

-- a byte that gives an event, is no prefix and presses no lock, and that takes the flags from one word to another
pub record Strikes (b before after : ℕ) : Type 0 where
  pub has_event : gives_event b ≡ true
  pub no_prefix : is_prefix b ≡ false
  pub no_lock : presses_followed Profile.Any b ≡ false
  pub flags : flags_after (followed Profile.Any) (stroke b false) before ≡ after

abbrev strikes : ℕ → ℕ → Bool
strikes flags b = gives_event b && (not (is_prefix b) && (not (presses_followed Profile.Any b) && eqb (flags_after (followed Profile.Any) (stroke b false) flags) flags))

is_strike : (flags b : ℕ) → strikes flags b ≡ true → Strikes b flags flags
is_strike flags b t =
    let p = (and-eq-true_iff (gives_event b) _).0 t in
    let q = (and-eq-true_iff (not (is_prefix b)) _).0 p.1 in
    let r = (and-eq-true_iff (not (presses_followed Profile.Any b)) _).0 q.1 in
    record { has_event = p.0; no_prefix = not-true (is_prefix b) q.0; no_lock = not-true (presses_followed Profile.Any b) r.0; flags = eqb-true _ flags r.1 }

abbrev absent_or_strikes : Bool → Keycode → Bool
absent_or_strikes shift k = is_absent (character_of k (flags_held shift)) || (strikes (held shift) (number_of k) && strikes (held shift) (release_of (number_of k)))

all_strike : (shift : Bool) (k : Keycode) → T (absent_or_strikes shift k)
unfolding character_of keycodes flags_after followed flag_table is_of presses_lock bit odd put_bit xor
all_strike true k = of_every (absent_or_strikes true) tt k
all_strike false k = of_every (absent_or_strikes false) tt k

module _ (shift : Bool) (c : ℕ) (k : Keycode) (e : gives_it shift c k ≡ true) where
  both_strike : (strikes (held shift) (number_of k) && strikes (held shift) (release_of (number_of k))) ≡ true
  both_strike = is_true _ (rw (gives_character shift c k e) at (all_strike shift k))

  pub press_strikes : Strikes (number_of k) (held shift) (held shift)
  press_strikes = is_strike (held shift) (number_of k) ((and-eq-true_iff (strikes (held shift) (number_of k)) _).0 both_strike).0

  pub release_strikes : Strikes (release_of (number_of k)) (held shift) (held shift)
  release_strikes = is_strike (held shift) (release_of (number_of k)) ((and-eq-true_iff (strikes (held shift) (number_of k)) _).0 both_strike).1

-- the left Shift
pub shift_strikes : Strikes 0x2A (held false) (held true)
unfolding flags_after followed flag_table is_of presses_lock bit put_bit
shift_strikes = record { has_event = refl; no_prefix = refl; no_lock = refl; flags = refl }

pub shift_released_strikes : Strikes 0xAA (held true) (held false)
unfolding flags_after followed flag_table is_of presses_lock bit put_bit
shift_released_strikes = record { has_event = refl; no_prefix = refl; no_lock = refl; flags = refl }

-- ---- the character of each event

pub press_character : (shift : Bool) (c : ℕ) (k : Keycode) → gives_it shift c k ≡ true → characters (event_of (number_of k) (held shift) ∷ []) ≡ c ∷ []
unfolding characters event_of keycode_at
press_character shift c k e =
    let l = (gives_press shift c k e).1 in
    let low : number_of k % 0x80 ≡ number_of k = omega arith in
    rw (low, keycode_number k, lt-ltb (number_of k) 0x80 l, gives_character shift c k e)

pub release_character : (n flags : ℕ) → characters (event_of (release_of n) flags ∷ []) ≡ []
unfolding characters event_of
release_character n flags = rw (le-ltb (release_of n) 0x80 (omega arith))

pub shift_character : characters (event_of 0x2A (held true) ∷ []) ≡ []
unfolding characters event_of keycode_at keycode_of numbered keycodes character_of
shift_character = refl
