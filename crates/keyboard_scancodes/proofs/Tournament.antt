-- The tournament profile: the keys inside it, the flags that it follows, and that no lock is followed under it.
use mathlib.Core.Path.{◌≡◌, refl, sym, ◌∙◌}
use mathlib.Core.Bool.{Bool, true, false, cond, true≢false}
use mathlib.Core.List.{List, [], ◌∷◌}
use Prim.Native.Nat.{ℕ, zero, suc}
use Rattle.keyboard_modifiers.specs.Flags.{shift_left, shift_right, control_left, control_right, alt, super_key_left, super_key_right, alt_right}
use Rattle.keyboard_scancodes.specs.declared.Profile.{Profile}
use Rattle.keyboard_scancodes.specs.FlagTable.{flag_table, is_of, presses_lock, held, left, right, flag_row}
use Rattle.keyboard_scancodes.specs.Profile.{tournament_keys, code_among, is_tournament_code, followed, presses_followed}

-- ---- the keys

-- of n codes from one on, those of which f holds, the lowest first
abbrev pub codes_from : (ℕ → Bool) → ℕ → ℕ → List ℕ
codes_from f from zero = []
codes_from f from (suc n) = cond (f from) (from ∷ codes_from f (suc from) n) (codes_from f (suc from) n)

-- of the 94 codes of keys, 00 to 5D, those inside: Escape and the digits; Q to P, Enter and Control; A to L; the left Shift; Z to M; the right Shift; the arrows
pub codes_inside : codes_from is_tournament_code 0 94
    ≡ 0x01 ∷ 0x02 ∷ 0x03 ∷ 0x04 ∷ 0x05 ∷ 0x06 ∷ 0x07 ∷ 0x08 ∷ 0x09 ∷ 0x0A ∷ 0x0B
    ∷ 0x10 ∷ 0x11 ∷ 0x12 ∷ 0x13 ∷ 0x14 ∷ 0x15 ∷ 0x16 ∷ 0x17 ∷ 0x18 ∷ 0x19 ∷ 0x1C ∷ 0x1D
    ∷ 0x1E ∷ 0x1F ∷ 0x20 ∷ 0x21 ∷ 0x22 ∷ 0x23 ∷ 0x24 ∷ 0x25 ∷ 0x26 ∷ 0x2A
    ∷ 0x2C ∷ 0x2D ∷ 0x2E ∷ 0x2F ∷ 0x30 ∷ 0x31 ∷ 0x32 ∷ 0x36 ∷ 0x48 ∷ 0x4B ∷ 0x4D ∷ 0x50 ∷ []
unfolding code_among tournament_keys
codes_inside = refl

-- ---- the flags

-- "Shift, Control, Alt and Super are still followed"
pub followed_rows : followed Profile.Tournament
    ≡ flag_row shift_left held 0x2A ∷ flag_row shift_right held 0x36 ∷ flag_row control_left left 0x1D ∷ flag_row control_right right 0x1D
    ∷ flag_row alt held 0x38 ∷ flag_row super_key_left held 0x5B ∷ flag_row super_key_right held 0x5C ∷ flag_row alt_right right 0x38 ∷ []
unfolding followed flag_table
followed_rows = refl

-- no byte presses a lock that the profile follows
pub no_lock_followed : (b : ℕ) → presses_followed Profile.Tournament b ≡ false
unfolding followed flag_table is_of presses_lock
no_lock_followed b = refl

pub followed_any : (profile : Profile) (b : ℕ) → presses_followed profile b ≡ true → profile ≡ Profile.Any
followed_any Profile.Any b e = refl
followed_any Profile.Tournament b e = absurd (true≢false (sym e ∙ no_lock_followed b))
