-- The bytes 00, E0, E1 and FA: they are strokes of no key of the table, press no lock, and give no event. Every other byte gives one if its low part is a keycode.
use mathlib.Core.Path.{◌≡◌, refl, sym, subst}
use mathlib.Core.Bool.{Bool, true, false, ◌||◌}
use mathlib.Core.Logic.{⊎_elim}
use Prim.Native.Nat.{ℕ}
use lib.Dec.{eqb}
use borrow.Author.Tests.{eqb-true}
use Rattle.std.proofs.lemmas.Bool.{or_parts}
use Rattle.keyboard_scancodes.specs.Strokes.{stroke, is_prefix, is_silent}
use Rattle.keyboard_scancodes.specs.FlagTable.{flag_table, is_of, presses_lock}
use Rattle.keyboard_scancodes.specs.declared.Profile.{Profile}
use Rattle.keyboard_scancodes.specs.Profile.{followed, presses_followed}
use Rattle.keyboard_scancodes.specs.Events.{is_known, gives_event}
use Rattle.keyboard_scancodes.specs.FlagsAfter.{flags_after}
use Rattle.keyboard_scancodes.proofs.Tests.{one_holds}

one_of_two : (P : ℕ → Type 0) (x y b : ℕ) → (eqb b x || eqb b y) ≡ true → P x → P y → P b
one_of_two P x y b e p q =
    ⊎_elim (λ t. subst P (sym (eqb-true b x t)) p) (λ t. subst P (sym (eqb-true b y t)) q) (one_holds (eqb b x) (eqb b y) e)

-- a fact of the four bytes
silent_is : (P : ℕ → Type 0) (b : ℕ) → is_silent b ≡ true → P 0xE0 → P 0xE1 → P 0x00 → P 0xFA → P b
silent_is P b e p q r s =
    ⊎_elim (λ t. one_of_two P 0xE0 0xE1 b t p q) (λ t. one_of_two P 0x00 0xFA b t r s) (one_holds (is_prefix b) (eqb b 0x00 || eqb b 0xFA) e)

module _ (b : ℕ) (e : is_silent b ≡ true) where
  pub silent_lock : (profile : Profile) → presses_followed profile b ≡ false
  unfolding followed flag_table is_of presses_lock
  silent_lock Profile.Any = silent_is (λ (b : ℕ). presses_followed Profile.Any b ≡ false) b e refl refl refl refl
  silent_lock Profile.Tournament = silent_is (λ (b : ℕ). presses_followed Profile.Tournament b ≡ false) b e refl refl refl refl

  pub silent_flags : (profile : Profile) (x : Bool) (w : ℕ) → flags_after (followed profile) (stroke b x) w ≡ w
  unfolding flags_after followed flag_table is_of
  silent_flags Profile.Any x w = silent_is (λ (b : ℕ). flags_after (followed Profile.Any) (stroke b x) w ≡ w) b e refl refl refl refl
  silent_flags Profile.Tournament x w = silent_is (λ (b : ℕ). flags_after (followed Profile.Tournament) (stroke b x) w ≡ w) b e refl refl refl refl

  pub silent_gives : gives_event b ≡ false
  silent_gives = silent_is (λ (b : ℕ). gives_event b ≡ false) b e refl refl refl refl

pub key_gives : (b : ℕ) → is_silent b ≡ false → (c : Bool) → is_known b ≡ c → gives_event b ≡ c
key_gives b q c k = rw ((or_parts (eqb b 0x00) (eqb b 0xFA) (or_parts (is_prefix b) (eqb b 0x00 || eqb b 0xFA) q).1).0, k)
