-- The keycodes' numbers are the wiki's codes of set 1.
use mathlib.Core.Bool.{Bool, true, false, not, cond, ◌&&◌}
use mathlib.Core.List.{List, [], ◌∷◌, map}
use mathlib.Core.Path.{◌≡◌, refl}
use Prim.Native.Nat.{ℕ}
use Prim.Native.String.{String}
use lib.Dec.{T, eqb}
use lib.Text.{eqt}
use Rattle.bits.specs.Table.{listed}
use Rattle.bits.proofs.Every.{each}
use Rattle.std.specs.Prelude.{Option, Some, None}
use Rattle.keycodes_ascii.specs.declared.Keycode.{Keycode}
use Rattle.keycodes_ascii.specs.Keycode.{number_of, keycodes, numbered, keycode_of}
use Rattle.scancode_set1.specs.Set1.{set1, set1_after_e0, release_of, Listed, key, key_after_e0, release_of_key, release_of_key_after_e0, not_listed, listed_as, unlisted, after_e0_as}
use Rattle.keycodes_ascii.proofs.Codes.{every_keycode}

-- whether a number is in neither table
unfoldable pub nowhere : ℕ → Bool
nowhere n = each (λ row. not (eqb n row.0)) set1 && each (λ row. not (eqb n row.0)) set1_after_e0

-- whether a number is the code that the wiki has for what a keycode is
unfoldable pub has_code : Listed → ℕ → Bool
has_code (key name) n = eqb n (listed set1 name)
has_code (key_after_e0 name) n = eqb n (listed set1_after_e0 name)
has_code (release_of_key name) n = eqb n (release_of (listed set1 name))
has_code (release_of_key_after_e0 name) n = eqb n (release_of (listed set1_after_e0 name))
has_code not_listed n = nowhere n

-- every keycode has the wiki's code; the others' numbers are not in the wiki's tables
pub keycode_set1 : (k : Keycode) → T (has_code (listed_as k) (number_of k))
unfolding has_code nowhere keycodes
keycode_set1 k = every_keycode (λ k. has_code (listed_as k) (number_of k)) tt tt k

-- whether the keycode of a row's code is the row's key
unfoldable pub is_key : String → Option Keycode → Bool
is_key name (Some k) = names name (listed_as k)
  where
    names : String → Listed → Bool
    names n (key m) = eqt n m
    names n (key_after_e0 m) = false
    names n (release_of_key m) = false
    names n (release_of_key_after_e0 m) = false
    names n not_listed = false
is_key name None = false

-- every key of the wiki's table is the keycode of its code
pub set1_keycode : T (each (λ row. is_key row.1 (keycode_of row.0)) set1)
unfolding is_key keycode_of numbered keycodes
set1_keycode = tt

-- the keycodes that the wiki has not
unfoldable pub is_unlisted : Listed → Bool
is_unlisted (key m) = false
is_unlisted (key_after_e0 m) = false
is_unlisted (release_of_key m) = false
is_unlisted (release_of_key_after_e0 m) = false
is_unlisted not_listed = true

unfoldable pub select : (Keycode → Bool) → List Keycode → List Keycode
select f [] = []
select f (k ∷ ks) = cond (f k) (k ∷ select f ks) (select f ks)

pub unlisted_keycodes : select (λ k. is_unlisted (listed_as k)) keycodes ≡ unlisted
unfolding select is_unlisted keycodes
unlisted_keycodes = refl

-- every key that the wiki has after E0 is the keycode of its code
pub after_e0_keycodes : map (λ row. (number_of row.0, row.1)) after_e0_as ≡ set1_after_e0
after_e0_keycodes = refl
