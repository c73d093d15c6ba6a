-- The groups that a string begins with.
use mathlib.Core.Path.{◌≡◌, refl, sym, ◌∙◌}
use mathlib.Core.Bool.{Bool, true, false, not}
use mathlib.Core.List.{List, [], ◌∷◌}
use mathlib.Core.Option.{none, some}
use Prim.Native.Nat.{ℕ, ◌+◌, ◌*◌, ◌-◌, ◌<◌, ◌≤◌}
use native.Mathlib.Omega.{arith}
use lib.Dec.{ltb}
use borrow.Author.Tests.{lt-ltb, le-ltb, ltb-true, ltb-false, eqb-false}
use Rattle.preferences.specs.NumberReading.{before, groups_of, value_of, ends_in_zero, is_shortest}

-- ---- one byte

pub groups_last : (b : ℕ) (bytes : List ℕ) → b < 128 → groups_of (b ∷ bytes) ≡ some (b ∷ [])
unfolding groups_of
groups_last b bytes h = rw (lt-ltb b 128 h)

pub groups_more : (b : ℕ) (bytes : List ℕ) → 128 ≤ b → b < 256 → groups_of (b ∷ bytes) ≡ before (b - 128) (groups_of bytes)
unfolding groups_of
groups_more b bytes h l = rw (le-ltb b 128 h, lt-ltb b 256 l)

pub groups_no_byte : (b : ℕ) (bytes : List ℕ) → 256 ≤ b → groups_of (b ∷ bytes) ≡ none
unfolding groups_of
groups_no_byte b bytes h = rw (le-ltb b 128 (omega arith), le-ltb b 256 h)

pub groups_empty : groups_of [] ≡ none
unfolding groups_of
groups_empty = refl

-- ---- a string and its groups

pub data Begins : List ℕ → List ℕ → Type 0 where
  last : {b : ℕ} {bytes : List ℕ} → b < 128 → Begins (b ∷ bytes) (b ∷ [])
  more : {b : ℕ} {bytes gs : List ℕ} → 128 ≤ b → b < 256 → Begins bytes gs → Begins (b ∷ bytes) ((b - 128) ∷ gs)

-- A string begins with groups, or has none.
pub data Found (bytes : List ℕ) : Type 0 where
  nothing : groups_of bytes ≡ none → Found bytes
  found : (gs : List ℕ) → groups_of bytes ≡ some gs → Begins bytes gs → Found bytes

pub find : (bytes : List ℕ) → Found bytes
find [] = nothing groups_empty
find (b ∷ bytes) = by (ltb b 128) (ltb b 256) refl refl (find bytes)
  where
    behind : 128 ≤ b → b < 256 → Found bytes → Found (b ∷ bytes)
    behind h l (nothing e) = nothing (groups_more b bytes h l ∙ rw e)
    behind h l (found gs e g) = found ((b - 128) ∷ gs) (groups_more b bytes h l ∙ rw e) (more h l g)

    by : (s t : Bool) → ltb b 128 ≡ s → ltb b 256 ≡ t → Found bytes → Found (b ∷ bytes)
    by true t p q o = found (b ∷ []) (groups_last b bytes (ltb-true b 128 p)) (last (ltb-true b 128 p))
    by false true p q o = behind (ltb-false b 128 p) (ltb-true b 256 q) o
    by false false p q o = nothing (groups_no_byte b bytes (ltb-false b 256 q))

-- ---- values

pub value_first : (g : ℕ) (gs : List ℕ) → value_of (g ∷ gs) ≡ g + 128 * value_of gs
unfolding value_of
value_first g gs = refl

pub value_one : (g : ℕ) → value_of (g ∷ []) ≡ g
unfolding value_of
value_one g = omega arith

-- a group before others does not change how they end
pub ends_behind : (x : ℕ) {bytes gs : List ℕ} → Begins bytes gs → ends_in_zero (x ∷ gs) ≡ ends_in_zero gs
unfolding ends_in_zero
ends_behind x (last h) = refl
ends_behind x (more h l g) = refl

-- a last group that is not 0 makes the number more than 0
pub value_positive : {bytes gs : List ℕ} → Begins bytes gs → ends_in_zero gs ≡ false → 0 < value_of gs
unfolding ends_in_zero value_of
value_positive (last {b} h) e = let n = eqb-false b 0 e in omega arith
value_positive (more {b} h l g) e = omega (arith, value_positive g (sym (ends_behind (b - 128) g) ∙ e))

pub shortest_first : (x : ℕ) (gs : List ℕ) → is_shortest (x ∷ gs) ≡ not (ends_in_zero gs)
unfolding is_shortest
shortest_first x gs = refl
