-- Lists with a number for each key: their length, their entries, and that the entries make the list.
use mathlib.Core.Path.{◌≡◌, refl, ap, ap₂, sym, ◌∙◌}
use mathlib.Core.List.{List, ◌∷◌}
use Prim.Native.Nat.{ℕ, zero, suc, ◌+◌, ◌<◌}
use native.Mathlib.Nat.{not-suc-le-zero}
use native.Mathlib.Omega.{arith}
use lib.ListN.{length, get_or}
use lib.Seq.{ext_get_or}
use Rattle.report.specs.Keys.{key_count, values_from, for_each_key}

pub values_length : (from n : ℕ) (f : ℕ → ℕ) → length (values_from from n f) ≡ n
unfolding values_from
values_length from zero f = refl
values_length from (suc n) f = ap suc (values_length (suc from) n f)

pub values_at : (from n : ℕ) (f : ℕ → ℕ) (i : ℕ) → i < n → get_or (values_from from n f) i 0 ≡ f (from + i)
unfolding values_from
values_at from zero f i h = absurd (not-suc-le-zero h)
values_at from (suc n) f zero h = ap f (omega arith)
values_at from (suc n) f (suc i) h = values_at (suc from) n f i (omega arith) ∙ ap f (omega arith)

pub values_same : (from n : ℕ) (f g : ℕ → ℕ) → ((k : ℕ) → k < from + n → f k ≡ g k) → values_from from n f ≡ values_from from n g
unfolding values_from
values_same from zero f g h = refl
values_same from (suc n) f g h = ap₂ ◌∷◌ (h from (omega arith)) (values_same (suc from) n f g (λ k l. h k (omega arith)))

pub keys_length : (f : ℕ → ℕ) → length (for_each_key f) ≡ key_count
keys_length f = values_length 0 key_count f

pub at_key : (f : ℕ → ℕ) (key : ℕ) → key < key_count → get_or (for_each_key f) key 0 ≡ f key
at_key f key h = values_at 0 key_count f key h ∙ ap f (omega arith)

pub keys_same : (f g : ℕ → ℕ) → ((key : ℕ) → key < key_count → f key ≡ g key) → for_each_key f ≡ for_each_key g
keys_same f g h = values_same 0 key_count f g (λ k l. h k (omega arith))

-- a list of as many numbers is the one that its entries say
pub keys_are : (l : List ℕ) (f : ℕ → ℕ) → length l ≡ key_count → ((key : ℕ) → key < key_count → get_or l key 0 ≡ f key) → l ≡ for_each_key f
keys_are l f n h = ext_get_or 0 l (for_each_key f) (n ∙ sym (keys_length f)) (λ i b. h i (omega arith) ∙ sym (at_key f i (omega arith)))
