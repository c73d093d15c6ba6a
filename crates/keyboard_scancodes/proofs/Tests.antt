-- Cases by a test.
use mathlib.Core.Path.{◌≡◌, refl}
use mathlib.Core.Bool.{Bool, true, false, ◌||◌}
use mathlib.Core.Logic.{◌⊎◌, inl, inr}

pub which : (c : Bool) → (c ≡ true) ⊎ (c ≡ false)
which true = inl refl
which false = inr refl

pub one_holds : (a c : Bool) → (a || c) ≡ true → (a ≡ true) ⊎ (c ≡ true)
one_holds true c e = inl refl
one_holds false c e = inr e
