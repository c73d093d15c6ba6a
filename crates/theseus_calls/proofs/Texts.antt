-- A text is another or the same, asked in either order.
use mathlib.Core.Bool.{Bool, true, false}
use mathlib.Core.List.{List}
use mathlib.Core.Path.{◌≡◌, refl, sym, ◌∙◌}
use Prim.Native.Nat.{ℕ}
use Rattle.std.specs.Prelude.{bytes_eq}
use Rattle.std.proofs.lemmas.Bool.{true≢false}
use Rattle.std.proofs.lemmas.Slice.Eq.{bytes_eq-Decides}

pub another : (a b : List ℕ) → false ≡ bytes_eq a b → bytes_eq b a ≡ false
another a b e = by (bytes_eq b a) refl
  where
    by : (x : Bool) → bytes_eq b a ≡ x → x ≡ false
    by true q = absurd (true≢false (sym ((bytes_eq-Decides a b).1 (sym ((bytes_eq-Decides b a).0 q))) ∙ sym e))
    by false q = refl

pub same : (a b : List ℕ) → true ≡ bytes_eq a b → bytes_eq b a ≡ true
same a b e = (bytes_eq-Decides b a).1 (sym ((bytes_eq-Decides a b).0 (sym e)))
