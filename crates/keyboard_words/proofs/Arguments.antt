-- What an argument below a limit stands for.
use mathlib.Core.Bool.{cond}
use mathlib.Core.Option.{none, some}
use mathlib.Core.Path.{◌≡◌}
use Prim.Native.Nat.{ℕ, ◌<◌, ◌≤◌}
use lib.Dec.{ltb}
use borrow.Author.Tests.{lt-ltb, le-ltb}

pub below : {X : Type 0} (limit n : ℕ) (v : X) → n < limit → cond (ltb n limit) (some v) none ≡ some v
below limit n v h = rw (lt-ltb n limit h)

pub not_below : {X : Type 0} (limit n : ℕ) (v : X) → limit ≤ n → cond (ltb n limit) (some v) none ≡ none
not_below limit n v h = rw (le-ltb n limit h)
