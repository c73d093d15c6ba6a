-- The list of thrown bytes is what the accesses say, one by one.
use Prim.Native.Nat.{ℕ}
use mathlib.Core.Bool.{Bool, true, false, cond}
use mathlib.Core.List.{List, [], ◌∷◌, ◌++◌, append_assoc, append-nil}
use mathlib.Core.Path.{◌≡◌, refl}
use Rattle.exchange.specs.Exchange.{p60, p64, Exchange, done}
use Rattle.exchange.specs.Keeping.{kept, keeping}
use Rattle.exchange.specs.Trace.{Access, Makes, nothing, by_read, by_write}
use Rattle.ps2_kept.specs.Thrown.{unlisted, thrown, thrown_in}

behind_one : (l m : List ℕ) (b : ℕ) (t : Bool) → cond t (l ++ (b ∷ [])) l ++ m ≡ l ++ cond t (b ∷ m) m
behind_one l m b true = append_assoc l (b ∷ []) m
behind_one l m b false = refl

pub keeping_made : {A : Type 0} {a : A} {t rest : Exchange A} {made : List Access} (l : List ℕ) → rest ≡ done a → Makes t made rest
    → Makes (keeping thrown l t) made (done (kept a (l ++ thrown_in made)))
unfolding keeping
keeping_made l q nothing = rw (q, append-nil) nothing
keeping_made l q (by_read {p = p60} {b = b} {more = more} m) = rw (← behind_one l (thrown_in more) b (unlisted b)) (by_read (keeping_made (thrown l b) q m))
keeping_made l q (by_read {p = p64} m) = by_read (keeping_made l q m)
keeping_made l q (by_write m) = by_write (keeping_made l q m)
