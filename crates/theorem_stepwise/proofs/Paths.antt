-- Accesses one by one, the path through an operation, and its play.
use Prim.Native.Nat.{ℕ, suc, ◌≤◌}
use native.Mathlib.Omega.{arith}
use mathlib.Core.List.{List, [], ◌∷◌, ◌++◌}
use mathlib.Core.Path.{◌≡◌, refl, ap}
use Rattle.std.specs.Prelude.{length, drop}
use Rattle.exchange.specs.Exchange.{Port, Exchange, done, read, write, yields, played, after_read, after_write, play}
use Rattle.exchange.specs.Keeping.{keeping, kept, noted}
use Rattle.exchange.specs.Trace.{Access, brought, wrote, Makes, nothing, by_read, by_write, bytes, logged}
use Rattle.questions.specs.Steps.{a_read, a_write, wants, after}
use Rattle.theorem_stepwise.specs.Runs.{pairs}

no_room : (m n : ℕ) → m ≤ 1 → suc (suc n) ≤ m → ⊥
no_room m n p q = omega arith

module _ {A : Type 0} where
  pub one_read : (x y z : Exchange A) (l : List Access) (p : Port) (b : ℕ) → wants x ≡ a_read p → after x b ≡ y → Makes y l z → Makes x (brought p b ∷ l) z
  one_read (done a) y z l p b w e m = cc
  one_read (read q f) y z l p b w e m =
      let s : q ≡ p = cc in
      let k : Makes (f b) l z = rw e m in
      rw s (by_read k)
  one_read (write q v t) y z l p b w e m = cc

  pub one_write : (x y z : Exchange A) (l : List Access) (p : Port) (v b : ℕ) → wants x ≡ a_write p v → after x b ≡ y → Makes y l z → Makes x (wrote p v ∷ l) z
  one_write (done a) y z l p v b w e m = cc
  one_write (read q f) y z l p v b w e m = cc
  one_write (write q u t) y z l p v b w e m =
      let s : q ≡ p = cc in
      let r : u ≡ v = cc in
      let k : Makes t l z = rw e m in
      rw (s, r) (by_write k)

  -- a note of the bytes changes nothing of what is asked
  pub wants_keeping : {S : Type 0} (note : S → ℕ → S) (s : S) (x : Exchange A) → wants (keeping note s x) ≡ wants x
  unfolding keeping
  wants_keeping note s (done a) = refl
  wants_keeping note s (read q f) = refl
  wants_keeping note s (write q v t) = refl

  -- the path without the note
  pub unnoted : {S : Type 0} (note : S → ℕ → S) (s : S) (x : Exchange A) (l : List Access) (a : A) (k : S) → Makes (keeping note s x) l (done (kept a k)) → Makes x l (done a)
  unfolding keeping
  unnoted note s (done b) _ a k nothing = nothing
  unnoted note s (read p f) _ a k (by_read {b = b} {more = l} m) = by_read (unnoted note (noted note p s b) (f b) l a k m)
  unnoted note s (write p v t) _ a k (by_write {more = l} m) = by_write (unnoted note s t l a k m)

  -- the play on the bytes that were read
  pub played_along : (t : Exchange A) (l : List Access) (a : A) → Makes t l (done a) → (log : List ℕ) → length (logged l) ≤ length log
      → play t (bytes l) log ≡ played (yields a) (length (bytes l)) (pairs l) (logged l ++ drop (length (logged l)) log)
  unfolding play
  played_along (done b) _ a nothing log h = refl
  played_along (read p f) _ a (by_read {b = b} {more = l} m) log h = ap after_read (played_along (f b) l a m log h)
  played_along (write p v t) _ a (by_write {more = l} m) [] h = absurd (no_room 0 (length (logged l)) (omega arith) h)
  played_along (write p v t) _ a (by_write {more = l} m) (x ∷ []) h = absurd (no_room 1 (length (logged l)) (omega arith) h)
  played_along (write p v t) _ a (by_write {more = l} m) (x ∷ y ∷ log) h = ap (after_write p v) (played_along t l a m log (omega arith))
