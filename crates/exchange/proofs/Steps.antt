-- The steps of a play: each read and each write, with and without what it needs.
use Prim.Native.Nat.{ℕ, ◌+◌, ◌≤◌, ◌<◌}
use native.Mathlib.Omega.{arith}
use mathlib.Core.List.{List, [], ◌∷◌}
use mathlib.Core.Path.{◌≡◌, refl}
use native.Mathlib.Numerals.{add-one}
use lib.ListN.{length, get_or, set, drop, drop_of_length-le}
use lib.Seq.{drop-cons}
use Rattle.exchange.specs.Exchange.{Port, number, Exchange, done, read, write, Lack, no_script, no_log, yields, lacks, played, after_read, after_write, play}

-- a play that lacks a byte or room yields nothing
pub lacks_yields : {A : Type 0} {x : Lack} {a : A} → lacks x ≡ yields a → ⊥
lacks_yields h = let z : ◌≡◌ {A = ℕ} 0 1 = cc in omega arith

module _ {A : Type 0} where
  pub play-done : (a : A) (s l : List ℕ) → play (done a) s l ≡ played (yields a) 0 0 l
  unfolding play
  play-done a s l = refl

  -- a read on a script that is used up
  pub read_none : (p : Port) (f : ℕ → Exchange A) (l : List ℕ) → play (read p f) [] l ≡ played (lacks (no_script p)) 0 0 l
  unfolding play
  read_none p f l = refl

  pub read_next : (p : Port) (f : ℕ → Exchange A) (b : ℕ) (s l : List ℕ) → play (read p f) (b ∷ s) l ≡ after_read (play (f b) s l)
  unfolding play
  read_next p f b s l = refl

  -- a read of what is left from i on
  pub read_at : (p : Port) (f : ℕ → Exchange A) (s l : List ℕ) (i : ℕ) → i < length s
      → play (read p f) (drop i s) l ≡ after_read (play (f (get_or s i 0)) (drop (i + 1) s) l)
  unfolding play
  read_at p f s l i h = rw (drop-cons s i 0 h, add-one)

  pub read_past : (p : Port) (f : ℕ → Exchange A) (s l : List ℕ) (i : ℕ) → length s ≤ i → play (read p f) (drop i s) l ≡ played (lacks (no_script p)) 0 0 l
  unfolding play
  read_past p f s l i h = rw (drop_of_length-le s h)

  -- a write on a log with fewer than two bytes leaves it as it is
  pub write_short : (p : Port) (v : ℕ) (t : Exchange A) (s l : List ℕ) → length l ≤ 1 → play (write p v t) s l ≡ played (lacks no_log) 0 0 l
  unfolding play
  write_short p v t s [] h = refl
  write_short p v t s (x ∷ []) h = refl
  write_short p v t s (x ∷ y ∷ l) h = absurd (omega arith)

  pub write_next : (p : Port) (v : ℕ) (t : Exchange A) (s : List ℕ) (x y : ℕ) (l : List ℕ) → play (write p v t) s (x ∷ y ∷ l) ≡ after_write p v (play t s l)
  unfolding play
  write_next p v t s x y l = refl

  -- a write on a log with two bytes or more, by the bytes behind those two
  pub write_room : (p : Port) (v : ℕ) (t : Exchange A) (s l : List ℕ) → 1 < length l → play (write p v t) s l ≡ after_write p v (play t s (drop 2 l))
  unfolding play
  write_room p v t s [] h = absurd (omega arith)
  write_room p v t s (x ∷ []) h = absurd (omega arith)
  write_room p v t s (x ∷ y ∷ l) h = refl

  -- a last write, as code stores its pair
  pub write_last : (p : Port) (v : ℕ) (a : A) (s l : List ℕ) → 1 < length l
      → play (write p v (done a)) s l ≡ played (yields a) 0 1 (set (set l 0 (number p)) 1 v)
  unfolding play
  write_last p v a s [] h = absurd (omega arith)
  write_last p v a s (x ∷ []) h = absurd (omega arith)
  write_last p v a s (x ∷ y ∷ l) h = refl
