-- The answer of a repetition that found none comes only after all its turns; and turns that find none, one after another, reach the bounds.
use Prim.Native.Nat.{ℕ, zero, suc, ◌+◌, ◌*◌, ◌≤◌, ◌<◌}
use native.Mathlib.Nat.{zero-add, suc-add, add-zero, zero-mul, mul-zero, not-suc-le-zero, le_of_suc-le-suc}
use native.Mathlib.Omega.{arith}
use mathlib.Core.List.{List, [], ◌++◌, append_assoc, append-nil}
use mathlib.Core.Path.{◌≡◌, refl, ap, ◌∙◌}
use lib.ListN.{length, take, drop}
use lib.Seq.{drop-drop}
use Rattle.exchange.specs.Exchange.{Exchange, End, yields, lacks, Played, played, play}
use Rattle.exchange.specs.Sequence.{onward, follow}
use Rattle.exchange.specs.Repeat.{Turn, found, again, turned, repeat, Silent, over, silent, times}
use Rattle.exchange.proofs.Steps.{lacks_yields}
use Rattle.exchange.proofs.Sequence.{play-bind, onward-onward}
use Rattle.exchange.proofs.Longer.{play-append}

module _ {A : Type 0} (t : Exchange (Turn A)) (d : A) where
  -- a first turn after which the answer is that of silence
  first_silent : (n : ℕ) (s : List ℕ) (e : End (Turn A)) (u w : ℕ) (l : List ℕ) → (e ≡ yields (found d) → ⊥)
      → (follow e u w l s (λ r. turned r (repeat n d t))).end ≡ yields d
      → (e ≡ yields again) × ((play (repeat n d t) (drop u s) (drop (2 * w) l)).end ≡ yields d)
  unfolding follow play
  first_silent n s (yields (found a)) u w l never h =
      let q : a ≡ d = cc in
      absurd (never (rw q))
  first_silent n s (yields again) u w l never h = (refl, h)
  first_silent n s (lacks x) u w l never h = absurd (lacks_yields h)

  -- where no turn can find d itself
  pub silence : ((s l : List ℕ) → (play t s l).end ≡ yields (found d) → ⊥)
      → (n : ℕ) (s l : List ℕ) → (play (repeat n d t) s l).end ≡ yields d → Silent t n s l
  unfolding repeat
  silence never zero s l h = over
  silence never (suc n) s l h =
      let o = play t s l in
      let c = first_silent n s o.end o.used o.pairs o.log (never s l)
      (rw (play-bind (λ r. turned r (repeat n d t)) t s l) at h) in
      silent c.0 (silence never n (drop o.used s) (drop (2 * o.pairs) o.log) c.1)

  -- after n silent turns it is the answer
  pub silent_yields : (n : ℕ) (s l : List ℕ) → Silent t n s l → (play (repeat n d t) s l).end ≡ yields d
  unfolding repeat follow play
  silent_yields zero s l over = refl
  silent_yields (suc n) s l (silent q k) =
      let o = play t s l in
      rw (play-bind (λ r. turned r (repeat n d t)) t s l, q, follow) (silent_yields n (drop o.used s) (drop (2 * o.pairs) o.log) k)

  -- where each silent turn uses r bytes or more, n of them use n * r or more
  pub silent_used : (r : ℕ) → ((s l : List ℕ) → (play t s l).end ≡ yields again → r ≤ (play t s l).used)
      → (n : ℕ) (s l : List ℕ) → Silent t n s l → n * r ≤ (play (repeat n d t) s l).used
  unfolding repeat follow
  silent_used r each zero s l over = omega arith
  silent_used r each (suc n) s l (silent q k) =
      let o = play t s l in
      let i = silent_used r each n (drop o.used s) (drop (2 * o.pairs) o.log) k in
      let j = each s l q in
      rw (play-bind (λ r. turned r (repeat n d t)) t s l, q, follow) (omega arith)

-- where each silent turn uses just r bytes and tells P of them, P holds of each r bytes of the script, n times over
pub silent_each : {A : Type 0} (t : Exchange (Turn A)) (P : List ℕ → Type 0) (r : ℕ)
    → ((s l : List ℕ) → (play t s l).end ≡ yields again → ((play t s l).used ≡ r) × P (take r s))
    → (n : ℕ) (s l : List ℕ) → Silent t n s l → (i : ℕ) → i < n → P (take r (drop (i * r) s))
silent_each t P r each zero s l over i h = absurd (not-suc-le-zero h)
silent_each t P r each (suc n) s l (silent q k) zero h = rw (zero-mul r) (each s l q).1
silent_each t P r each (suc n) s l (silent q k) (suc i) h =
    let o = play t s l in
    let e : o.used ≡ r = (each s l q).0 in
    let c : suc i * r ≡ r + i * r = omega arith in
    let z = silent_each t P r each n (drop o.used s) (drop (2 * o.pairs) o.log) k i (le_of_suc-le-suc h) in
    rw (c, ← drop-drop (i * r) r s) (rw e at z)

-- ---- the bounds are reached: a turn on the script b and the log c that finds nothing, uses all of b and fills all of c, made n times

module _ {A : Type 0} (t : Exchange (Turn A)) (d : A) (b c c' : List ℕ) (r w : ℕ) (h : play t b c ≡ played (yields again) r w c')
    (hb : length b ≡ r) (hc : length c ≡ 2 * w) where
  one_turn : (n : ℕ) (s l : List ℕ) → play (repeat (suc n) d t) (b ++ s) (c ++ l) ≡ onward r w c' (play (repeat n d t) s l)
  unfolding repeat
  one_turn n s l = play-append t (λ x. turned x (repeat n d t)) b c c' r w h hb hc s l

  pub repeat-times : (n k : ℕ) (s l : List ℕ)
      → play (repeat (n + k) d t) (times n b ++ s) (times n c ++ l) ≡ onward (n * r) (n * w) (times n c') (play (repeat k d t) s l)
  repeat-times zero k s l =
      let o = play (repeat k d t) s l in
      rw (zero-add k, zero-mul r, zero-mul w, zero-add o.used, zero-add o.pairs)
  repeat-times (suc n) k s l =
      let a : suc n * r ≡ r + n * r = omega arith in
      let e : suc n * w ≡ w + n * w = omega arith in
      rw (suc-add, append_assoc b (times n b) s, append_assoc c (times n c) l, a, e)
      (one_turn (n + k) (times n b ++ s) (times n c ++ l) ∙ ap (λ (o : Played A). onward r w c' o) (repeat-times n k s l)
      ∙ onward-onward r w c' (n * r) (n * w) (times n c') (play (repeat k d t) s l))

  -- with no turn left
  pub repeat_attains : (n : ℕ) → play (repeat n d t) (times n b) (times n c) ≡ played (yields d) (n * r) (n * w) (times n c')
  unfolding repeat play
  repeat_attains n =
      let z = repeat-times n 0 [] [] in
      rw (add-zero n, append-nil (times n b), append-nil (times n c), append-nil (times n c'), add-zero (n * r), add-zero (n * w)) at z

-- where the turns write nothing, no log is needed
pub times-nil : (n : ℕ) → times n [] ≡ []
times-nil zero = refl
times-nil (suc n) = times-nil n

pub repeat_attains_reads : {A : Type 0} (t : Exchange (Turn A)) (d : A) (b : List ℕ) (r : ℕ) → play t b [] ≡ played (yields again) r 0 [] → length b ≡ r
    → (n : ℕ) → play (repeat n d t) (times n b) [] ≡ played (yields d) (n * r) 0 []
repeat_attains_reads t d b r h hb n = rw (times-nil n, mul-zero n) at (repeat_attains t d b [] [] r 0 h hb refl n)
