-- Bounds that are attained: by a sequence, by a repetition, and what they mean for a play.
use Prim.Native.Nat.{ℕ, zero, suc, ◌+◌, ◌*◌, ◌≤◌}
use native.Mathlib.Nat.{zero-add, add-zero, suc-add, zero-mul}
use native.Mathlib.Numerals.{add-one}
use native.Mathlib.Omega.{arith}
use mathlib.Core.List.{List, [], ◌∷◌}
use mathlib.Core.Path.{◌≡◌, refl, ap}
use lib.ListN.{length, drop, length-drop}
use Rattle.exchange.specs.Exchange.{Port, Exchange, write, bind, play}
use Rattle.exchange.specs.Attains.{Attains, attains_done, attains_read, attains_write, Script}
use Rattle.exchange.specs.Repeat.{Turn, found, again, turned, repeat}
use Rattle.exchange.proofs.Steps.{write_room}

-- one after the other: the sums
pub attains_bind : {A B : Type 0} {a : A} {b : B} {r w r' w' : ℕ} {t : Exchange A} (g : A → Exchange B)
    → Attains a r w t → Attains b r' w' (g a) → Attains b (r + r') (w + w') (bind t g)
unfolding bind
attains_bind {r' = r'} {w' = w'} g attains_done k = rw (zero-add r', zero-add w') k
attains_bind g (attains_read x h f) k = rw suc-add (attains_read x h (attains_bind g f k))
attains_bind g (attains_write x) k = rw suc-add (attains_write (attains_bind g x k))

module _ {A : Type 0} (d : A) {r w : ℕ} {t : Exchange (Turn A)} (h : Attains again r w t) where
  -- n turns that find nothing, before what k more come to
  pub attains_turns : {a : A} (n k : ℕ) {r' w' : ℕ} → Attains a r' w' (repeat k d t) → Attains a (n * r + r') (n * w + w') (repeat (n + k) d t)
  unfolding repeat
  attains_turns zero k {r'} {w'} x = rw (zero-add k, zero-mul r, zero-mul w, zero-add r', zero-add w') x
  attains_turns (suc n) k {r'} {w'} x =
      let e : suc n * r + r' ≡ r + (n * r + r') = omega arith in
      let f : suc n * w + w' ≡ w + (n * w + w') = omega arith in
      rw (suc-add, e, f) (attains_bind (λ y. turned y (repeat (n + k) d t)) h (attains_turns n k x))

  -- none of n turns finds anything
  pub attains_silence : (n : ℕ) → Attains d (n * r) (n * w) (repeat n d t)
  unfolding repeat
  attains_silence n = rw (add-zero n, add-zero (n * r), add-zero (n * w)) at (attains_turns n 0 attains_done)

  -- the last of n + 1 turns is the first that finds something
  pub attains_last : {a : A} (n : ℕ) {r' w' : ℕ} → Attains (found a) r' w' t → Attains a (n * r + r') (n * w + w') (repeat (suc n) d t)
  unfolding repeat
  attains_last n {r'} {w'} x =
      rw (add-one n, add-zero r', add-zero w') at
      (attains_turns n 1 (attains_bind (λ y. turned y (repeat 0 d t)) x attains_done))

-- ---- what it means

module _ {A : Type 0} {a : A} {r w : ℕ} (p : Port) (v : ℕ) {t : Exchange A} (c : Script a r w t) where
  room : (l : List ℕ) → 2 * suc w ≤ length l → 2 * w ≤ length (drop 2 l)
  room l h = rw (length-drop 2 l) (omega arith)

  script_write : Script a r (suc w) (write p v t)
  script_write =
      record {
        script = c.script;
        bytes = c.bytes;
        long = c.long;
        ends = λ l h. rw (write_room p v t c.script l (omega arith)) (c.ends (drop 2 l) (room l h));
        used = λ l h. rw (write_room p v t c.script l (omega arith)) (c.used (drop 2 l) (room l h));
        pairs = λ l h. rw (write_room p v t c.script l (omega arith)) (ap suc (c.pairs (drop 2 l) (room l h)));
      }

pub attains_script : {A : Type 0} {a : A} {r w : ℕ} {t : Exchange A} → Attains a r w t → Script a r w t
unfolding play
attains_script attains_done =
    record {
      script = [];
      bytes = tt;
      long = refl;
      ends = λ l h. refl;
      used = λ l h. refl;
      pairs = λ l h. refl;
    }
attains_script (attains_read b h x) =
    let c = attains_script x in
    record {
      script = b ∷ c.script;
      bytes = (h, c.bytes);
      long = ap suc c.long;
      ends = c.ends;
      used = λ l k. ap suc (c.used l k);
      pairs = c.pairs;
    }
attains_script (attains_write {p = p} {v = v} x) = script_write p v (attains_script x)
