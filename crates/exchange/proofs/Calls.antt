-- What a caller cites of a callee: its outcome on the whole script and log, or on the parts that are left, as a step of the caller's own operation.
use Prim.Native.Nat.{ℕ, ◌+◌, ◌*◌, ◌≤◌}
use native.Mathlib.Nat.{zero-add, add-zero}
use native.Mathlib.Omega.{arith}
use mathlib.Core.List.{List, [], ◌++◌}
use mathlib.Core.Path.{◌≡◌, refl, sym, ◌∙◌}
use lib.ListN.{length, take, drop, length-drop, take-append-drop}
use Rattle.exchange.specs.Exchange.{Exchange, done, bind, Lack, End, yields, lacks, played, play, Reads, Writes}
use Rattle.exchange.specs.Sequence.{follow}
use Rattle.exchange.specs.Parts.{part, restored}
use Rattle.exchange.specs.Position.{Reached}
use Rattle.exchange.proofs.Parts.{part_drop, restored_append}
use Rattle.exchange.proofs.Sequence.{play-bind}
use Rattle.exchange.proofs.Position.{call_used_le, call_pairs_le, call_log_length, call_tail_le, reached_done, reached_ends, reached_trans}

-- ---- the first callee, which has the whole script and log

module _ {A B : Type 0} (t : Exchange A) (g : A → Exchange B) (s l : List ℕ) {e : End A} {u w : ℕ} {l' : List ℕ} (r : played e u w l' ≡ play t s l) where
  -- it yields a: what follows is left
  pub bind_reached : {a : A} → e ≡ yields a → Reached (bind t g) s l (g a) u w l'
  unfolding follow
  bind_reached q =
      record {
        goes_on = play-bind g t s l ∙ rw (← r, q);
        used_le = call_used_le t s l r;
        pairs_le = call_tail_le t s l r;
        same_length = call_log_length t s l r;
      }

  -- it lacks a byte or room: so does the whole
  pub bind_lacks : {x : Lack} → e ≡ lacks x → played (lacks x) u w l' ≡ play (bind t g) s l
  unfolding follow
  bind_lacks q = sym (play-bind g t s l ∙ rw (← r, q))

-- ---- a later callee, which has what is left of the script, `&script[u..]`, and of the log, `&mut log[2 * w..]`

-- with what it uses and writes, no more is used and written than there is
module _ {A : Type 0} (t : Exchange A) where
  left_used_le : (s : List ℕ) (u : ℕ) (x : List ℕ) {e : End A} {u₂ w₂ : ℕ} {m : List ℕ} → u ≤ length s → played e u₂ w₂ m ≡ play t (part u s) x → u + u₂ ≤ length s
  left_used_le s u x h r = omega (arith, length-drop u s, rw (part_drop u s) at (call_used_le t (part u s) x r))

  pub left_pairs_le : (x l : List ℕ) (w : ℕ) {e : End A} {k u₂ w₂ : ℕ} {m : List ℕ} → 2 * w ≤ length l → k ≡ 2 * w → played e u₂ w₂ m ≡ play t x (part k l)
      → 2 * (w + w₂) ≤ length l
  left_pairs_le x l w {k = k} p h r = omega (arith, length-drop k l, rw (part_drop k l) at (call_pairs_le t x (part k l) r))

module _ {A B : Type 0} {whole : Exchange A} {s l : List ℕ} {rest : Exchange A} {u w : ℕ} {l' : List ℕ} (at : Reached whole s l rest u w l') (t : Exchange B) where
  pub reached_used_le : (x : List ℕ) {e : End B} {u₂ w₂ : ℕ} {m : List ℕ} → played e u₂ w₂ m ≡ play t (part u s) x → u + u₂ ≤ length s
  reached_used_le x r = left_used_le t s u x at.used_le r

  pub reached_used_le_reads : {e : End B} {u₂ w₂ : ℕ} → Reads t (part u s) e u₂ w₂ → u + u₂ ≤ length s
  reached_used_le_reads r = reached_used_le [] (r.with_any [])

  pub reached_pairs_le : (x : List ℕ) {e : End B} {k u₂ w₂ : ℕ} {m : List ℕ} → k ≡ 2 * w → played e u₂ w₂ m ≡ play t x (part k l') → 2 * (w + w₂) ≤ length l
  reached_pairs_le x h r = rw at.same_length at (left_pairs_le t x l' w at.pairs_le h r)

pub part_used_le : {A : Type 0} {t : Exchange A} (s : List ℕ) (u : ℕ) {e : End A} {u₂ w₂ : ℕ} → u ≤ length s → Reads t (part u s) e u₂ w₂ → u + u₂ ≤ length s
part_used_le {t = t} s u h r = left_used_le t s u [] h (r.with_any [])

-- the same of two calls, one after the other
module _ {A B : Type 0} (t : Exchange A) (n : Exchange B) (s l : List ℕ) {e : End A} {u w : ℕ} {l' : List ℕ} (r : played e u w l' ≡ play t s l) where
  pub two_used_le : {e₂ : End B} {k u₂ w₂ : ℕ} {m : List ℕ} → k ≡ 2 * w → played e₂ u₂ w₂ m ≡ play n (part u s) (part k l') → u + u₂ ≤ length s
  two_used_le {k = k} h r₂ = left_used_le n s u (part k l') (call_used_le t s l r) r₂

-- its contract without the form of the parts, and the log with its part given back
on_what_is_left : {A : Type 0} (t : Exchange A) (s : List ℕ) (u : ℕ) (l : List ℕ) (w : ℕ) {e : End A} {k u₂ w₂ : ℕ} {m : List ℕ} → k ≡ 2 * w
    → played e u₂ w₂ m ≡ play t (part u s) (part k l) → played e u₂ w₂ m ≡ play t (drop u s) (drop (2 * w) l)
on_what_is_left t s u l w {k = k} h r = rw h at (rw (part_drop u s, part_drop k l) at r)

reads_left : {A : Type 0} (t : Exchange A) (s : List ℕ) (u : ℕ) {e : End A} {u₂ w₂ : ℕ} → Reads t (part u s) e u₂ w₂ → Reads t (drop u s) e u₂ w₂
reads_left t s u r = rw (part_drop u s) at r

given_back : (l : List ℕ) (k w : ℕ) (m : List ℕ) → k ≡ 2 * w → restored k l m ≡ take (2 * w) l ++ m
given_back l k w m h = restored_append k l m ∙ rw h

module _ {A : Type 0} {whole : Exchange A} {s l : List ℕ} {u w : ℕ} {l' : List ℕ} where
  -- it does all that is left
  pub reached_last : (t : Exchange A) → Reached whole s l t u w l' → {e : End A} {k u₂ w₂ : ℕ} {m : List ℕ} → k ≡ 2 * w
      → played e u₂ w₂ m ≡ play t (part u s) (part k l')
      → played e (u + u₂) (w + w₂) (restored k l' m) ≡ play whole s l
  reached_last t at {k = k} {m = m} h r = rw (given_back l' k w m h) (reached_ends at (on_what_is_left t s u l' w h r))

  module _ {B : Type 0} (t : Exchange B) (g : B → Exchange A) (at : Reached whole s l (bind t g) u w l')
      {e : End B} {k u₂ w₂ : ℕ} {m : List ℕ} (h : k ≡ 2 * w) (r : played e u₂ w₂ m ≡ play t (part u s) (part k l')) where
    -- it yields b: what follows is left
    pub reached_call : {b : B} → e ≡ yields b → Reached whole s l (g b) (u + u₂) (w + w₂) (restored k l' m)
    reached_call q =
        rw (given_back l' k w m h) (reached_trans at (bind_reached t g (drop u s) (drop (2 * w) l') (on_what_is_left t s u l' w h r) q))

    -- it lacks a byte or room: so does the whole
    pub reached_lacks : {x : Lack} → e ≡ lacks x → played (lacks x) (u + u₂) (w + w₂) (restored k l' m) ≡ play whole s l
    reached_lacks q =
        rw (given_back l' k w m h) (reached_ends at (bind_lacks t g (drop u s) (drop (2 * w) l') (on_what_is_left t s u l' w h r) q))

  -- one that only reads leaves the log as it is
  pub reached_last_reads : (t : Exchange A) → Reached whole s l t u w l' → {e : End A} {u₂ w₂ : ℕ} → Reads t (part u s) e u₂ w₂
      → played e (u + u₂) w l' ≡ play whole s l
  reached_last_reads t at r = rw (add-zero w, take-append-drop) at (reached_ends at ((reads_left t s u r).with_any (drop (2 * w) l')))

  module _ {B : Type 0} (t : Exchange B) (g : B → Exchange A) (at : Reached whole s l (bind t g) u w l') {e : End B} {u₂ w₂ : ℕ} (r : Reads t (part u s) e u₂ w₂) where
    pub reached_call_reads : {b : B} → e ≡ yields b → Reached whole s l (g b) (u + u₂) w l'
    reached_call_reads q =
        rw (add-zero w, take-append-drop) at (reached_trans at (bind_reached t g (drop u s) (drop (2 * w) l') ((reads_left t s u r).with_any (drop (2 * w) l')) q))

    pub reached_lacks_reads : {x : Lack} → e ≡ lacks x → played (lacks x) (u + u₂) w l' ≡ play whole s l
    reached_lacks_reads q =
        rw (add-zero w, take-append-drop) at (reached_ends at (bind_lacks t g (drop u s) (drop (2 * w) l') ((reads_left t s u r).with_any (drop (2 * w) l')) q))

-- ---- two callees, one after the other

module _ {A B : Type 0} (t : Exchange A) (g : A → Exchange B) (s l : List ℕ) {e : End A} {u w : ℕ} {l' : List ℕ} (r : played e u w l' ≡ play t s l) where
  pub bind_yields : {a : A} → e ≡ yields a → {e₂ : End B} {k u₂ w₂ : ℕ} {m : List ℕ} → k ≡ 2 * w
      → played e₂ u₂ w₂ m ≡ play (g a) (part u s) (part k l')
      → played e₂ (u + u₂) (w + w₂) (restored k l' m) ≡ play (bind t g) s l
  bind_yields {a} q = reached_last (g a) (bind_reached t g s l r q)

  pub bind_yields_reads : {a : A} → e ≡ yields a → {e₂ : End B} {u₂ w₂ : ℕ} → Reads (g a) (part u s) e₂ u₂ w₂
      → played e₂ (u + u₂) w l' ≡ play (bind t g) s l
  bind_yields_reads {a} q = reached_last_reads (g a) (bind_reached t g s l r q)

  -- nothing is left to read or write
  pub bind_done : {a : A} {b : B} → e ≡ yields a → g a ≡ done b → played (yields b) u w l' ≡ play (bind t g) s l
  bind_done q d = reached_done (rw d at (bind_reached t g s l r q))

-- the first only reads: the second has the whole log
module _ {A B : Type 0} (t : Exchange A) (g : A → Exchange B) (s : List ℕ) {e : End A} {u w : ℕ} (r : Reads t s e u w) where
  pub reads_reached : {a : A} (l : List ℕ) → e ≡ yields a → Reached (bind t g) s l (g a) u 0 l
  reads_reached l q = bind_reached t g s l (r.with_any l) q

  pub reads_then_lacks : {x : Lack} (l : List ℕ) → e ≡ lacks x → played (lacks x) u 0 l ≡ play (bind t g) s l
  reads_then_lacks l q = bind_lacks t g s l (r.with_any l) q

  pub reads_then_done : {a : A} {b : B} (l : List ℕ) → e ≡ yields a → g a ≡ done b → played (yields b) u 0 l ≡ play (bind t g) s l
  reads_then_done l q d = bind_done t g s l (r.with_any l) q d

  pub reads_lacks : {x : Lack} → e ≡ lacks x → Reads (bind t g) s (lacks x) u 0
  reads_lacks q = record { with_any = λ l. reads_then_lacks l q; no_pairs = refl }

  pub reads_done : {a : A} {b : B} → e ≡ yields a → g a ≡ done b → Reads (bind t g) s (yields b) u 0
  reads_done q d = record { with_any = λ l. reads_then_done l q d; no_pairs = refl }

-- the first only writes: the second has the whole script
module _ {A B : Type 0} (t : Exchange A) (g : A → Exchange B) (l : List ℕ) {e : End A} {u w : ℕ} {l' : List ℕ} (r : Writes t l e u w l') where
  pub writes_reached : {a : A} (s : List ℕ) → e ≡ yields a → Reached (bind t g) s l (g a) 0 w l'
  writes_reached s q = bind_reached t g s l (r.with_any s) q

  pub writes_then : {a : A} (s : List ℕ) → e ≡ yields a → {e₂ : End B} {k u₂ w₂ : ℕ} {m : List ℕ} → k ≡ 2 * w → played e₂ u₂ w₂ m ≡ play (g a) s (part k l')
      → played e₂ u₂ (w + w₂) (restored k l' m) ≡ play (bind t g) s l
  writes_then s q {k = k} {u₂ = u₂} {m = m} h x =
      rw (given_back l' k w m h) (rw (zero-add u₂) at (reached_ends (writes_reached s q) (rw h at (rw (part_drop k l') at x))))

  -- both only write
  pub writes_yields : {a : A} → e ≡ yields a → {e₂ : End B} {k u₂ w₂ : ℕ} {m : List ℕ} → k ≡ 2 * w → Writes (g a) (part k l') e₂ u₂ w₂ m
      → Writes (bind t g) l e₂ 0 (w + w₂) (restored k l' m)
  writes_yields {a} q {k = k} h x = record { with_any = λ s. bind_yields t g s l (r.with_any s) q h (x.with_any (part 0 s)); no_bytes = refl }
