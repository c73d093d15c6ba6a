-- From one position of an operation to the next: by a read, a write, or a call that was handed what is left.
use Prim.Native.Nat.{ℕ, ◌+◌, ◌*◌, ◌-◌, ◌≤◌, ◌<◌, zero-le}
use native.Mathlib.Nat.{zero-add, add_assoc, add-zero}
use native.Mathlib.Numerals.{one-add}
use native.Mathlib.Omega.{arith}
use mathlib.Core.List.{List, [], ◌++◌, append_assoc}
use mathlib.Core.Path.{◌≡◌, refl, sym, ap, ◌∙◌}
use lib.ListN.{length, get_or, set, take, drop, length-set, length-append, length-drop, take-append-drop}
use lib.Seq.{drop-drop, length-take-le}
use Rattle.exchange.specs.Exchange.{Port, number, Exchange, done, read, write, no_script, no_log, End, yields, lacks, Played, played, play, Reads, Writes}
use Rattle.exchange.specs.Sequence.{onward}
use Rattle.exchange.specs.Position.{Reached}
use Rattle.exchange.proofs.Kept.{used_le, pairs_le, log_length}
use Rattle.exchange.proofs.Parts.{take_pairs, drop_pairs, take_stored, drop_stored}
use Rattle.exchange.proofs.Sequence.{onward-onward}
use Rattle.exchange.proofs.Steps.{play-done, read_at, read_past, write_short, write_room}

-- ---- what a callee's contract says of its counts and its log

module _ {A : Type 0} (t : Exchange A) (s l : List ℕ) {e : End A} {u w : ℕ} {l' : List ℕ} (r : played e u w l' ≡ play t s l) where
  pub call_used_le : u ≤ length s
  call_used_le = rw (ap (λ (o : Played A). o.used) r) (used_le t s l)

  pub call_pairs_le : 2 * w ≤ length l
  call_pairs_le = rw (ap (λ (o : Played A). o.pairs) r) (pairs_le t s l)

  pub call_log_length : length l' ≡ length l
  call_log_length = ap (λ (o : Played A). length o.log) r ∙ log_length t s l

  -- the pairs that it wrote are within the log as it left it
  pub call_tail_le : 2 * w ≤ length l'
  call_tail_le = rw call_log_length call_pairs_le

pub reads_used_le : {A : Type 0} {t : Exchange A} {s : List ℕ} {e : End A} {u w : ℕ} → Reads t s e u w → u ≤ length s
reads_used_le {t = t} {s = s} r = call_used_le t s [] (r.with_any [])

module _ {A : Type 0} {t : Exchange A} {l : List ℕ} {e : End A} {u w : ℕ} {l' : List ℕ} (r : Writes t l e u w l') where
  pub writes_pairs_le : 2 * w ≤ length l
  writes_pairs_le = call_pairs_le t [] l (r.with_any [])

  pub writes_log_length : length l' ≡ length l
  writes_log_length = call_log_length t [] l (r.with_any [])

  pub writes_tail_le : 2 * w ≤ length l'
  writes_tail_le = call_tail_le t [] l (r.with_any [])

-- ---- positions

module _ {A : Type 0} where
  -- nothing is used and nothing written yet
  pub reached_start : (t : Exchange A) (s l : List ℕ) → Reached t s l t 0 0 l
  reached_start t s l =
      record {
        goes_on = rw (zero-add (play t s l).used, zero-add (play t s l).pairs);
        used_le = zero-le;
        pairs_le = zero-le;
        same_length = refl;
      }

module _ {A : Type 0} {whole : Exchange A} {s l : List ℕ} {rest : Exchange A} {u w : ℕ} {l' : List ℕ} (at : Reached whole s l rest u w l') where
  -- what is left, done on what is left, ends the whole
  pub reached_ends : {e : End A} {u₂ w₂ : ℕ} {m : List ℕ} → played e u₂ w₂ m ≡ play rest (drop u s) (drop (2 * w) l')
      → played e (u + u₂) (w + w₂) (take (2 * w) l' ++ m) ≡ play whole s l
  reached_ends r = ap (λ (o : Played A). onward u w (take (2 * w) l') o) r ∙ sym at.goes_on

  -- a position of what is left, on what is left, is one of the whole
  pub reached_trans : {rest₂ : Exchange A} {u₂ w₂ : ℕ} {m : List ℕ} → Reached rest (drop u s) (drop (2 * w) l') rest₂ u₂ w₂ m
      → Reached whole s l rest₂ (u + u₂) (w + w₂) (take (2 * w) l' ++ m)
  reached_trans {rest₂} {u₂} {w₂} {m} on =
      let p : 2 * w ≤ length l' = at.pairs_le in
      let x : length m ≡ length l' - 2 * w = on.same_length ∙ length-drop (2 * w) l' in
      let y : length (take (2 * w) l' ++ m) ≡ 2 * w + length m = rw (length-append, length-take-le (2 * w) l' p) in
      let z : u₂ ≤ length s - u = rw (length-drop u s) at on.used_le in
      record {
        goes_on =
            at.goes_on ∙ ap (λ (o : Played A). onward u w (take (2 * w) l') o) on.goes_on
            ∙ rw (take_pairs w w₂ l' m p, drop_pairs w w₂ l' m p, drop-drop u₂ u s) (onward-onward u w (take (2 * w) l') u₂ w₂ (take (2 * w₂) m) _);
        used_le = omega (arith, at.used_le);
        pairs_le = omega (arith, on.pairs_le);
        same_length = omega (arith, at.same_length);
      }

-- what is left, told in another way: as a test or an equation of one's own has it
pub reached_same : {A : Type 0} {whole : Exchange A} {s l : List ℕ} {rest : Exchange A} {u w : ℕ} {l' : List ℕ}
    → Reached whole s l rest u w l' → {rest' : Exchange A} → rest ≡ rest' → Reached whole s l rest' u w l'
reached_same at q = rw q at at

-- ---- by a read or a write of one's own, as code does them at a position

module _ {A : Type 0} {whole : Exchange A} {s l : List ℕ} {u w : ℕ} {l' : List ℕ} where
  pub reached_done : {a : A} → Reached whole s l (done a) u w l' → played (yields a) u w l' ≡ play whole s l
  reached_done {a} at =
      sym (at.goes_on ∙ rw (play-done a (drop u s) (drop (2 * w) l'), take-append-drop, add-zero u, add-zero w))

  pub reached_read : {p : Port} {f : ℕ → Exchange A} → Reached whole s l (read p f) u w l' → u < length s
      → Reached whole s l (f (get_or s u 0)) (u + 1) w l'
  reached_read {p} {f} at h =
      record {
        goes_on = at.goes_on ∙ rw (read_at p f s (drop (2 * w) l') u h, add_assoc u 1, one-add);
        used_le = omega arith;
        pairs_le = at.pairs_le;
        same_length = at.same_length;
      }

  pub reached_no_byte : {p : Port} {f : ℕ → Exchange A} → Reached whole s l (read p f) u w l' → length s ≤ u
      → played (lacks (no_script p)) u w l' ≡ play whole s l
  reached_no_byte {p} {f} at h =
      sym (at.goes_on ∙ rw (read_past p f s (drop (2 * w) l') u h, take-append-drop, add-zero u, add-zero w))

  pub reached_write : {p : Port} {v : ℕ} {t : Exchange A} → Reached whole s l (write p v t) u w l' → 2 * w + 1 < length l'
      → Reached whole s l t u (w + 1) (set (set l' (2 * w) (number p)) (2 * w + 1) v)
  reached_write {p} {v} {t} at h =
      let q : 1 < length (drop (2 * w) l') = rw (length-drop (2 * w) l') (omega arith) in
      let stored = set (set l' (2 * w) (number p)) (2 * w + 1) v in
      let long : length stored ≡ length l' = simp length-set in
      record {
        goes_on =
            at.goes_on
            ∙ rw (write_room p v t (drop u s) (drop (2 * w) l') q, take_stored w (number p) v l' h, drop_stored w (number p) v l' h, append_assoc, add_assoc w 1, one-add);
        used_le = at.used_le;
        pairs_le = omega arith;
        same_length = long ∙ at.same_length;
      }

  pub reached_no_pair : {p : Port} {v : ℕ} {t : Exchange A} → Reached whole s l (write p v t) u w l' → length l' ≤ 2 * w + 1
      → played (lacks no_log) u w l' ≡ play whole s l
  reached_no_pair {p} {v} {t} at h =
      let q : length (drop (2 * w) l') ≤ 1 = rw (length-drop (2 * w) l') (omega arith) in
      sym (at.goes_on ∙ rw (write_short p v t (drop u s) (drop (2 * w) l') q, take-append-drop, add-zero u, add-zero w))
