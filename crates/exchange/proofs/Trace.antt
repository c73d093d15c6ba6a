-- Every play counts each of its reads and writes, and ends where it is done or lacks a byte or room.
use Prim.Native.Nat.{ℕ, suc, zero-le}
use native.Mathlib.Omega.{arith}
use mathlib.Core.List.{List, [], ◌∷◌}
use mathlib.Core.Path.{◌≡◌, refl, ap}
use Rattle.exchange.specs.Exchange.{Port, number, Exchange, done, read, write, no_script, no_log, End, yields, lacks, Played, played, after_read, after_write, play}
use Rattle.exchange.specs.Trace.{accesses, nothing, by_read, by_write, Ends, is_done, no_byte, no_pair, Counts}
use Rattle.exchange.proofs.Parts.{twice_suc}

module _ {A : Type 0} where
  -- nothing is read or written where the play ends at once
  at_once : (t : Exchange A) (s l : List ℕ) (e : End A) → accesses t s l ≡ [] → Ends t s l e → Counts t s l (played e 0 0 l)
  at_once t s l e none h =
      record {
        rest = t;
        makes = rw none nothing;
        used = rw none;
        ports = rw none;
        pairs = rw none;
        bytes_read = rw none;
        room = zero-le;
        log_left = rw none;
        ends = h;
      }

  counts_read : (p : Port) (f : ℕ → Exchange A) (b : ℕ) (s l : List ℕ) (o : Played A) → Counts (f b) s l o → Counts (read p f) (b ∷ s) l (after_read o)
  unfolding accesses
  counts_read p f b s l o c =
      record {
        rest = c.rest;
        makes = by_read c.makes;
        used = ap suc c.used;
        ports = ap suc c.ports;
        pairs = c.pairs;
        bytes_read = ap (λ (r : List ℕ). b ∷ r) c.bytes_read;
        room = c.room;
        log_left = c.log_left;
        ends = c.ends;
      }

  counts_write : (p : Port) (v : ℕ) (t : Exchange A) (s : List ℕ) (x y : ℕ) (l : List ℕ) (o : Played A) → Counts t s l o → Counts (write p v t) s (x ∷ y ∷ l) (after_write p v o)
  unfolding accesses
  counts_write p v t s x y l o c =
      record {
        rest = c.rest;
        makes = by_write c.makes;
        used = c.used;
        ports = c.ports;
        pairs = omega (arith, c.pairs);
        bytes_read = c.bytes_read;
        room = omega (arith, c.room);
        log_left = rw (twice_suc o.pairs) (ap (λ (r : List ℕ). number p ∷ v ∷ r) c.log_left);
        ends = rw (twice_suc o.pairs) c.ends;
      }

  pub play_counts : (t : Exchange A) (s l : List ℕ) → Counts t s l (play t s l)
  unfolding play accesses
  play_counts (done a) s l = at_once (done a) s l (yields a) refl is_done
  play_counts (read p f) [] l = at_once (read p f) [] l (lacks (no_script p)) refl no_byte
  play_counts (read p f) (b ∷ s) l = counts_read p f b s l (play (f b) s l) (play_counts (f b) s l)
  play_counts (write p v t) s [] = at_once (write p v t) s [] (lacks no_log) refl (no_pair zero-le)
  play_counts (write p v t) s (x ∷ []) = at_once (write p v t) s (x ∷ []) (lacks no_log) refl (no_pair (omega arith))
  play_counts (write p v t) s (x ∷ y ∷ l) = counts_write p v t s x y l (play t s l) (play_counts t s l)
