-- No play uses or writes more than there is, and what it does not write stays as it was.
use Prim.Native.Nat.{ℕ, ◌+◌, ◌*◌, ◌≤◌}
use native.Mathlib.Omega.{arith}
use mathlib.Core.List.{List}
use mathlib.Core.Path.{◌≡◌, refl, ap, ◌∙◌}
use lib.ListN.{length, drop, length-append, length-drop}
use lib.Seq.{drop_at}
use Rattle.exchange.specs.Exchange.{Port, Exchange, no_script, no_log, End, lacks, play}
use Rattle.exchange.specs.Trace.{logged, accesses, Ends, is_done, no_byte, no_pair}
use Rattle.exchange.proofs.Trace.{play_counts}

-- which end means which lack
ends_script : {A : Type 0} {t : Exchange A} {s l : List ℕ} {e : End A} {p : Port} → Ends t s l e → e ≡ lacks (no_script p) → length s ≡ 0
ends_script is_done h = cc
ends_script no_byte h = refl
ends_script (no_pair r) h = cc

ends_log : {A : Type 0} {t : Exchange A} {s l : List ℕ} {e : End A} → Ends t s l e → e ≡ lacks no_log → length l ≤ 1
ends_log is_done h = absurd (let z : ◌≡◌ {A = ℕ} 0 1 = cc in omega arith)
ends_log no_byte h = absurd (let z : ◌≡◌ {A = ℕ} 0 1 = cc in omega arith)
ends_log (no_pair r) h = r

module _ {A : Type 0} (t : Exchange A) (s l : List ℕ) where
  pub used_le : (play t s l).used ≤ length s
  used_le =
      let c = play_counts t s l in
      omega (arith, c.used, simp length-append at (ap length c.bytes_read))

  pub pairs_le : 2 * (play t s l).pairs ≤ length l
  pairs_le = (play_counts t s l).room

  pub log_length : length (play t s l).log ≡ length l
  log_length =
      let c = play_counts t s l in
      omega (arith, c.pairs, c.room, simp (length-append, length-drop) at (ap length c.log_left))

  -- every byte behind the pairs, a lone last one too
  pub log_rest : drop (2 * (play t s l).pairs) (play t s l).log ≡ drop (2 * (play t s l).pairs) l
  log_rest =
      let c = play_counts t s l in
      ap (drop (2 * (play t s l).pairs)) c.log_left ∙ drop_at (logged (accesses t s l)) (drop (2 * (play t s l).pairs) l) (2 * (play t s l).pairs) c.pairs

  -- 2 only where the script is used up; 3 only where fewer than two log bytes are free
  pub no_script_used : {p : Port} → (play t s l).end ≡ lacks (no_script p) → (play t s l).used ≡ length s
  no_script_used h =
      omega (arith, used_le, simp length-drop at (ends_script (play_counts t s l).ends h))

  pub no_log_full : (play t s l).end ≡ lacks no_log → length l ≤ 2 * (play t s l).pairs + 1
  no_log_full h =
      omega (arith, pairs_le, simp length-drop at (ends_log (play_counts t s l).ends h))
