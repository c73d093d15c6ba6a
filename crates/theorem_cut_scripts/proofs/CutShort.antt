-- The one law: whatever a call makes of the end of its play, on a script that is cut it hands back what it should.
use Prim.Native.Nat.{ℕ, ◌*◌}
use mathlib.Core.List.{List, ◌++◌}
use mathlib.Core.Path.{◌≡◌, ap, sym, ◌∙◌}
use lib.ListN.{take, drop}
use lib.Seq.{drop-append_seam}
use Rattle.exchange.specs.Exchange.{Exchange, no_script, End, lacks, Played, play}
use Rattle.exchange.specs.Trace.{accesses, logged}
use Rattle.exchange.proofs.Trace.{play_counts}
use Rattle.exchange.proofs.Cut.{play_cut}
use Rattle.theorem_cut_scripts.specs.CutShort.{Handed, handed, next_port, CutShort}

-- What is handed back by a call that makes this of its play's end.
abbrev pub handed_by : {A R : Type 0} → (End A → R) → Played A → Handed R
handed_by tell o = handed (tell o.end) o.used o.pairs o.log

module _ {A R : Type 0} (tell : End A → R) (t : Exchange A) (n : ℕ) (s l : List ℕ) where
  -- behind the pairs that are written, the log is as it was
  log_rest : drop (2 * (play t (take n s) l).pairs) (play t (take n s) l).log ≡ drop (2 * (play t (take n s) l).pairs) l
  log_rest =
      let o = play t (take n s) l in
      let c = play_counts t (take n s) l in
      let written = logged (accesses t (take n s) l) in
      ap (drop (2 * o.pairs)) c.log_left ∙ ap (λ (k : ℕ). drop k (written ++ drop (2 * o.pairs) l)) (sym c.pairs) ∙ drop-append_seam written (drop (2 * o.pairs) l)

  plays_short : CutShort n (tell (lacks (no_script (next_port n t s l)))) l (handed_by tell (play t s l)) (handed_by tell (play t (take n s) l))
  plays_short =
      let k = play_cut t n s l in
      record {
        same = λ h. ap (handed_by tell) (k.same h);
        otherwise = λ h. ap tell (k.ends h);
        uses = k.uses;
        no_more = k.pairs_le;
        first_pairs = k.first_pairs;
        rest = log_rest;
      }

  pub cut_short : {whole cut : Handed R} → whole ≡ handed_by tell (play t s l) → cut ≡ handed_by tell (play t (take n s) l)
      → CutShort n (tell (lacks (no_script (next_port n t s l)))) l whole cut
  cut_short p q = rw (p, q) plays_short
