-- Old reports in 64 bits: no number is changed, and a session that the old report accepted gives the same numbers after conversion as before it.
use mathlib.Core.Path.{◌≡◌, refl, ap, sym, ◌∙◌}
use mathlib.Core.Bool.{true}
use mathlib.Core.List.{List, [], ◌∷◌}
use native.Mathlib.Omega.{arith}
use lib.Dec.{leb→le, le→leb}
use lib.IntN.{ℤ, pos, negsuc}
use lib.ListN.{get_or}
use lib.Signed.{◌≤ℤ◌}
use Rattle.report.specs.declared.sessions.Totals.{Totals}
use Rattle.report.specs.Totals.{Session, totals_of}
use Rattle.report.proofs.Keys.{at_key}
use Rattle.report.specs.declared.Report.{Report}
use Rattle.std.specs.Prelude.{Ok}
use Rattle.report.specs.Adding.{Reported, plus, in_range}
use Rattle.report.specs.Narrow.{narrow_limits, numbers, report_of}
use Rattle.report.specs.Runs.{narrow, add, after, accepted}
use Rattle.report.specs.Within.{Within}
use Rattle.report.proofs.Exactly.{in_within, within_in}
use Rattle.report.proofs.Settling.{reported_in}
use Rattle.report.proofs.Stored.{narrow_reads_back}
use Rattle.report.proofs.Runs.{Call, accepts, refuses, call, accepts_goes, refuses_goes}
use Rattle.report.specs.Long.{long_limits, long_of, wide, widened}
use Rattle.report.specs.Widened.{SameNumbers, SameRun}

pub widened_same : (r : Report) → SameNumbers r (widened r)
widened_same r = record { presses = λ key h. at_key (λ k. get_or r.presses k 0) key h; packets = refl; x = refl; y = refl }

lower : (z : ℤ) → narrow_limits.low ≤ℤ z → long_limits.low ≤ℤ z
lower (pos n) h = record { le = tt }
lower (negsuc n) h = record { le = le→leb n 72057594037927935 (let k = leb→le n 2147483647 h.le in omega arith) }

higher : (z : ℤ) → z ≤ℤ narrow_limits.high → z ≤ℤ long_limits.high
higher (pos n) h = record { le = le→leb n 72057594037927936 (let k = leb→le n 2147483647 h.le in omega arith) }
higher (negsuc n) h = record { le = tt }

wider : (t : Totals) → Within narrow_limits t → Within long_limits t
wider t w =
    record {
      presses = λ key h. let k = w.presses key h in omega arith;
      packets = let k = w.packets in omega arith;
      x_low = lower t.x w.x_low;
      x_high = higher t.x w.x_high;
      y_low = lower t.y w.y_low;
      y_high = higher t.y w.y_high;
    }

long_in : (r : Report) (s : Session) → in_range narrow_limits (plus (numbers r) (totals_of s)) ≡ true → in_range long_limits (plus (numbers r) (totals_of s)) ≡ true
long_in r s e = within_in long_limits (numbers r) s (wider (plus (numbers r) (totals_of s)) (in_within narrow_limits (numbers r) s e))

widens : (r : Report) (s : Session) → Call narrow r s → (add narrow r s).answer ≡ Ok tt
    → add wide (widened r) s ≡ record { answer = Ok tt; report = widened (add narrow r s).report }
widens r s (accepts e p) a =
    rw (p, narrow_reads_back.read_back (numbers r) (totals_of s) e)
    (sym (reported_in long_of (widened r) long_limits (numbers r) (plus (numbers r) (totals_of s)) (long_in r s e)))
widens r s (refuses e p) a = absurd (let b = ap (λ (x : Reported Report). x.answer) p in cc)

-- accepted before, accepted after, with the same numbers
pub widened_accepts : (r : Report) (s : Session) → (add narrow r s).answer ≡ Ok tt
    → add wide (widened r) s ≡ record { answer = Ok tt; report = widened (add narrow r s).report }
widened_accepts r s = widens r s (call narrow r s)

-- the same of a run: those that the old report accepts are accepted after conversion, and leave the old report converted
pub widened_run : (r : Report) (ts : List Session) → SameRun r ts
unfolding after accepted
widened_run r [] = record { sessions = refl; report = refl }
widened_run r (s ∷ ts) = by (call narrow r s) (λ q. widened_run q ts)
  where
    by : Call narrow r s → ((q : Report) → SameRun q ts) → SameRun r (s ∷ ts)
    by (accepts e p) i =
        let q = report_of (plus (numbers r) (totals_of s)) in
        let v = widens r s (accepts e p) (ap (λ (x : Reported Report). x.answer) p) ∙ ap (λ (x : Reported Report). record { answer = Ok tt; report = widened x.report }) p in
        let g = accepts_goes narrow p ts in
        let h = accepts_goes wide v (accepted narrow q ts) in
        record {
          sessions = ap (accepted wide (widened r)) g.sessions ∙ h.sessions ∙ ap (λ l. s ∷ l) (i q).sessions ∙ sym g.sessions;
          report = ap (after wide (widened r)) g.sessions ∙ h.report ∙ (i q).report ∙ ap widened (sym g.report);
        }
    by (refuses e p) i =
        let g = refuses_goes narrow p ts in
        record {
          sessions = ap (accepted wide (widened r)) g.sessions ∙ (i r).sessions ∙ sym g.sessions;
          report = ap (after wide (widened r)) g.sessions ∙ (i r).report ∙ ap widened (sym g.report);
        }
