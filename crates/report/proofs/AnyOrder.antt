-- Runs in which the same sessions are accepted, in whatever order, leave equal reports.
use mathlib.Core.Path.{◌≡◌, refl, ap, sym, ◌∙◌}
use mathlib.Core.List.{List}
use Rattle.report.specs.declared.sessions.Totals.{Totals}
use Rattle.report.specs.Totals.{Session, totals_of}
use Rattle.report.specs.declared.Report.{Report}
use Rattle.report.specs.Adding.{plus}
use Rattle.report.specs.Runs.{Width, ReadsBack, narrow, after, accepted}
use Rattle.report.specs.Sessions.{Reordered, same, behind, swapped, then}
use Rattle.report.proofs.Together.{plus_swapped}
use Rattle.report.proofs.Stored.{narrow_reads_back}
use Rattle.report.proofs.Runs.{all_added, left, after_left}

reordered : {ss ts : List Session} → Reordered ss ts → (r : Totals) → all_added r ss ≡ all_added r ts
reordered same r = refl
reordered (behind {s = s} o) r = reordered o (plus r (totals_of s))
reordered (swapped {s = s} {t = t} {ss = ss}) r = ap (λ (u : Totals). all_added u ss) (plus_swapped r (totals_of s) (totals_of t))
reordered (then o p) r = reordered o r ∙ reordered p r

module _ {R : Type 0} (w : Width R) (k : ReadsBack w) where
  left_reordered : {ss ts : List Session} → Reordered ss ts → (r : R) → left w r ss ≡ left w r ts
  unfolding left
  left_reordered same r = refl
  left_reordered (behind {s = s} o) r = ap w.having (reordered o (plus (w.told r) (totals_of s)))
  left_reordered (swapped {s = s} {t = t} {ss = ss}) r = ap (λ (u : Totals). w.having (all_added u ss)) (plus_swapped (w.told r) (totals_of s) (totals_of t))
  left_reordered (then o p) r = left_reordered o r ∙ left_reordered p r

  -- from any report on; what is refused in either run is left out of it
  pub any_order : (r : R) (ss ts : List Session) → Reordered (accepted w r ss) (accepted w r ts) → after w r ss ≡ after w r ts
  any_order r ss ts o = after_left w k r ss ∙ left_reordered o r ∙ sym (after_left w k r ts)

-- in 32 bits
pub narrow_any_order : (r : Report) (ss ts : List Session) → Reordered (accepted narrow r ss) (accepted narrow r ts) → after narrow r ss ≡ after narrow r ts
narrow_any_order = any_order narrow narrow_reads_back
