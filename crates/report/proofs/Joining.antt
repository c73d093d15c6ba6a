-- "Adding sessions of one identity one by one equals reporting on them joined at packet boundaries, wherever both are accepted."
use mathlib.Core.Path.{◌≡◌, refl, ap, sym, ◌∙◌}
use mathlib.Core.List.{List, [], ◌∷◌}
use Rattle.std.specs.Prelude.{Ok}
use Rattle.report.specs.declared.sessions.Totals.{Totals}
use Rattle.report.specs.Totals.{Session, totals_of}
use Rattle.report.specs.declared.Report.{Report}
use Rattle.report.specs.Adding.{Reported, plus}
use Rattle.report.specs.Runs.{Width, ReadsBack, narrow, add, after, accepted}
use Rattle.report.specs.Sessions.{joined, OneIdentity, alone, and}
use Rattle.report.proofs.Together.{plus_assoc, join_totals}
use Rattle.report.proofs.Stored.{narrow_reads_back}
use Rattle.report.proofs.Runs.{all_added, end, Call, accepts, refuses, call, left, after_left}

joined_added : (r : Totals) (s : Session) (ss : List Session) → OneIdentity s ss → all_added r (s ∷ ss) ≡ plus r (totals_of (joined s ss))
unfolding joined
joined_added r s [] alone = refl
joined_added r s (t ∷ ss) (and e o) =
    joined_added (plus r (totals_of s)) t ss o
    ∙ plus_assoc r (totals_of s) (totals_of (joined t ss))
    ∙ ap (plus r) (sym (join_totals s (joined t ss) (e ∙ same_id t ss)))
  where
    same_id : (t : Session) (ss : List Session) → t.id ≡ (joined t ss).id
    same_id t [] = refl
    same_id t (u ∷ ss) = refl

module _ {R : Type 0} (w : Width R) (k : ReadsBack w) where
  at_once : (r : R) (s : Session) → Call w r s → (add w r s).answer ≡ Ok tt → w.having (end w r s) ≡ (add w r s).report
  at_once r s (accepts e p) a = sym (ap (λ (x : Reported R). x.report) p)
  at_once r s (refuses e p) a = absurd (let b = ap (λ (x : Reported R). x.answer) p in cc)

  -- of any run from any report on, by the sessions that were accepted in it: where no other was handed in, `accepted w r ts` is all of them
  pub joining : (r : R) (ts : List Session) (s : Session) (ss : List Session) → accepted w r ts ≡ s ∷ ss → OneIdentity s ss
      → (add w r (joined s ss)).answer ≡ Ok tt → after w r ts ≡ (add w r (joined s ss)).report
  unfolding left
  joining r ts s ss a o j =
      after_left w k r ts
      ∙ ap (left w r) a
      ∙ ap w.having (joined_added (w.told r) s ss o)
      ∙ at_once r (joined s ss) (call w r (joined s ss)) j

-- in 32 bits
pub narrow_joining : (r : Report) (ts : List Session) (s : Session) (ss : List Session) → accepted narrow r ts ≡ s ∷ ss → OneIdentity s ss
    → (add narrow r (joined s ss)).answer ≡ Ok tt → after narrow r ts ≡ (add narrow r (joined s ss)).report
narrow_joining = joining narrow narrow_reads_back
