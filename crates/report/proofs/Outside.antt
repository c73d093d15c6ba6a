-- "32 if a total or count would be outside its range at the session's end, the report staying as before that session": of `Season::add`, at any width.
use mathlib.Core.Path.{◌≡◌, ap}
use mathlib.Core.Logic.{◌↔◌}
use Rattle.std.specs.Prelude.{Ok, Err}
use Rattle.report.specs.Totals.{Session}
use Rattle.report.specs.Adding.{Reported, out_of_range}
use Rattle.report.specs.Runs.{Width, add}
use Rattle.report.specs.Within.{Within}
use Rattle.report.proofs.Exactly.{in_within, within_in}
use Rattle.report.proofs.Runs.{end, Call, accepts, refuses, call}

module _ {R : Type 0} (w : Width R) (r : R) (s : Session) where
  abbrev pub Ends : Type 0
  Ends = Within w.limits (end w r s)

  answered_in : Call w r s → (add w r s).answer ≡ Ok tt → Ends
  answered_in (accepts e p) a = in_within w.limits (w.told r) s e
  answered_in (refuses e p) a = absurd (let b = ap (λ (x : Reported R). x.answer) p in cc)

  in_answered : Call w r s → Ends → (add w r s).answer ≡ Ok tt
  in_answered (accepts e p) i = ap (λ (x : Reported R). x.answer) p
  in_answered (refuses e p) i = absurd (let t = within_in w.limits (w.told r) s i in cc)

  refused_out : Call w r s → (add w r s).answer ≡ Err out_of_range → Ends → ⊥
  refused_out (accepts e p) a i = let b = ap (λ (x : Reported R). x.answer) p in cc
  refused_out (refuses e p) a i = let t = within_in w.limits (w.told r) s i in cc

  out_refused : Call w r s → (Ends → ⊥) → (add w r s).answer ≡ Err out_of_range
  out_refused (accepts e p) n = absurd (n (in_within w.limits (w.told r) s e))
  out_refused (refuses e p) n = ap (λ (x : Reported R). x.answer) p

  stays : Call w r s → (add w r s).answer ≡ Err out_of_range → (add w r s).report ≡ r
  stays (accepts e p) a = absurd (let b = ap (λ (x : Reported R). x.answer) p in cc)
  stays (refuses e p) a = ap (λ (x : Reported R). x.report) p

  pub accepted_exactly : ((add w r s).answer ≡ Ok tt) ↔ Ends
  accepted_exactly = (answered_in (call w r s), in_answered (call w r s))

  pub refused_exactly : ((add w r s).answer ≡ Err out_of_range) ↔ (Ends → ⊥)
  refused_exactly = (refused_out (call w r s), out_refused (call w r s))

  pub refused_report : (add w r s).answer ≡ Err out_of_range → (add w r s).report ≡ r
  refused_report = stays (call w r s)
