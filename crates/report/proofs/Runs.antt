-- Runs of `Season::add` at any width: what one call comes to, and what a list of them leaves.
use mathlib.Core.Path.{◌≡◌, refl, ap, sym, ◌∙◌}
use mathlib.Core.Bool.{Bool, true, false}
use mathlib.Core.List.{List, [], ◌∷◌, foldl}
use Rattle.std.specs.Prelude.{Ok, Err}
use Rattle.report.specs.declared.sessions.Totals.{Totals}
use Rattle.report.specs.Totals.{Session, totals_of}
use Rattle.report.specs.Adding.{Reported, out_of_range, plus, in_range}
use Rattle.report.specs.Runs.{Width, ReadsBack, add, after, accepted_before, accepted}
use Rattle.report.proofs.Settling.{reported_in, reported_outside}

-- all sessions' totals, added to those of a report
abbrev pub all_added : Totals → List Session → Totals
all_added r ss = foldl (λ t s. plus t (totals_of s)) r ss

module _ {R : Type 0} (w : Width R) where
  -- a report's numbers after a session, wherever they are
  abbrev pub end : R → Session → Totals
  end r s = plus (w.told r) (totals_of s)

  -- a call accepts or refuses
  pub data Call (r : R) (s : Session) : Type 0 where
    accepts : in_range w.limits (end r s) ≡ true → add w r s ≡ record { answer = Ok tt; report = w.having (end r s) } → Call r s
    refuses : in_range w.limits (end r s) ≡ false → add w r s ≡ record { answer = Err out_of_range; report = r } → Call r s

  call_by : (r : R) (s : Session) (b : Bool) → in_range w.limits (end r s) ≡ b → Call r s
  call_by r s true e = accepts e (sym (reported_in w.having r w.limits (w.told r) (end r s) e))
  call_by r s false e = refuses e (sym (reported_outside w.having r w.limits (w.told r) (end r s) e))

  pub call : (r : R) (s : Session) → Call r s
  call r s = call_by r s (in_range w.limits (end r s)) refl

  -- what is left once these were accepted
  unfoldable pub left : R → List Session → R
  left r [] = r
  left r (s ∷ ss) = w.having (all_added (w.told r) (s ∷ ss))

  module _ (k : ReadsBack w) where
    left_behind : (r : R) (s : Session) (ss : List Session) → in_range w.limits (end r s) ≡ true → left (w.having (end r s)) ss ≡ left r (s ∷ ss)
    unfolding left
    left_behind r s [] e = refl
    left_behind r s (t ∷ ss) e = ap (λ (u : Totals). w.having (all_added u (t ∷ ss))) (k.read_back (w.told r) (totals_of s) e)

    pub after_left : (r : R) (ts : List Session) → after w r ts ≡ left r (accepted w r ts)
    unfolding after accepted left
    after_left r [] = refl
    after_left r (s ∷ ts) = by (call r s) (λ q. after_left q ts)
      where
        by : Call r s → ((q : R) → after w q ts ≡ left q (accepted w q ts)) → after w r (s ∷ ts) ≡ left r (accepted w r (s ∷ ts))
        by (accepts e p) i = rw p (i (w.having (end r s)) ∙ left_behind r s (accepted w (w.having (end r s)) ts) e)
        by (refuses e p) i = rw p (i r)

  -- ---- a run without the sessions that were refused in it

  -- what a call does to a run
  pub record Goes (r q : R) (s : Session) (a : List Session → List Session) (ts : List Session) : Type 0 where
    pub report : after w r (s ∷ ts) ≡ after w q ts
    pub sessions : accepted w r (s ∷ ts) ≡ a (accepted w q ts)

  pub accepts_goes : {r q : R} {s : Session} → add w r s ≡ record { answer = Ok tt; report = q } → (ts : List Session) → Goes r q s (λ l. s ∷ l) ts
  unfolding after accepted
  accepts_goes {s = s} p ts = record { report = ap (λ (x : Reported R). after w x.report ts) p; sessions = ap (λ (x : Reported R). accepted_before x.answer s (accepted w x.report ts)) p }

  pub refuses_goes : {r : R} {s : Session} → add w r s ≡ record { answer = Err out_of_range; report = r } → (ts : List Session) → Goes r r s (λ l. l) ts
  unfolding after accepted
  refuses_goes {s = s} p ts = record { report = ap (λ (x : Reported R). after w x.report ts) p; sessions = ap (λ (x : Reported R). accepted_before x.answer s (accepted w x.report ts)) p }

  pub record Same (r : R) (ts : List Session) : Type 0 where
    pub report : after w r (accepted w r ts) ≡ after w r ts
    pub sessions : accepted w r (accepted w r ts) ≡ accepted w r ts

  -- "The report staying as before that session": what is refused in a run is as if it had not been handed in, and the others are accepted again.
  pub refused_left_out : (r : R) (ts : List Session) → Same r ts
  unfolding after accepted
  refused_left_out r [] = record { report = refl; sessions = refl }
  refused_left_out r (s ∷ ts) = by (call r s) (λ q. refused_left_out q ts)
    where
      by : Call r s → ((q : R) → Same q ts) → Same r (s ∷ ts)
      by (accepts e p) i =
          let q = w.having (end r s) in
          let g = accepts_goes p ts in
          let h = accepts_goes p (accepted w q ts) in
          record {
            report = ap (after w r) g.sessions ∙ h.report ∙ (i q).report ∙ sym g.report;
            sessions = ap (accepted w r) g.sessions ∙ h.sessions ∙ ap (λ l. s ∷ l) (i q).sessions ∙ sym g.sessions;
          }
      by (refuses e p) i =
          let g = refuses_goes p ts in
          record {
            report = ap (after w r) g.sessions ∙ (i r).report ∙ sym g.report;
            sessions = ap (accepted w r) g.sessions ∙ (i r).sessions ∙ sym g.sessions;
          }
