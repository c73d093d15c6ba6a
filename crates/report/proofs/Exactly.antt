-- A session is accepted exactly when every number is within its limits at the session's end; otherwise the report stays.
use mathlib.Core.Path.{◌≡◌, refl}
use mathlib.Core.Bool.{Bool, true, false, cond, and-eq-true_iff}
use mathlib.Core.Logic.{◌↔◌}
use Prim.Native.Nat.{◌+◌, ◌<◌}
use native.Mathlib.Omega.{arith}
use lib.Dec.{T}
use lib.IntN.{ℤ}
use lib.ListN.{get_or}
use lib.Signed.{◌≤ℤ◌, le_z, le_z_yes}
use borrow.Author.Tests.{le-leb}
use Rattle.report.specs.declared.sessions.Totals.{Totals}
use Rattle.report.specs.Keys.{key_count}
use Rattle.report.specs.Totals.{Session, totals_of}
use Rattle.report.proofs.Keys.{at_key}
use Rattle.report.specs.declared.Limits.{Limits}
use Rattle.std.specs.Prelude.{Ok, Err}
use Rattle.std.proofs.lemmas.Float.{T_from_true}
use Rattle.report.specs.Adding.{Settled, out_of_range, plus, at_most, between, in_range, added}
use Rattle.report.specs.Within.{Within}
use Rattle.report.proofs.Ranges.{at_most_at, at_most_all, in_range_lem}

t_true : (b : Bool) → T b → b ≡ true
t_true true t = refl
t_true false t = absurd t

low : (l h z : ℤ) → between l h z ≡ true → l ≤ℤ z
low l h z e = le_z_yes (T_from_true (le_z l z) ((and-eq-true_iff (le_z l z) _).0 e).0)

high : (l h z : ℤ) → between l h z ≡ true → z ≤ℤ h
high l h z e = le_z_yes (T_from_true (le_z z h) ((and-eq-true_iff (le_z l z) _).0 e).1)

both : (l h z : ℤ) → l ≤ℤ z → z ≤ℤ h → between l h z ≡ true
both l h z a b = rw (t_true (le_z l z) a.le) (t_true (le_z z h) b.le)

module _ (l : Limits) (old : Totals) (s : Session) where
  new : Totals
  new = plus old (totals_of s)

  pub in_within : in_range l (plus old (totals_of s)) ≡ true → Within l (plus old (totals_of s))
  unfolding new
  in_within e =
      let r = in_range_lem l new e in
      record {
        presses = λ key h. at_most_at l.count new.presses r.counts key;
        packets = r.packets_low;
        x_low = low l.low l.high new.x r.x_in;
        x_high = high l.low l.high new.x r.x_in;
        y_low = low l.low l.high new.y r.y_in;
        y_high = high l.low l.high new.y r.y_in;
      }

  pub within_in : Within l (plus old (totals_of s)) → in_range l (plus old (totals_of s)) ≡ true
  unfolding new in_range
  within_in w =
      let p : at_most l.count new.presses ≡ true = at_most_all l.count 0 key_count _ (λ k h. let b : k < key_count = omega arith in rw (← at_key (λ key. get_or old.presses key 0 + get_or (totals_of s).presses key 0) k b) (w.presses k b)) in
      rw (p, le-leb new.packets l.count w.packets, both l.low l.high new.x w.x_low w.x_high) (both l.low l.high new.y w.y_low w.y_high)

  answer_in : (b : Bool) → (cond {A = Settled} b (record { answer = Ok tt; totals = new }) (record { answer = Err out_of_range; totals = old })).answer ≡ Ok tt → b ≡ true
  answer_in true e = refl
  answer_in false e = absurd (cc)

  pub exactly : ((added l old s).answer ≡ Ok tt) ↔ Within l (plus old (totals_of s))
  unfolding new
  exactly = (λ e. in_within (answer_in (in_range l new) e), λ w. rw (within_in w))

  -- what is accepted is the sum
  pub accepted_is : (added l old s).answer ≡ Ok tt → added l old s ≡ record { answer = Ok tt; totals = plus old (totals_of s) }
  unfolding new
  accepted_is e = rw (answer_in (in_range l new) e)

  -- 32 leaves the report as it was
  pub refused_stays : (added l old s).answer ≡ Err out_of_range → (added l old s).totals ≡ old
  unfolding new
  refused_stays e = go (in_range l new) e
    where
      go : (b : Bool) → (cond {A = Settled} b (record { answer = Ok tt; totals = new }) (record { answer = Err out_of_range; totals = old })).answer ≡ Err out_of_range → (cond {A = Settled} b (record { answer = Ok tt; totals = new }) (record { answer = Err out_of_range; totals = old })).totals ≡ old
      go true e = absurd (cc)
      go false e = refl
