-- What attempts come to, one after another.
use Prim.Native.Nat.{ℕ, suc}
use mathlib.Core.Bool.{Bool}
use mathlib.Core.Path.{◌≡◌, refl, sym, ap, ◌∙◌}
use Rattle.std.specs.Prelude.{Result, Err}
use Rattle.std.specs.Result.{IsErrAnd}
use Rattle.std.proofs.lemmas.Result.{err_from_is_err_and}
use Rattle.ps2_answers.specs.declared.Failure.{Failure}
use Rattle.talks.specs.declared.Stop.{Stop}
use Rattle.talks.specs.declared.Stop.TheVariants.{Refused}
use Rattle.talks.specs.Heard.{HeardBy, by, accepting, attempts_heard}

-- what leaves by `?` is what was met
pub exits : {T : Type 0} (r : Result T Stop) (e : Stop) → IsErrAnd r (λ x. x ≡ e) → r ≡ Err e
exits r e h = let p = err_from_is_err_and r h in p.1 ∙ ap (λ x. Err x) p.2

module _ {S : Type 0} (f : Failure) (one : S → HeardBy S Bool) where
  pub attempts_over : (n : ℕ) (s : S) → n ≡ 0 → by (Err (Refused f)) s ≡ attempts_heard n f one s
  unfolding attempts_heard
  attempts_over n s e = rw e refl

  pub attempt_made : (n m : ℕ) (s s' : S) (w : Result Bool Stop) → n ≡ suc m → by w s' ≡ one s → attempts_heard n f one s ≡ accepting (attempts_heard m f one) w s'
  unfolding attempts_heard
  attempt_made n m s s' w e p = rw e (ap (λ h. accepting (attempts_heard m f one) h.what h.now) (sym p))
