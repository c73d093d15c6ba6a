-- An operation whose refusals are replaced by a failure of its own, from what the code's operation inside answered.
use Prim.Native.Nat.{ℕ}
use mathlib.Core.List.{List}
use mathlib.Core.Path.{◌≡◌, refl}
use Rattle.exchange.specs.Exchange.{Exchange, End, yields, lacks, told_end, played, play}
use Rattle.exchange.specs.Answer.{Answer, renumbered, refusing_as}
use Rattle.exchange.proofs.Keeping.{kept_told}
use Rattle.exchange.proofs.Told.{bind_told}
use Rattle.ps2_answers.specs.Refusals.{number_of, refused}
use Rattle.ps2_answers.specs.declared.Failure.{Failure}
use Rattle.ps2_answers.specs.declared.Refusal.{Refusal}
use Rattle.ps2_answers.specs.declared.Refusal.TheVariants.{Lacking, Failed}
use Rattle.ps2_kept.specs.declared.KeptBytes.{KeptBytes}
use Rattle.ps2_kept.specs.Kept.{kept_at}
use Rattle.ps2_kept.specs.Added.{added_thrown, keeping_onto}
use Rattle.ps2_kept.specs.Promises.{PlaysKept}
use Rattle.ps2_command.specs.Replaced.{replaced_by}

-- the end that a replaced refusal says
pub replaced_end : {A : Type 0} (f : Failure) (x : Refusal) → refused (replaced_by f x) ≡ told_end (renumbered {A = A} (number_of f)) (refused x)
replaced_end f (Lacking l) = refl
replaced_end f (Failed g) = refl

module _ {A : Type 0} (n : ℕ) (t : Exchange (Answer A)) where
  pub refusing_told : (s l : List ℕ) {e e₂ : End (Answer A)} {u w : ℕ} {l' : List ℕ} → played e u w l' ≡ play t s l → e₂ ≡ told_end (renumbered n) e
      → played e₂ u w l' ≡ play (refusing_as n t) s l
  unfolding refusing_as
  refusing_told s l r q = rw q (bind_told t (renumbered n) s l r refl)

  -- with the bytes that it keeps
  refusing_ended : (e : End (Answer A)) (k : KeptBytes) → k ≡ kept_at e k → k ≡ kept_at (told_end (renumbered n) e) k
  refusing_ended (yields a) k h = h
  refusing_ended (lacks x) k h = h

  pub refusing_kept : (k : KeptBytes) {s l : List ℕ} {e e₂ : End (Answer A)} {u w : ℕ} {l' : List ℕ} {k₂ : KeptBytes} → PlaysKept (keeping_onto k t) s l e u w l' k₂
      → e₂ ≡ told_end (renumbered n) e → PlaysKept (keeping_onto k (refusing_as n t)) s l e₂ u w l' k₂
  unfolding refusing_as
  refusing_kept k {s} {l} {e} {k₂ = k₂} r q =
      rw q (record { plays = kept_told added_thrown (renumbered n) k k₂ t s l e r.plays; ended = refusing_ended e k₂ r.ended })

-- from what the code's answer says
module _ {A : Type 0} (f : Failure) (t : Exchange (Answer A)) (s l : List ℕ) {e : End (Answer A)} {u w : ℕ} {l' : List ℕ} (r : played e u w l' ≡ play t s l) where
  pub refusing_refused : (x : Refusal) → e ≡ refused x → played (refused (replaced_by f x)) u w l' ≡ play (refusing_as (number_of f) t) s l
  refusing_refused x q = refusing_told (number_of f) t s l r (rw q (replaced_end f x))
