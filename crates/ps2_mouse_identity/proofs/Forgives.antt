-- What follows an identity that was asked for after some rates, by what was read of it: grouped as the definitions have it.
use Prim.Native.Nat.{ℕ}
use mathlib.Core.List.{List}
use mathlib.Core.Path.{◌≡◌, refl, ap, ◌∙◌, fun_ext}
use Rattle.std.specs.Prelude.{Option, Some, None, Result, Ok, Err}
use Rattle.std.specs.Option.{unwrap_or}
use Rattle.std.specs.Result.{result_ok}
use Rattle.exchange.specs.Exchange.{Exchange, done, bind, yields, Played, play}
use Rattle.exchange.specs.Answer.{Answer, gives, refuses, on_given, and_then}
use Rattle.exchange.proofs.Grouping.{and_then_assoc}
use Rattle.exchange.proofs.Sequence.{bind_assoc}
use Rattle.ps2_bytes.specs.declared.data.MouseSampleRate.{MouseSampleRate}
use Rattle.ps2_bytes.specs.declared.response.MouseId.{MouseId}
use Rattle.ps2_bytes.specs.declared.response.MouseId.TheVariants.{Zero, Three, Four}
use Rattle.ps2_answers.specs.declared.Counted.{Counted}
use Rattle.ps2_answers.specs.declared.Failure.{Failure}
use Rattle.ps2_answers.specs.declared.Refusal.{Refusal}
use Rattle.ps2_answers.specs.Refusals.{Success, refused}
use Rattle.ps2_answers.specs.Answers.{ended, outcome_of}
use Rattle.ps2_answers.proofs.Forgiving.{said, outcome, lacked}
use Rattle.ps2_mouse.specs.Mouse.{mouse_id}
use Rattle.ps2_mouse_identity.specs.Identity.{set_rates, identity_if_read, wheel_rates, button_rates, read_id, read_or, second_identity, after_first}
use Rattle.ps2_mouse_identity.specs.Answers.{identity_brought}

module _ (rates : List MouseSampleRate) (g : Option MouseId → Exchange (Answer MouseId)) (h : Answer MouseId → Exchange (Answer MouseId))
    (same : (a : Answer MouseId) → g (read_id a) ≡ h a) where
  asked_then : bind mouse_id (λ id. bind (done (gives (read_id id))) (on_given g)) ≡ bind mouse_id h
  unfolding bind
  asked_then = ap (λ (k : Answer MouseId → Exchange (Answer MouseId)). bind mouse_id k) (fun_ext same)

  identity_then : and_then (identity_if_read rates) g ≡ and_then (set_rates rates) (λ _. bind mouse_id h)
  unfolding identity_if_read and_then
  identity_then =
      and_then_assoc (set_rates rates) (λ _. bind mouse_id (λ id. done (gives (read_id id)))) g
      ∙ ap (λ (k : Exchange (Answer MouseId)). and_then (set_rates rates) (λ (_ : Success). k))
      (bind_assoc mouse_id (λ id. done (gives (read_id id))) (on_given g) ∙ asked_then)

  grouped : (s l : List ℕ) {o : Played (Answer MouseId)} → o ≡ play (and_then (identity_if_read rates) g) s l → o ≡ play (and_then (set_rates rates) (λ _. bind mouse_id h)) s l
  grouped s l q = rw identity_then at q

-- ---- what was read, by the outcome of asking

module _ (r : Result (Counted MouseId) (Counted Refusal)) where
  read_said : (v : Result MouseId Failure) → read_id (said v) ≡ result_ok v
  read_said (Ok id) = refl
  read_said (Err f) = refl

  pub asked_end : (x : Counted (Result MouseId Failure)) → Ok x ≡ outcome_of r → {id : Option MouseId} → id ≡ result_ok x.value → yields (gives id) ≡ identity_brought (ended r)
  asked_end x q p = rw (p, (outcome r x q).end, read_said x.value) refl

  pub asked_lacks : (e : Counted Refusal) → Err e ≡ outcome_of r → refused e.value ≡ identity_brought (ended r)
  asked_lacks e q = let k = lacked r e q in rw (k.is, k.lacking) refl

-- ---- after the first

abbrev pub after_read : MouseId → Option MouseId → Exchange (Answer MouseId)
after_read old None = done (gives old)
after_read old (Some Zero) = done (gives old)
after_read old (Some Three) = and_then (set_rates button_rates) (λ _. second_identity old)
after_read old (Some Four) = done (refuses 13)

read_first : (old : MouseId) (a : Answer MouseId) → after_read old (read_id a) ≡ after_first old a
read_first old (gives Zero) = refl
read_first old (gives Three) = refl
read_first old (gives Four) = refl
read_first old (refuses n) = refl

pub first_grouped : (old : MouseId) (s l : List ℕ) {o : Played (Answer MouseId)} → o ≡ play (and_then (identity_if_read wheel_rates) (after_read old)) s l
    → o ≡ play (and_then (set_rates wheel_rates) (λ _. bind mouse_id (λ first. after_first old first))) s l
first_grouped old s l q = grouped wheel_rates (after_read old) (λ first. after_first old first) (read_first old) s l q

-- ---- after the second

abbrev pub given_or : MouseId → Option MouseId → Exchange (Answer MouseId)
given_or old id = done (gives (unwrap_or id old))

read_second : (old : MouseId) (a : Answer MouseId) → given_or old (read_id a) ≡ done (gives (read_or old a))
read_second old (gives id) = refl
read_second old (refuses n) = refl

pub second_grouped : (old : MouseId) (s l : List ℕ) {o : Played (Answer MouseId)}
    → o ≡ play (and_then (identity_if_read button_rates) (given_or old)) s l → o ≡ play (and_then (set_rates button_rates) (λ _. second_identity old)) s l
unfolding second_identity
second_grouped old s l q =
    grouped button_rates (given_or old) (λ second. done (gives (read_or old second))) (read_second old) s l q
