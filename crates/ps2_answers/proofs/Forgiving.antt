-- The outcome of an exchange, from what the code's `outcome` answers: a value or a failure goes on, as what its play yields, and a lack ends the whole.
use Prim.Native.Nat.{ℕ}
use mathlib.Core.List.{List}
use mathlib.Core.Path.{◌≡◌, refl}
use Rattle.std.specs.Prelude.{Result, Ok, Err}
use Rattle.exchange.specs.Exchange.{Exchange, bind, yields, play}
use Rattle.exchange.specs.Answer.{Answer, gives, refuses}
use Rattle.exchange.specs.Position.{Reached}
use Rattle.exchange.proofs.Calls.{bind_lacks, bind_reached}
use Rattle.ps2_answers.specs.declared.Counted.{Counted}
use Rattle.ps2_answers.specs.declared.Failure.{Failure}
use Rattle.ps2_answers.specs.declared.Lack.{Lack}
use Rattle.ps2_answers.specs.declared.Refusal.{Refusal}
use Rattle.ps2_answers.specs.declared.Refusal.TheVariants.{Lacking, Failed}
use Rattle.ps2_answers.specs.Refusals.{number_of}
use Rattle.ps2_answers.specs.Answers.{counted, ended, used_of, pairs_of, told, outcome_at, outcome_of}

-- the answer of a play that an outcome is
abbrev pub said : {T : Type 0} → Result T Failure → Answer T
said (Ok v) = gives v
said (Err f) = refuses (number_of f)

-- an outcome, taken apart
pub record Outcome {T : Type 0} (r : Result (Counted T) (Counted Refusal)) (x : Counted (Result T Failure)) : Type 0 where
  pub end : ended r ≡ yields (said x.value)
  pub used : used_of r ≡ x.used
  pub pairs : pairs_of r ≡ x.pairs

pub record Lacked {T : Type 0} (r : Result (Counted T) (Counted Refusal)) (e : Counted Refusal) : Type 0 where
  pub lack : Lack
  pub lacking : e.value ≡ Lacking lack
  pub is : r ≡ Err e

module _ {T : Type 0} where
  pub outcome : (r : Result (Counted T) (Counted Refusal)) (x : Counted (Result T Failure)) → Ok x ≡ outcome_of r → Outcome r x
  outcome (Ok a) x q =
      let p : x ≡ counted (Ok a.value) a.used a.pairs = cc in
      rw p (record { end = refl; used = refl; pairs = refl })
  outcome (Err e) x q = by e.value q
    where
      by : (v : Refusal) → Ok x ≡ outcome_at {T = T} v e.used e.pairs → Outcome {T = T} (Err (counted v e.used e.pairs)) x
      by (Lacking l) q = cc
      by (Failed f) q =
          let p : x ≡ counted (Err f) e.used e.pairs = cc in
          rw p (record { end = refl; used = refl; pairs = refl })

  pub lacked : (r : Result (Counted T) (Counted Refusal)) (e : Counted Refusal) → Err e ≡ outcome_of r → Lacked r e
  lacked (Ok a) e q = cc
  lacked (Err y) e q = by y.value q
    where
      by : (v : Refusal) → Err e ≡ outcome_at {T = T} v y.used y.pairs → Lacked {T = T} (Err (counted v y.used y.pairs)) e
      by (Lacking l) q =
          let p : e ≡ counted (Lacking l) y.used y.pairs = cc in
          rw p (record { lack = l; lacking = refl; is = refl })
      by (Failed f) q = cc

-- what follows the exchange, whatever it yields
module _ {A B : Type 0} (t : Exchange (Answer A)) (g : Answer A → Exchange (Answer B)) (s l : List ℕ) {l' : List ℕ} (r : Result (Counted A) (Counted Refusal)) (p : told r l' ≡ play t s l) where
  pub outcome_steps : (x : Counted (Result A Failure)) → Ok x ≡ outcome_of r → Reached (bind t g) s l (g (said x.value)) x.used x.pairs l'
  outcome_steps x q =
      let o = outcome r x q in
      rw (o.used, o.pairs) at (bind_reached t g s l p o.end)

  pub outcome_stops : (e : Counted Refusal) → Err e ≡ outcome_of r → told {T = B} (Err e) l' ≡ play (bind t g) s l
  outcome_stops e q = by e.value q
    where
      by : (v : Refusal) → Err (counted v e.used e.pairs) ≡ outcome_of r → told {T = B} (Err (counted v e.used e.pairs)) l' ≡ play (bind t g) s l
      by (Lacking x) q =
          let k : r ≡ Err (counted (Lacking x) e.used e.pairs) = (lacked r _ q).is in
          bind_lacks t g s l (rw k at p) refl
      by (Failed f) q =
          let k = lacked r _ q in
          let no : Failed f ≡ Lacking k.lack = k.lacking in
          cc
