-- One exchange after another, where each only writes: what is left of the whole, where a refusal ends it, and its last exchange.
use Prim.Native.Nat.{ℕ, ◌+◌, ◌*◌, ◌≤◌, ◌<◌, ◌^◌}
use native.Mathlib.Omega.{arith}
use mathlib.Core.List.{List, []}
use mathlib.Core.Path.{◌≡◌, refl, ap}
use lib.ListN.{length}
use Rattle.std.specs.Prelude.{Result, Ok, Err}
use Rattle.exchange.specs.Exchange.{Exchange, done, bind, yields, Writes}
use Rattle.exchange.specs.Answer.{Answer, on_given, and_then}
use Rattle.exchange.specs.Parts.{part, restored}
use Rattle.exchange.specs.Position.{Reached}
use Rattle.exchange.proofs.Calls.{writes_reached, reached_pairs_le, reached_call, reached_last}
use Rattle.exchange.proofs.Position.{reached_done}
use Rattle.ps2_answers.specs.declared.Counted.{Counted}
use Rattle.ps2_answers.specs.declared.Refusal.{Refusal}
use Rattle.ps2_answers.specs.Answers.{counted, ended, used_of, pairs_of, sum, behind}
use Rattle.ps2_answers.proofs.Refusals.{writes_refused}
use Rattle.ps2_answers.proofs.Then.{brought, stopped}

-- Where an exchange has come to that has only written so far.
pub record Written {A : Type 0} (whole : Exchange A) (l : List ℕ) (rest : Exchange A) (u w : ℕ) (l' : List ℕ) : Type 0 where
  pub with_any : (s : List ℕ) → Reached whole s l rest 0 w l'
  pub no_bytes : u ≡ 0

pub write_first : {A B : Type 0} (t : Exchange (Answer A)) (g : A → Exchange (Answer B)) (l : List ℕ) {l' : List ℕ} (a : Counted A)
    → Writes t l (ended (Ok a)) a.used a.pairs l' → Written (and_then t g) l (g a.value) a.used a.pairs l'
unfolding and_then
write_first t g l a r = record { with_any = λ s. writes_reached t (on_given g) l r s refl; no_bytes = r.no_bytes }

-- nothing is left
pub write_here : {A : Type 0} {whole : Exchange A} {l l' : List ℕ} {a : A} {u w : ℕ} → Written whole l (done a) u w l' → Writes whole l (yields a) u w l'
write_here at = record { with_any = λ s. reached_done (at.with_any s); no_bytes = at.no_bytes }

-- no byte is used so far
pub no_used : {V T : Type 0} (d : Counted V) (b : Result (Counted T) (Counted Refusal)) (x : Counted T) → Ok x ≡ behind d b → d.used ≡ 0 → used_of b ≡ 0 → x.used ≡ 0
no_used d (Ok y) x q h k =
    let p : x ≡ counted y.value (sum d.used y.used) (sum d.pairs y.pairs) = cc in
    rw p (omega arith)
no_used d (Err y) x q h k = cc

-- ---- a next one, on what is left of the log, with the counts so far

module _ {A : Type 0} {whole : Exchange (Answer A)} {l : List ℕ} (hl : length l < 2 ^ 64) {V : Type 0} (d : Counted V) {l' : List ℕ} where
  -- one that others follow
  module _ {B : Type 0} (t : Exchange (Answer B)) (g : B → Exchange (Answer A)) (at : Written whole l (and_then t g) d.used d.pairs l')
      (b : Result (Counted B) (Counted Refusal)) {m : List ℕ} (r : Writes t (part (2 * d.pairs) l') (ended b) (used_of b) (pairs_of b) m) where
    pub write_then_steps : (x : Counted B) → Ok x ≡ behind d b → Written whole l (g x.value) x.used x.pairs (restored (2 * d.pairs) l' m)
    unfolding and_then
    write_then_steps x q =
        let w : 2 * (d.pairs + pairs_of b) ≤ length l = reached_pairs_le (at.with_any []) t [] refl (r.with_any []) in
        let k = brought d b (omega (arith, at.no_bytes, r.no_bytes)) (omega arith) x q in
        rw k.pairs
        (record {
          with_any = λ s. reached_call t (on_given g) (at.with_any s) refl (r.with_any (part 0 s)) (ap (λ y. ended y) k.is);
          no_bytes = omega (arith, k.used, at.no_bytes, r.no_bytes);
        })

    pub write_then_stops : (e : Counted Refusal) → Err e ≡ behind d b → Writes whole l (ended {T = A} (Err e)) e.used e.pairs (restored (2 * d.pairs) l' m)
    unfolding and_then
    write_then_stops e q =
        let w : 2 * (d.pairs + pairs_of b) ≤ length l = reached_pairs_le (at.with_any []) t [] refl (r.with_any []) in
        let k = stopped d b (omega (arith, at.no_bytes, r.no_bytes)) (omega arith) e q in
        let z = writes_refused t g (part (2 * d.pairs) l') r e.value (ap (λ y. ended y) k.is) in
        rw k.pairs
        (record {
          with_any = λ s. reached_last (bind t (on_given g)) (at.with_any s) refl (z.with_any (part 0 s));
          no_bytes = omega (arith, k.used, at.no_bytes, r.no_bytes);
        })

  -- the last
  module _ (t : Exchange (Answer A)) (at : Written whole l t d.used d.pairs l') {m : List ℕ} where
    pub write_then_ends : (b : Result (Counted A) (Counted Refusal)) → Writes t (part (2 * d.pairs) l') (ended b) (used_of b) (pairs_of b) m
        → Writes whole l (ended (behind d b)) (used_of (behind d b)) (pairs_of (behind d b)) (restored (2 * d.pairs) l' m)
    write_then_ends (Ok y) r =
        let w : 2 * (d.pairs + y.pairs) ≤ length l = reached_pairs_le (at.with_any []) t [] refl (r.with_any []) in
        let k = brought d (Ok y) (omega (arith, at.no_bytes, r.no_bytes)) (omega arith) _ refl in
        rw k.pairs
        (record { with_any = λ s. reached_last t (at.with_any s) refl (r.with_any (part 0 s)); no_bytes = omega (arith, k.used, at.no_bytes, r.no_bytes) })
    write_then_ends (Err y) r =
        let w : 2 * (d.pairs + y.pairs) ≤ length l = reached_pairs_le (at.with_any []) t [] refl (r.with_any []) in
        let k = stopped {T = A} d (Err y) (omega (arith, at.no_bytes, r.no_bytes)) (omega arith) _ refl in
        rw k.pairs
        (record { with_any = λ s. reached_last t (at.with_any s) refl (r.with_any (part 0 s)); no_bytes = omega (arith, k.used, at.no_bytes, r.no_bytes) })
