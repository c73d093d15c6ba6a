-- One exchange after another, where each only reads: what is left of the whole, where a refusal ends it, its last exchange, and the turns of a repetition.
use Prim.Native.Nat.{ℕ, suc, ◌+◌, ◌≤◌, ◌<◌, ◌^◌}
use native.Mathlib.Omega.{arith}
use mathlib.Core.List.{List}
use mathlib.Core.Path.{◌≡◌, refl, ap, ◌∙◌}
use lib.ListN.{length}
use Rattle.std.specs.Prelude.{Result, Ok, Err}
use Rattle.exchange.specs.Exchange.{Exchange, done, bind, End, yields, Reads}
use Rattle.exchange.specs.Answer.{Answer, gives, on_given, and_then}
use Rattle.exchange.specs.Parts.{part}
use Rattle.exchange.specs.Position.{ReadTo}
use Rattle.exchange.specs.Repeat.{Turn, found, again, found_end, repeat}
use Rattle.exchange.proofs.Calls.{part_used_le, reads_reached}
use Rattle.exchange.proofs.Reading.{read_to_start, read_to_same, read_to_done, read_to_used_le, read_to_call, read_to_last, read_to_over, read_to_again, read_to_found, read_to_end}
use Rattle.ps2_answers.specs.declared.Counted.{Counted}
use Rattle.ps2_answers.specs.declared.Refusal.{Refusal}
use Rattle.ps2_answers.specs.Refusals.{refused}
use Rattle.ps2_answers.specs.Answers.{ended, turn_end, used_of, pairs_of, behind}
use Rattle.ps2_answers.proofs.Refusals.{reads_refused}
use Rattle.ps2_answers.proofs.Then.{Brought, Stopped, brought, stopped}

-- Where an exchange has come to that has only read so far.
pub record Read {A : Type 0} (whole : Exchange A) (s : List ℕ) (rest : Exchange A) (u w : ℕ) : Type 0 where
  pub to : ReadTo whole s rest u
  pub no_pairs : w ≡ 0

pub read_start : {A : Type 0} (t : Exchange A) (s : List ℕ) → Read t s t 0 0
read_start t s = record { to = read_to_start t s; no_pairs = refl }

-- the counts that are said are those that the play makes
pub reads_pairs : {A : Type 0} {t : Exchange A} {s : List ℕ} {e : End A} {u w w₂ : ℕ} → Reads t s e u w → w₂ ≡ 0 → Reads t s e u w₂
reads_pairs r q = record { with_any = r.with_any; no_pairs = q }

-- ---- the first exchange

module _ {A B : Type 0} (t : Exchange (Answer A)) (g : A → Exchange (Answer B)) (s : List ℕ) where
  pub read_first : (a : Counted A) → Reads t s (ended (Ok a)) a.used a.pairs → Read (and_then t g) s (g a.value) a.used a.pairs
  unfolding and_then
  read_first a r = record { to = record { with_any = λ l. reads_reached t (on_given g) s r l refl }; no_pairs = r.no_pairs }

  pub read_first_stops : (e : Counted Refusal) → Reads t s (ended {T = A} (Err e)) e.used e.pairs → Reads (and_then t g) s (ended {T = B} (Err e)) e.used e.pairs
  unfolding and_then
  read_first_stops e r = reads_pairs (reads_refused t g s r e.value refl) r.no_pairs

-- what follows it, whatever that is
pub read_bind : {A C : Type 0} (t : Exchange (Answer A)) (g : Answer A → Exchange C) (s : List ℕ) (a : Counted A) → Reads t s (ended (Ok a)) a.used a.pairs
    → Read (bind t g) s (g (gives a.value)) a.used a.pairs
read_bind t g s a r = record { to = record { with_any = λ l. reads_reached t g s r l refl }; no_pairs = r.no_pairs }

pub read_same : {A : Type 0} {whole rest rest₂ : Exchange A} {s : List ℕ} {u w : ℕ} → Read whole s rest u w → rest ≡ rest₂ → Read whole s rest₂ u w
read_same at q = record { to = read_to_same at.to q; no_pairs = at.no_pairs }

-- ---- a next one, on what is left, with the counts so far

module _ {A : Type 0} {whole : Exchange A} {s : List ℕ} where
  -- nothing is left
  pub read_here : {a : A} {u w : ℕ} → Read whole s (done a) u w → Reads whole s (yields a) u w
  read_here at = reads_pairs (read_to_done at.to) at.no_pairs

module _ {A : Type 0} {s : List ℕ} (hs : length s < 2 ^ 64) {V : Type 0} (d : Counted V) {whole rest : Exchange A} (at : Read whole s rest d.used d.pairs) where
  module _ {B : Type 0} {t : Exchange B} {e : End B} {T : Type 0} (b : Result (Counted T) (Counted Refusal)) (r : Reads t (part d.used s) e (used_of b) (pairs_of b)) where
    pub read_brought : (x : Counted T) → Ok x ≡ behind d b → Brought d b x
    read_brought x q =
        let u : d.used + used_of b ≤ length s = part_used_le s d.used (read_to_used_le at.to) r in
        brought d b (omega arith) (omega (arith, at.no_pairs, r.no_pairs)) x q

    pub read_stopped : (x : Counted Refusal) → Err x ≡ behind d b → Stopped d b x
    read_stopped x q =
        let u : d.used + used_of b ≤ length s = part_used_le s d.used (read_to_used_le at.to) r in
        stopped d b (omega arith) (omega (arith, at.no_pairs, r.no_pairs)) x q

module _ {A : Type 0} {whole : Exchange (Answer A)} {s : List ℕ} (hs : length s < 2 ^ 64) {V : Type 0} (d : Counted V) where
  -- the last
  pub read_then_ends : {t : Exchange (Answer A)} → Read whole s t d.used d.pairs → (b : Result (Counted A) (Counted Refusal))
      → Reads t (part d.used s) (ended b) (used_of b) (pairs_of b) → Reads whole s (ended (behind d b)) (used_of (behind d b)) (pairs_of (behind d b))
  read_then_ends {t} at (Ok y) r =
      let k = read_brought hs d at {T = A} (Ok y) r _ refl in
      rw (k.used, k.pairs) (reads_pairs (read_to_last t at.to r) (omega (arith, at.no_pairs, r.no_pairs)))
  read_then_ends {t} at (Err y) r =
      let k = read_stopped hs d at {T = A} (Err y) r _ refl in
      rw (k.used, k.pairs) (reads_pairs (read_to_last t at.to r) (omega (arith, at.no_pairs, r.no_pairs)))

  -- one that others follow
  module _ {B : Type 0} (t : Exchange (Answer B)) (g : B → Exchange (Answer A)) (at : Read whole s (and_then t g) d.used d.pairs)
      (b : Result (Counted B) (Counted Refusal)) (r : Reads t (part d.used s) (ended b) (used_of b) (pairs_of b)) where
    pub read_then_steps : (x : Counted B) → Ok x ≡ behind d b → Read whole s (g x.value) x.used x.pairs
    unfolding and_then
    read_then_steps x q =
        let k = read_brought hs d at b r x q in
        rw k.used
        (record {
          to = read_to_call t (on_given g) at.to r (ap (λ y. ended y) k.is);
          no_pairs = omega (arith, k.pairs, at.no_pairs, r.no_pairs);
        })

    pub read_then_stops : (x : Counted Refusal) → Err x ≡ behind d b → Reads whole s (ended {T = A} (Err x)) x.used x.pairs
    unfolding and_then
    read_then_stops x q =
        let k = read_stopped hs d at b r x q in
        rw k.used
        (reads_pairs (read_to_last (bind t (on_given g)) at.to (reads_refused t g (part d.used s) r x.value (ap (λ y. ended y) k.is))) (omega (arith, k.pairs, at.no_pairs, r.no_pairs)))

  -- ---- the turns of a repetition, each by what its value is worth

  module _ (n : ℕ) (o : Answer A) (t : Exchange (Turn (Answer A))) (at : Read whole s (repeat n o t) d.used d.pairs) where
    pub turns_over : n ≤ 0 → Reads whole s (yields o) d.used d.pairs
    turns_over h = reads_pairs (read_to_over n o t at.to h) at.no_pairs

    module _ {T : Type 0} (worth : T → Turn (Answer A)) (b : Result (Counted T) (Counted Refusal)) {w : ℕ} (r : Reads t (part d.used s) (turn_end worth b) (used_of b) w) (p : pairs_of b ≡ 0) where
      of_b : Reads t (part d.used s) (turn_end worth b) (used_of b) (pairs_of b)
      of_b = reads_pairs r p

      pub turn_again : (x : Counted T) → Ok x ≡ behind d b → (m : ℕ) → n ≡ suc m → worth x.value ≡ again → Read whole s (repeat m o t) x.used x.pairs
      turn_again x q m h v =
          let k = read_brought hs d at b of_b x q in
          rw k.used
          (record { to = read_to_again n o t at.to of_b m h (ap (λ y. turn_end worth y) k.is ∙ ap (λ y. yields y) v); no_pairs = omega (arith, k.pairs, at.no_pairs, p) })

      pub turn_found : {a : Answer A} (x : Counted T) → Ok x ≡ behind d b → 0 < n → worth x.value ≡ found a → Reads whole s (yields a) x.used x.pairs
      turn_found x q h v =
          let k = read_brought hs d at b of_b x q in
          rw k.used
          (reads_pairs (read_to_found n o t at.to of_b h (ap (λ y. turn_end worth y) k.is ∙ ap (λ y. yields y) v)) (omega (arith, k.pairs, at.no_pairs, p)))

      pub turn_stops : (x : Counted Refusal) → Err x ≡ behind d b → 0 < n → Reads whole s (ended {T = A} (Err x)) x.used x.pairs
      turn_stops x q h =
          let k = read_stopped hs d at b of_b x q in
          rw k.used
          (reads_pairs (read_to_end n o t at.to of_b (refused x.value) h (ap (λ y. turn_end worth y) k.is)) (omega (arith, k.pairs, at.no_pairs, p)))

-- ---- the last, told as one turn

module _ {A : Type 0} {whole : Exchange (Turn (Answer A))} {s : List ℕ} (hs : length s < 2 ^ 64) {V : Type 0} (d : Counted V)
    (t : Exchange (Turn (Answer A))) (at : Read whole s t d.used d.pairs) {T : Type 0} (worth : T → Turn (Answer A)) (b : Result (Counted T) (Counted Refusal))
    {w : ℕ} (r : Reads t (part d.used s) (turn_end worth b) (used_of b) w) (p : pairs_of b ≡ 0) where
  pub read_last_brought : (x : Counted T) → Ok x ≡ behind d b → Reads whole s (yields (worth x.value)) x.used x.pairs
  read_last_brought x q =
      let k = read_brought hs d at b (reads_pairs r p) x q in
      rw k.used (reads_pairs (rw (ap (λ y. turn_end worth y) k.is) at (read_to_last t at.to r)) (omega (arith, k.pairs, at.no_pairs, p)))

  pub read_last_stopped : (x : Counted Refusal) → Err x ≡ behind d b → Reads whole s (found_end (refused x.value)) x.used x.pairs
  read_last_stopped x q =
      let k = read_stopped hs d at b (reads_pairs r p) x q in
      rw k.used (reads_pairs (rw (ap (λ y. turn_end worth y) k.is) at (read_to_last t at.to r)) (omega (arith, k.pairs, at.no_pairs, p)))
