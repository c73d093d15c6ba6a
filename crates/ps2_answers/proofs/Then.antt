-- One exchange after another, from what the code's calls answered: what is left of the whole, where a refusal ends it, and its last exchange.
use Prim.Native.Nat.{ℕ, ◌+◌, ◌*◌, ◌≤◌, ◌<◌, ◌^◌}
use native.Mathlib.Omega.{arith}
use mathlib.Core.List.{List}
use mathlib.Core.Path.{◌≡◌, refl, sym, ap, ◌∙◌}
use lib.ListN.{length, take-append-drop}
use Rattle.std.specs.Prelude.{Result, Ok, Err, IsErrAnd}
use Rattle.std.proofs.lemmas.Result.{err_from_is_err_and}
use Rattle.exchange.specs.Exchange.{Exchange, done, End, played, play, Reads, Writes}
use Rattle.exchange.specs.Answer.{Answer, gives, on_given, and_then}
use Rattle.exchange.specs.Parts.{part, restored}
use Rattle.exchange.specs.Position.{Reached}
use Rattle.exchange.proofs.Calls.{bind_yields, bind_reached, reached_last, reached_call, reached_used_le, reached_used_le_reads, reached_pairs_le, writes_yields}
use Rattle.exchange.proofs.Parts.{part_drop, restored_append}
use Rattle.exchange.proofs.Position.{reached_done, writes_pairs_le}
use Rattle.ps2_answers.specs.declared.Counted.{Counted}
use Rattle.ps2_answers.specs.declared.Refusal.{Refusal}
use Rattle.ps2_answers.specs.Refusals.{refused}
use Rattle.ps2_answers.specs.Answers.{counted, ended, used_of, pairs_of, told, sum, behind}
use Rattle.ps2_answers.proofs.Refusals.{bind_refused}

-- a sum that fits is the sum
pub sum_fits : (m n : ℕ) → m + n < 2 ^ 64 → sum m n ≡ m + n
sum_fits m n h = omega arith

-- the counts of what came before, added to an answer, are added to what it tells
module _ {V T : Type 0} (a : Counted V) where
  pub told-behind : (b : Result (Counted T) (Counted Refusal)) (l : List ℕ) → a.used + used_of b < 2 ^ 64 → a.pairs + pairs_of b < 2 ^ 64
      → told (behind a b) l ≡ played (ended b) (a.used + used_of b) (a.pairs + pairs_of b) l
  told-behind (Ok b) l h k = rw (sum_fits a.used b.used h, sum_fits a.pairs b.pairs k)
  told-behind (Err e) l h k = rw (sum_fits a.used e.used h, sum_fits a.pairs e.pairs k)

-- an answer with the counts of what came before it, taken apart
pub record Brought {V T : Type 0} (a : Counted V) (b : Result (Counted T) (Counted Refusal)) (x : Counted T) : Type 0 where
  pub is : b ≡ Ok (counted x.value (used_of b) (pairs_of b))
  pub used : x.used ≡ a.used + used_of b
  pub pairs : x.pairs ≡ a.pairs + pairs_of b

pub record Stopped {V T : Type 0} (a : Counted V) (b : Result (Counted T) (Counted Refusal)) (e : Counted Refusal) : Type 0 where
  pub is : b ≡ Err (counted e.value (used_of b) (pairs_of b))
  pub used : e.used ≡ a.used + used_of b
  pub pairs : e.pairs ≡ a.pairs + pairs_of b

module _ {V T : Type 0} (a : Counted V) where
  pub brought : (b : Result (Counted T) (Counted Refusal)) → a.used + used_of b < 2 ^ 64 → a.pairs + pairs_of b < 2 ^ 64
      → (x : Counted T) → Ok x ≡ behind a b → Brought a b x
  brought (Ok y) h k x q =
      let p : x ≡ counted y.value (sum a.used y.used) (sum a.pairs y.pairs) = cc in
      rw p (record { is = refl; used = sum_fits a.used y.used h; pairs = sum_fits a.pairs y.pairs k })
  brought (Err y) h k x q = cc

  pub stopped : (b : Result (Counted T) (Counted Refusal)) → a.used + used_of b < 2 ^ 64 → a.pairs + pairs_of b < 2 ^ 64
      → (e : Counted Refusal) → Err e ≡ behind a b → Stopped a b e
  stopped (Ok y) h k e q = cc
  stopped (Err y) h k e q =
      let p : e ≡ counted y.value (sum a.used y.used) (sum a.pairs y.pairs) = cc in
      rw p (record { is = refl; used = sum_fits a.used y.used h; pairs = sum_fits a.pairs y.pairs k })

-- ---- a part that is all, and one that is left as it is

pub all_left : (l : List ℕ) (k : ℕ) → k ≡ 0 → part k l ≡ l
all_left l k h = part_drop k l ∙ rw h

pub all_restored : (l m : List ℕ) (k : ℕ) → k ≡ 0 → restored k l m ≡ m
all_restored l m k h = restored_append k l m ∙ rw h

pub part_restored : (k : ℕ) (l : List ℕ) → restored k l (part k l) ≡ l
part_restored k l = restored_append k l (part k l) ∙ rw (part_drop k l, take-append-drop)

-- ---- an exchange that only reads, or only writes, with any log or script

module _ {T : Type 0} {t : Exchange (Answer T)} (r : Result (Counted T) (Counted Refusal)) where
  pub reads_told : {s : List ℕ} → Reads t s (ended r) (used_of r) (pairs_of r) → (l : List ℕ) → told r l ≡ play t s l
  reads_told x l = rw x.no_pairs (x.with_any l)

  pub writes_told : {l l' : List ℕ} → Writes t l (ended r) (used_of r) (pairs_of r) l' → (s : List ℕ) → told r l' ≡ play t s l
  writes_told x s = rw x.no_bytes (x.with_any s)

-- ---- the first exchange

module _ {A B : Type 0} (t : Exchange (Answer A)) (g : A → Exchange (Answer B)) (s l : List ℕ) {l' : List ℕ} where
  pub first_steps : (a : Counted A) → told (Ok a) l' ≡ play t s l → Reached (and_then t g) s l (g a.value) a.used a.pairs l'
  unfolding and_then
  first_steps a r = bind_reached t (on_given g) s l r refl

  pub first_stops : (e : Counted Refusal) → told {T = A} (Err e) l' ≡ play t s l → told {T = B} (Err e) l' ≡ play (and_then t g) s l
  unfolding and_then
  first_stops e r = bind_refused t g s l r e.value refl

-- what follows it may end with a lack too, and may be lent any part that is as long
module _ {A B : Type 0} (t : Exchange (Answer A)) (g : A → Exchange (Answer B)) (s l : List ℕ) (a : Result (Counted A) (Counted Refusal)) {l' : List ℕ} (r : told a l' ≡ play t s l) where
  pub done_then : (x : Counted A) → a ≡ Ok x → {e₂ : End (Answer B)} {k u₂ w₂ : ℕ} {m : List ℕ} → k ≡ 2 * x.pairs
      → played e₂ u₂ w₂ m ≡ play (g x.value) (part x.used s) (part k l')
      → played e₂ (x.used + u₂) (x.pairs + w₂) (restored k l' m) ≡ play (and_then t g) s l
  unfolding and_then
  done_then x q h r₂ = bind_yields t (on_given g) s l (rw q at r) refl h r₂

  pub refused_then : (x : Counted Refusal) → a ≡ Err x → played (refused x.value) x.used x.pairs l' ≡ play (and_then t g) s l
  unfolding and_then
  refused_then x q = bind_refused t g s l (rw q at r) x.value refl

-- ---- a next one, on what is left, with the counts so far

-- whatever it does, its answer with the counts so far can be taken apart
module _ {A : Type 0} {whole rest : Exchange A} {s l : List ℕ} (hs : length s < 2 ^ 64) (hl : length l < 2 ^ 64) {V : Type 0} (d : Counted V) {l' : List ℕ}
    (at : Reached whole s l rest d.used d.pairs l') {C T : Type 0} (t : Exchange C) {e : End C} (b : Result (Counted T) (Counted Refusal)) {m : List ℕ}
    (r : played e (used_of b) (pairs_of b) m ≡ play t (part d.used s) (part (2 * d.pairs) l')) where
  pub reached_brought : (x : Counted T) → Ok x ≡ behind d b → Brought d b x
  reached_brought x q =
      let u : d.used + used_of b ≤ length s = reached_used_le at t _ r in
      let w : 2 * (d.pairs + pairs_of b) ≤ length l = reached_pairs_le at t _ refl r in
      brought d b (omega arith) (omega arith) x q

  pub reached_stopped : (x : Counted Refusal) → Err x ≡ behind d b → Stopped d b x
  reached_stopped x q =
      let u : d.used + used_of b ≤ length s = reached_used_le at t _ r in
      let w : 2 * (d.pairs + pairs_of b) ≤ length l = reached_pairs_le at t _ refl r in
      stopped d b (omega arith) (omega arith) x q

module _ {A : Type 0} {whole : Exchange (Answer A)} {s l : List ℕ} (hs : length s < 2 ^ 64) (hl : length l < 2 ^ 64) {V : Type 0} (d : Counted V) {l' : List ℕ} where
  -- the last
  module _ (t : Exchange (Answer A)) (at : Reached whole s l t d.used d.pairs l') (b : Result (Counted A) (Counted Refusal)) {m : List ℕ}
      (r : told b m ≡ play t (part d.used s) (part (2 * d.pairs) l')) where
    pub then_ends : told (behind d b) (restored (2 * d.pairs) l' m) ≡ play whole s l
    then_ends =
        let u : d.used + used_of b ≤ length s = reached_used_le at t _ r in
        let w : 2 * (d.pairs + pairs_of b) ≤ length l = reached_pairs_le at t _ refl r in
        told-behind d b _ (omega arith) (omega arith) ∙ reached_last t at refl r

  -- one that others follow
  module _ {B : Type 0} (t : Exchange (Answer B)) (g : B → Exchange (Answer A)) (at : Reached whole s l (and_then t g) d.used d.pairs l')
      (b : Result (Counted B) (Counted Refusal)) {m : List ℕ} (r : told b m ≡ play t (part d.used s) (part (2 * d.pairs) l')) where
    pub then_steps : (x : Counted B) → Ok x ≡ behind d b → Reached whole s l (g x.value) x.used x.pairs (restored (2 * d.pairs) l' m)
    unfolding and_then
    then_steps x q = on b r q
      where
        on : (b : Result (Counted B) (Counted Refusal)) → told b m ≡ play t (part d.used s) (part (2 * d.pairs) l') → Ok x ≡ behind d b
            → Reached whole s l (g x.value) x.used x.pairs (restored (2 * d.pairs) l' m)
        on (Ok y) r q =
            let u : d.used + y.used ≤ length s = reached_used_le at t _ r in
            let w : 2 * (d.pairs + y.pairs) ≤ length l = reached_pairs_le at t _ refl r in
            let i : d.used + y.used < 2 ^ 64 = omega arith in
            let k : d.pairs + y.pairs < 2 ^ 64 = omega arith in
            let p : x ≡ counted y.value (sum d.used y.used) (sum d.pairs y.pairs) = cc in
            rw (p, sum_fits d.used y.used i, sum_fits d.pairs y.pairs k) (reached_call t (on_given g) at refl r refl)
        on (Err e) r q = cc

    pub then_stops : (e : Counted Refusal) → Err e ≡ behind d b → told {T = A} (Err e) (restored (2 * d.pairs) l' m) ≡ play whole s l
    unfolding and_then
    then_stops e q = on b r q
      where
        on : (b : Result (Counted B) (Counted Refusal)) → told b m ≡ play t (part d.used s) (part (2 * d.pairs) l') → Err e ≡ behind d b
            → told {T = A} (Err e) (restored (2 * d.pairs) l' m) ≡ play whole s l
        on (Ok y) r q = cc
        on (Err y) r q =
            let p : e ≡ counted y.value (sum d.used y.used) (sum d.pairs y.pairs) = cc in
            rw p (then_ends (and_then t g) at (Err y) (bind_refused t g (part d.used s) (part (2 * d.pairs) l') r y.value refl))

  -- ---- one that only reads: the log is as it was

  module _ (t : Exchange (Answer A)) (at : Reached whole s l t d.used d.pairs l') (b : Result (Counted A) (Counted Refusal))
      (r : Reads t (part d.used s) (ended b) (used_of b) (pairs_of b)) where
    pub then_reads_ends : told (behind d b) l' ≡ play whole s l
    then_reads_ends = rw (part_restored (2 * d.pairs) l') at (then_ends t at b (reads_told b r (part (2 * d.pairs) l')))

  module _ {B : Type 0} (t : Exchange (Answer B)) (g : B → Exchange (Answer A)) (at : Reached whole s l (and_then t g) d.used d.pairs l')
      (b : Result (Counted B) (Counted Refusal)) (r : Reads t (part d.used s) (ended b) (used_of b) (pairs_of b)) where
    pub then_reads_steps : (x : Counted B) → Ok x ≡ behind d b → Reached whole s l (g x.value) x.used x.pairs l'
    then_reads_steps x q = rw (part_restored (2 * d.pairs) l') at (then_steps t g at b (reads_told b r (part (2 * d.pairs) l')) x q)

    pub then_reads_stops : (e : Counted Refusal) → Err e ≡ behind d b → told {T = A} (Err e) l' ≡ play whole s l
    then_reads_stops e q = rw (part_restored (2 * d.pairs) l') at (then_stops t g at b (reads_told b r (part (2 * d.pairs) l')) e q)

    pub then_reads_pairs : (x : Counted B) → Ok x ≡ behind d b → x.pairs ≡ d.pairs
    then_reads_pairs x q =
        let u : d.used + used_of b ≤ length s = reached_used_le_reads at t r in
        let w : 2 * d.pairs ≤ length l' = at.pairs_le in
        let k = brought d b (omega arith) (omega (arith, r.no_pairs, at.same_length)) x q in
        omega (arith, k.pairs, r.no_pairs)

-- nothing is left
module _ {A : Type 0} {whole : Exchange (Answer A)} {s l l' : List ℕ} where
  pub given_here : (x : Counted A) → Reached whole s l (done (gives x.value)) x.used x.pairs l' → told (Ok x) l' ≡ play whole s l
  given_here x at = reached_done at

-- ---- each only writes

same_end : {A : Type 0} {t : Exchange A} {l m : List ℕ} {e : End A} {u w w₂ : ℕ} → w ≡ w₂ → u ≡ 0 → Writes t l e 0 w m → Writes t l e u w₂ m
same_end p q x = record { with_any = λ s. rw p at (x.with_any s); no_bytes = q }

module _ {A B : Type 0} (t : Exchange (Answer A)) (g : A → Exchange (Answer B)) (l : List ℕ) {l' : List ℕ} where
  pub writes_first_stops : (e : Counted Refusal) → Writes t l (ended {T = A} (Err e)) e.used e.pairs l' → Writes (and_then t g) l (ended {T = B} (Err e)) e.used e.pairs l'
  unfolding and_then
  writes_first_stops e r =
      record { with_any = λ s. bind_refused t g s l (r.with_any s) e.value refl; no_bytes = r.no_bytes }

  module _ (hl : length l < 2 ^ 64) (a : Counted A) (r : Writes t l (ended (Ok a)) a.used a.pairs l') {m : List ℕ} where
    pub writes_then_ends : (b : Result (Counted B) (Counted Refusal)) → Writes (g a.value) (part (2 * a.pairs) l') (ended b) (used_of b) (pairs_of b) m
        → Writes (and_then t g) l (ended (behind a b)) (used_of (behind a b)) (pairs_of (behind a b)) (restored (2 * a.pairs) l' m)
    unfolding and_then
    writes_then_ends (Ok y) x =
        let z : Writes (and_then t g) l (ended (Ok y)) 0 (a.pairs + y.pairs) (restored (2 * a.pairs) l' m) = writes_yields t (on_given g) l r refl refl x in
        let k : 2 * (a.pairs + y.pairs) ≤ length l = writes_pairs_le z in
        same_end (sym (sum_fits a.pairs y.pairs (omega arith))) (omega (arith, r.no_bytes, x.no_bytes)) z
    writes_then_ends (Err y) x =
        let z : Writes (and_then t g) l (ended (Err y)) 0 (a.pairs + y.pairs) (restored (2 * a.pairs) l' m) = writes_yields t (on_given g) l r refl refl x in
        let k : 2 * (a.pairs + y.pairs) ≤ length l = writes_pairs_le z in
        same_end (sym (sum_fits a.pairs y.pairs (omega arith))) (omega (arith, r.no_bytes, x.no_bytes)) z

-- ---- a refusal that leaves by `?` is the one that was met

pub exit : {T : Type 0} (r : Result (Counted T) (Counted Refusal)) (e : Counted Refusal) → IsErrAnd r (λ x. x ≡ e) → r ≡ Err e
exit r e h = let p = err_from_is_err_and r h in p.1 ∙ ap (λ x. Err x) p.2
