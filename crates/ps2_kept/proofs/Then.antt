-- One exchange after another with the bytes that are kept, from what the code's calls answered.
use Prim.Native.Nat.{ℕ, ◌+◌, ◌*◌, ◌≤◌, ◌<◌, ◌^◌}
use native.Mathlib.Omega.{arith}
use mathlib.Core.List.{List}
use mathlib.Core.Path.{◌≡◌, refl, ◌∙◌}
use lib.ListN.{length}
use Rattle.std.specs.Prelude.{Result, Ok, Err}
use Rattle.exchange.specs.Exchange.{Exchange, played, play, Reads}
use Rattle.exchange.specs.Answer.{Answer, on_given, and_then}
use Rattle.exchange.specs.Keeping.{Kept, kept_end, NoData}
use Rattle.exchange.specs.Parts.{part, restored}
use Rattle.exchange.specs.Position.{Reached}
use Rattle.exchange.proofs.Calls.{bind_reached, reached_last, reached_used_le, reached_pairs_le}
use Rattle.exchange.proofs.Keeping.{keeping-bind}
use Rattle.exchange.proofs.NoData.{keeping_after}
use Rattle.ps2_answers.specs.declared.Counted.{Counted}
use Rattle.ps2_answers.specs.declared.Refusal.{Refusal}
use Rattle.ps2_answers.specs.Answers.{ended, used_of, pairs_of, told, behind}
use Rattle.ps2_answers.proofs.Then.{sum_fits, part_restored}
use Rattle.ps2_kept.specs.declared.KeptBytes.{KeptBytes}
use Rattle.ps2_kept.specs.Added.{added_thrown, keeping_onto}
use Rattle.ps2_kept.specs.Promises.{told_kept}
use Rattle.ps2_kept.proofs.Sequence.{then, refused_plays, next, not_sent}

module _ {V T : Type 0} (a : Counted V) (k : KeptBytes) where
  pub told_kept-behind : (b : Result (Counted T) (Counted Refusal)) (l : List ℕ) → a.used + used_of b < 2 ^ 64 → a.pairs + pairs_of b < 2 ^ 64
      → told_kept (behind a b) k l ≡ played (kept_end (ended b) k) (a.used + used_of b) (a.pairs + pairs_of b) l
  told_kept-behind (Ok b) l h i = rw (sum_fits a.used b.used h, sum_fits a.pairs b.pairs i)
  told_kept-behind (Err e) l h i = rw (sum_fits a.used e.used h, sum_fits a.pairs e.pairs i)

-- ---- the first exchange, which keeps

module _ {A B : Type 0} (t : Exchange (Answer A)) (g : A → Exchange (Answer B)) (k k₂ : KeptBytes) (s l : List ℕ) {l' : List ℕ} where
  pub kept_first_steps : (a : Counted A) → told_kept (Ok a) k₂ l' ≡ play (keeping_onto k t) s l
      → Reached (keeping_onto k (and_then t g)) s l (keeping_onto k₂ (g a.value)) a.used a.pairs l'
  unfolding and_then
  kept_first_steps a r = rw (keeping-bind added_thrown (on_given g) k t) (bind_reached (keeping_onto k t) (then t (on_given g) k s l) s l r refl)

  pub kept_first_stops : (e : Counted Refusal) → told_kept {T = A} (Err e) k₂ l' ≡ play (keeping_onto k t) s l
      → told_kept {T = B} (Err e) k₂ l' ≡ play (keeping_onto k (and_then t g)) s l
  unfolding and_then
  kept_first_stops e r = rw (keeping-bind added_thrown (on_given g) k t) (refused_plays t g k s l k₂ e.value r)

-- ---- a first one that reads no data, so it keeps nothing: a sending, a write

module _ {A B : Type 0} (t : Exchange (Answer A)) (g : A → Exchange (Answer B)) (n : NoData t) (k : KeptBytes) (s l : List ℕ) {l' : List ℕ} where
  pub no_data_steps : (a : Counted A) → told (Ok a) l' ≡ play t s l → Reached (keeping_onto k (and_then t g)) s l (keeping_onto k (g a.value)) a.used a.pairs l'
  unfolding and_then
  no_data_steps a r = rw (keeping_after added_thrown k (on_given g) n) (bind_reached t (next t g n k s l) s l r refl)

  pub no_data_stops : (e : Counted Refusal) → told {T = A} (Err e) l' ≡ play t s l → told_kept {T = B} (Err e) k l' ≡ play (keeping_onto k (and_then t g)) s l
  unfolding and_then
  no_data_stops e r = rw (keeping_after added_thrown k (on_given g) n) (not_sent t g n k s l r e.value refl)

-- ---- the last, on what is left, with the counts and the bytes so far

module _ {A : Type 0} {W : Exchange (Kept KeptBytes (Answer A))} {s l : List ℕ} (hs : length s < 2 ^ 64) (hl : length l < 2 ^ 64) {V : Type 0} (d : Counted V)
    (t : Exchange (Kept KeptBytes (Answer A))) {l' : List ℕ} (at : Reached W s l t d.used d.pairs l') (b : Result (Counted A) (Counted Refusal)) (k : KeptBytes) where
  pub kept_then_ends : {m : List ℕ} → told_kept b k m ≡ play t (part d.used s) (part (2 * d.pairs) l')
      → told_kept (behind d b) k (restored (2 * d.pairs) l' m) ≡ play W s l
  kept_then_ends r =
      let u : d.used + used_of b ≤ length s = reached_used_le at t _ r in
      let w : 2 * (d.pairs + pairs_of b) ≤ length l = reached_pairs_le at t _ refl r in
      told_kept-behind d k b _ (omega arith) (omega arith) ∙ reached_last t at refl r

  -- it only reads: the log is as it was
  pub kept_then_reads_ends : Reads t (part d.used s) (kept_end (ended b) k) (used_of b) (pairs_of b) → told_kept (behind d b) k l' ≡ play W s l
  kept_then_reads_ends r =
      rw (part_restored (2 * d.pairs) l') at (kept_then_ends {m = part (2 * d.pairs) l'} (rw r.no_pairs (r.with_any (part (2 * d.pairs) l'))))
