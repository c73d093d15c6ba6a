-- What code asks of the counts of its calls, in the form in which it asks: a part that is lent on is within its slice, and no sum or product of counts wraps. At such a goal `search counts` finds the law and the calls' contracts that it cites.
use Prim.Native.Nat.{ℕ, ◌+◌, ◌*◌, ◌^◌, ◌<◌}
use native.Mathlib.Omega.{arith}
use mathlib.Core.List.{List}
use mathlib.Core.Path.{◌≡◌, refl}
use lib.ListN.{length}
use mir.Syntax.{w64}
use mir.Val.{Fits}
use Rattle.exchange.specs.Exchange.{Exchange, End, played, play, Writes}
use Rattle.exchange.specs.Parts.{part}
use Rattle.exchange.proofs.Position.{call_used_le, call_pairs_le, call_tail_le, call_log_length, reads_used_le, writes_pairs_le, writes_tail_le}
use Rattle.exchange.proofs.Calls.{left_pairs_le}

-- ---- where the log's tail begins, `2 * pairs`

pub tail_fits : {A : Type 0} (t : Exchange A) (s l : List ℕ) {e : End A} {u w : ℕ} {l' : List ℕ} → played e u w l' ≡ play t s l
    → length l < 2 ^ 64 → Fits w64 (2 * w)
tail_fits t s l r h = record { fits = omega (arith, call_pairs_le t s l r) }

pub tail_fits_writes : {A : Type 0} (t : Exchange A) (l : List ℕ) {e : End A} {u w : ℕ} {l' : List ℕ} → Writes t l e u w l'
    → length l < 2 ^ 64 → Fits w64 (2 * w)
tail_fits_writes t l r h = record { fits = omega (arith, writes_pairs_le r) }

-- ---- the pairs of two calls, the second on the tail that the first left

pub pairs_fit : {A B : Type 0} (t : Exchange A) (n : Exchange B) (s l x : List ℕ) {e : End A} {u w : ℕ} {l' : List ℕ} {e₂ : End B} {u₂ w₂ : ℕ} {m : List ℕ}
    → played e u w l' ≡ play t s l → played e₂ u₂ w₂ m ≡ play n x (part (2 * w) l') → length l < 2 ^ 64 → Fits w64 (w + w₂)
pairs_fit t n s l x {w = w} {l' = l'} r r₂ h = record { fits = omega (arith, left_pairs_le n x l' w (call_tail_le t s l r) refl r₂, call_log_length t s l r) }

pub ruleset counts = (call_used_le, call_tail_le, reads_used_le, writes_tail_le, tail_fits, tail_fits_writes)
