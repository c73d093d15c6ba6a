-- The record that an operation leaves, from the end that the code tells.
use Prim.Native.Nat.{ℕ}
use mathlib.Core.List.{List}
use mathlib.Core.Path.{◌≡◌, sym, ap, ◌∙◌}
use Rattle.exchange.specs.Exchange.{End, Played, played}
use Rattle.exchange.specs.Left.{Left, record_after}

module _ {R A : Type 0} (passed : R) {o : Played (Left R A)} {e : End (Left R A)} {u w : ℕ} {l : List ℕ} {now : R} where
  -- the end that the answer tells is the play's, and so is the record after it
  pub record_after_lem : played e u w l ≡ o → now ≡ record_after passed e → (played e u w l ≡ o) × (now ≡ record_after passed o.end)
  record_after_lem r q = (r, q ∙ ap (λ (x : Played (Left R A)). record_after passed x.end) r)

  -- and back
  pub record_told : (played e u w l ≡ o) × (now ≡ record_after passed o.end) → now ≡ record_after passed e
  record_told k = k.1 ∙ sym (ap (λ (x : Played (Left R A)). record_after passed x.end) k.0)
