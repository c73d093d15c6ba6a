-- Totals together: in any order, and what joined sessions bring.
use mathlib.Core.Path.{◌≡◌, ap, ap₂, sym, ◌∙◌}
use mathlib.Core.List.{List}
use Prim.Native.Nat.{ℕ, ◌+◌}
use native.Mathlib.Omega.{arith}
use lib.IntN.{ℤ, ◌+ℤ◌, +ℤ_assoc, +ℤ_comm}
use lib.ListN.{get_or}
use Rattle.report.specs.declared.sessions.Totals.{Totals}
use Rattle.report.specs.Totals.{Session, totals_of}
use Rattle.report.proofs.Keys.{at_key, keys_same}
use Rattle.report.proofs.SessionsJoining.{joined_presses, joined_packets, joined_x, joined_y}
use Rattle.report.specs.Adding.{plus}
use Rattle.report.specs.Sessions.{join}

-- totals by their parts
same_totals : {p q : List ℕ} {m n : ℕ} {a b c d : ℤ} → p ≡ q → m ≡ n → a ≡ b → c ≡ d
    → ◌≡◌ {A = Totals} (record { presses = p; packets = m; x = a; y = c }) (record { presses = q; packets = n; x = b; y = d })
same_totals e f g h = rw (e, f, g, h)

module _ (r a b : Totals) where
  pub plus_assoc : plus (plus r a) b ≡ plus r (plus a b)
  plus_assoc =
      same_totals
      (keys_same _ _ (λ key h. rw (at_key (λ k. get_or r.presses k 0 + get_or a.presses k 0) key h, at_key (λ k. get_or a.presses k 0 + get_or b.presses k 0) key h) (omega arith)))
      (omega arith)
      (+ℤ_assoc r.x a.x b.x)
      (+ℤ_assoc r.y a.y b.y)

  swap_sums : (u v w : ℤ) → (u +ℤ v) +ℤ w ≡ (u +ℤ w) +ℤ v
  swap_sums u v w = +ℤ_assoc u v w ∙ ap (λ (z : ℤ). u +ℤ z) (+ℤ_comm v w) ∙ sym (+ℤ_assoc u w v)

  pub plus_swapped : plus (plus r a) b ≡ plus (plus r b) a
  plus_swapped =
      same_totals
      (keys_same _ _ (λ key h. rw (at_key (λ k. get_or r.presses k 0 + get_or a.presses k 0) key h, at_key (λ k. get_or r.presses k 0 + get_or b.presses k 0) key h) (omega arith)))
      (omega arith)
      (swap_sums r.x a.x b.x)
      (swap_sums r.y a.y b.y)

-- what two joined sessions of one identity bring
pub join_totals : (s t : Session) → s.id ≡ t.id → totals_of (join s t) ≡ plus (totals_of s) (totals_of t)
join_totals s t e =
    same_totals
    (keys_same _ _ (λ key h. joined_presses key s.events t.events ∙ sym (ap₂ ◌+◌ (at_key _ key h) (at_key _ key h))))
    (joined_packets s.id t.id s.mouse t.mouse e)
    (joined_x s.id t.id s.mouse t.mouse e)
    (joined_y s.id t.id s.mouse t.mouse e)
