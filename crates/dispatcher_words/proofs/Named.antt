-- Whether the numbers of a dispatcher name something: asked of each, all its bits.
use mathlib.Core.Path.{◌≡◌, refl, sym}
use mathlib.Core.Bool.{Bool, true, false, and-false, ◌||◌}
use mathlib.Core.List.{List}
use Prim.Native.Nat.{ℕ, ◌≤◌, ◌<◌}
use lib.Dec.{eqb, ltb}
use lib.ListN.{get_or}
use borrow.Author.Tests.{lt-ltb, le-ltb, eqb-true, eqb-false, ne_eqb}
use Rattle.dispatcher_words.specs.Layout.{mouse_at, last_at}
use Rattle.dispatcher_words.specs.Words.{names_all}

one_of : (a b d : Bool) → ((a ≡ true → ⊥) → (b ≡ true → ⊥) → (d ≡ true → ⊥) → ⊥) → a || (b || d) ≡ true
one_of true b d h = refl
one_of false true d h = refl
one_of false false true h = refl
one_of false false false h = absurd (h (λ e. absurd (cc)) (λ e. absurd (cc)) (λ e. absurd (cc)))

asked_last : (b : Bool) (n : ℕ) → (b ≡ true → n < 4) → (b ≡ false → 4 ≤ n) → b ≡ ltb n 4
asked_last true n y x = sym (lt-ltb n 4 (y refl))
asked_last false n y x = sym (le-ltb n 4 (x refl))

module _ (ws : List ℕ) where
  -- the mouse's identity is 0, 3 or 4
  pub identity_named : ((get_or ws mouse_at 0 ≡ 0 → ⊥) → (get_or ws mouse_at 0 ≡ 3 → ⊥) → (get_or ws mouse_at 0 ≡ 4 → ⊥) → ⊥)
      → (b : Bool) → (b ≡ true → get_or ws last_at 0 < 4) → (b ≡ false → 4 ≤ get_or ws last_at 0) → b ≡ names_all ws
  unfolding names_all
  identity_named h b y x =
      let m = get_or ws mouse_at 0 in
      rw (one_of (eqb m 0) (eqb m 3) (eqb m 4) (λ p q r. h (λ e. p (rw e refl)) (λ e. q (rw e refl)) (λ e. r (rw e refl)))) (asked_last b (get_or ws last_at 0) y x)

  pub identity_unnamed : (get_or ws mouse_at 0 ≡ 0 → ⊥) → (get_or ws mouse_at 0 ≡ 3 → ⊥) → (get_or ws mouse_at 0 ≡ 4 → ⊥) → false ≡ names_all ws
  unfolding names_all
  identity_unnamed p q r = rw (ne_eqb _ _ p, ne_eqb _ _ q, ne_eqb _ _ r) refl
