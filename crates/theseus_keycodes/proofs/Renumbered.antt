-- A word of flags in our numbers: which bits it has, and what becomes of it where the Rust's word changes a flag.
use mathlib.Core.Path.{◌≡◌, refl, sym, ap, ◌∙◌}
use mathlib.Core.Bool.{Bool, true, false, cond, ◌&&◌, not, and-eq-true_iff, false≢true}
use mathlib.Core.List.{List, [], ◌∷◌}
use Prim.Native.Nat.{ℕ}
use native.Mathlib.Omega.{arith}
use lib.Dec.{eqb, lit<}
use borrow.Author.Tests.{eq-eqb, eqb-true}
use Rattle.bits.specs.Bits.{bit, put_bit}
use Rattle.bits.proofs.Bits.{bit_put_same, bit_put_other, bit_above}
use Rattle.bits.proofs.PutBits.{put_put, put_comm}
use Rattle.theseus_keycodes.specs.Flags.{flag_numbers, renumbered_by, renumbered}

-- the bit that a row sends to place k
unfoldable pub look : List (ℕ × ℕ) → ℕ → ℕ → Bool
look [] k w = false
look (row ∷ rows) k w = cond (eqb k row.1) (bit row.0 w) (look rows k w)

put_read : (k j : ℕ) (v : Bool) (x : ℕ) (c : Bool) → eqb k j ≡ c → bit k (put_bit j v x) ≡ cond c v (bit k x)
put_read k j v x true e = rw (eqb-true k j e) (bit_put_same j v x)
put_read k j v x false e = bit_put_other k j v x (λ p. false≢true (sym e ∙ eq-eqb k j p))

pub read_by : (rows : List (ℕ × ℕ)) (k w : ℕ) → bit k (renumbered_by rows w) ≡ look rows k w
unfolding renumbered_by look
read_by [] k w = bit_above 0 k 0 (omega arith) (lit< tt)
read_by (row ∷ rows) k w =
    put_read k row.1 (bit row.0 w) (renumbered_by rows w) (eqb k row.1) refl
    ∙ ap (cond (eqb k row.1) (bit row.0 w)) (read_by rows k w)

pub read : (k w : ℕ) → bit k (renumbered w) ≡ look flag_numbers k w
read k w = read_by flag_numbers k w

-- ---- a flag of the Rust's word that changes

-- no row has the Rust's number r; a row has it with our number o, and no other row has either
abbrev apart : ℕ → List (ℕ × ℕ) → Bool
apart r [] = true
apart r (row ∷ rows) = not (eqb row.0 r) && apart r rows

abbrev pub pairs : ℕ → ℕ → List (ℕ × ℕ) → Bool
pairs r o [] = false
pairs r o (row ∷ rows) = cond (eqb row.0 r) (eqb row.1 o && apart r rows) (not (eqb row.1 o) && pairs r o rows)

unlike : (j k : ℕ) → not (eqb j k) ≡ true → j ≡ k → ⊥
unlike j k t e = false≢true (rw (eq-eqb j k e) at t)

module _ (r : ℕ) (v : Bool) (w : ℕ) where
  put_apart : (rows : List (ℕ × ℕ)) → apart r rows ≡ true → renumbered_by rows (put_bit r v w) ≡ renumbered_by rows w
  unfolding renumbered_by
  put_apart [] t = refl
  put_apart (row ∷ rows) t =
      let p = (and-eq-true_iff (not (eqb row.0 r)) (apart r rows)).0 t in
      rw (bit_put_other row.0 r v w (unlike row.0 r p.0), put_apart rows p.1) refl

  module _ (o : ℕ) where
    put_row : (row : ℕ × ℕ) (rows : List (ℕ × ℕ)) (c : Bool) → eqb row.0 r ≡ c
        → (pairs r o rows ≡ true → renumbered_by rows (put_bit r v w) ≡ put_bit o v (renumbered_by rows w))
        → cond c (eqb row.1 o && apart r rows) (not (eqb row.1 o) && pairs r o rows) ≡ true
        → put_bit row.1 (bit row.0 (put_bit r v w)) (renumbered_by rows (put_bit r v w))
        ≡ put_bit o v (put_bit row.1 (bit row.0 w) (renumbered_by rows w))
    put_row row rows true e rest t =
        let p = (and-eq-true_iff (eqb row.1 o) (apart r rows)).0 t in
        rw (eqb-true row.0 r e, eqb-true row.1 o p.0, bit_put_same r v w, put_apart rows p.1) (sym (put_put o v (bit r w) (renumbered_by rows w)))
    put_row row rows false e rest t =
        let p = (and-eq-true_iff (not (eqb row.1 o)) (pairs r o rows)).0 t in
        rw (bit_put_other row.0 r v w (λ q. false≢true (sym e ∙ eq-eqb row.0 r q)), rest p.1)
        (put_comm row.1 o (bit row.0 w) v (renumbered_by rows w) (unlike row.1 o p.0))

    pub put_by : (rows : List (ℕ × ℕ)) → pairs r o rows ≡ true → renumbered_by rows (put_bit r v w) ≡ put_bit o v (renumbered_by rows w)
    unfolding renumbered_by
    put_by [] t = absurd (false≢true t)
    put_by (row ∷ rows) t = put_row row rows (eqb row.0 r) refl (put_by rows) t
