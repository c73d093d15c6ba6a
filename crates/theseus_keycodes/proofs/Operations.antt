-- A flag that is put in, taken out or turned over, in the Rust's word and in ours.
use mathlib.Core.Path.{◌≡◌, refl, ap, sym, ◌∙◌}
use mathlib.Core.Bool.{Bool, true, false, not, xor, ◌&&◌, ◌||◌, and-eq-true_iff, false≢true}
use mathlib.Core.List.{List, [], ◌∷◌}
use Prim.Native.Nat.{ℕ, ◌<◌, ◌^◌}
use lib.Dec.{eqb, ltb}
use borrow.Author.Tests.{eq-eqb, eqb-true, ltb-true}
use Rattle.bits.specs.Bits.{bit, put_bit, bitwise, without}
use Rattle.bits.proofs.Bits.{bit_put_same, bit_put_other, bit-bitwise, bit-pow_same, bit-pow_other}
use Rattle.theseus_keycodes.specs.Flags.{flag_numbers, renumbered_by, renumbered}
use Rattle.theseus_keycodes.proofs.Renumbered.{pairs, put_by}

-- only the bits of the rows matter, and each is one of a word's sixteen
abbrev below : List (ℕ × ℕ) → Bool
below [] = true
below (row ∷ rows) = ltb row.0 16 && below rows

same_by : (x y : ℕ) → ((k : ℕ) → k < 16 → bit k x ≡ bit k y) → (rows : List (ℕ × ℕ)) → below rows ≡ true → renumbered_by rows x ≡ renumbered_by rows y
unfolding renumbered_by
same_by x y h [] t = refl
same_by x y h (row ∷ rows) t =
    let p = (and-eq-true_iff (ltb row.0 16) (below rows)).0 t in
    rw (h row.0 (ltb-true row.0 16 p.0), same_by x y h rows p.1) refl

-- an operation with one flag's mask, which changes that flag alone
module _ (f : Bool → Bool → Bool) (g : Bool → Bool) (on : (b : Bool) → f b true ≡ g b) (off : (b : Bool) → f b false ≡ b) (r w : ℕ) where
  at_bit : (k : ℕ) → k < 16 → (c : Bool) → eqb k r ≡ c → bit k (bitwise f 16 w (2 ^ r)) ≡ bit k (put_bit r (g (bit r w)) w)
  at_bit k l true e =
      rw (eqb-true k r e) (bit-bitwise f 16 r w (2 ^ r) (rw (sym (eqb-true k r e)) l) ∙ ap (f (bit r w)) (bit-pow_same r) ∙ on (bit r w) ∙ sym (bit_put_same r (g (bit r w)) w))
  at_bit k l false e =
      let n : (k ≡ r → ⊥) = λ p. false≢true (sym e ∙ eq-eqb k r p) in
      bit-bitwise f 16 k w (2 ^ r) l ∙ ap (f (bit k w)) (bit-pow_other k r n) ∙ off (bit k w) ∙ sym (bit_put_other k r (g (bit r w)) w n)

  changed : renumbered (bitwise f 16 w (2 ^ r)) ≡ renumbered (put_bit r (g (bit r w)) w)
  changed = same_by (bitwise f 16 w (2 ^ r)) (put_bit r (g (bit r w)) w) (λ k l. at_bit k l (eqb k r) refl) flag_numbers refl

or_on : (b : Bool) → (b || true) ≡ true
or_on true = refl
or_on false = refl

or_off : (b : Bool) → (b || false) ≡ b
or_off true = refl
or_off false = refl

without_on : (b : Bool) → without b true ≡ false
without_on true = refl
without_on false = refl

without_off : (b : Bool) → without b false ≡ b
without_off true = refl
without_off false = refl

xor_on : (b : Bool) → xor b true ≡ not b
unfolding xor
xor_on true = refl
xor_on false = refl

xor_off : (b : Bool) → xor b false ≡ b
unfolding xor
xor_off true = refl
xor_off false = refl

module _ (r o : ℕ) (p : pairs r o flag_numbers ≡ true) (w : ℕ) where
  pub sets : renumbered (bitwise ◌||◌ 16 w (2 ^ r)) ≡ put_bit o true (renumbered w)
  sets = changed ◌||◌ (λ b. true) or_on or_off r w ∙ put_by r true w o flag_numbers p

  pub clears : renumbered (bitwise without 16 w (2 ^ r)) ≡ put_bit o false (renumbered w)
  clears = changed without (λ b. false) without_on without_off r w ∙ put_by r false w o flag_numbers p

  pub flips : bit o (renumbered w) ≡ bit r w → renumbered (bitwise xor 16 w (2 ^ r)) ≡ put_bit o (not (bit o (renumbered w))) (renumbered w)
  flips h =
      changed xor not xor_on xor_off r w ∙ put_by r (not (bit r w)) w o flag_numbers p
      ∙ ap (λ (c : Bool). put_bit o (not c) (renumbered w)) (sym h)
