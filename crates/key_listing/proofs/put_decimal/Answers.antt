-- `key_listing::put_decimal` meets its contract: one, two or three digits, by the size of the number.
use native.Mathlib.Omega.{arith}
use mathlib.Core.List.{[], ◌∷◌}
use mathlib.Core.Path.{◌≡◌}
use Prim.Native.Nat.{ℕ, ◌<◌, ◌≤◌}
use Rattle.std.specs.Prelude.{◌/◌, ◌%◌}
use borrow.Author.Tests.{lt-ltb, le-ltb}
use Rattle.buffer.specs.declared.Writer.{Writer}
use Rattle.buffer.specs.Writer.{Puts}
use Rattle.buffer.proofs.Buffer.{puts_then}
use Rattle.key_listing.specs.Text.{digit, decimal}
use Rattle.key_listing.proofs.put_decimal.Goals.{then-n-ge100, else-n-ge100, then-n-ge10, else-n-ge10}
use Rattle.key_listing.proofs.put_decimal.Goals as goal

one : (n : ℕ) {p q : Writer} → n < 10 → Puts (digit (n % 10) ∷ []) p q → Puts (decimal n) p q
unfolding decimal
one n l a = rw (lt-ltb n 10 l) a

two : (n : ℕ) {p q r : Writer} → 10 ≤ n → n < 100 → Puts (digit (n / 10 % 10) ∷ []) p q → Puts (digit (n % 10) ∷ []) q r → Puts (decimal n) p r
unfolding decimal
two n l m a b = rw (le-ltb n 10 l, lt-ltb n 100 m) (puts_then a b)

three : (n : ℕ) {p q r s : Writer} → 100 ≤ n → n < 256 → Puts (digit (n / 10 / 10) ∷ []) p q → Puts (digit (n / 10 % 10) ∷ []) q r → Puts (digit (n % 10) ∷ []) r s → Puts (decimal n) p s
unfolding decimal
three n l m a b d =
    let e : n / 10 / 10 % 10 ≡ n / 10 / 10 = omega arith in
    let f : 10 ≤ n = omega arith in
    rw (le-ltb n 10 f, le-ltb n 100 l, e) (puts_then (puts_then a b) d)

pub returns : goal.returns
returns c =
    elim c.if-n-ge100.branch [
      | then-n-ge100 v ↦
          elim c.if-n-ge10.branch [
            | then-n-ge10 w ↦ three _ v.if-n-ge100.true c.ranges.n.fits v.put_digit.ensures (rw v.out-is at w.put_digit-then-n-ge10.ensures) (rw w.out-is at c.put_digit-2.ensures)
            | else-n-ge10 w ↦ absurd (omega (arith, v.if-n-ge100.true, w.if-n-ge10.false))
          ]
      | else-n-ge100 v ↦
          elim c.if-n-ge10.branch [
            | then-n-ge10 w ↦ two _ w.if-n-ge10.true v.if-n-ge100.false (rw v.out-is at w.put_digit-then-n-ge10.ensures) (rw w.out-is at c.put_digit-2.ensures)
            | else-n-ge10 w ↦ one _ w.if-n-ge10.false (rw v.out-is at (rw w.out-is at c.put_digit-2.ensures))
          ]
    ]
