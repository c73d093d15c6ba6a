-- Quotient times packets plus remainder is the sum, with a remainder from 0 on and below the packets; and no other pair of numbers has that.
use mathlib.Core.Path.{◌≡◌, ap, sym, ◌∙◌}
use Prim.Native.Nat.{ℕ, zero, suc, ◌+◌, ◌-◌, ◌*◌, ◌/◌, ◌%◌, ◌<◌}
use native.Mathlib.Nat.{suc-mul, div-add-mod', mod-lt, div-eq_of_lt-le}
use native.Mathlib.Numerals.{add-one}
use native.Mathlib.Omega.{arith}
use lib.IntN.{ℤ, pos, negsuc, neg_ℤ, ◌+ℤ◌}
use borrow.Author.Tests.{lt-ltb}
use Rattle.report.specs.Mean.{Divides, quotient_of, remainder_of}

-- a number below 0 with a smaller one added
neg_plus : (t r : ℕ) → r < t → neg_ℤ (pos t) +ℤ pos r ≡ negsuc (t - suc r)
neg_plus zero r h = absurd (omega arith)
neg_plus (suc t) r h = rw (lt-ltb r (suc t) h)

pub mean_divides : (sum : ℤ) (n : ℕ) → 0 < n → Divides sum n (quotient_of sum n) (remainder_of sum n)
mean_divides (pos s) n h = record { whole = ap pos (div-add-mod' s n); below = mod-lt s h }
mean_divides (negsuc k) n h =
    let m = mod-lt k h in
    let d = div-add-mod' k n in
    let t = suc-mul (k / n) n in
    let low : n - 1 - k % n < suc (k / n) * n = omega arith in
    let is : suc (k / n) * n - suc (n - 1 - k % n) ≡ k = omega arith in
    record { whole = neg_plus (suc (k / n) * n) (n - 1 - k % n) low ∙ ap negsuc is; below = omega arith }

-- in ℕ
module _ (s n a r : ℕ) (e : a * n + r ≡ s) (h : r < n) where
  div_alone : s / n ≡ a
  div_alone = div-eq_of_lt-le n (omega arith) (let m : (a + 1) * n ≡ a * n + n = next_mul in omega arith)
    where
      next_mul : (a + 1) * n ≡ a * n + n
      next_mul = rw (add-one a) (suc-mul a n)

  mod_alone : s % n ≡ r
  mod_alone = let d = div-add-mod' s n in let q : s / n * n ≡ a * n = ap (λ (x : ℕ). x * n) div_alone in omega arith

pub mean_alone : (sum : ℤ) (n : ℕ) (q : ℤ) (r : ℕ) → Divides sum n q r → (q ≡ quotient_of sum n) × (r ≡ remainder_of sum n)
mean_alone (pos s) n (pos a) r d =
    let e : a * n + r ≡ s = cc d.whole in
    (ap pos (sym (div_alone s n a r e d.below)), sym (mod_alone s n a r e d.below))
mean_alone (pos s) n (negsuc a) r d =
    let t = suc-mul a n in
    let low : r < suc a * n = omega (arith, d.below) in
    let e : negsuc (suc a * n - suc r) ≡ pos s = sym (neg_plus (suc a * n) r low) ∙ d.whole in
    absurd (let z : ◌≡◌ {A = ℕ} 0 1 = cc in omega arith)
mean_alone (negsuc k) n (pos a) r d =
    let e : pos (a * n + r) ≡ negsuc k = d.whole in
    absurd (let z : ◌≡◌ {A = ℕ} 0 1 = cc in omega arith)
mean_alone (negsuc k) n (negsuc a) r d =
    let t = suc-mul a n in
    let b = d.below in
    let low : r < suc a * n = omega arith in
    let e : negsuc (suc a * n - suc r) ≡ negsuc k = sym (neg_plus (suc a * n) r low) ∙ d.whole in
    let f : suc a * n - suc r ≡ k = cc in
    let g : a * n + (n - suc r) ≡ k = omega arith in
    let u : n - suc r < n = omega arith in
    let m = mod_alone k n a (n - suc r) g u in
    (ap negsuc (sym (div_alone k n a (n - suc r) g u)), omega arith)
