-- Bytes in a number, found again.
use mathlib.Core.Path.{◌≡◌, refl, sym, ap, ◌∙◌}
use mathlib.Core.List.{List, ◌∷◌, ◌++◌}
use Prim.Native.Nat.{ℕ, zero, suc, ◌+◌, ◌*◌, ◌/◌, ◌%◌, ◌^◌, ◌<◌}
use native.Mathlib.Nat.{zero-add, mul_assoc, div-one, div-div-eq-div-mul, pow-suc, pow-succ', suc-add}
use native.Mathlib.Omega.{arith}
use lib.ListN.{length, get_or, drop, drop_of_length-le}
use lib.Seq.{drop-cons}
use Rattle.std.specs.Int.{w128, byte_at, bytes_low_first, to_le_bytes, from_le_bytes}
use Rattle.keyboard_scancodes.specs.Waiting.{bytes_from}
use Rattle.handler_words.specs.Words.{bytes_in, number_of_bytes}
use Rattle.handler_words.specs.Parts.{InTwo}

-- a byte below others is the first, and the others follow it
pub byte_below : (n b w : ℕ) → b < 256 → bytes_in (suc n) (b + 256 * w) ≡ b ∷ bytes_in n w
unfolding bytes_in
byte_below n b w h =
    let r : (b + 256 * w) % 256 ≡ b = omega arith in
    let q : (b + 256 * w) / 256 ≡ w = omega arith in
    rw (r, q)

-- the bytes of n places, each of which is one
pub bytes_found : (bytes : List ℕ) (at n : ℕ) → ((i : ℕ) → get_or bytes i 0 < 256) → bytes_in n (number_of_bytes (bytes_from bytes at n)) ≡ bytes_from bytes at n
unfolding bytes_in number_of_bytes bytes_from
bytes_found bytes at zero h = refl
bytes_found bytes at (suc n) h =
    byte_below n (get_or bytes at 0) (number_of_bytes (bytes_from bytes (suc at) n)) (h at) ∙ ap (λ (l : List ℕ). get_or bytes at 0 ∷ l) (bytes_found bytes (suc at) n h)

-- ---- sixteen bytes and two numbers

byte_is : (i n : ℕ) → byte_at i n ≡ n / 256 ^ i % 256
byte_is zero n = ap (λ (m : ℕ). m % 256) (sym (div-one n))
byte_is (suc i) n = refl

-- the bytes of a number from one on, as the library has them
le_bytes_in : (k i n : ℕ) → bytes_low_first i k n ≡ bytes_in k (n / 256 ^ i)
unfolding bytes_in
le_bytes_in zero i n = refl
le_bytes_in (suc k) i n =
    let e : n / 256 ^ i / 256 ≡ n / 256 ^ suc i = div-div-eq-div-mul n (256 ^ i) 256 ∙ ap (λ (m : ℕ). n / m) (sym (pow-suc 256 i)) in
    ap (λ (b : ℕ). b ∷ bytes_low_first (suc i) k n) (byte_is i n) ∙ ap (λ (l : List ℕ). n / 256 ^ i % 256 ∷ l) (le_bytes_in k (suc i) n ∙ ap (bytes_in k) (sym e))

-- a number above another
bytes_above : (n m a b : ℕ) → a < 256 ^ n → bytes_in (n + m) (a + 256 ^ n * b) ≡ bytes_in n a ++ bytes_in m b
unfolding bytes_in
bytes_above zero m a b h =
    let e : a + 256 ^ 0 * b ≡ b = omega (arith, h) in
    ap (λ (k : ℕ). bytes_in k (a + 256 ^ 0 * b)) (zero-add m) ∙ ap (bytes_in m) e
bytes_above (suc n) m a b h =
    let p : 256 ^ suc n ≡ 256 * 256 ^ n = pow-succ' 256 n in
    let e : 256 ^ suc n * b ≡ 256 * (256 ^ n * b) = ap (λ (x : ℕ). x * b) p ∙ mul_assoc 256 (256 ^ n) b in
    let r : (a + 256 ^ suc n * b) % 256 ≡ a % 256 = omega (arith, e) in
    let q : (a + 256 ^ suc n * b) / 256 ≡ a / 256 + 256 ^ n * b = omega (arith, e) in
    let g : a / 256 < 256 ^ n = omega (arith, h, p) in
    ap (λ (k : ℕ). bytes_in k (a + 256 ^ suc n * b)) (suc-add n m) ∙ rw (r, q, bytes_above n m (a / 256) b g)

pub two_numbers : (low high : ℕ) → low < 2 ^ 64 → to_le_bytes w128 (low + high * 18446744073709551616) ≡ bytes_in 8 low ++ bytes_in 8 high
two_numbers low high h =
    let n = low + high * 18446744073709551616 in
    let e : n / 256 ^ 0 ≡ low + 256 ^ 8 * high = omega arith in
    le_bytes_in 16 0 n ∙ ap (bytes_in 16) e ∙ bytes_above 8 8 low high h

module _ (bytes : List ℕ) (h : (i : ℕ) → get_or bytes i 0 < 256) {n : ℕ} (e : n ≡ from_le_bytes w128 bytes) where
  halves : n ≡ number_of_bytes (bytes_from bytes 0 8) + 18446744073709551616 * number_of_bytes (bytes_from bytes 8 8)
  unfolding number_of_bytes bytes_from
  halves = omega (arith, e)

  below : number_of_bytes (bytes_from bytes 0 8) < 18446744073709551616
  unfolding number_of_bytes bytes_from
  below = omega (arith, h 0, h 1, h 2, h 3, h 4, h 5, h 6, h 7)

  pub in_two : InTwo bytes (n % 18446744073709551616) (n / 18446744073709551616)
  in_two =
      let low : n % 18446744073709551616 ≡ number_of_bytes (bytes_from bytes 0 8) = omega (arith, halves, below) in
      let high : n / 18446744073709551616 ≡ number_of_bytes (bytes_from bytes 8 8) = omega (arith, halves, below) in
      record {
        low_is = low;
        high_is = high;
        low_found = ap (bytes_in 8) low ∙ bytes_found bytes 0 8 h;
        high_found = ap (bytes_in 8) high ∙ bytes_found bytes 8 8 h;
      }

-- ---- all the bytes of a list

bytes_drop : (l : List ℕ) (k n : ℕ) → k + n ≡ length l → bytes_from l k n ≡ drop k l
unfolding bytes_from
bytes_drop l k zero h = sym (drop_of_length-le l {i = k} (omega (arith, h)))
bytes_drop l k (suc n) h = ap (λ (r : List ℕ). get_or l k 0 ∷ r) (bytes_drop l (suc k) n (omega (arith, h))) ∙ sym (drop-cons l k 0 (omega (arith, h)))

pub all_bytes : (l : List ℕ) → length l ≡ 16 → bytes_from l 0 8 ++ bytes_from l 8 8 ≡ l
unfolding bytes_from
all_bytes l h = bytes_drop l 0 16 (sym h)
