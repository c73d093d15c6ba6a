-- Signed numbers in bits: their range, and two's complement by its sign bit.
use mathlib.Core.Path.{◌≡◌, refl, sym, ◌∙◌}
use mathlib.Core.Bool.{Bool, true, false, not}
use Prim.Native.Nat.{ℕ, zero, suc, ◌+◌, ◌-◌, ◌*◌, ◌/◌, ◌%◌, ◌^◌, ◌<◌, ◌≤◌}
use native.Mathlib.Nat.{not-suc-le-zero, mul-one, pow-suc, mod-lt, mod-eq_of_lt}
use native.Mathlib.Numerals.{add-one, unary_clauses}
use native.Mathlib.Decide.{dec_lt}
use native.Mathlib.Omega.{arith}
use lib.Dec.{ltb, eqb, le→leb}
use lib.Pow.{pow_pos, mod-pow-add}
use lib.IntN.{ℤ, pos, negsuc, ◌-ℤ◌}
use lib.Signed.{mag}
use mir.Syntax.{Width}
use mir.Val.{hbits, to_z, of_z}
use mir.Facts.{to_z-of_z}
use borrow.Author.Tests.{lt-ltb, le-ltb, ltb-true, ltb-false, not-true, not-false}
use Rattle.bits.specs.Bits.{bit, odd, weigh}
use Rattle.bits.proofs.Bits.{digit}
use Rattle.ps2_packet.specs.Signed.{less_if, twos_complement, Between, AgreeModulo}

-- a difference below zero
pub pos_less : (m x : ℕ) → x < m → pos x -ℤ pos m ≡ negsuc (m - suc x)
pos_less zero x h = absurd (not-suc-le-zero h)
pos_less (suc m) x h = rw (lt-ltb x (suc m) h)

-- less m or not, a value below m comes to a number from -m to m - 1
pub mag_less : (sign : Bool) (m x : ℕ) → x < m → mag (less_if sign m x) < m
mag_less true m x h = rw (pos_less m x h) (omega arith)
mag_less false m x h = h

-- less m or not, a value is the same modulo m
pub less_modulo : (sign : Bool) (m x : ℕ) → AgreeModulo m (less_if sign m x) (pos x)
less_modulo true m x = (negsuc 0, rw (mul-one m))
less_modulo false m x = (pos 0, simp unary_clauses)

ltb_double : (v d m p : ℕ) → d < 2 → p ≡ m * 2 → Dec (v < m) → ltb (v * 2 + d) p ≡ ltb v m
ltb_double v d m p h e (yes l) = lt-ltb (v * 2 + d) p (omega arith) ∙ sym (lt-ltb v m l)
ltb_double v d m p h e (no l) = le-ltb (v * 2 + d) p (omega arith) ∙ sym (le-ltb v m (omega arith))

low_half : (n x : ℕ) → x % 2 ^ suc n ≡ x / 2 % 2 ^ n * 2 + x % 2
low_half n x = rw (← add-one n) (mod-pow-add x n 1)

-- the topmost of n + 1 bits says whether their number reaches 2 ^ n
pub bit_top : (n x : ℕ) → ltb (x % 2 ^ suc n) (2 ^ n) ≡ not (bit n x)
unfolding bit odd
bit_top zero x = digit (λ (d : ℕ). ltb d 1 ≡ not (eqb d 1)) refl refl (x % 2) (omega arith)
bit_top (suc n) x =
    let v = x / 2 % 2 ^ suc n in
    rw (low_half (suc n) x)
    (ltb_double v (x % 2) (2 ^ n) (2 ^ suc n) (omega arith) (pow-suc 2 n) (dec_lt v (2 ^ n)) ∙ bit_top n (x / 2))

-- by the sign bit: below 2 ^ n as it is, else from there on less 2 ^ (n + 1)
mag_signed : (n v : ℕ) (sign : Bool) → v < 2 ^ suc n → ltb v (2 ^ n) ≡ not sign → mag (less_if sign (2 ^ suc n) v) < 2 ^ n
mag_signed n v true h e = rw (pos_less (2 ^ suc n) v h) (omega (arith, ltb-false v (2 ^ n) e, pow-suc 2 n))
mag_signed n v false h e = ltb-true v (2 ^ n) e

-- n + 1 bits in two's complement are a number from -2 ^ n to 2 ^ n - 1
pub mag_twos : (n x : ℕ) → mag (twos_complement (suc n) x) < 2 ^ n
mag_twos n x = mag_signed n (x % 2 ^ suc n) (bit n x) (mod-lt x (pow_pos (suc n))) (bit_top n x)

-- the same range in the order of ℤ, from -(m + 1) to m
pub mag_range : (m : ℕ) (z : ℤ) → mag z < suc m → Between (negsuc m) (pos m) z
mag_range m (pos n) h = (record { le = tt }, record { le = le→leb n m (omega arith) })
mag_range m (negsuc n) h = (record { le = le→leb n m (omega arith) }, record { le = tt })

-- the topmost bit of a number that n + 1 bits hold
top_set : (n y : ℕ) → y < 2 ^ suc n → 2 ^ n ≤ y → bit n y ≡ true
top_set n y h l =
    let m : y % 2 ^ suc n ≡ y = mod-eq_of_lt h in
    not-false (bit n y) (sym (bit_top n y) ∙ rw m (le-ltb y (2 ^ n) l))

top_clear : (n y : ℕ) → y < 2 ^ n → bit n y ≡ false
top_clear n y h =
    let m : y % 2 ^ suc n ≡ y = mod-eq_of_lt (omega (arith, pow-suc 2 n)) in
    not-true (bit n y) (sym (bit_top n y) ∙ rw m (lt-ltb y (2 ^ n) h))

-- a sign bit that stands by itself is the topmost bit of a number one bit longer
pub sign_apart : (n x : ℕ) (sign : Bool) → x < 2 ^ n → less_if sign (2 ^ n) x ≡ twos_complement (suc n) (weigh sign * 2 ^ n + x)
sign_apart n x true h =
    let y = 1 * 2 ^ n + x in
    let l : y < 2 ^ suc n = omega (arith, pow-suc 2 n) in
    let e : 2 ^ suc n - suc y ≡ 2 ^ n - suc x = omega (arith, pow-suc 2 n) in
    rw (top_set n y l (omega arith), mod-eq_of_lt l, pos_less (2 ^ suc n) y l, e) (pos_less (2 ^ n) x h)
sign_apart n x false h =
    let y = 0 * 2 ^ n + x in
    let e : y ≡ x = omega arith in
    let m : x % 2 ^ suc n ≡ x = mod-eq_of_lt (omega (arith, pow-suc 2 n)) in
    rw (e, top_clear n x h, m)

-- a signed number that a call returned, read back from its bits
pub returned : (w : Width) (z : ℤ) → mag z < 2 ^ hbits w → to_z w (of_z w z) ≡ z
returned w z h = to_z-of_z (record { sfits = h })
