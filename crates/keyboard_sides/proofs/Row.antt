-- What a row of bits means as a list of sides: one more behind it, the oldest off, and the count of its set bits.
use mathlib.Core.Path.{◌≡◌, refl, sym, ap, ap₂, ◌∙◌}
use mathlib.Core.Bool.{Bool, true, false}
use mathlib.Core.List.{List, [], ◌∷◌, ◌++◌}
use Prim.Native.Nat.{ℕ, zero, suc, ◌+◌, ◌-◌, ◌*◌, ◌/◌, ◌%◌, ◌^◌, ◌<◌, ◌≤◌}
use native.Mathlib.Nat.{pow-suc, div-add-mod', not-suc-le-zero, le_of_suc-le-suc, lt_of_lt_of_le, mod-one, add-zero, zero-add, suc-add, mul-one, mul_assoc, mod-eq_of_lt, mul-add-mod_self_right, add_comm}
use native.Mathlib.Omega.{arith}
use borrow.Author.Tests.{lt-ltb, le-ltb}
use lib.ListN.{length, drop}
use lib.Arith.{mod-mul}
use lib.Pow.{pow_pos, pow-add, pow_mono, mod-pow-add}
use lib.Count.{ones, ones_step, ones_cat}
use lib.Bits.{bit_or, block_half, block_odd, or_shifted_r}
use Rattle.bits.specs.Bits.{odd, weigh, put_bit}
use Rattle.bits.proofs.Bits.{weigh-odd, odd-weigh, odd_low, put_lt}
use Rattle.keyboard_sides.specs.declared.Side.{Side}
use Rattle.keyboard_sides.specs.declared.Sides.{Sides}
use Rattle.keyboard_sides.specs.Sides.{side_of, is_second, bit_sides, number_of, words_of, sides_of, same_side, count_of, oldest_side, without_oldest_side, with_side}

-- ---- one row of bits

pub bits_length : (n x : ℕ) → length (bit_sides n x) ≡ n
unfolding bit_sides
bits_length zero x = refl
bits_length (suc n) x = ap suc (bits_length n (x / 2))

side_bit : (side : Side) → side_of (is_second side) ≡ side
side_bit Side.First = refl
side_bit Side.Second = refl

-- bit k put into the row: the first k, and then it
pub bits_put : (k : ℕ) (b : Bool) (x : ℕ) → bit_sides (suc k) (put_bit k b x) ≡ bit_sides k x ++ (side_of b ∷ [])
unfolding bit_sides put_bit
bits_put zero b x = rw (odd-weigh (x / 2) b)
bits_put (suc k) b x =
    let e : (put_bit k b (x / 2) * 2 + x % 2) / 2 ≡ put_bit k b (x / 2) = omega arith in
    ap₂ (λ (s : Side) (l : List Side). s ∷ l) (ap side_of (odd_low (put_bit k b (x / 2)) x))
    (ap (bit_sides (suc k)) e ∙ bits_put k b (x / 2))

second_bit : (b : Bool) → weigh (same_side Side.Second (side_of b)) ≡ weigh b
second_bit true = refl
second_bit false = refl

-- the lowest digit and the rest of a number of n + 1 digits
low_rest : (n x : ℕ) → x % 2 ^ suc n ≡ (x / 2 % 2 ^ n) * 2 + x % 2
low_rest n x = rw (pow-suc 2 n) (mod-mul x (pow_pos n) (omega arith))

-- the set bits of the n lowest are the events of the second side
pub bits_ones : (n x : ℕ) → ones (x % 2 ^ n) ≡ count_of Side.Second (bit_sides n x)
unfolding bit_sides count_of ones
bits_ones zero x = rw (mod-one x)
bits_ones (suc n) x =
    let y = x / 2 % 2 ^ n in
    let h : (y * 2 + x % 2) / 2 ≡ y = omega arith in
    let d : (y * 2 + x % 2) % 2 ≡ x % 2 = omega arith in
    ap ones (low_rest n x) ∙ ones_step (y * 2 + x % 2)
    ∙ ap₂ (λ (a b : ℕ). a + ones b) (d ∙ sym (weigh-odd x) ∙ sym (second_bit (odd x))) h
    ∙ ap (λ (a : ℕ). weigh (same_side Side.Second (side_of (odd x))) + a) (bits_ones n (x / 2))

-- ---- how many are of a side
pub both_sides : (l : List Side) → count_of Side.First l + count_of Side.Second l ≡ length l
unfolding count_of
both_sides [] = refl
both_sides (Side.First ∷ l) = let e = both_sides l in omega arith
both_sides (Side.Second ∷ l) = let e = both_sides l in omega arith

pub count_le : (side : Side) (l : List Side) → count_of side l ≤ length l
count_le Side.First l = omega (arith, both_sides l)
count_le Side.Second l = omega (arith, both_sides l)

pub count_append : (side : Side) (l m : List Side) → count_of side (l ++ m) ≡ count_of side l + count_of side m
unfolding count_of
count_append side [] m = omega arith
count_append side (s ∷ l) m = omega (arith, count_append side l m)

pub count_one : (side s : Side) → count_of side (s ∷ []) ≡ weigh (same_side side s)
unfolding count_of
count_one side s = omega arith

pub count_tail : (side : Side) (l : List Side) → count_of side (drop 1 l) ≤ count_of side l
unfolding count_of
count_tail side [] = omega arith
count_tail side (s ∷ l) = omega arith

-- ---- two words
pub number_words : (x : ℕ) → number_of (words_of x) ≡ x
number_words x = div-add-mod' x (2 ^ 64)

shift : (a k : ℕ) → a * 2 ^ suc k ≡ a * 2 ^ k * 2
shift a k = rw (pow-suc 2 k) (sym (mul_assoc a (2 ^ k) 2))

-- a bit put into the lower of two parts, and into the upper
pub put_lower : (m k : ℕ) (b : Bool) (h l : ℕ) → k < m → put_bit k b (h * 2 ^ m + l) ≡ h * 2 ^ m + put_bit k b l
unfolding put_bit
put_lower zero k b h l p = absurd (not-suc-le-zero p)
put_lower (suc m) zero b h l p =
    rw (block_half h m l) (omega (arith, shift h m))
put_lower (suc m) (suc k) b h l p =
    rw (block_half h m l, block_odd h m l, put_lower m k b h (l / 2) (le_of_suc-le-suc p)) (omega (arith, shift h m))

pub put_upper : (m k : ℕ) (b : Bool) (h l : ℕ) → l < 2 ^ m → put_bit (m + k) b (h * 2 ^ m + l) ≡ put_bit k b h * 2 ^ m + l
unfolding put_bit
put_upper zero k b h l p =
    let z : l ≡ 0 = omega arith in
    rw (z, zero-add k, add-zero (h * 1), mul-one h) (sym (add-zero (put_bit k b h * 1) ∙ mul-one (put_bit k b h)))
put_upper (suc m) k b h l p =
    rw (suc-add m k, put_bit, block_half h m l, block_odd h m l, put_upper m k b h (l / 2) (omega (arith, pow-suc 2 m)))
    (omega (arith, shift (put_bit k b h) m))

abbrev made : ℕ → ℕ → Sides
made l u = record { low = l; high = u }

-- two words are the words of the number that they make
pub words_are : (s : Sides) (x : ℕ) → s.low < 2 ^ 64 → number_of s ≡ x → s ≡ words_of x
words_are s x h e =
    let low : s.low ≡ x % 2 ^ 64 = omega arith in
    let high : s.high ≡ x / 2 ^ 64 = omega arith in
    ap₂ made low high

-- ---- the sides of the events that wait
pub sides_length : (s : Sides) (n : ℕ) → length (sides_of s n) ≡ n
sides_length s n = bits_length n (number_of s)

pub sides_none : (s : Sides) (n : ℕ) → n ≡ 0 → sides_of s n ≡ []
unfolding bit_sides
sides_none s n e = ap (sides_of s) e

-- the oldest, and then those that are left without it
pub oldest_first : (s : Sides) (n : ℕ) → sides_of s (suc n) ≡ oldest_side s ∷ sides_of (without_oldest_side s) n
unfolding bit_sides without_oldest_side odd
oldest_first s n =
    let e : number_of s % 2 ≡ s.low % 2 = omega arith in
    rw (e, number_words (number_of s / 2))

-- a taking: the count is one less, and so is the list
pub left_tail : (s : Sides) (n : ℕ) → sides_of (without_oldest_side s) (n - 1) ≡ drop 1 (sides_of s n)
unfolding bit_sides without_oldest_side
left_tail s zero = refl
left_tail s (suc n) =
    let m : suc n - 1 ≡ n = omega arith in
    rw (m, number_words (number_of s / 2))

pub with_side_put : (side : Side) (n : ℕ) (s : Sides) → n < 128 → with_side side n s ≡ words_of (put_bit n (is_second side) (number_of s))
unfolding with_side
with_side_put side n s h = rw (lt-ltb n 128 h)

pub with_side_none : (side : Side) (n : ℕ) (s : Sides) → 128 ≤ n → with_side side n s ≡ s
unfolding with_side
with_side_none side n s h = rw (le-ltb n 128 h)

-- one more behind those that wait
pub pushed_behind : (side : Side) (n : ℕ) (s : Sides) → n < 128 → sides_of (with_side side n s) (suc n) ≡ sides_of s n ++ (side ∷ [])
pushed_behind side n s h =
    ap (λ (t : Sides). sides_of t (suc n)) (with_side_put side n s h)
    ∙ ap (bit_sides (suc n)) (number_words (put_bit n (is_second side) (number_of s)))
    ∙ bits_put n (is_second side) (number_of s)
    ∙ ap (λ (t : Side). sides_of s n ++ (t ∷ [])) (side_bit side)

pub second_le : (s : Sides) (n : ℕ) → count_of Side.Second (sides_of s n) ≤ n
second_le s n = omega (arith, count_le Side.Second (sides_of s n), sides_length s n)

-- those of the first side are the count less those of the second
pub first_left : (s : Sides) (n : ℕ) → count_of Side.First (sides_of s n) ≡ n - count_of Side.Second (sides_of s n)
first_left s n = omega (arith, both_sides (sides_of s n), sides_length s n)

-- ---- what the code does with two words

-- as many bits as a word has are the whole word
pub whole_word : (n x : ℕ) → 64 ≤ n → x < 2 ^ 64 → x % 2 ^ n ≡ x
whole_word n x h l = mod-eq_of_lt (lt_of_lt_of_le l (pow_mono h))

lower_mod : (s : Sides) (n : ℕ) → n ≤ 64 → number_of s % 2 ^ n ≡ s.low % 2 ^ n
lower_mod s n h =
    let m : 64 ≡ 64 - n + n = omega arith in
    let e : 2 ^ 64 ≡ 2 ^ (64 - n) * 2 ^ n = ap (λ (k : ℕ). 2 ^ k) m ∙ pow-add 2 (64 - n) n in
    ap (λ (p : ℕ). (s.high * p + s.low) % 2 ^ n) e
    ∙ ap (λ (p : ℕ). (p + s.low) % 2 ^ n) (sym (mul_assoc s.high (2 ^ (64 - n)) (2 ^ n)))
    ∙ mul-add-mod_self_right (s.high * 2 ^ (64 - n)) (2 ^ n) s.low

pub second_lower : (s : Sides) (n : ℕ) → n ≤ 64 → ones (s.low % 2 ^ n) ≡ count_of Side.Second (sides_of s n)
second_lower s n h = ap ones (sym (lower_mod s n h)) ∙ bits_ones n (number_of s)

pub second_upper : (s : Sides) (n : ℕ) → s.low < 2 ^ 64
    → ones (s.low % 2 ^ 64) + ones (s.high % 2 ^ n) ≡ count_of Side.Second (sides_of s (n + 64))
second_upper s n h =
    let l : number_of s % 2 ^ 64 ≡ s.low = omega arith in
    let u : number_of s / 2 ^ 64 ≡ s.high = omega arith in
    let e : number_of s % 2 ^ (n + 64) ≡ s.high % 2 ^ n * 2 ^ 64 + s.low =
    mod-pow-add (number_of s) n 64 ∙ ap₂ (λ (a b : ℕ). a % 2 ^ n * 2 ^ 64 + b) u l in
    ap (λ (a : ℕ). ones a + ones (s.high % 2 ^ n)) (mod-eq_of_lt h)
    ∙ add_comm (ones s.low) (ones (s.high % 2 ^ n))
    ∙ sym (ones_cat 64 (s.high % 2 ^ n) s.low h) ∙ ap ones (sym e) ∙ bits_ones (n + 64) (number_of s)

pub put_low : (s : Sides) (n : ℕ) (side : Side) (r : ℕ) → n < 64 → s.low < 2 ^ 64 → r ≡ put_bit n (is_second side) s.low
    → record { low = r; high = s.high } ≡ with_side side n s
put_low s n side r h l e =
    words_are (record { low = r; high = s.high }) (put_bit n (is_second side) (number_of s))
    (rw e (put_lt 64 n (is_second side) s.low h l))
    (rw e (sym (put_lower 64 n (is_second side) s.high s.low h)))
    ∙ sym (with_side_put side n s (omega arith))

pub put_high : (s : Sides) (n : ℕ) (side : Side) (r : ℕ) → 64 ≤ n → n < 128 → s.low < 2 ^ 64 → r ≡ put_bit (n - 64) (is_second side) s.high
    → record { low = s.low; high = r } ≡ with_side side n s
put_high s n side r h g l e =
    let m : 64 + (n - 64) ≡ n = omega arith in
    words_are (record { low = s.low; high = r }) (put_bit n (is_second side) (number_of s)) l
    (ap (λ (a : ℕ). a * 2 ^ 64 + s.low) e ∙ sym (put_upper 64 (n - 64) (is_second side) s.high s.low l)
    ∙ ap (λ (k : ℕ). put_bit k (is_second side) (number_of s)) m)
    ∙ sym (with_side_put side n s g)

pub halved : (s : Sides) → s.low < 2 ^ 64
    → record { low = bit_or (s.low / 2) (s.high * 2 ^ 63 % 2 ^ 64); high = s.high / 2 } ≡ without_oldest_side s
unfolding without_oldest_side
halved s h =
    let t : s.high * 2 ^ 63 % 2 ^ 64 ≡ s.high % 2 * 2 ^ 63 = omega arith in
    let o : bit_or (s.low / 2) (s.high * 2 ^ 63 % 2 ^ 64) ≡ s.high % 2 * 2 ^ 63 + s.low / 2 =
    ap (bit_or (s.low / 2)) t ∙ or_shifted_r (s.high % 2) 63 (s.low / 2) (omega arith) in
    words_are (record { low = bit_or (s.low / 2) (s.high * 2 ^ 63 % 2 ^ 64); high = s.high / 2 }) (number_of s / 2)
    (omega arith) (omega arith)
