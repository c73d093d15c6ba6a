-- What is written is read, and nothing else is.
use mathlib.Core.Path.{◌≡◌, refl, sym, ap, subst, ◌∙◌}
use mathlib.Core.Bool.{Bool, true, false}
use mathlib.Core.List.{List, [], ◌∷◌, ◌++◌}
use mathlib.Core.Option.{some}
use Prim.Native.Nat.{ℕ, zero, suc, ◌+◌, ◌*◌, ◌^◌, ◌-◌, ◌/◌, ◌%◌, ◌<◌, ◌≤◌}
use native.Mathlib.Omega.{arith}
use lib.Dec.{ltb}
use lib.ListN.{length, drop}
use borrow.Author.Tests.{lt-ltb, ltb-true, ltb-false, ne_eqb, not-true}
use Rattle.exchange.specs.Answer.{gives, refuses}
use Rattle.preferences.specs.Coding.{numbers_end, coding_within, coding}
use Rattle.preferences.specs.declared.numbers.Number.{Number}
use Rattle.preferences.specs.NumberReading.{taking, groups_of, value_of, ends_in_zero, is_shortest, judged, read_number}
use Rattle.preferences.specs.Coded.{CodedAs}
use Rattle.preferences.proofs.Groups.{groups_last, groups_more, Begins, last, more, Found, nothing, found, find, value_first, value_one, value_positive, ends_behind, shortest_first}
use Rattle.preferences.proofs.Lengths.{within_last, within_more}

-- ---- what is written is read

-- the groups of a number's bytes, whatever follows
record GroupsOf (n : ℕ) (bytes rest : List ℕ) : Type 0 where
  pub gs : List ℕ
  pub are : groups_of (bytes ++ rest) ≡ some gs
  pub begin : Begins (bytes ++ rest) gs
  pub value : value_of gs ≡ n
  pub count : length gs ≡ length bytes
  pub shortest : is_shortest gs ≡ true
  pub ends : 0 < n → ends_in_zero gs ≡ false

groups_one : (k n : ℕ) (rest : List ℕ) → n < 128 → GroupsOf n (coding_within (suc k) n) rest
unfolding is_shortest ends_in_zero
groups_one k n rest h =
    rw (within_last k n h)
    (record {
      gs = n ∷ [];
      are = groups_last n rest h;
      begin = last h;
      value = value_one n;
      count = refl;
      shortest = refl;
      ends = λ p. ne_eqb n 0 (λ e. omega arith);
    })

groups_behind : (k n : ℕ) (rest : List ℕ) → 128 ≤ n → GroupsOf (n / 128) (coding_within (suc k) (n / 128)) rest → GroupsOf n (coding_within (suc (suc k)) n) rest
groups_behind k n rest h r =
    let z : ends_in_zero r.gs ≡ false = r.ends (omega arith) in
    rw (within_more (suc k) n h)
    (record {
      gs = (n % 128 + 128 - 128) ∷ r.gs;
      are = groups_more (n % 128 + 128) (coding_within (suc k) (n / 128) ++ rest) (omega arith) (omega arith) ∙ rw r.are;
      begin = more {b = n % 128 + 128} (omega arith) (omega arith) r.begin;
      value = value_first (n % 128 + 128 - 128) r.gs ∙ rw r.value (omega arith);
      count = ap suc r.count;
      shortest = shortest_first (n % 128 + 128 - 128) r.gs ∙ rw z;
      ends = λ p. ends_behind (n % 128 + 128 - 128) r.begin ∙ z;
    })

groups_of_lem : (k n : ℕ) (rest : List ℕ) → n < 128 ^ suc k → GroupsOf n (coding_within (suc k) n) rest
groups_of_lem zero n rest few = groups_one zero n rest (omega arith)
groups_of_lem (suc k) n rest few = by (ltb n 128) refl (λ l. groups_of_lem k (n / 128) rest l)
  where
    by : (t : Bool) → ltb n 128 ≡ t → (n / 128 < 128 ^ suc k → GroupsOf (n / 128) (coding_within (suc k) (n / 128)) rest) → GroupsOf n (coding_within (suc (suc k)) n) rest
    by true e f = groups_one (suc k) n rest (ltb-true n 128 e)
    by false e f = groups_behind k n rest (ltb-false n 128 e) (f (omega arith))

pub coding_read : (n : ℕ) (rest : List ℕ) → n < numbers_end → read_number (coding n ++ rest) ≡ gives (taking n (length (coding n)))
unfolding read_number
coding_read n rest h =
    let r = groups_of_lem 4 n rest (omega arith) in
    ap judged r.are ∙ rw (r.shortest, r.value, r.count, lt-ltb n numbers_end h)

-- ---- nothing else is

shortest_behind : {bytes gs : List ℕ} → Begins bytes gs → ends_in_zero gs ≡ false → is_shortest gs ≡ true
unfolding is_shortest ends_in_zero
shortest_behind (last h) e = refl
shortest_behind (more {b} h l g) e = rw (sym (ends_behind (b - 128) g) ∙ e)

-- groups in the shortest form are those of their number
begins_coding : (k : ℕ) {bytes gs : List ℕ} → Begins bytes gs → is_shortest gs ≡ true → value_of gs < 128 ^ suc k → bytes ≡ coding_within (suc k) (value_of gs) ++ drop (length gs) bytes
begins_coding k (last {b} {bytes} h) s f = rw (value_one b, within_last k b h)
begins_coding zero (more {b} {bytes} {gs} h l g) s f =
    absurd (omega (arith, value_first (b - 128) gs, value_positive g (not-true _ (sym (shortest_first (b - 128) gs) ∙ s))))
begins_coding (suc k) (more {b} {bytes} {gs} h l g) s f =
    let e : ends_in_zero gs ≡ false = not-true _ (sym (shortest_first (b - 128) gs) ∙ s) in
    let p = value_positive g e in
    let v = value_first (b - 128) gs in
    let q : (b - 128 + 128 * value_of gs) / 128 ≡ value_of gs = omega arith in
    let m : (b - 128 + 128 * value_of gs) % 128 + 128 ≡ b = omega arith in
    rw (v, within_more (suc k) (b - 128 + 128 * value_of gs) (omega arith), q, m) (ap (λ (t : List ℕ). b ∷ t) (begins_coding k g (shortest_behind g e) (omega arith)))

-- and no more bytes than they
begins_count : (k : ℕ) {bytes gs : List ℕ} → Begins bytes gs → is_shortest gs ≡ true → value_of gs < 128 ^ suc k → length gs ≡ length (coding_within (suc k) (value_of gs))
begins_count k (last {b} h) s f = rw (value_one b, within_last k b h)
begins_count zero (more {b} {bytes} {gs} h l g) s f =
    absurd (omega (arith, value_first (b - 128) gs, value_positive g (not-true _ (sym (shortest_first (b - 128) gs) ∙ s))))
begins_count (suc k) (more {b} {bytes} {gs} h l g) s f =
    let e : ends_in_zero gs ≡ false = not-true _ (sym (shortest_first (b - 128) gs) ∙ s) in
    let p = value_positive g e in
    let v = value_first (b - 128) gs in
    let q : (b - 128 + 128 * value_of gs) / 128 ≡ value_of gs = omega arith in
    rw (v, within_more (suc k) (b - 128 + 128 * value_of gs) (omega arith), q) (ap suc (begins_count k g (shortest_behind g e) (omega arith)))

-- what a string that is read says
pub record ReadOf (bytes : List ℕ) (r : Number) : Type 0 where
  pub coded : CodedAs r.value (drop r.count bytes) bytes
  pub count : r.count ≡ length (coding r.value)

never : {n : ℕ} {r : Number} → refuses n ≡ gives r → ⊥
never e = let z : ◌≡◌ {A = ℕ} 0 1 = cc in omega arith

pub read_of : (bytes : List ℕ) {r : Number} → read_number bytes ≡ gives r → ReadOf bytes r
unfolding read_number
read_of bytes {r} e = by (find bytes)
  where
    well : {gs : List ℕ} → Begins bytes gs → (s t : Bool) → is_shortest gs ≡ s → ltb (value_of gs) numbers_end ≡ t → judged (some gs) ≡ gives r → ReadOf bytes r
    well {gs} g true true p q j =
        let l = ltb-true (value_of gs) numbers_end q in
        let z : gives (taking (value_of gs) (length gs)) ≡ gives r = rw (p, q) at j in
        let y : taking (value_of gs) (length gs) ≡ r = cc in
        subst (ReadOf bytes) y (record { coded = record { below = l; is = begins_coding 4 g p (omega arith) }; count = begins_count 4 g p (omega arith) })
    well g true false p q j = absurd (never (rw (p, q) at j))
    well g false t p q j = absurd (never (rw p at j))

    by : Found bytes → ReadOf bytes r
    by (nothing q) = absurd (never (sym (ap judged q) ∙ e))
    by (found gs q g) = well g (is_shortest gs) (ltb (value_of gs) numbers_end) refl refl (sym (ap judged q) ∙ e)
