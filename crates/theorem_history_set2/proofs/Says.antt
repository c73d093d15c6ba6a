-- A code of set 2 and the byte of set 1 that it becomes say the same: prefix or not, and the same stroke.
use mathlib.Core.Path.{◌≡◌, refl, sym, ap, ◌∙◌}
use mathlib.Core.Bool.{Bool, true, false, false≢true, beq}
use mathlib.Core.List.{[], ◌∷◌}
use mathlib.Core.Option.{Option, some}
use Prim.Native.Nat.{ℕ, ◌+◌, ◌%◌, ◌<◌}
use native.Mathlib.Omega.{arith}
use lib.Dec.{T, eqb, ltb}
use borrow.Author.Tests.{ltb-true, ltb-false, lt-ltb, le-ltb, ne_eqb}
use Rattle.bits.specs.Bits.{put_bit}
use Rattle.bits.proofs.Every.{every, agree_bool}
use Rattle.exchange.specs.Answer.{Answer, gives, refuses}
use Rattle.scancode_set2.specs.Table.{printed, entry_of, or_none}
use Rattle.scancode_set2.specs.Codes.{is_prefix, Code, alone, after_f0, ends_after_f0}
use Rattle.scancode_set2.specs.Convert.{with_top_bit, becomes}
use Rattle.scancode_set2.proofs.Table.{entry_above, entry_press}
use Rattle.scancode_set2.proofs.Becomes.{top_bit, cut_refused, Alone, is_a_prefix, is_press, is_no_press, alone_is, After, is_release, is_no_release, after_is}
use Rattle.keyboard_scancodes.specs.Strokes.{stroke}
use Rattle.theorem_history_set2.specs.SaidSet2.{is_prefix_code, key_of, stroke_of}

-- ---- the ways to become a byte

pub data Says : Code → ℕ → Type 0 where
  a_prefix : {b : ℕ} → is_prefix b ≡ true → Says (alone b) b
  a_press : {c e : ℕ} → entry_of c ≡ some e → Says (alone c) e
  a_release : {c e : ℕ} → entry_of c ≡ some e → Says (after_f0 c) (with_top_bit e)

-- an answer gives one value
one_given : {x y : ℕ} (a : Answer ℕ) → a ≡ gives x → a ≡ gives y → x ≡ y
one_given a p q = cc

not_both : {x n : ℕ} (a : Answer ℕ) → a ≡ gives x → a ≡ refuses n → ⊥
not_both a p q = let z : ◌≡◌ {A = ℕ} 0 1 = cc in omega arith

pub says : (c : Code) {b : ℕ} → becomes c ≡ gives b → Says c b
says (alone c) {b} g = by (alone_is c)
  where
    by : Alone c → Says (alone c) b
    by (is_a_prefix p q) = rw (one_given (becomes (alone c)) g q) (a_prefix p)
    by (is_press e q) = rw (one_given (becomes (alone c)) g q) (a_press e)
    by (is_no_press p e q) = absurd (not_both (becomes (alone c)) g q)
says (after_f0 c) {b} g = by (after_is c)
  where
    by : After c → Says (after_f0 c) b
    by (is_release e q) = rw (one_given (becomes (after_f0 c)) g q) (a_release e)
    by (is_no_release e q) = absurd (not_both (becomes (after_f0 c)) g q)
says ends_after_f0 g = absurd (not_both (becomes ends_after_f0) g cut_refused)

-- ---- prefix or not

-- F0 47 and F0 4F are the releases that become E0 and E1
release_prefixes : T (every (λ (c : ℕ). beq (is_prefix (with_top_bit (key_of c))) (is_prefix_code (after_f0 c))) 0x85)
unfolding entry_of printed put_bit
release_prefixes = tt

release_prefix : (c : ℕ) → is_prefix (with_top_bit (key_of c)) ≡ is_prefix_code (after_f0 c)
unfolding put_bit
release_prefix c = by (ltb c 0x85) refl
  where
    by : (t : Bool) → ltb c 0x85 ≡ t → is_prefix (with_top_bit (key_of c)) ≡ is_prefix_code (after_f0 c)
    by true h = agree_bool (λ (c : ℕ). is_prefix (with_top_bit (key_of c))) (λ (c : ℕ). is_prefix_code (after_f0 c)) 0x85 release_prefixes c (ltb-true c 0x85 h)
    by false h =
        let l = ltb-false c 0x85 h in
        rw (entry_above c (omega arith), ne_eqb c 0x47 (λ e. omega arith), ne_eqb c 0x4F (λ e. omega arith))

-- no byte below E0 is a prefix, and no code above 84 has an entry
low_no_prefix : (b : ℕ) → b < 0xE0 → is_prefix b ≡ false
low_no_prefix b h = rw (ne_eqb b 0xE0 (λ e. omega arith), ne_eqb b 0xE1 (λ e. omega arith))

entry_no_prefix : (c : ℕ) {e : ℕ} → entry_of c ≡ some e → is_prefix c ≡ false
entry_no_prefix c {e} h = by (ltb c 0x85) refl
  where
    by : (t : Bool) → ltb c 0x85 ≡ t → is_prefix c ≡ false
    by true l = low_no_prefix c (omega (arith, ltb-true c 0x85 l))
    by false l = let z : ◌≡◌ {A = ℕ} 0 1 = cc (entry_above c (omega (arith, ltb-false c 0x85 l))) in absurd (omega arith)

pub prefix_says : {c : Code} {b : ℕ} → Says c b → is_prefix b ≡ is_prefix_code c
prefix_says (a_prefix p) = refl
prefix_says (a_press {c = c} {e = e} h) = low_no_prefix e (omega (arith, (entry_press c h).1)) ∙ sym (entry_no_prefix c h)
prefix_says (a_release {c = c} {e = e} h) = ap (λ (x : Option ℕ). is_prefix (with_top_bit (or_none x))) (sym h) ∙ release_prefix c

-- ---- the stroke

pub stroke_says : {c : Code} {b : ℕ} → Says c b → is_prefix_code c ≡ false → (x : Bool) → stroke_of c x ≡ stroke b x ∷ []
stroke_says (a_prefix p) n x = absurd (false≢true (sym n ∙ p))
stroke_says (a_press {c = c} {e = e} h) n x =
    let l = (entry_press c h).1 in
    let m : e % 0x80 ≡ e = omega arith in
    rw (h, m, lt-ltb e 0x80 l)
stroke_says (a_release {c = c} {e = e} h) n x =
    let l = (entry_press c h).1 in
    let m : (e + 0x80) % 0x80 ≡ e = omega arith in
    rw (top_bit e l, h, m, le-ltb (e + 0x80) 0x80 (omega arith))

-- ---- no byte that a code becomes is 00

pub nonzero_says : {c : Code} {b : ℕ} → Says c b → eqb b 0x00 ≡ false
nonzero_says (a_prefix {b = b} p) = ne_eqb b 0x00 (λ e. false≢true (rw e at p))
nonzero_says (a_press {c = c} {e = e} h) = ne_eqb e 0x00 (λ z. omega (arith, (entry_press c h).0))
nonzero_says (a_release {c = c} {e = e} h) = ne_eqb (with_top_bit e) 0x00 (λ z. omega (arith, top_bit e (entry_press c h).1))
