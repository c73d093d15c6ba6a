-- The byte that a code becomes: it is never 00, and every code but F0 at the end becomes one or is refused with 22.
use mathlib.Core.Path.{◌≡◌, refl, sym, ap, ◌∙◌}
use mathlib.Core.Bool.{Bool, true, false}
use mathlib.Core.Option.{Option, none, some}
use Prim.Native.Nat.{ℕ, ◌+◌, ◌<◌}
use native.Mathlib.Omega.{arith}
use lib.Dec.{eqb}
use borrow.Author.Tests.{eqb-true}
use Rattle.bits.specs.Bits.{put_bit}
use Rattle.bits.proofs.Every.{agree}
use Rattle.exchange.specs.Answer.{gives, refuses}
use Rattle.scancode_set2.specs.Table.{entry_of}
use Rattle.scancode_set2.specs.Codes.{is_prefix, Code, alone, after_f0, ends_after_f0}
use Rattle.scancode_set2.specs.Convert.{with_top_bit, by_entry, becomes, or_no_byte}
use Rattle.scancode_set2.proofs.Table.{entry_press}

-- the top bit, of a byte without it
pub top_bit : (b : ℕ) → b < 0x80 → with_top_bit b ≡ b + 0x80
unfolding put_bit
top_bit b h = agree with_top_bit (λ (x : ℕ). x + 0x80) 0x80 tt b h

-- ---- a code by itself, and one after F0

pub alone_prefix : (c : ℕ) → is_prefix c ≡ true → becomes (alone c) ≡ gives c
unfolding becomes
alone_prefix c e = rw e

pub alone_entry : (c : ℕ) → is_prefix c ≡ false → becomes (alone c) ≡ by_entry (λ e. e) (entry_of c)
unfolding becomes
alone_entry c e = rw e

pub after_entry : (c : ℕ) → becomes (after_f0 c) ≡ by_entry with_top_bit (entry_of c)
unfolding becomes
after_entry c = refl

pub cut_refused : becomes ends_after_f0 ≡ refuses 24
unfolding becomes
cut_refused = refl

pub data Alone (c : ℕ) : Type 0 where
  is_a_prefix : is_prefix c ≡ true → becomes (alone c) ≡ gives c → Alone c
  is_press : {e : ℕ} → entry_of c ≡ some e → becomes (alone c) ≡ gives e → Alone c
  is_no_press : is_prefix c ≡ false → entry_of c ≡ none → becomes (alone c) ≡ refuses 22 → Alone c

pub alone_is : (c : ℕ) → Alone c
alone_is c = by (is_prefix c) refl (entry_of c) refl
  where
    by : (t : Bool) → is_prefix c ≡ t → (x : Option ℕ) → entry_of c ≡ x → Alone c
    by true p x e = is_a_prefix p (alone_prefix c p)
    by false p none e = is_no_press p e (alone_entry c p ∙ ap (by_entry (λ e. e)) e)
    by false p (some b) e = is_press e (alone_entry c p ∙ ap (by_entry (λ e. e)) e)

pub data After (c : ℕ) : Type 0 where
  is_release : {e : ℕ} → entry_of c ≡ some e → becomes (after_f0 c) ≡ gives (with_top_bit e) → After c
  is_no_release : entry_of c ≡ none → becomes (after_f0 c) ≡ refuses 22 → After c

pub after_is : (c : ℕ) → After c
after_is c = by (entry_of c) refl
  where
    by : (x : Option ℕ) → entry_of c ≡ x → After c
    by none e = is_no_release e (after_entry c ∙ ap (by_entry with_top_bit) e)
    by (some b) e = is_release e (after_entry c ∙ ap (by_entry with_top_bit) e)

-- ---- the ways of a code

-- a code becomes a byte that is not 00, or has no entry
pub data Way (c : Code) : Type 0 where
  a_byte : (b : ℕ) → 0 < b → becomes c ≡ gives b → Way c
  no_byte : becomes c ≡ refuses 22 → Way c

prefix_positive : (c : ℕ) → is_prefix c ≡ true → 0 < c
prefix_positive c h = by (eqb c 0xE0) refl
  where
    by : (t : Bool) → eqb c 0xE0 ≡ t → 0 < c
    by true e = omega (arith, eqb-true c 0xE0 e)
    by false e = omega (arith, eqb-true c 0xE1 (rw e at h))

pub alone_way : (c : ℕ) → Way (alone c)
alone_way c = by (alone_is c)
  where
    by : Alone c → Way (alone c)
    by (is_a_prefix p q) = a_byte c (prefix_positive c p) q
    by (is_press e q) = a_byte _ (entry_press c e).0 q
    by (is_no_press p e q) = no_byte q

pub after_way : (c : ℕ) → Way (after_f0 c)
after_way c = by (after_is c)
  where
    by : After c → Way (after_f0 c)
    by (is_release {e = b} e q) = a_byte (with_top_bit b) (omega (arith, top_bit b (entry_press c e).1)) q
    by (is_no_release e q) = no_byte q

-- ---- the byte as a number

pub zero_refused : (c : Code) → Way c → or_no_byte (becomes c) ≡ 0 → becomes c ≡ refuses 22
zero_refused c (no_byte q) z = q
zero_refused c (a_byte b h q) z = absurd (omega (arith, sym z ∙ ap or_no_byte q))

pub byte_given : (c : Code) → Way c → (or_no_byte (becomes c) ≡ 0 → ⊥) → becomes c ≡ gives (or_no_byte (becomes c))
byte_given c (no_byte q) n = absurd (n (ap or_no_byte q))
byte_given c (a_byte b h q) n = q ∙ ap gives (sym (ap or_no_byte q))
