-- The table: which codes have an entry, what the entries are, and that they are the keys of the wiki's set 2.
use mathlib.Core.Path.{◌≡◌, refl, sym, ap, ◌∙◌, subst}
use mathlib.Core.Bool.{Bool, true, false, cond, ◌&&◌}
use mathlib.Core.List.{List, [], ◌∷◌}
use mathlib.Core.Option.{Option, none, some}
use Prim.Native.Nat.{ℕ, zero, suc, ◌<◌}
use Prim.Native.String.{String}
use native.Mathlib.Omega.{arith}
use lib.Dec.{T, eqb, ltb, ltb→lt}
use lib.ListN.{get_or}
use mir.Facts.{and_yes}
use borrow.Author.Tests.{le-leb, lt-leb, ltb-true, ltb-false, ne_eqb}
use Rattle.bits.specs.Table.{listed}
use Rattle.bits.proofs.Every.{every, every_at, agree, each}
use Rattle.scancode_set1.specs.Set1.{set1, set1_after_e0}
use Rattle.scancode_set2.specs.Table.{printed, is_used, entry_of, or_none}
use Rattle.scancode_set2.specs.Set2.{set2, set2_after_e0}

-- ---- which codes have an entry

pub entry_used : (c : ℕ) → is_used c ≡ true → entry_of c ≡ some (get_or printed c 0)
unfolding entry_of
entry_used c e = rw e

pub entry_unused : (c : ℕ) → is_used c ≡ false → entry_of c ≡ none
unfolding entry_of
entry_unused c e = rw e

-- no code above 84 has one
pub entry_above : (c : ℕ) → 0x84 < c → entry_of c ≡ none
entry_above c h =
    entry_unused c (rw (le-leb 0x01 c (omega arith), lt-leb c 0x7F (omega arith), ne_eqb c 0x83 (λ e. omega arith), ne_eqb c 0x84 (λ e. omega arith)))

-- 00, F0, E0 and E1 have none
pub entry_none : (entry_of 0x00 ≡ none) × (entry_of 0xF0 ≡ none) × (entry_of 0xE0 ≡ none) × (entry_of 0xE1 ≡ none)
unfolding entry_of
entry_none = (refl, refl, refl, refl)

-- ---- what the entries are

-- a press byte of set 1 is 01 to 7F
abbrev is_press_byte : Option ℕ → Bool
is_press_byte none = true
is_press_byte (some e) = ltb 0 e && ltb e 0x80

press_bytes : T (every (λ (c : ℕ). is_press_byte (entry_of c)) 0x85)
unfolding entry_of printed
press_bytes = tt

press_byte : (c : ℕ) → T (is_press_byte (entry_of c))
press_byte c = by (ltb c 0x85) refl
  where
    by : (t : Bool) → ltb c 0x85 ≡ t → T (is_press_byte (entry_of c))
    by true e = every_at (λ (c : ℕ). is_press_byte (entry_of c)) 0x85 press_bytes c (ltb-true c 0x85 e)
    by false e = rw (entry_above c (omega (arith, ltb-false c 0x85 e))) tt

-- every entry is one
pub entry_press : (c : ℕ) {e : ℕ} → entry_of c ≡ some e → (0 < e) × (e < 0x80)
entry_press c {e} h =
    let t = and_yes (ltb 0 e) (ltb e 0x80) (subst (λ (x : Option ℕ). T (is_press_byte x)) h (press_byte c)) in
    (ltb→lt 0 e t.0, ltb→lt e 0x80 t.1)

-- the place of a number in a list
abbrev place_of : ℕ → List ℕ → ℕ
place_of x [] = zero
place_of x (y ∷ l) = cond (eqb y x) zero (suc (place_of x l))

places : T (every (λ (c : ℕ). eqb (place_of (get_or printed c 0) printed) c) 0x80)
unfolding printed
places = tt

-- up to 7F no two codes have one entry
pub entry_once : (c d : ℕ) → c < 0x80 → d < 0x80 → get_or printed c 0 ≡ get_or printed d 0 → c ≡ d
entry_once c d hc hd e =
    let p = agree (λ (c : ℕ). place_of (get_or printed c 0) printed) (λ c. c) 0x80 places in
    sym (p c hc) ∙ ap (λ (x : ℕ). place_of x printed) e ∙ p d hd

-- 83 is the key of 02, and 84 that of 7F
pub entry_twice : (entry_of 0x83 ≡ entry_of 0x02) × (entry_of 0x84 ≡ entry_of 0x7F)
unfolding entry_of printed
entry_twice = (refl, refl)

-- ---- the keys

-- whether the entry of a row's code is what set 1 lists under the row's key
unfoldable pub is_key_of : List (ℕ × String) → ℕ × String → Bool
is_key_of keys row = eqb (or_none (entry_of row.0)) (listed keys row.1)

-- every key of the wiki's set 2 has for its entry the wiki's code in set 1
pub set2_set1 : T (each (is_key_of set1) set2)
unfolding is_key_of entry_of printed
set2_set1 = tt

pub set2_set1_after_e0 : T (each (is_key_of set1_after_e0) set2_after_e0)
unfolding is_key_of entry_of printed
set2_set1_after_e0 = tt
