-- Laws of the table of characters. That a table agrees with the rule is one test, computed over all of its entries; `agreement`
-- turns it into the rule at each entry.
use mathlib.Core.Path.{◌≡◌, refl, sym, ap, ap₂, subst, ◌∙◌}
use mathlib.Core.Bool.{Bool, true, false, not, ◌&&◌, ◌||◌, xor, true≢false}
use mathlib.Core.List.{List, [], ◌∷◌}
use Prim.Native.Nat.{ℕ, ◌≤◌}
use lib.Dec.{T, T_not, eqb, eqb→eq}
use lib.ListN.{length, get_or, drop, get_or-eq_default}
use mir.Facts.{and_yes}
use Rattle.bits.specs.Bits.{bit}
use Rattle.bits.proofs.Every.{each}
use Rattle.keyboard_modifiers.specs.declared.KeyboardModifiers.{KeyboardModifiers}
use Rattle.keyboard_modifiers.specs.Flags.{shift_left, shift_right, caps_lock}
use Rattle.std.specs.Prelude.{Option, Some, None}
use Rattle.keycodes_ascii.specs.declared.Keycode.{Keycode}
use Rattle.keycodes_ascii.specs.Keycode.{number_of, keycodes}
use Rattle.keycodes_ascii.specs.Characters.{writes, character, character_of}
use Rattle.keycodes_ascii.specs.CharacterTable.{column_of, entry_character, table_character, Agrees}
use Rattle.keycodes_ascii.proofs.Codes.{every_keycode}
use Rattle.keycodes_ascii.proofs.Chars.{character_flags}

unfoldable pub same : Option ℕ → Option ℕ → Bool
same (Some a) (Some b) = eqb a b
same (Some a) None = false
same None (Some b) = false
same None None = true

same_eq : (x y : Option ℕ) → T (same x y) → x ≡ y
unfolding same
same_eq (Some a) (Some b) t = ap Some (eqb→eq a b t)
same_eq (Some a) None t = absurd t
same_eq None (Some b) t = absurd t
same_eq None None t = refl

abbrev pub both : (Bool → Bool) → Bool
both f = f false && f true

at_both : (f : Bool → Bool) → T (both f) → (b : Bool) → T (f b)
at_both f t false = (and_yes (f false) (f true) t).0
at_both f t true = (and_yes (f false) (f true) t).1

at_keycode : (f : Keycode → Bool) → T (each f keycodes) → (k : Keycode) → T (f k)
unfolding keycodes
at_keycode f t k = every_keycode f (and_yes (f Keycode.OverflowError) (each f (drop 1 keycodes)) t).0 t k

-- the test of an entry, and of a key's four
unfoldable pub entry_right : List (List ℕ) → Keycode → Bool → Bool → Bool
entry_right table k shift caps = same (table_character table (number_of k) (column_of shift caps)) (character (writes k) shift caps)

unfoldable pub row_right : List (List ℕ) → Keycode → Bool
row_right table k = both (λ shift. both (entry_right table k shift))

-- the test of a table: by cases, so that the table of a call's argument is computed once and not at each key
unfoldable pub all_right : List (List ℕ) → Bool
all_right [] = false
all_right (row ∷ rows) = each (row_right (row ∷ rows)) keycodes

entries : (table : List (List ℕ)) → T (each (row_right table) keycodes) → Agrees table
unfolding row_right entry_right
entries table t =
    record {
      entry =
          λ k shift caps.
          same_eq _ _
          (at_both (entry_right table k shift)
          (at_both (λ shift. both (entry_right table k shift)) (at_keycode (row_right table) t k) shift)
          caps);
    }

-- one computed test, and the rule holds at each entry
pub agreement : (table : List (List ℕ)) → true ≡ all_right table → Agrees table
unfolding all_right
agreement [] e = absurd (true≢false e)
agreement (row ∷ rows) e = entries (row ∷ rows) (subst T e tt)

-- past a table's end there is no character
pub past_end : (table : List (List ℕ)) (row column : ℕ) → length table ≤ row → None ≡ table_character table row column
past_end table row column h = ap (λ r. entry_character (get_or r column 0)) (sym (get_or-eq_default table [] h))

-- the character of a key under some flags stands at the key's number, in the column that the flags say
pub table_flags : {table : List (List ℕ)} → Agrees table → (k : Keycode) (m : KeyboardModifiers) {number column : ℕ} {shift caps : Bool}
    → number ≡ number_of k → column ≡ column_of shift caps
    → shift ≡ (bit shift_left m.bits || bit shift_right m.bits) → caps ≡ bit caps_lock m.bits
    → table_character table number column ≡ character_of k m
table_flags {table} a k m {number} {column} {shift} {caps} n c p q =
    ap₂ (table_character table) n c ∙ a.entry k shift caps ∙ character_flags k m p q

-- 0 can stand for no character, since no key writes it
is_nul : Option ℕ → Bool
is_nul (Some n) = eqb n 0
is_nul None = false

pub nul_free : (k : Keycode) (shift caps : Bool) → character (writes k) shift caps ≡ Some 0 → ⊥
unfolding is_nul keycodes xor
nul_free k shift caps e =
    T_not (is_nul (character (writes k) shift caps))
    (at_both (λ caps. not (is_nul (character (writes k) shift caps)))
    (at_both (λ shift. both (λ caps. not (is_nul (character (writes k) shift caps))))
    (at_keycode (λ k. both (λ shift. both (λ caps. not (is_nul (character (writes k) shift caps))))) tt k)
    shift)
    caps)
    (subst (λ (x : Option ℕ). T (is_nul x)) (sym e) tt)
