-- The key of a character: it gives the character, no key without Shift does where it needs Shift, and none that does is lower.
use mathlib.Core.Path.{◌≡◌, refl, ap, subst}
use mathlib.Core.Bool.{Bool, true, false, not, cond, ◌&&◌, ◌||◌, false≢true}
use mathlib.Core.List.{List, [], ◌∷◌}
use mathlib.Core.Option.{Option, none, some, some-injective, none-ne-some}
use Prim.Native.Nat.{ℕ, ◌<◌, ◌≤◌}
use native.Mathlib.Omega.{arith}
use lib.Dec.{T, leb, ltb, ltb→lt, leb→le}
use lib.Ieee.Bits.{is_false}
use mir.Facts.{and_yes, yes_and}
use borrow.Author.Tests.{eqb-true, le-leb, ltb-true, ltb-false}
use Rattle.bits.specs.Bits.{bit, odd, put_bit}
use Rattle.bits.proofs.Every.{each}
use Rattle.std.specs.Prelude.{Some, None}
use Rattle.std.specs.Prelude as prelude
use Rattle.keycodes_ascii.specs.declared.Keycode.{Keycode}
use Rattle.keycodes_ascii.specs.Keycode.{number_of, keycodes}
use Rattle.keycodes_ascii.specs.Characters.{character_of}
use Rattle.keycodes_ascii.proofs.Codes.{every_keycode}
use Rattle.typing.specs.Keys.{Key, flags_held, is_the, gives_it, lower, lowest, or_else, key_of}
use Rattle.typing.specs.Chosen.{NoKey, Chosen}

-- ---- tests of every keycode

either : (a b : Bool) → T b → T (a || b)
either true b t = tt
either false b t = t

each_mono : (g h : Keycode → Bool) → ((k : Keycode) → T (g k) → T (h k)) → (ks : List Keycode) → T (each g ks) → T (each h ks)
each_mono g h m [] t = tt
each_mono g h m (k ∷ ks) t =
    let u = and_yes (g k) (each g ks) t in
    yes_and (h k) (each h ks) (m k u.0) (each_mono g h m ks u.1)

-- a test of the list of all keycodes is one of every keycode
pub of_every : (f : Keycode → Bool) → T (each f keycodes) → (k : Keycode) → T (f k)
unfolding keycodes
of_every f t k = every_keycode f (and_yes (f Keycode.OverflowError) _ t).0 t k

-- ---- the lowest keycode of which a test holds

module _ (f : Keycode → Bool) where
  abbrev none_holds : Keycode → Bool
  none_holds k = not (f k)

  -- where the test holds of a keycode, j is no higher
  abbrev no_lower : Keycode → Keycode → Bool
  no_lower j k = not (f k) || leb (number_of j) (number_of k)

  data Lowest (ks : List Keycode) : Option Keycode → Type 0 where
    of_none : T (each none_holds ks) → Lowest ks none
    of_one : (j : Keycode) → f j ≡ true → T (each (no_lower j) ks) → Lowest ks (some j)

  weaker : (j k i : Keycode) → number_of k ≤ number_of j → T (no_lower j i) → T (no_lower k i)
  weaker j k i h t = by (f i) t
    where
      by : (b : Bool) → T (not b || leb (number_of j) (number_of i)) → T (not b || leb (number_of k) (number_of i))
      by false t = tt
      by true t = rw (le-leb (number_of k) (number_of i) (omega (arith, leb→le (number_of j) (number_of i) t))) tt

  none_lower : (k i : Keycode) → T (none_holds i) → T (no_lower k i)
  none_lower k i t = by (f i) t
    where
      by : (b : Bool) → T (not b) → T (not b || leb (number_of k) (number_of i))
      by false t = tt
      by true t = absurd t

  itself : (k : Keycode) → T (no_lower k k)
  itself k = either (not (f k)) (leb (number_of k) (number_of k)) (rw (le-leb (number_of k) (number_of k) (omega arith)) tt)

  lowest_with : (k : Keycode) (ks : List Keycode) → f k ≡ true → {o : Option Keycode} → Lowest ks o → Lowest (k ∷ ks) (lower k o)
  lowest_with k ks e (of_none t) = of_one k e (yes_and (no_lower k k) (each (no_lower k) ks) (itself k) (each_mono none_holds (no_lower k) (none_lower k) ks t))
  lowest_with k ks e (of_one j h t) = by (ltb (number_of j) (number_of k)) refl
    where
      by : (b : Bool) → ltb (number_of j) (number_of k) ≡ b → Lowest (k ∷ ks) (some (cond b j k))
      by true l =
          of_one j h
          (yes_and (no_lower j k) (each (no_lower j) ks) (either (not (f k)) (leb (number_of j) (number_of k)) (rw (le-leb (number_of j) (number_of k) (omega (arith, ltb-true (number_of j) (number_of k) l))) tt)) t)
      by false l =
          of_one k e
          (yes_and (no_lower k k) (each (no_lower k) ks) (itself k) (each_mono (no_lower j) (no_lower k) (λ i. weaker j k i (ltb-false (number_of j) (number_of k) l)) ks t))

  lowest_without : (k : Keycode) (ks : List Keycode) → f k ≡ false → {o : Option Keycode} → Lowest ks o → Lowest (k ∷ ks) o
  lowest_without k ks e (of_none t) = of_none (yes_and (none_holds k) (each none_holds ks) (rw e tt) t)
  lowest_without k ks e (of_one j h t) = of_one j h (yes_and (no_lower j k) (each (no_lower j) ks) (rw e tt) t)

  lowest_is : (ks : List Keycode) → Lowest ks (lowest f ks)
  unfolding lowest
  lowest_is [] = of_none tt
  lowest_is (k ∷ ks) = by (f k) refl (lowest_is ks)
    where
      by : (b : Bool) → f k ≡ b → Lowest ks (lowest f ks) → Lowest (k ∷ ks) (cond b (lower k (lowest f ks)) (lowest f ks))
      by true e l = lowest_with k ks e l
      by false e l = lowest_without k ks e l

  -- as facts of every keycode
  data LowestOfAll : Option Keycode → Type 0 where
    holds_of_none : ((k : Keycode) → f k ≡ false) → LowestOfAll none
    holds_of : (j : Keycode) → f j ≡ true → ((k : Keycode) → f k ≡ true → number_of j ≤ number_of k) → LowestOfAll (some j)

  le_of : (j k : Keycode) → f k ≡ true → T (no_lower j k) → number_of j ≤ number_of k
  le_of j k e t = leb→le (number_of j) (number_of k) (rw e at t)

  of_all : {o : Option Keycode} → Lowest keycodes o → LowestOfAll o
  of_all (of_none t) = holds_of_none (λ k. is_false (f k) (of_every none_holds t k))
  of_all (of_one j h t) = holds_of j h (λ k e. le_of j k e (of_every (no_lower j) t k))

  lowest_of_all : LowestOfAll (lowest f keycodes)
  lowest_of_all = of_all (lowest_is keycodes)

-- ---- the choice

pub data Choice (c : ℕ) : Option Key → Type 0 where
  no_key : NoKey c → Choice c none
  a_key : {k : Key} → Chosen c k → Choice c (some k)

choice_shifted : (c : ℕ) → ((j : Keycode) → gives_it false c j ≡ false) → {o : Option Keycode} → LowestOfAll (gives_it true c) o → Choice c (or_else o true none)
choice_shifted c n (holds_of_none m) = no_key (record { gives_none = λ shift j. by shift j })
  where
    by : (shift : Bool) (j : Keycode) → gives_it shift c j ≡ false
    by true j = m j
    by false j = n j
choice_shifted c n (holds_of j h l) = a_key (record { right = h; unshifted_first = λ e. n; lowest = l })

choice_by : (c : ℕ) {o p : Option Keycode} → LowestOfAll (gives_it false c) o → LowestOfAll (gives_it true c) p → Choice c (or_else o false (or_else p true none))
choice_by c (holds_of_none m) p = choice_shifted c m p
choice_by c (holds_of j h l) p = a_key (record { right = h; unshifted_first = λ e. absurd (false≢true e); lowest = l })

pub choice : (c : ℕ) → Choice c (key_of c)
unfolding key_of
choice c = choice_by c (lowest_of_all (gives_it false c)) (lowest_of_all (gives_it true c))

-- a key that is chosen is right
pub chosen : (c : ℕ) {k : Key} → key_of c ≡ some k → Chosen c k
chosen c {k} e = by (choice c) e
  where
    by : {o : Option Key} → Choice c o → o ≡ some k → Chosen c k
    by (no_key n) e = absurd (none-ne-some _ e)
    by (a_key h) e = subst (Chosen c) (some-injective _ _ e) h

-- ---- the keys that give characters

abbrev pub is_absent : prelude.Option ℕ → Bool
is_absent (Some d) = false
is_absent None = true

-- their codes are presses of set 1
abbrev is_press_or_absent : Bool → Keycode → Bool
is_press_or_absent shift k = is_absent (character_of k (flags_held shift)) || (ltb 0 (number_of k) && ltb (number_of k) 0x80)

presses : (shift : Bool) (k : Keycode) → T (is_press_or_absent shift k)
unfolding character_of keycodes bit odd put_bit
presses true k = of_every (is_press_or_absent true) tt k
presses false k = of_every (is_press_or_absent false) tt k

-- the character of a key that gives it
is_the_lem : (c : ℕ) (x : prelude.Option ℕ) → is_the c x ≡ true → x ≡ Some c
is_the_lem c (Some d) e = ap Some (eqb-true d c e)
is_the_lem c None e = absurd (false≢true e)

pub gives_character : (shift : Bool) (c : ℕ) (k : Keycode) → gives_it shift c k ≡ true → character_of k (flags_held shift) ≡ Some c
unfolding gives_it
gives_character shift c k e = is_the_lem c (character_of k (flags_held shift)) e

pub gives_press : (shift : Bool) (c : ℕ) (k : Keycode) → gives_it shift c k ≡ true → (0 < number_of k) × (number_of k < 0x80)
gives_press shift c k e =
    let t : T (ltb 0 (number_of k) && ltb (number_of k) 0x80) = rw (gives_character shift c k e) at (presses shift k) in
    let u = and_yes (ltb 0 (number_of k)) (ltb (number_of k) 0x80) t in
    (ltb→lt 0 (number_of k) u.0, ltb→lt (number_of k) 0x80 u.1)
