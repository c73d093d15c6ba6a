-- The codes of a stream: its first code, and a way to go through it code by code.
use mathlib.Core.Path.{◌≡◌, refl}
use mathlib.Core.Bool.{Bool, true, false}
use mathlib.Core.List.{List, [], ◌∷◌}
use Prim.Native.Nat.{ℕ, suc, ◌+◌, ◌-◌, ◌<◌, ◌≤◌}
use native.Mathlib.Numerals.{add-one}
use native.Mathlib.Omega.{arith}
use lib.ListN.{length, get_or, drop, drop_of_length-le}
use lib.Seq.{drop-cons}
use borrow.Author.Tests.{eqb-true, ne_eqb}
use Rattle.scancode_set2.specs.Codes.{break_byte, is_break, alone, after_f0, ends_after_f0, codes}

-- ---- the first code

pub codes_none : codes [] ≡ []
unfolding codes
codes_none = refl

pub codes_alone : (b : ℕ) (stream : List ℕ) → is_break b ≡ false → codes (b ∷ stream) ≡ alone b ∷ codes stream
unfolding codes
codes_alone b [] e = rw e
codes_alone b (c ∷ stream) e = rw e

pub codes_after : (c : ℕ) (stream : List ℕ) → codes (break_byte ∷ c ∷ stream) ≡ after_f0 c ∷ codes stream
unfolding codes
codes_after c stream = refl

pub codes_cut : codes (break_byte ∷ []) ≡ ends_after_f0 ∷ []
unfolding codes
codes_cut = refl

-- ---- code by code

pub data ByCodes : List ℕ → Type 0 where
  no_code : ByCodes []
  one_alone : (b : ℕ) {stream : List ℕ} → is_break b ≡ false → ByCodes stream → ByCodes (b ∷ stream)
  one_after : (c : ℕ) {stream : List ℕ} → ByCodes stream → ByCodes (break_byte ∷ c ∷ stream)
  cut_short : ByCodes (break_byte ∷ [])

pub by_codes : (stream : List ℕ) → ByCodes stream
by_codes [] = no_code
by_codes (b ∷ []) = by (is_break b) refl
  where
    by : (t : Bool) → is_break b ≡ t → ByCodes (b ∷ [])
    by true e = rw (eqb-true b break_byte e) cut_short
    by false e = one_alone b e no_code
by_codes (b ∷ c ∷ stream) = by (is_break b) refl (by_codes stream) (by_codes (c ∷ stream))
  where
    by : (t : Bool) → is_break b ≡ t → ByCodes stream → ByCodes (c ∷ stream) → ByCodes (b ∷ c ∷ stream)
    by true e two one = rw (eqb-true b break_byte e) (one_after c two)
    by false e two one = one_alone b e one

-- ---- the code at a place

module _ (stream : List ℕ) (used : ℕ) (h : used < length stream) where
  -- a byte by itself
  pub alone_at : (get_or stream used 0 ≡ break_byte → ⊥) → codes (drop used stream) ≡ alone (get_or stream used 0) ∷ codes (drop (used + 1) stream)
  alone_at n = rw (add-one used, drop-cons stream used 0 h) (codes_alone (get_or stream used 0) (drop (suc used) stream) (ne_eqb (get_or stream used 0) break_byte n))

  module _ (e : get_or stream used 0 ≡ break_byte) where
    -- F0 and a byte
    pub after_at : (length stream - used ≡ 1 → ⊥) → codes (drop used stream) ≡ after_f0 (get_or stream (used + 1) 0) ∷ codes (drop (used + 2) stream)
    after_at n =
        let l : suc used < length stream = omega arith in
        let q : used + 2 ≡ suc (suc used) = omega arith in
        rw (q, add-one used, drop-cons stream used 0 h, drop-cons stream (suc used) 0 l, e) (codes_after (get_or stream (suc used) 0) (drop (suc (suc used)) stream))

    -- F0 at the end
    pub cut_at : length stream - used ≡ 1 → codes (drop used stream) ≡ ends_after_f0 ∷ []
    cut_at l =
        let n : length stream ≤ suc used = omega arith in
        rw (drop-cons stream used 0 h, drop_of_length-le stream n, e) codes_cut
