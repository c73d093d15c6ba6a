-- A stroke changes the word of flags by masks: its key's flags are put in or taken out, a lock's is turned over. By induction over the rows of a table.
use mathlib.Core.Path.{◌≡◌, refl, ap, ap₂, sym, ◌∙◌}
use mathlib.Core.Bool.{Bool, true, false, not, cond, xor, ◌&&◌, ◌||◌, and-eq-true_iff, and-false}
use mathlib.Core.List.{List, [], ◌∷◌}
use mathlib.Core.Logic.{⊎_elim}
use Prim.Native.Nat.{ℕ, zero, suc, ◌^◌, ◌<◌}
use lib.Dec.{eqb}
use borrow.Author.Tests.{eqb-true, eqb-false}
use Rattle.bits.specs.Bits.{odd, bit, put_bit, bitwise, without}
use Rattle.bits.proofs.Bits.{bit_put_same, bit_put_other, bit-bitwise, bitwise-lt, bits_determine}
use Rattle.keyboard_scancodes.specs.Strokes.{Stroke}
use Rattle.keyboard_scancodes.specs.FlagTable.{Kind, lock, held, left, right, FlagRow, has, is_of, is_lock}
use Rattle.keyboard_scancodes.specs.FlagsAfter.{flag_after, flags_after, flags_of, holds, locks}
use Rattle.keyboard_scancodes.proofs.Tests.{which}
use Rattle.keyboard_scancodes.proofs.Flags.{apart, distinct, below, differ, after_lt}

-- a key's flags are put in by its press and taken out by its release
abbrev pub moved : Bool → Bool → Bool → Bool
moved true a b = a || b
moved false a b = without a b

moved_none : (p a : Bool) → moved p a false ≡ a
moved_none true true = refl
moved_none true false = refl
moved_none false true = refl
moved_none false false = refl

moved_all : (p a : Bool) → moved p a true ≡ p
moved_all true true = refl
moved_all true false = refl
moved_all false true = refl
moved_all false false = refl

xor_none : (a : Bool) → xor a false ≡ a
unfolding xor
xor_none true = refl
xor_none false = refl

xor_all : (a : Bool) → xor a true ≡ not a
unfolding xor
xor_all true = refl
xor_all false = refl

bit-zero : (k : ℕ) → bit k 0 ≡ false
unfolding bit odd
bit-zero zero = refl
bit-zero (suc k) = bit-zero k

-- a bit that is none of the rows' flags is in no mask of theirs
mask_apart : (f : FlagRow → Bool) (k : ℕ) (rows : List FlagRow) → apart k rows ≡ true → bit k (flags_of f rows) ≡ false
mask_apart f k [] t = bit-zero k
mask_apart f k (r ∷ rows) t =
    let p = (and-eq-true_iff (not (eqb k r.flag)) (apart k rows)).0 t in
    go (f r) (λ e. differ k r.flag p.0 (sym e)) (mask_apart f k rows p.1)
  where
    go : (c : Bool) → (k ≡ r.flag → ⊥) → bit k (flags_of f rows) ≡ false → bit k (cond c (put_bit r.flag true (flags_of f rows)) (flags_of f rows)) ≡ false
    go true n e = bit_put_other k r.flag true (flags_of f rows) n ∙ e
    go false n e = e

module _ (s : Stroke) (w : ℕ) where
  -- bit k after the stroke, by the masks of these rows
  abbrev masked : ℕ → List FlagRow → Bool
  masked k rows = xor (moved s.pressed (bit k w) (bit k (flags_of (holds s) rows))) (bit k (flags_of (locks s) rows))

  module _ (r : FlagRow) (rows : List FlagRow) where
    abbrev before : ℕ
    before = flags_after rows s w

    own_held : apart r.flag rows ≡ true → s.pressed
        ≡ xor (moved s.pressed (bit r.flag w) (bit r.flag (put_bit r.flag true (flags_of (holds s) rows)))) (bit r.flag (flags_of (locks s) rows))
    own_held a =
        rw (mask_apart (locks s) r.flag rows a, bit_put_same r.flag true (flags_of (holds s) rows), moved_all s.pressed (bit r.flag w), xor_none s.pressed)

    -- the row's own bit, which no other row has
    own : (kind : Kind) → apart r.flag rows ≡ true → bit r.flag before ≡ masked r.flag rows
        → flag_after kind s.pressed (bit r.flag before)
        ≡ xor (moved s.pressed (bit r.flag w) (bit r.flag (cond (not (is_lock kind) && true) (put_bit r.flag true (flags_of (holds s) rows)) (flags_of (holds s) rows))))
        (bit r.flag (cond (is_lock kind && true) (put_bit r.flag true (flags_of (locks s) rows)) (flags_of (locks s) rows)))
    own lock a ih =
        let h = mask_apart (holds s) r.flag rows a in
        let l = mask_apart (locks s) r.flag rows a in
        rw (ih, h, l, bit_put_same r.flag true (flags_of (locks s) rows), moved_none s.pressed (bit r.flag w), xor_none (bit r.flag w), xor_all (bit r.flag w))
    own held a ih = own_held a
    own left a ih = own_held a
    own right a ih = own_held a

    -- and every other bit
    other : (k : ℕ) → (k ≡ r.flag → ⊥) → (c : Bool) → bit k before ≡ masked k rows
        → bit k (cond c (put_bit r.flag (flag_after r.kind s.pressed (bit r.flag before)) before) before)
        ≡ xor (moved s.pressed (bit k w) (bit k (cond (not (is_lock r.kind) && c) (put_bit r.flag true (flags_of (holds s) rows)) (flags_of (holds s) rows))))
        (bit k (cond (is_lock r.kind && c) (put_bit r.flag true (flags_of (locks s) rows)) (flags_of (locks s) rows)))
    other k n c ih =
        past c ∙ ih
        ∙ sym (ap₂ (λ (x y : Bool). xor (moved s.pressed (bit k w) x) y) (put_past (not (is_lock r.kind) && c) (flags_of (holds s) rows)) (put_past (is_lock r.kind && c) (flags_of (locks s) rows)))
      where
        put_past : (c : Bool) (m : ℕ) → bit k (cond c (put_bit r.flag true m) m) ≡ bit k m
        put_past true m = bit_put_other k r.flag true m n
        put_past false m = refl

        past : (c : Bool) → bit k (cond c (put_bit r.flag (flag_after r.kind s.pressed (bit r.flag before)) before) before) ≡ bit k before
        past true = bit_put_other k r.flag _ before n
        past false = refl

    same : (c : Bool) → apart r.flag rows ≡ true → bit r.flag before ≡ masked r.flag rows
        → bit r.flag (cond c (put_bit r.flag (flag_after r.kind s.pressed (bit r.flag before)) before) before)
        ≡ xor (moved s.pressed (bit r.flag w) (bit r.flag (cond (not (is_lock r.kind) && c) (put_bit r.flag true (flags_of (holds s) rows)) (flags_of (holds s) rows))))
        (bit r.flag (cond (is_lock r.kind && c) (put_bit r.flag true (flags_of (locks s) rows)) (flags_of (locks s) rows)))
    same true a ih = bit_put_same r.flag _ before ∙ own r.kind a ih
    same false a ih = rw (and-false (not (is_lock r.kind)), and-false (is_lock r.kind)) ih

  bit_after : (rows : List FlagRow) → distinct rows ≡ true → (k : ℕ) → bit k (flags_after rows s w) ≡ masked k rows
  unfolding flags_after
  bit_after [] t k = sym (rw (bit-zero k, moved_none s.pressed (bit k w), xor_none (bit k w)))
  bit_after (r ∷ rows) t k =
      let p = (and-eq-true_iff (apart r.flag rows) (distinct rows)).0 t in
      ⊎_elim
      (λ e. let q : k ≡ r.flag = eqb-true k r.flag e in rw q (same r rows (is_of r s) p.0 (bit_after rows p.1 r.flag)))
      (λ e. other r rows k (eqb-false k r.flag e) (is_of r s) (bit_after rows p.1 k))
      (which (eqb k r.flag))

  -- a release moves no lock
  module _ (released : s.pressed ≡ false) where
    no_lock : (r : FlagRow) → (is_lock r.kind && is_of r s) ≡ false
    unfolding is_of
    no_lock r = by_kind r.kind
      where
        by_kind : (k : Kind) → (is_lock k && (eqb s.code r.code && has k s)) ≡ false
        by_kind lock = rw (released, and-false (eqb s.code r.code))
        by_kind held = refl
        by_kind left = refl
        by_kind right = refl

    no_locks : (rows : List FlagRow) → flags_of (locks s) rows ≡ 0
    no_locks [] = refl
    no_locks (r ∷ rows) = rw (no_lock r) (no_locks rows)

    released_bit : (k : ℕ) (rows : List FlagRow) → masked k rows ≡ without (bit k w) (bit k (flags_of (holds s) rows))
    released_bit k rows =
        ap₂ (λ (q : Bool) (m : ℕ). xor (moved q (bit k w) (bit k (flags_of (holds s) rows))) (bit k m)) released (no_locks rows)
        ∙ ap (xor (without (bit k w) (bit k (flags_of (holds s) rows)))) (bit-zero k)
        ∙ xor_none (without (bit k w) (bit k (flags_of (holds s) rows)))

  -- the whole word, of n bits: after a press, and after a release
  module _ (n : ℕ) (rows : List FlagRow) (d : distinct rows ≡ true) (b : below n rows ≡ true) (l : w < 2 ^ n) where
    pub press_after : s.pressed ≡ true → bitwise xor n (bitwise ◌||◌ n w (flags_of (holds s) rows)) (flags_of (locks s) rows) ≡ flags_after rows s w
    press_after p =
        bits_determine n _ (flags_after rows s w) (bitwise-lt xor n _ _) (after_lt n s w l rows b)
        (λ k h. bit-bitwise xor n k _ (flags_of (locks s) rows) h
        ∙ ap (λ (x : Bool). xor x (bit k (flags_of (locks s) rows))) (bit-bitwise ◌||◌ n k w (flags_of (holds s) rows) h)
        ∙ sym (bit_after rows d k ∙ rw p))

    pub release_after : s.pressed ≡ false → bitwise without n w (flags_of (holds s) rows) ≡ flags_after rows s w
    release_after p =
        bits_determine n _ (flags_after rows s w) (bitwise-lt without n _ _) (after_lt n s w l rows b)
        (λ k h. bit-bitwise without n k w (flags_of (holds s) rows) h
        ∙ sym (bit_after rows d k ∙ released_bit p k rows))
