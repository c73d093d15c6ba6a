-- One stroke's effect on the word of flags, by the table.
use mathlib.Core.Path.{◌≡◌, refl, ap, sym, ◌∙◌}
use mathlib.Core.Bool.{Bool, true, false, not, cond, ◌&&◌, ◌||◌, and-eq-true_iff, false≢true}
use mathlib.Core.List.{List, [], ◌∷◌}
use Prim.Native.Nat.{ℕ, ◌^◌, ◌<◌}
use lib.Dec.{eqb, ltb}
use lib.ListN.{length}
use borrow.Author.Tests.{eq-eqb, ltb-true}
use Rattle.std.proofs.lemmas.Bool.{or_parts}
use Rattle.bits.specs.Bits.{bit, put_bit}
use Rattle.bits.proofs.Bits.{bit_put_same, bit_put_other, put_lt}
use Rattle.bits.proofs.PutBits.{put_put, put_comm}
use Rattle.keyboard_scancodes.specs.Strokes.{Stroke}
use Rattle.keyboard_scancodes.specs.FlagTable.{FlagRow, flag_table, flag_limit, is_of}
use Rattle.keyboard_scancodes.specs.declared.Profile.{Profile}
use Rattle.keyboard_scancodes.specs.Profile.{followed}
use Rattle.keyboard_scancodes.specs.FlagsAfter.{flag_after, row_after, flags_after}

-- ---- what is asked of a table: no two rows have one flag, and each flag is below n

abbrev pub apart : ℕ → List FlagRow → Bool
apart k [] = true
apart k (r ∷ rows) = not (eqb k r.flag) && apart k rows

abbrev pub distinct : List FlagRow → Bool
distinct [] = true
distinct (r ∷ rows) = apart r.flag rows && distinct rows

abbrev pub below : ℕ → List FlagRow → Bool
below n [] = true
below n (r ∷ rows) = ltb r.flag n && below n rows

pub differ : (j k : ℕ) → not (eqb j k) ≡ true → k ≡ j → ⊥
differ j k t e = false≢true (rw (eq-eqb j k (sym e)) at t)

-- ---- a stroke and a bit that is none of the rows' flags

module _ (s : Stroke) (k : ℕ) (v : Bool) where
  row_apart : (r : FlagRow) (w : ℕ) → (k ≡ r.flag → ⊥) → (c : Bool)
      → cond c (put_bit r.flag (flag_after r.kind s.pressed (bit r.flag (put_bit k v w))) (put_bit k v w)) (put_bit k v w)
      ≡ put_bit k v (cond c (put_bit r.flag (flag_after r.kind s.pressed (bit r.flag w)) w) w)
  row_apart r w n false = refl
  row_apart r w n true =
      rw (bit_put_other r.flag k v w (λ e. n (sym e)))
      (put_comm r.flag k (flag_after r.kind s.pressed (bit r.flag w)) v w (λ e. n (sym e)))

  pub after_apart : (rows : List FlagRow) (w : ℕ) → apart k rows ≡ true → flags_after rows s (put_bit k v w) ≡ put_bit k v (flags_after rows s w)
  unfolding flags_after
  after_apart [] w t = refl
  after_apart (r ∷ rows) w t =
      let p = (and-eq-true_iff (not (eqb k r.flag)) (apart k rows)).0 t in
      ap (row_after r s) (after_apart rows w p.1)
      ∙ row_apart r (flags_after rows s w) (λ e. differ k r.flag p.0 (sym e)) (is_of r s)

-- ---- a stroke and the row's own bit

pub row_own : (s : Stroke) (r : FlagRow) (v : Bool) (w : ℕ) (c : Bool)
    → cond c (put_bit r.flag (flag_after r.kind s.pressed (bit r.flag (put_bit r.flag v w))) (put_bit r.flag v w)) (put_bit r.flag v w)
    ≡ put_bit r.flag (cond c (flag_after r.kind s.pressed v) v) w
row_own s r v w false = refl
row_own s r v w true = rw (bit_put_same r.flag v w) (put_put r.flag (flag_after r.kind s.pressed v) v w)

-- a stroke sets no bit beyond the table's
row_lt : (n : ℕ) (r : FlagRow) (s : Stroke) (w : ℕ) → r.flag < n → w < 2 ^ n → (c : Bool)
    → cond c (put_bit r.flag (flag_after r.kind s.pressed (bit r.flag w)) w) w < 2 ^ n
row_lt n r s w h l true = put_lt n r.flag (flag_after r.kind s.pressed (bit r.flag w)) w h l
row_lt n r s w h l false = l

pub after_lt : (n : ℕ) (s : Stroke) (w : ℕ) → w < 2 ^ n → (rows : List FlagRow) → below n rows ≡ true → flags_after rows s w < 2 ^ n
unfolding flags_after
after_lt n s w l [] t = l
after_lt n s w l (r ∷ rows) t =
    let p = (and-eq-true_iff (ltb r.flag n) (below n rows)).0 t in
    row_lt n r s (flags_after rows s w) (ltb-true r.flag n p.0) (after_lt n s w l rows p.1) (is_of r s)

-- a stroke of no row's key changes nothing
abbrev pub touches : List FlagRow → Stroke → Bool
touches [] s = false
touches (r ∷ rows) s = is_of r s || touches rows s

pub untouched : (s : Stroke) (w : ℕ) (rows : List FlagRow) → touches rows s ≡ false → flags_after rows s w ≡ w
unfolding flags_after
untouched s w [] t = refl
untouched s w (r ∷ rows) t =
    let p = or_parts (is_of r s) (touches rows s) t in
    rw p.0 (untouched s w rows p.1)

-- ---- the flags that a profile follows

pub table_distinct : (profile : Profile) → distinct (followed profile) ≡ true
unfolding followed flag_table
table_distinct Profile.Any = refl
table_distinct Profile.Tournament = refl

pub table_below : (profile : Profile) → below (length flag_table) (followed profile) ≡ true
unfolding followed flag_table
table_below Profile.Any = refl
table_below Profile.Tournament = refl

-- a word of flags has 16 bits
pub table_below_16 : (profile : Profile) → below 16 (followed profile) ≡ true
unfolding followed flag_table
table_below_16 Profile.Any = refl
table_below_16 Profile.Tournament = refl

pub flags_stay : (profile : Profile) (s : Stroke) (w : ℕ) → w < flag_limit → flags_after (followed profile) s w < flag_limit
unfolding flag_limit
flags_stay profile s w l = after_lt (length flag_table) s w l (followed profile) (table_below profile)
