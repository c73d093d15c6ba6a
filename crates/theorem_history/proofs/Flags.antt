-- The flags: one byte's effect on the word of flags, by the table, is what the bytes say with that byte counted.
use mathlib.Core.Path.{◌≡◌, refl, ap, ap₂, sym, ◌∙◌}
use mathlib.Core.Bool.{Bool, true, false, not, cond, and-eq-true_iff}
use mathlib.Core.List.{List, [], ◌∷◌, Memᴰ}
use Prim.Native.Nat.{ℕ, suc, ◌-◌, ◌%◌, ◌^◌, ◌<◌}
use native.Mathlib.Omega.{arith}
use lib.Dec.{eqb, ltb}
use lib.ListN.{length}
use borrow.Author.Tests.{ltb-true}
use lib.Pow.{pow_pos}
use Rattle.bits.specs.Bits.{odd, bit, put_bit}
use Rattle.bits.proofs.Bits.{digit, bit_put_same, bit_put_other, put_lt}
use Rattle.theorem_history.specs.Past.{Past, nothing, ◌▸◌}
use Rattle.keyboard_scancodes.specs.Strokes.{Stroke, stroke}
use Rattle.theorem_history.specs.Said.{prefix_said, strokes, times, last_was_press, said_of, said, word_of, flags_said}
use Rattle.keyboard_scancodes.specs.declared.Profile.{Profile}
use Rattle.keyboard_scancodes.specs.Profile.{followed}
use Rattle.keyboard_scancodes.specs.FlagTable.{Kind, lock, held, left, right, FlagRow, flag_table, flag_limit, is_of}
use Rattle.keyboard_scancodes.specs.FlagsAfter.{flag_after, row_after, flags_after}
use Rattle.keyboard_scancodes.proofs.Flags.{apart, distinct, below, differ, after_apart, row_own, table_distinct, table_below}

-- ---- the whole word

pub word_after : (f g : FlagRow → Bool) (s : Stroke) → ((r : FlagRow) → g r ≡ cond (is_of r s) (flag_after r.kind s.pressed (f r)) (f r))
    → (rows : List FlagRow) → distinct rows ≡ true → word_of g rows ≡ flags_after rows s (word_of f rows)
unfolding word_of flags_after
word_after f g s more [] t = refl
word_after f g s more (r ∷ rows) t =
    let p = (and-eq-true_iff (apart r.flag rows) (distinct rows)).0 t in
    ap₂ (λ (v : Bool) (w : ℕ). put_bit r.flag v w) (more r) (word_after f g s more rows p.1)
    ∙ sym (row_own s r (f r) (flags_after rows s (word_of f rows)) (is_of r s))
    ∙ ap (row_after r s) (sym (after_apart s r.flag (f r) rows (word_of f rows) p.0))

pub word_lt : (f : FlagRow → Bool) (n : ℕ) (rows : List FlagRow) → below n rows ≡ true → word_of f rows < 2 ^ n
unfolding word_of
word_lt f n [] t = pow_pos n
word_lt f n (r ∷ rows) t =
    let p = (and-eq-true_iff (ltb r.flag n) (below n rows)).0 t in
    put_lt n r.flag (f r) (word_of f rows) (ltb-true r.flag n p.0) (word_lt f n rows p.1)

-- a row's bit of the word is what f has for the row
apart_in : (k : ℕ) {r : FlagRow} {rows : List FlagRow} → apart k rows ≡ true → Memᴰ r rows → r.flag ≡ k → ⊥
apart_in k t (Memᴰ.head {x = x} {xs = xs} e) q =
    differ k x.flag ((and-eq-true_iff (not (eqb k x.flag)) (apart k xs)).0 t).0 (ap (λ (y : FlagRow). y.flag) (sym e) ∙ q)
apart_in k t (Memᴰ.tail {x = x} {xs = xs} m) q = apart_in k ((and-eq-true_iff (not (eqb k x.flag)) (apart k xs)).0 t).1 m q

bit_word : (f : FlagRow → Bool) {r : FlagRow} {rows : List FlagRow} → distinct rows ≡ true → Memᴰ r rows → bit r.flag (word_of f rows) ≡ f r
unfolding word_of
bit_word f t (Memᴰ.head {x = x} {xs = xs} e) = rw e (bit_put_same x.flag (f x) (word_of f xs))
bit_word f {r} t (Memᴰ.tail {x = x} {xs = xs} m) =
    let p = (and-eq-true_iff (apart x.flag xs) (distinct xs)).0 t in
    bit_put_other r.flag x.flag (f x) (word_of f xs) (apart_in x.flag p.0 m) ∙ bit_word f p.1 m

-- ---- what the strokes say, with one more

odd-suc : (n : ℕ) → odd (suc n) ≡ not (odd n)
unfolding odd
odd-suc n =
    let e : suc n % 2 ≡ 1 - n % 2 = omega arith in
    ap (λ (x : ℕ). eqb x 1) e ∙ digit (λ (x : ℕ). eqb (1 - x) 1 ≡ not (eqb x 1)) refl refl (n % 2) (omega arith)

odd-cond : (c : Bool) (n : ℕ) → odd (cond c (suc n) n) ≡ cond c (not (odd n)) (odd n)
odd-cond true n = odd-suc n
odd-cond false n = refl

pub said_more : (k : Kind) (r : FlagRow) (past : Past Stroke) (s : Stroke)
    → said_of k r (past ▸ s) ≡ cond (is_of r s) (flag_after k s.pressed (said_of k r past)) (said_of k r past)
unfolding said_of times last_was_press
said_more lock r past s = odd-cond (is_of r s) (times r past)
said_more held r past s = refl
said_more left r past s = refl
said_more right r past s = refl

-- ---- what the bytes say, with one more

-- "a flag with no counted byte to judge is clear"
pub flags_none : (profile : Profile) → flags_said profile nothing ≡ 0
unfolding flags_said followed word_of said_of times last_was_press strokes flag_table put_bit odd
flags_none Profile.Any = refl
flags_none Profile.Tournament = refl

pub flags_more : (profile : Profile) (bytes : Past ℕ) (b : ℕ) → flags_said profile (bytes ▸ b) ≡ flags_after (followed profile) (stroke b (prefix_said bytes)) (flags_said profile bytes)
unfolding flags_said strokes
flags_more profile bytes b =
    let s = stroke b (prefix_said bytes) in
    word_after (said (strokes bytes)) (said (strokes bytes ▸ s)) s (λ r. said_more r.kind r (strokes bytes) s) (followed profile) (table_distinct profile)

pub flags_lt : (profile : Profile) (bytes : Past ℕ) → flags_said profile bytes < flag_limit
unfolding flags_said flag_limit
flags_lt profile bytes = word_lt (said (strokes bytes)) (length flag_table) (followed profile) (table_below profile)

pub flag_bit : (profile : Profile) (bytes : Past ℕ) {r : FlagRow} → Memᴰ r (followed profile) → bit r.flag (flags_said profile bytes) ≡ said (strokes bytes) r
unfolding flags_said
flag_bit profile bytes m = bit_word (said (strokes bytes)) (table_distinct profile) m
