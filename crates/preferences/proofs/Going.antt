-- A number whose first groups are read: what is left of the string decides.
use mathlib.Core.Path.{◌≡◌, refl, sym, ap, ◌∙◌}
use mathlib.Core.Bool.{Bool, true, false, cond, not, ◌&&◌}
use mathlib.Core.List.{List, ◌∷◌}
use mathlib.Core.Option.{Option, none, some}
use Prim.Native.Nat.{ℕ, suc, ◌+◌, ◌*◌, ◌-◌, ◌%◌, ◌<◌, ◌≤◌}
use native.Mathlib.Nat.{mul-le-mul_right}
use native.Mathlib.Numerals.{add-one, one-add}
use native.Mathlib.Omega.{arith}
use lib.Dec.{eqb, ltb}
use lib.ListN.{length, get_or, drop, drop_of_length-le}
use lib.Seq.{drop-cons}
use borrow.Author.Tests.{lt-ltb, le-ltb, eq-eqb, ne_eqb}
use Rattle.exchange.specs.Answer.{Answer, gives, refuses}
use Rattle.preferences.specs.Coding.{numbers_end}
use Rattle.preferences.specs.declared.numbers.Number.{Number}
use Rattle.preferences.specs.NumberReading.{taking, before, groups_of, value_of, ends_in_zero, is_shortest, judged, read_number}
use Rattle.preferences.proofs.Groups.{groups_last, groups_more, groups_empty, Begins, Found, nothing, found, find, value_first, value_one, value_positive, ends_behind, shortest_first}

-- What a number is by the groups behind those that are read.
abbrev pub goes_on : ℕ → ℕ → ℕ → Option (List ℕ) → Answer Number
goes_on place value scale none = refuses 27
goes_on place value scale (some gs) =
    cond (not (ends_in_zero gs) && ltb (value + scale * value_of gs) numbers_end) (gives (taking (value + scale * value_of gs) (place + length gs))) (refuses 27)

-- The scale of each place.
pub data Scaled : ℕ → ℕ → Type 0 where
  at_1 : Scaled 1 0x80
  at_2 : Scaled 2 0x4000
  at_3 : Scaled 3 0x200000
  at_4 : Scaled 4 0x10000000
  at_5 : Scaled 5 0x800000000

scaled_next : {place scale : ℕ} → Scaled place scale → place < 5 → Scaled (place + 1) (scale * 128)
scaled_next at_1 l = at_2
scaled_next at_2 l = at_3
scaled_next at_3 l = at_4
scaled_next at_4 l = at_5
scaled_next at_5 l = absurd (omega arith)

scaled_most : {place scale : ℕ} → Scaled place scale → scale ≤ 0x800000000
scaled_most at_1 = omega arith
scaled_most at_2 = omega arith
scaled_most at_3 = omega arith
scaled_most at_4 = omega arith
scaled_most at_5 = omega arith

scaled_last : {place scale : ℕ} → Scaled place scale → 5 ≤ place → scale ≡ 0x800000000
scaled_last at_1 l = absurd (omega arith)
scaled_last at_2 l = absurd (omega arith)
scaled_last at_3 l = absurd (omega arith)
scaled_last at_4 l = absurd (omega arith)
scaled_last at_5 l = refl

pub record Going (input : List ℕ) (at place value scale : ℕ) : Type 0 where
  pub says : read_number (drop at input) ≡ goes_on place value scale (groups_of (drop (at + place) input))
  pub scaled : Scaled place scale
  pub small : value < scale

-- ---- the first byte

pub read_none : (input : List ℕ) (at : ℕ) → length input ≤ at → read_number (drop at input) ≡ refuses 27
unfolding read_number
read_none input at h = rw (drop_of_length-le input h, groups_empty)

module _ (input : List ℕ) (at : ℕ) (l : at < length input) where
  here : drop at input ≡ get_or input at 0 ∷ drop (at + 1) input
  here = rw (add-one at) (drop-cons input at 0 l)

  pub read_one : get_or input at 0 < 128 → read_number (drop at input) ≡ gives (taking (get_or input at 0) 1)
  unfolding read_number is_shortest ends_in_zero
  read_one h = rw (here, groups_last (get_or input at 0) (drop (at + 1) input) h, value_one (get_or input at 0), lt-ltb (get_or input at 0) numbers_end (omega arith))

  pub going_begins : 128 ≤ get_or input at 0 → get_or input at 0 < 256 → Going input at 1 (get_or input at 0 - 128) 128
  unfolding read_number
  going_begins h b =
      record {
        says = ap read_number here ∙ ap judged (groups_more (get_or input at 0) (drop (at + 1) input) h b) ∙ by (groups_of (drop (at + 1) input));
        scaled = at_1;
        small = omega arith;
      }
    where
      by : (o : Option (List ℕ)) → judged (before (get_or input at 0 - 128) o) ≡ goes_on 1 (get_or input at 0 - 128) 128 o
      by none = refl
      by (some gs) = rw (shortest_first (get_or input at 0 - 128) gs, value_first (get_or input at 0 - 128) gs, one-add (length gs))

-- ---- the others

module _ {input : List ℕ} {at place value scale : ℕ} (g : Going input at place value scale) where
  pub cut_short : length input ≤ at + place → read_number (drop at input) ≡ refuses 27
  cut_short h = g.says ∙ rw (drop_of_length-le input h, groups_empty)

  pub too_many : 5 ≤ place → read_number (drop at input) ≡ refuses 27
  too_many h = g.says ∙ by (find (drop (at + place) input))
    where
      large : {bytes gs : List ℕ} → Begins bytes gs → (t : Bool) → ends_in_zero gs ≡ t → goes_on place value scale (some gs) ≡ refuses 27
      large b true e = rw e
      large {gs = gs} b false e =
          rw (e, le-ltb (value + scale * value_of gs) numbers_end (rw (scaled_last g.scaled h) (omega (arith, value_positive b e))))

      by : Found (drop (at + place) input) → goes_on place value scale (groups_of (drop (at + place) input)) ≡ refuses 27
      by (nothing e) = rw e
      by (found gs e b) = rw e (large b (ends_in_zero gs) refl)

  pub scale_most : scale ≤ 0x800000000
  scale_most = scaled_most g.scaled

  -- a group counts less than the next one's scale
  pub group_most : (b : ℕ) → b < 128 → b * scale + scale ≤ 128 * scale
  group_most b h = omega (arith, mul-le-mul_right scale h)

  module _ {byte : ℕ} (l : at + place < length input) (e : byte ≡ get_or input (at + place) 0) where
    next : drop (at + place) input ≡ byte ∷ drop (at + place + 1) input
    next = rw (e, add-one (at + place)) (drop-cons input (at + place) 0 l)

    ends_so : byte < 128
        → read_number (drop at input)
        ≡ cond (not (eqb byte 0) && ltb (value + scale * byte) numbers_end)
        (gives (taking (value + scale * byte) (place + 1))) (refuses 27)
    unfolding ends_in_zero
    ends_so h = g.says ∙ rw (next, groups_last byte (drop (at + place + 1) input) h, value_one byte)

    going_on : 128 ≤ byte → byte < 256 → place < 5
        → Going input at (place + 1) (value + (byte - 128) * scale) (scale * 128)
    going_on h b few =
        record {
          says = g.says ∙ rw (next, groups_more byte (drop (at + place + 1) input) h b) (by (find (drop (at + place + 1) input)) ∙ rw again);
          scaled = scaled_next g.scaled few;
          small = omega (arith, g.small, group_most (byte - 128) (omega arith));
        }
      where
        again : at + place + 1 ≡ at + (place + 1)
        again = omega arith

        by : Found (drop (at + place + 1) input)
            → goes_on place value scale (before (byte - 128) (groups_of (drop (at + place + 1) input)))
            ≡ goes_on (place + 1) (value + (byte - 128) * scale) (scale * 128) (groups_of (drop (at + place + 1) input))
        by (nothing e) = rw e
        by (found gs e s) =
            let d : ℕ = byte - 128 in
            let v : value + scale * (d + 128 * value_of gs) ≡ value + d * scale + scale * 128 * value_of gs = omega arith in
            let c : place + suc (length gs) ≡ place + 1 + length gs = omega arith in
            rw (e, value_first (byte - 128) gs, ends_behind (byte - 128) s, v, c)

    -- with the group that the code makes of the byte
    module _ (w : ℕ) (q : w ≡ byte % 128) where
      pub product_most : w * scale + scale ≤ 128 * scale
      product_most = omega (arith, mul-le-mul_right scale (below w q))
        where
          below : (w : ℕ) → w ≡ byte % 128 → suc w ≤ 128
          below w q = omega arith

      module _ (h : byte < 128) where
        same : scale * byte ≡ w * scale
        same = let i : byte ≡ w = omega arith in rw i (omega arith)

        pub ends_zero : byte ≡ 0 → refuses 27 ≡ read_number (drop at input)
        ends_zero z = sym (ends_so h ∙ rw (eq-eqb byte 0 z))

        module _ (z : byte ≡ 0 → ⊥) where
          pub ends_large : numbers_end ≤ value + w * scale → refuses 27 ≡ read_number (drop at input)
          ends_large m = sym (ends_so h ∙ rw (ne_eqb byte 0 z, same, le-ltb (value + w * scale) numbers_end m))

          pub ends_well : value + w * scale < numbers_end → gives (taking (value + w * scale) (place + 1)) ≡ read_number (drop at input)
          ends_well m = sym (ends_so h ∙ rw (ne_eqb byte 0 z, same, lt-ltb (value + w * scale) numbers_end m))

      pub goes : 128 ≤ byte → byte < 256 → place < 5 → Going input at (place + 1) (value + w * scale) (scale * 128)
      goes h b few = let i : w ≡ byte - 128 = omega arith in rw i (going_on h b few)
