-- A string begins with the coding of one number, or of none, and reading says so.
use mathlib.Core.Path.{◌≡◌, refl, sym, ap, ◌∙◌}
use mathlib.Core.Bool.{Bool, true, false, ◌&&◌}
use mathlib.Core.List.{List, ◌++◌}
use mathlib.Core.Option.{Option, none, some}
use Prim.Native.Nat.{ℕ, ◌<◌}
use native.Mathlib.Omega.{arith}
use lib.Dec.{ltb}
use lib.ListN.{length, drop}
use Rattle.exchange.specs.Answer.{gives, refuses}
use Rattle.preferences.specs.Coding.{numbers_end, coding}
use Rattle.preferences.specs.declared.numbers.Number.{Number}
use Rattle.preferences.specs.NumberReading.{taking, groups_of, value_of, is_shortest, judged, read_number}
use Rattle.preferences.specs.Coded.{CodedAs, number, no_number, Answered}
use Rattle.preferences.proofs.RoundTrip.{coding_read, read_of}

-- Reading gives a number, or 27.
pub data Read (bytes : List ℕ) : Type 0 where
  well : (r : Number) → read_number bytes ≡ gives r → Read bytes
  ill : read_number bytes ≡ refuses 27 → Read bytes

pub reading : (bytes : List ℕ) → Read bytes
unfolding read_number
reading bytes = by (groups_of bytes) refl
  where
    told : (gs : List ℕ) → groups_of bytes ≡ some gs → (t : Bool) → (is_shortest gs && ltb (value_of gs) numbers_end) ≡ t → Read bytes
    told gs e true q = well (taking (value_of gs) (length gs)) (ap judged e ∙ rw q)
    told gs e false q = ill (ap judged e ∙ rw q)

    by : (o : Option (List ℕ)) → groups_of bytes ≡ o → Read bytes
    by none e = ill (ap judged e)
    by (some gs) e = told gs e (is_shortest gs && ltb (value_of gs) numbers_end) refl

coded_read : {bytes : List ℕ} (n : ℕ) (rest : List ℕ) → CodedAs n rest bytes → read_number bytes ≡ gives (taking n (length (coding n)))
coded_read n rest c = ap read_number c.is ∙ coding_read n rest c.below

-- One number has one coding: no two strings that begin with codings are alike unless the numbers are.
pub coding_once : (n m : ℕ) (rest others : List ℕ) → n < numbers_end → m < numbers_end → coding n ++ rest ≡ coding m ++ others → n ≡ m
coding_once n m rest others h l e =
    let p = coding_read n rest h in
    let q = coding_read m others l in
    let z : gives (taking n (length (coding n))) ≡ gives (taking m (length (coding m))) = sym p ∙ ap read_number e ∙ q in
    let y : taking n (length (coding n)) ≡ taking m (length (coding m)) = cc in
    ap (λ (r : Number). r.value) y

pub answered : (bytes : List ℕ) → Answered bytes
answered bytes = by (reading bytes)
  where
    by : Read bytes → Answered bytes
    by (well r e) =
        record {
          coded = number r.value (drop r.count bytes) (read_of bytes e).coded;
          read = λ n rest c. coded_read n rest c;
          refused = λ no. absurd (no r.value (drop r.count bytes) (read_of bytes e).coded);
        }
    by (ill e) =
        record {
          coded = no_number (λ n rest c. let z : ◌≡◌ {A = ℕ} 0 1 = cc (coded_read n rest c) in omega arith);
          read = λ n rest c. coded_read n rest c;
          refused = λ no. e;
        }
