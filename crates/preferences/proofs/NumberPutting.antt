-- A number's bytes, put into an output one after another.
use mathlib.Core.Path.{◌≡◌, refl, sym, ap, ap₂, ◌∙◌}
use mathlib.Core.List.{List, [], ◌∷◌, ◌++◌, append_assoc}
use Prim.Native.Nat.{ℕ, zero, suc, ◌+◌, ◌^◌, ◌/◌, ◌%◌, ◌<◌, ◌≤◌}
use native.Mathlib.Omega.{arith}
use lib.ListN.{length, take, drop, set, length-append}
use Rattle.std.proofs.lemmas.List.{length-take-le, take_more_set}
use lib.Seq.{drop-drop}
use borrow.Author.Tests.{le-leb, lt-leb}
use borrow.Rule.Slice.PartMut.{put_mid}
use Rattle.exchange.specs.Answer.{gives, refuses}
use Rattle.ps2_answers.specs.Refusals.{success}
use Rattle.preferences.specs.Coding.{coding_within, coding}
use Rattle.preferences.specs.NumberWriting.{outcome, with_bytes, number_written}
use Rattle.preferences.proofs.Lengths.{within_last, within_more}

-- what is still to be put of a number that was divided down to what is left of it: nothing, or its groups
pub data Left : List ℕ → ℕ → Type 0 where
  nothing : {left : ℕ} → Left [] left
  groups : {left : ℕ} (k : ℕ) → left < 128 ^ suc k → Left (coding_within (suc k) left) left

pub record Putting (number : ℕ) (out : List ℕ) (left place : ℕ) : Type 0 where
  pub rest : List ℕ
  pub of_left : Left rest left
  pub same : take place out ++ rest ≡ coding number

pub putting_begins : (number : ℕ) (out : List ℕ) → number < 4294967296 → Putting number out number 0
putting_begins number out h = record { rest = coding number; of_left = groups 4 (omega arith); same = refl }

module _ {number : ℕ} {out : List ℕ} {left place : ℕ} (p : Putting number out left place) (long : length out ≡ length (coding number)) where
  rest_length : place ≤ length out → place + length p.rest ≡ length out
  rest_length h = sym (ap (λ (k : ℕ). k + length p.rest) (length-take-le place out h)) ∙ sym (length-append (take place out) p.rest) ∙ ap length p.same ∙ sym long

  -- the group that is put is the first of the rest
  put_first : (g left' : ℕ) (rest : List ℕ) → place < length out → p.rest ≡ g ∷ rest → Left rest left' → Putting number (set out place g) left' (place + 1)
  put_first g left' rest h e l =
      record {
        rest = rest;
        of_left = l;
        same =
            ap (λ (t : List ℕ). t ++ rest) (take_more_set out place g h)
            ∙ append_assoc (take place out) (g ∷ []) rest
            ∙ ap (λ (t : List ℕ). take place out ++ t) (sym e)
            ∙ p.same;
      }

  pub putting_last : place < length out → left < 128 → Putting number (set out place left) (left / 128) (place + 1)
  putting_last h l = by p.rest p.of_left refl
    where
      by : (r : List ℕ) → Left r left → p.rest ≡ r → Putting number (set out place left) (left / 128) (place + 1)
      by _ nothing e = absurd (omega (arith, rest_length (omega arith), ap length e))
      by _ (groups k f) e = put_first left (left / 128) [] h (e ∙ within_last k left l) nothing

  pub putting_more : place < length out → 128 ≤ left → Putting number (set out place (left % 128 + 128)) (left / 128) (place + 1)
  putting_more h l = by p.rest p.of_left refl
    where
      by : (r : List ℕ) → Left r left → p.rest ≡ r → Putting number (set out place (left % 128 + 128)) (left / 128) (place + 1)
      by _ nothing e = absurd (omega (arith, rest_length (omega arith), ap length e))
      by _ (groups zero f) e = absurd (omega arith)
      by _ (groups (suc k) f) e =
          put_first (left % 128 + 128) (left / 128) (coding_within (suc k) (left / 128)) h (e ∙ within_more (suc k) left l) (groups k (omega arith))

-- ---- with room and without

-- bytes put into a part of an output
pub part_put : (at k : ℕ) (out : List ℕ) {room bytes : List ℕ} → room ≡ bytes → k ≡ length bytes → put_mid at k out room ≡ with_bytes out at bytes
part_put at k out {room} {bytes} e q =
    let p : put_mid at k out room ≡ put_mid at (length bytes) out bytes = ap₂ (λ (r : List ℕ) (j : ℕ). put_mid at j out r) e q in
    let d : put_mid at (length bytes) out bytes ≡ with_bytes out at bytes = ap (λ (t : List ℕ). take at out ++ (bytes ++ t)) (drop-drop (length bytes) at out) ∙ sym (append_assoc (take at out) bytes (drop (at + length bytes) out)) in
    p ∙ d

module _ (number at : ℕ) (out : List ℕ) where
  pub no_room : length out < at + length (coding number) → outcome (refuses 23) 0 out ≡ number_written number at out
  unfolding number_written
  no_room h = rw (lt-leb (at + length (coding number)) (length out) h)

  pub with_room : {n : ℕ} {left : List ℕ} → n ≡ length (coding number) → left ≡ with_bytes out at (coding number) → at + length (coding number) ≤ length out
      → outcome (gives success) n left ≡ number_written number at out
  unfolding number_written
  with_room e q h = rw (e, q, le-leb (at + length (coding number)) (length out) h)
