-- The codings of numbers, one after another.
use mathlib.Core.Path.{◌≡◌, refl, sym, ap, ap₂, ◌∙◌}
use mathlib.Core.List.{List, [], ◌∷◌, ◌++◌, append_assoc, append-nil}
use Prim.Native.Nat.{ℕ, ◌+◌, ◌<◌}
use native.Mathlib.Numerals.{add-one}
use lib.ListN.{length, get_or, take, drop, length-append}
use lib.Seq.{take-suc, drop-cons}
use Rattle.preferences.specs.Coding.{coding}
use Rattle.preferences.specs.Format.{codings}

pub codings_none : codings [] ≡ []
unfolding codings
codings_none = refl

pub codings_first : (n : ℕ) (ns : List ℕ) → codings (n ∷ ns) ≡ coding n ++ codings ns
unfolding codings
codings_first n ns = refl

pub codings-append : (ns ms : List ℕ) → codings (ns ++ ms) ≡ codings ns ++ codings ms
unfolding codings
codings-append [] ms = refl
codings-append (n ∷ ns) ms = rw (codings-append ns ms) (sym (append_assoc (coding n) (codings ns) (codings ms)))

pub codings_last : (ns : List ℕ) (n : ℕ) → codings (ns ++ n ∷ []) ≡ codings ns ++ coding n
unfolding codings
codings_last ns n = codings-append ns (n ∷ []) ∙ rw (append-nil (coding n))

pub length_first : (n : ℕ) (ns : List ℕ) → length (codings (n ∷ ns)) ≡ length (coding n) + length (codings ns)
length_first n ns = ap length (codings_first n ns) ∙ length-append (coding n) (codings ns)

pub length_last : (ns : List ℕ) (n : ℕ) → length (codings (ns ++ n ∷ [])) ≡ length (codings ns) + length (coding n)
length_last ns n = ap length (codings_last ns n) ∙ length-append (codings ns) (coding n)

-- ---- the first numbers of several, and one more

module _ (ns : List ℕ) (i : ℕ) (h : i < length ns) where
  pub take_next : take (i + 1) ns ≡ take i ns ++ get_or ns i 0 ∷ []
  take_next = rw (add-one i) (take-suc ns i 0 h)

  pub drop_next : drop i ns ≡ get_or ns i 0 ∷ drop (i + 1) ns
  drop_next = rw (add-one i) (drop-cons ns i 0 h)

  pub length_next : {k m : ℕ} → k ≡ length (codings (take i ns)) → m ≡ length (coding (get_or ns i 0)) → k + m ≡ length (codings (take (i + 1) ns))
  length_next e q = ap₂ (λ (a b : ℕ). a + b) e q ∙ sym (length_last (take i ns) (get_or ns i 0)) ∙ ap (λ (l : List ℕ). length (codings l)) (sym take_next)
