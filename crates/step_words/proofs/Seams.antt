-- The parts of a session's numbers.
use Prim.Native.Nat.{ℕ}
use mathlib.Core.List.{List, ◌++◌}
use mathlib.Core.Path.{◌≡◌, sym, ap, ◌∙◌, subst}
use Rattle.std.specs.Prelude.{length, take, drop}
use Rattle.std.proofs.Math.Seq.{take-append_seam, drop-append_seam}
use Rattle.sessions.specs.declared.Operation.{Operation}
use Rattle.step_words.specs.declared.ends.Advance.{Advance}
use Rattle.step_words.specs.Steps.{StepIn, BeginIn}
use Rattle.step_words.specs.Whole.{fields_of, counts_of, bytes_of, replies_of, StepAll, BeginAll}

front : (n : ℕ) (f x : List ℕ) → length f ≡ n → take n (f ++ x) ≡ f
front n f x e = ap (λ n. take n (f ++ x)) (sym e) ∙ take-append_seam f x

behind : (n : ℕ) (f x : List ℕ) → length f ≡ n → drop n (f ++ x) ≡ x
behind n f x e = ap (λ n. drop n (f ++ x)) (sym e) ∙ drop-append_seam f x

module _ (f c b p : List ℕ) (hf : length f ≡ 12) (hc : length c ≡ 4) (hb : length b ≡ 16) where
  abbrev whole : List ℕ
  whole = f ++ (c ++ (b ++ p))

  fields_whole : fields_of whole ≡ f
  fields_whole = front 12 f (c ++ (b ++ p)) hf

  counts_whole : counts_of whole ≡ c
  counts_whole = ap (take 4) (behind 12 f (c ++ (b ++ p)) hf) ∙ front 4 c (b ++ p) hc

  rest_whole : drop 4 (drop 12 whole) ≡ b ++ p
  rest_whole = ap (drop 4) (behind 12 f (c ++ (b ++ p)) hf) ∙ behind 4 c (b ++ p) hc

  bytes_whole : bytes_of whole ≡ b
  bytes_whole = ap (take 16) rest_whole ∙ front 16 b p hb

  replies_whole : replies_of whole ≡ p
  replies_whole = ap (drop 16) rest_whole ∙ behind 16 b p hb

  pub begin_whole : (o : Operation) (r : Advance) → BeginIn o r f c b → BeginAll o r whole
  begin_whole o r h =
      subst (λ x. BeginIn o r x (counts_of whole) (bytes_of whole)) (sym fields_whole)
      (subst (λ x. BeginIn o r f x (bytes_of whole)) (sym counts_whole)
      (subst (λ x. BeginIn o r f c x) (sym bytes_whole) h))

  pub step_whole : (w f₀ c₀ b₀ p₀ : List ℕ) (byte : ℕ) (r : Advance) → f₀ ≡ fields_of w → c₀ ≡ counts_of w → b₀ ≡ bytes_of w → p₀ ≡ replies_of w
      → StepIn f₀ c₀ b₀ p₀ byte r f c b p → StepAll w byte r whole
  step_whole w f₀ c₀ b₀ p₀ byte r ef ec eb ep h =
      subst (λ x. StepIn (fields_of w) (counts_of w) (bytes_of w) (replies_of w) byte r x (counts_of whole) (bytes_of whole) (replies_of whole)) (sym fields_whole)
      (subst (λ x. StepIn (fields_of w) (counts_of w) (bytes_of w) (replies_of w) byte r f x (bytes_of whole) (replies_of whole)) (sym counts_whole)
      (subst (λ x. StepIn (fields_of w) (counts_of w) (bytes_of w) (replies_of w) byte r f c x (replies_of whole)) (sym bytes_whole)
      (subst (λ x. StepIn (fields_of w) (counts_of w) (bytes_of w) (replies_of w) byte r f c b x) (sym replies_whole)
      (subst (λ x. StepIn (fields_of w) (counts_of w) (bytes_of w) x byte r f c b p) ep
      (subst (λ x. StepIn (fields_of w) (counts_of w) x p₀ byte r f c b p) eb
      (subst (λ x. StepIn (fields_of w) x b₀ p₀ byte r f c b p) ec
      (subst (λ x. StepIn x c₀ b₀ p₀ byte r f c b p) ef h)))))))
