-- What holds of what the code's answers say holds of the answers.
use Prim.Native.Nat.{ℕ}
use mathlib.Core.List.{List}
use mathlib.Core.Path.{◌≡◌, ap, ap₂, sym, ◌∙◌}
use Rattle.exchange.specs.Exchange.{Port, End}
use Rattle.theorem_cut_scripts.specs.CutShort.{Handed, handed, CutShort}
use Rattle.theorem_cut_scripts.specs.Forms.{AnswerWith, lack, lack_with}
use Rattle.theorem_cut_scripts.specs.Coded.{Codes, CodedWith, coded_with, said_with}

-- an answer that can be read back from what it says is the only one that says it
pub codes_by : {X R : Type 0} {said : X → R} {two : Port → R} {coded : Port → X} (back : R → X) → ((x : X) → back (said x) ≡ x) → ((p : Port) → said (coded p) ≡ two p) → Codes said two coded
codes_by back h t = record { apart = λ x x' e. sym (h x) ∙ ap back e ∙ h x'; says_two = t }

module _ {X R : Type 0} {said : X → R} {two : Port → R} {coded : Port → X} (c : Codes said two coded) where
  handed_same : {x x' : X} {u u' w w' : ℕ} {l l' : List ℕ} → handed (said x') u' w' l' ≡ handed (said x) u w l → handed x' u' w' l' ≡ handed x u w l
  handed_same {x} {x'} {u} {w' = w'} {l' = l'} e =
      ap₂ {C = Handed X} (λ (y : X) (v : ℕ). handed y v w' l') (c.apart x' x (ap (λ (o : Handed R). o.back) e)) (ap (λ (o : Handed R). o.used) e)
      ∙ ap₂ {C = Handed X} (λ (v : ℕ) (m : List ℕ). handed x u v m) (ap (λ (o : Handed R). o.pairs) e) (ap (λ (o : Handed R). o.log) e)

  pub as_coded : (p : Port) {n : ℕ} {log : List ℕ} {x x' : X} {u u' w w' : ℕ} {l l' : List ℕ}
      → CutShort n (two p) log (handed (said x) u w l) (handed (said x') u' w' l') → CutShort n (coded p) log (handed x u w l) (handed x' u' w' l')
  as_coded p {x' = x'} k =
      record {
        same = λ h. handed_same (k.same h);
        otherwise = λ h. c.apart x' (coded p) (k.otherwise h ∙ sym (c.says_two p));
        uses = k.uses;
        no_more = k.no_more;
        first_pairs = k.first_pairs;
        rest = k.rest;
      }

-- with something beside the answer
pub with_codes : {K X A : Type 0} {said : X → End A} {coded : Port → X} (k : K) → Codes said lack coded → Codes (said_with {K = K} said) (lack_with k) (coded_with k coded)
with_codes {K} {X} {A} {said} {coded} k c =
    record {
      apart =
          λ x x' e. ap₂ {C = CodedWith K X} (λ (a : X) (b : K). record { answer = a; beside = b })
          (c.apart x.answer x'.answer (ap (λ (y : AnswerWith K A). y.end) e)) (ap (λ (y : AnswerWith K A). y.beside) e);
      says_two = λ p. ap (λ (a : End A). record { end = a; beside = k }) (c.says_two p);
    }
