-- Numbers read one after another: what is accepted, and which number refuses first.
use mathlib.Core.Path.{◌≡◌, refl, sym, ap, subst, ◌∙◌}
use mathlib.Core.Bool.{Bool, true, false}
use mathlib.Core.List.{List, [], ◌∷◌, ◌++◌}
use Prim.Native.Nat.{ℕ, ◌<◌}
use native.Mathlib.Omega.{arith}
use lib.ListN.{drop}
use lib.Seq.{drop-append_seam}
use Rattle.exchange.specs.Answer.{Answer, gives, refuses}
use Rattle.preferences.specs.Coding.{numbers_end, coding}
use Rattle.preferences.specs.declared.numbers.Number.{Number}
use Rattle.preferences.specs.NumberReading.{read_number}
use Rattle.preferences.proofs.RoundTrip.{read_of, coding_read}
use Rattle.preferences.proofs.Coded.{Read, well, ill, reading}
use Rattle.preferences.specs.Format.{codings}
use Rattle.preferences.specs.Reading.{behind, numbers_read}
use Rattle.preferences.specs.Accepted.{Refused, form, value, follow, later}
use Rattle.preferences.proofs.Codings.{codings_none, codings_first}

-- ---- what is accepted

-- Numbers, each below the end and accepted by its question.
pub data Within : List (ℕ → Bool) → List ℕ → Type 0 where
  none : Within [] []
  one : {question : ℕ → Bool} {questions : List (ℕ → Bool)} {n : ℕ} {ns : List ℕ} → n < numbers_end → question n ≡ true → Within questions ns → Within (question ∷ questions) (n ∷ ns)

-- one number more
read_first : (question : ℕ → Bool) (questions : List (ℕ → Bool)) (n : ℕ) (bytes : List ℕ) → n < numbers_end → question n ≡ true
    → numbers_read (question ∷ questions) (coding n ++ bytes) ≡ behind n (numbers_read questions bytes)
unfolding numbers_read
read_first question questions n bytes h q = rw (coding_read n bytes h, q, drop-append_seam (coding n) bytes)

pub within_read : {questions : List (ℕ → Bool)} {ns : List ℕ} → Within questions ns → numbers_read questions (codings ns) ≡ gives ns
unfolding numbers_read
within_read none = rw codings_none
within_read (one {question} {questions} {n} {ns} h q w) =
    ap (numbers_read (question ∷ questions)) (codings_first n ns) ∙ read_first question questions n (codings ns) h q ∙ ap (behind n) (within_read w)

pub record Accepted (questions : List (ℕ → Bool)) (bytes ns : List ℕ) : Type 0 where
  pub within : Within questions ns
  pub string : bytes ≡ codings ns

no_answer : {ns : List ℕ} {k : ℕ} → refuses k ≡ gives ns → ⊥
no_answer e = let z : ◌≡◌ {A = ℕ} 0 1 = cc in omega arith

-- the rest, if all is given
record Rest (n : ℕ) (a : Answer (List ℕ)) (ns : List ℕ) : Type 0 where
  pub others : List ℕ
  pub given : a ≡ gives others
  pub all : ns ≡ n ∷ others

rest : (n : ℕ) (a : Answer (List ℕ)) (ns : List ℕ) → behind n a ≡ gives ns → Rest n a ns
rest n (gives others) ns e = record { others = others; given = refl; all = sym cc }
rest n (refuses k) ns e = absurd (no_answer e)

-- What is read is the codings of what was read, and nothing else is.
pub read_within : (questions : List (ℕ → Bool)) (bytes ns : List ℕ) → numbers_read questions bytes ≡ gives ns → Accepted questions bytes ns
unfolding numbers_read
read_within [] [] ns e = let z : [] ≡ ns = cc in subst (Accepted [] []) z (record { within = none; string = sym codings_none })
read_within [] (b ∷ bytes) ns e = absurd (no_answer e)
read_within (question ∷ questions) bytes ns e = by (reading bytes) (λ l m f. read_within questions l m f)
  where
    taken : (r : Number) → read_number bytes ≡ gives r → (t : Bool) → question r.value ≡ t → ((l m : List ℕ) → numbers_read questions l ≡ gives m → Accepted questions l m) → Accepted (question ∷ questions) bytes ns
    taken r p true q f =
        let o = rest r.value (numbers_read questions (drop r.count bytes)) ns (rw (p, q) at e) in
        let a = f (drop r.count bytes) o.others o.given in
        let c = read_of bytes p in
        rw o.all
        (record {
          within = one c.coded.below q a.within;
          string = c.coded.is ∙ ap (λ (l : List ℕ). coding r.value ++ l) a.string ∙ sym (codings_first r.value o.others);
        })
    taken r p false q f = absurd (no_answer (rw (p, q) at e))

    by : Read bytes → ((l m : List ℕ) → numbers_read questions l ≡ gives m → Accepted questions l m) → Accepted (question ∷ questions) bytes ns
    by (well r p) f = taken r p (question r.value) refl f
    by (ill p) f = absurd (no_answer (rw p at e))

-- ---- which number refuses first

pub first_refuses : {questions : List (ℕ → Bool)} {bytes : List ℕ} {k : ℕ} → Refused questions bytes k → numbers_read questions bytes ≡ refuses k
unfolding numbers_read
first_refuses (form e) = rw e
first_refuses (value r e q) = rw (e, q)
first_refuses follow = refl
first_refuses (later {question} {questions} {bytes} n h q r) = read_first question questions n bytes h q ∙ ap (behind n) (first_refuses r)

pub refuses_first : (questions : List (ℕ → Bool)) (bytes : List ℕ) {k : ℕ} → numbers_read questions bytes ≡ refuses k → Refused questions bytes k
unfolding numbers_read
refuses_first [] [] e = absurd (no_answer (sym e))
refuses_first [] (b ∷ bytes) {k} e = let z : 29 ≡ k = cc in subst (Refused [] (b ∷ bytes)) z follow
refuses_first (question ∷ questions) bytes {k} e = by (reading bytes) (λ l f. refuses_first questions l f)
  where
    behind_refuses : (n : ℕ) (a : Answer (List ℕ)) → behind n a ≡ refuses k → a ≡ refuses k
    behind_refuses n (gives ns) e = absurd (no_answer (sym e))
    behind_refuses n (refuses j) e = e

    taken : (r : Number) → read_number bytes ≡ gives r → (t : Bool) → question r.value ≡ t → ((l : List ℕ) → numbers_read questions l ≡ refuses k → Refused questions l k) → Refused (question ∷ questions) bytes k
    taken r p true q f =
        let c = read_of bytes p in
        rw c.coded.is (later r.value c.coded.below q (f (drop r.count bytes) (behind_refuses r.value (numbers_read questions (drop r.count bytes)) (rw (p, q) at e))))
    taken r p false q f = let g : refuses 28 ≡ refuses k = rw (p, q) at e in let z : 28 ≡ k = cc in subst (Refused (question ∷ questions) bytes) z (value r p q)

    by : Read bytes → ((l : List ℕ) → numbers_read questions l ≡ refuses k → Refused questions l k) → Refused (question ∷ questions) bytes k
    by (well r p) f = taken r p (question r.value) refl f
    by (ill p) f = let g : refuses 27 ≡ refuses k = rw p at e in let z : 27 ≡ k = cc in subst (Refused (question ∷ questions) bytes) z (form p)
