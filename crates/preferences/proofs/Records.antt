-- The strings that are accepted are the records, and no others.
use mathlib.Core.Path.{◌≡◌, refl, ap, subst, ◌∙◌}
use mathlib.Core.Bool.{Bool, true, false, cond, ◌&&◌, ◌||◌, and-eq-true_iff}
use mathlib.Core.Logic.{◌⊎◌, inl, inr, ⊎_elim}
use mathlib.Core.List.{List, [], ◌∷◌, ◌++◌}
use Prim.Native.Nat.{ℕ, ◌<◌}
use native.Mathlib.Omega.{arith}
use lib.Dec.{eqb, leb}
use borrow.Author.Tests.{leb-true, eqb-true}
use Rattle.exchange.specs.Answer.{gives}
use Rattle.exchange.specs.Refuses.{among}
use Rattle.preferences.specs.Coding.{numbers_end}
use Rattle.preferences.specs.NumberReading.{read_number}
use Rattle.preferences.proofs.RoundTrip.{coding_read}
use Rattle.preferences.specs.Values.{is_scancode_set, is_sampling_rate, is_resolution, is_lamps, four_values}
use Rattle.preferences.specs.declared.Fields.{Fields}
use Rattle.preferences.specs.declared.Preferences.TheVariants.{Version1, Version2}
use Rattle.preferences.specs.Record.{four_fields, within_values}
use Rattle.preferences.specs.Format.{codings, numbers_of}
use Rattle.preferences.specs.Reading.{is_version, is_count, questions_of, version_in, record_read}
use Rattle.preferences.specs.Accepted.{RecordOf, version_1, version_2}
use Rattle.preferences.proofs.Codings.{codings_first}
use Rattle.preferences.proofs.NumbersLaws.{Within, none, one, Accepted, within_read, read_within}

-- ---- numbers within the values are small

rate_below : (n : ℕ) → is_sampling_rate n ≡ true → n < numbers_end
rate_below n e = by (10 ∷ 20 ∷ 40 ∷ 60 ∷ 80 ∷ 100 ∷ 200 ∷ []) refl e
  where
    small : List ℕ → Bool
    small [] = true
    small (m ∷ ns) = leb m 200 && small ns

    here : (m : ℕ) (ns : List ℕ) → small (m ∷ ns) ≡ true → (t : Bool) → eqb n m ≡ t → (t || among n ns) ≡ true → (small ns ≡ true → among n ns ≡ true → n < numbers_end) → n < numbers_end
    here m ns s true q e f = omega (arith, eqb-true n m q, leb-true m 200 ((and-eq-true_iff (leb m 200) (small ns)).0 s).0)
    here m ns s false q e f = f ((and-eq-true_iff (leb m 200) (small ns)).0 s).1 e

    by : (ns : List ℕ) → small ns ≡ true → among n ns ≡ true → n < numbers_end
    by [] s e = absurd (let z : ◌≡◌ {A = ℕ} 0 1 = cc in omega arith)
    by (m ∷ ns) s e = here m ns s (eqb n m) refl e (λ s e. by ns s e)

-- ---- the four fields

module _ (four : Fields) where
  pub four_within : (questions : List (ℕ → Bool)) (ns : List ℕ) → within_values (Version1 four) ≡ true → Within questions ns → Within (four_values ++ questions) (four_fields four ++ ns)
  four_within questions ns e w =
      let s = is_scancode_set four.set in
      let r = is_sampling_rate four.rate in
      let z = is_resolution four.resolution in
      let l = is_lamps four.lamps in
      let e1 = (and-eq-true_iff s (r && (z && (l && true)))).0 e in
      let e2 = (and-eq-true_iff r (z && (l && true))).0 e1.1 in
      let e3 = (and-eq-true_iff z (l && true)).0 e2.1 in
      let qs : is_scancode_set four.set ≡ true = e1.0 in
      let qr : is_sampling_rate four.rate ≡ true = e2.0 in
      let qz : is_resolution four.resolution ≡ true = e3.0 in
      let ql : is_lamps four.lamps ≡ true = ((and-eq-true_iff l true).0 e3.1).0 in
      let bs : four.set < numbers_end = omega (arith, leb-true four.set 3 ((and-eq-true_iff (leb 1 four.set) (leb four.set 3)).0 qs).1) in
      let bz : four.resolution < numbers_end = omega (arith, leb-true four.resolution 3 qz) in
      let bl : four.lamps < numbers_end = omega (arith, leb-true four.lamps 7 ql) in
      one bs qs (one (rate_below four.rate qr) qr (one bz qz (one bl ql w)))

-- a number before others
record First (question : ℕ → Bool) (questions : List (ℕ → Bool)) (ns : List ℕ) : Type 0 where
  pub number : ℕ
  pub others : List ℕ
  pub all : ns ≡ number ∷ others
  pub below : number < numbers_end
  pub accepted : question number ≡ true
  pub behind : Within questions others

first : {question : ℕ → Bool} {questions : List (ℕ → Bool)} {ns : List ℕ} → Within (question ∷ questions) ns → First question questions ns
first (one {n = n} {ns = ns} h q w) = record { number = n; others = ns; all = refl; below = h; accepted = q; behind = w }

none_left : {ns : List ℕ} → Within [] ns → ns ≡ []
none_left none = refl

record FourOf (questions : List (ℕ → Bool)) (ns : List ℕ) : Type 0 where
  pub four : Fields
  pub others : List ℕ
  pub all : ns ≡ four_fields four ++ others
  pub values : within_values (Version1 four) ≡ true
  pub behind : Within questions others

four_of : (questions : List (ℕ → Bool)) (ns : List ℕ) → Within (four_values ++ questions) ns → FourOf questions ns
four_of questions ns w =
    let a = first w in
    let b = first a.behind in
    let c = first b.behind in
    let d = first c.behind in
    record {
      four = record { set = a.number; rate = b.number; resolution = c.number; lamps = d.number };
      others = d.others;
      all =
          a.all
          ∙ ap (λ (l : List ℕ). a.number ∷ l)
          (b.all ∙ ap (λ (l : List ℕ). b.number ∷ l) (c.all ∙ ap (λ (l : List ℕ). c.number ∷ l) d.all));
      values = rw (a.accepted, b.accepted, c.accepted, d.accepted);
      behind = d.behind;
    }

-- ---- the version

pub first_number : (n : ℕ) (ns : List ℕ) → n < numbers_end → version_in (read_number (codings (n ∷ ns))) ≡ n
first_number n ns h = rw (codings_first n ns, coding_read n (codings ns) h)

versions : (n : ℕ) → is_version n ≡ true → (n ≡ 1) ⊎ (n ≡ 2)
versions n e = by (eqb n 1) refl e
  where
    by : (t : Bool) → eqb n 1 ≡ t → (t || eqb n 2) ≡ true → (n ≡ 1) ⊎ (n ≡ 2)
    by true q e = inl (eqb-true n 1 q)
    by false q e = inr (eqb-true n 2 e)

joined : {ns l m fs : List ℕ} {v w c k : ℕ} → ns ≡ v ∷ l → v ≡ w → l ≡ c ∷ m → c ≡ k → m ≡ fs → ns ≡ w ∷ k ∷ fs
joined a b c d e = cc

-- ---- the records

pub records_read : {fifth : ℕ → Bool} {bytes ns : List ℕ} → RecordOf fifth bytes ns → record_read fifth bytes ≡ gives ns
unfolding record_read
records_read {fifth} (version_1 four e) =
    rw (first_number 1 (4 ∷ four_fields four) (omega arith)) (within_read (one {n = 1} (omega arith) refl (one {n = 4} (omega arith) refl (four_within four [] [] e none))))
records_read {fifth} (version_2 four again e h q) =
    rw (first_number 2 (5 ∷ four_fields four ++ again ∷ []) (omega arith))
    (within_read (one {n = 2} (omega arith) refl (one {n = 5} (omega arith) refl (four_within four (fifth ∷ []) (again ∷ []) e (one h q none)))))

pub read_records : (fifth : ℕ → Bool) (bytes ns : List ℕ) → record_read fifth bytes ≡ gives ns → RecordOf fifth bytes ns
unfolding record_read
read_records fifth bytes ns e = ⊎_elim of_1 of_2 (versions v.number v.accepted)
  where
    a : Accepted (questions_of fifth (version_in (read_number bytes))) bytes ns
    a = read_within (questions_of fifth (version_in (read_number bytes))) bytes ns e

    v : First is_version (is_count (version_in (read_number bytes)) ∷ four_values ++ cond (eqb (version_in (read_number bytes)) 1) [] (fifth ∷ [])) ns
    v = first a.within

    is : version_in (read_number bytes) ≡ v.number
    is = ap (λ (l : List ℕ). version_in (read_number l)) (a.string ∙ ap codings v.all) ∙ first_number v.number v.others v.below

    behind_version : (n : ℕ) → v.number ≡ n → First (is_count n) (four_values ++ cond (eqb n 1) [] (fifth ∷ [])) v.others
    behind_version n q = first (subst (λ (k : ℕ). Within (is_count k ∷ four_values ++ cond (eqb k 1) [] (fifth ∷ [])) v.others) (is ∙ q) v.behind)

    told : (ms : List ℕ) → ns ≡ ms → RecordOf fifth (codings ms) ms → RecordOf fifth bytes ns
    told ms q r = rw a.string (rw q r)

    of_1 : v.number ≡ 1 → RecordOf fifth bytes ns
    of_1 q =
        let c = behind_version 1 q in
        let f = four_of [] c.others c.behind in
        let n4 : c.number ≡ 4 = eqb-true c.number 4 c.accepted in
        told (numbers_of (Version1 f.four))
        (joined v.all q c.all n4 (f.all ∙ ap (λ (l : List ℕ). four_fields f.four ++ l) (none_left f.behind)))
        (version_1 f.four f.values)

    of_2 : v.number ≡ 2 → RecordOf fifth bytes ns
    of_2 q =
        let c = behind_version 2 q in
        let f = four_of (fifth ∷ []) c.others c.behind in
        let n5 : c.number ≡ 5 = eqb-true c.number 5 c.accepted in
        let g = first f.behind in
        told (numbers_of (Version2 f.four g.number))
        (joined v.all q c.all n5 (f.all ∙ ap (λ (l : List ℕ). four_fields f.four ++ l) (g.all ∙ ap (λ (l : List ℕ). g.number ∷ l) (none_left g.behind))))
        (version_2 f.four g.number f.values g.below g.accepted)
