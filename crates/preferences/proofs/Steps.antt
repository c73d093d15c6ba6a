-- The steps of a reading, one number after another.
use mathlib.Core.Path.{◌≡◌, refl, sym, ap, subst, ◌∙◌}
use mathlib.Core.Bool.{Bool, true, false, cond}
use mathlib.Core.List.{List, [], ◌∷◌, ◌++◌}
use Prim.Native.Nat.{ℕ, ◌+◌, ◌-◌, ◌≤◌}
use native.Mathlib.Omega.{arith}
use lib.Dec.{eqb, leb}
use lib.ListN.{length, drop, length-append, length-drop, drop_of_length-le}
use lib.Seq.{drop-cons}
use borrow.Author.Tests.{eqb-true, leb-true, leb-false}
use Rattle.std.specs.Prelude.{Result, Ok, Err}
use Rattle.exchange.specs.Answer.{Answer, gives, refuses}
use Rattle.preferences.specs.Coding.{coding}
use Rattle.preferences.specs.declared.numbers.Number.{Number}
use Rattle.preferences.specs.NumberReading.{taking, read_number}
use Rattle.preferences.proofs.RoundTrip.{read_of}
use Rattle.preferences.proofs.Shortest.{coding_some}
use Rattle.preferences.specs.Values.{is_scancode_set, is_sampling_rate, is_resolution, is_lamps, four_values}
use Rattle.preferences.specs.declared.Fields.{Fields}
use Rattle.preferences.specs.Record.{four_fields}
use Rattle.preferences.specs.declared.coding.ReadRefusal.{ReadRefusal}
use Rattle.preferences.specs.declared.coding.Version.{Version}
use Rattle.preferences.specs.Format.{field_count}
use Rattle.preferences.specs.Reading.{behind, asking, numbers_read, is_version, any_number, is_count, version_in, record_read, refusal_number}
use Rattle.preferences.specs.Steps.{version_number, version_read, behind_all, Takes, Heads, Fours}

-- ---- one number

-- a number that is read ends within the string
pub read_end : (input : List ℕ) (at : ℕ) {v n : ℕ} → read_number (drop at input) ≡ gives (taking v n) → at + n ≤ length input
read_end input at {v} {n} e =
    let r = read_of (drop at input) e in
    let l : length input - at ≡ length (coding v) + length (drop n (drop at input)) = sym (length-drop at input) ∙ ap length r.coded.is ∙ length-append (coding v) (drop n (drop at input)) in
    omega (arith, r.count, coding_some v)

-- what is known of a number that is taken
record Known (question : ℕ → Bool) (a : Answer Number) (v : ℕ) : Type 0 where
  pub value : version_in a ≡ v
  pub accepted : question v ≡ true

module _ {input : List ℕ} {at : ℕ} {question : ℕ → Bool} where
  -- then the other numbers
  pub then_others : {v end : ℕ} → Takes input at question (Ok (v, end)) → (questions : List (ℕ → Bool)) → numbers_read (question ∷ questions) (drop at input) ≡ behind v (numbers_read questions (drop end input))
  unfolding numbers_read
  then_others t questions = t.says (numbers_read questions)

  pub then_refused : {x : ReadRefusal} → Takes input at question (Err x) → (questions : List (ℕ → Bool)) → numbers_read (question ∷ questions) (drop at input) ≡ refuses (refusal_number x)
  unfolding numbers_read
  then_refused t questions = t.says (numbers_read questions)

  known : {v end : ℕ} → Takes input at question (Ok (v, end)) → Known question (read_number (drop at input)) v
  known {v} t = by (read_number (drop at input)) (t.says (λ rest. gives []))
    where
      judge : (r : Number) (b : Bool) → question r.value ≡ b → cond b (gives (r.value ∷ [])) (refuses 28) ≡ gives (v ∷ []) → Known question (gives r) v
      judge r true q e = let z : r.value ≡ v = cc in record { value = z; accepted = sym (ap question z) ∙ q }
      judge r false q e = let z : ◌≡◌ {A = ℕ} 0 1 = cc in absurd (omega arith)

      by : (a : Answer Number) → asking question (λ rest. gives []) (drop at input) a ≡ gives (v ∷ []) → Known question a v
      by (refuses k) e = let z : ◌≡◌ {A = ℕ} 0 1 = cc in absurd (omega arith)
      by (gives r) e = judge r (question r.value) refl e

-- what is asked of a number whose form is asked for alone
asked : (input : List ℕ) (at v end : ℕ) (question : ℕ → Bool) (a : Answer Number) (next : List ℕ → Answer (List ℕ)) → asking any_number (λ rest. gives []) (drop at input) a ≡ gives (v ∷ [])
    → asking any_number next (drop at input) a ≡ behind v (next (drop end input)) → asking question next (drop at input) a ≡ cond (question v) (behind v (next (drop end input))) (refuses 28)
asked input at v end question (refuses k) next f s = absurd (let z : ◌≡◌ {A = ℕ} 0 1 = cc in omega arith)
asked input at v end question (gives n) next f s =
    let z : n.value ≡ v = cc in
    let w : cond (question n.value) (behind n.value (next (drop n.count (drop at input)))) (refuses 28) ≡ cond (question v) (behind n.value (next (drop n.count (drop at input)))) (refuses 28) =
    ap (λ (w : ℕ). cond (question w) (behind n.value (next (drop n.count (drop at input)))) (refuses 28)) z in
    w ∙ ap (λ (a : Answer (List ℕ)). cond (question v) a (refuses 28)) s

-- a number that was read, with its question
module _ {input : List ℕ} {at : ℕ} (question : ℕ → Bool) where
  takes_accepted : {t : ℕ × ℕ} → Takes input at any_number (Ok t) → question t.0 ≡ true → Takes input at question (Ok t)
  takes_accepted {t} r q = record { says = λ next. asked input at t.0 t.1 question (read_number (drop at input)) next (r.says (λ rest. gives [])) (r.says next) ∙ rw q }

  takes_outside : {t : ℕ × ℕ} → Takes input at any_number (Ok t) → question t.0 ≡ false → Takes input at question (Err ReadRefusal.OutsideValues)
  takes_outside {t} r q = record { says = λ next. asked input at t.0 t.1 question (read_number (drop at input)) next (r.says (λ rest. gives [])) (r.says next) ∙ rw q }

  takes_refused : {x : ReadRefusal} → Takes input at any_number (Err x) → Takes input at question (Err x)
  takes_refused {x} r = record { says = λ next. by (read_number (drop at input)) next (r.says (λ rest. gives [])) (r.says next) }
    where
      by : (a : Answer Number) (next : List ℕ → Answer (List ℕ)) → asking any_number (λ rest. gives []) (drop at input) a ≡ refuses (refusal_number x)
          → asking any_number next (drop at input) a ≡ refuses (refusal_number x) → asking question next (drop at input) a ≡ refuses (refusal_number x)
      by (refuses k) next f s = s
      by (gives n) next f s = absurd (let z : ◌≡◌ {A = ℕ} 0 1 = cc in omega arith)

  -- the three ways on from a number that was read: it is malformed, it is what its question asks for, or it is outside its values
  pub malformed : {r : Result (ℕ × ℕ) ReadRefusal} {x : ReadRefusal} → Takes input at any_number r → r ≡ Err x → Takes input at question (Err x)
  malformed h e = takes_refused (subst (Takes input at any_number) e h)

  pub taken : {r : Result (ℕ × ℕ) ReadRefusal} {t : ℕ × ℕ} {b : Bool} → Takes input at any_number r → r ≡ Ok t → b ≡ question t.0 → b ≡ true → Takes input at question (Ok t)
  taken h e p q = takes_accepted (subst (Takes input at any_number) e h) (sym p ∙ q)

  pub outside : {r : Result (ℕ × ℕ) ReadRefusal} {t : ℕ × ℕ} {b : Bool} {x : ReadRefusal} → Takes input at any_number r → r ≡ Ok t → b ≡ question t.0 → b ≡ false → x ≡ ReadRefusal.OutsideValues → Takes input at question (Err x)
  outside h e p q z = subst (λ (y : ReadRefusal). Takes input at question (Err y)) (sym z) (takes_outside (subst (Takes input at any_number) e h) (sym p ∙ q))

-- a count is held against a number, which is the version's
module _ {input : List ℕ} {at : ℕ} (version : ℕ) {k : ℕ} {r : Result (ℕ × ℕ) ReadRefusal} {t : ℕ × ℕ} (h : Takes input at any_number r) (e : r ≡ Ok t) where
  pub counted : eqb t.0 k ≡ true → k ≡ field_count version → Takes input at (is_count version) (Ok t)
  counted q c = taken (is_count version) h e (ap (λ (n : ℕ). eqb t.0 n) c) q

  pub miscounted : {x : ReadRefusal} → eqb t.0 k ≡ false → x ≡ ReadRefusal.OutsideValues → k ≡ field_count version → Takes input at (is_count version) (Err x)
  miscounted q z c = outside (is_count version) h e (ap (λ (n : ℕ). eqb t.0 n) c) q z

-- ---- version and count

-- a number that is read as a version is that version's
is_read : (n : ℕ) {v : Version} → version_read n ≡ Ok v → n ≡ version_number v
is_read n {v} e = by (eqb n 1) (eqb n 2) refl refl v e
  where
    by : (one two : Bool) → eqb n 1 ≡ one → eqb n 2 ≡ two → (v : Version) → cond one (Ok Version.One) (cond two (Ok Version.Two) (Err ReadRefusal.OutsideValues)) ≡ Ok v → n ≡ version_number v
    by true two p q Version.One e = eqb-true n 1 p
    by true two p q Version.Two e = absurd cc
    by false true p q Version.One e = absurd cc
    by false true p q Version.Two e = eqb-true n 2 q
    by false false p q v e = absurd cc

-- what is no version is refused with the number of what is outside its values
record NoVersion (n : ℕ) (x : ReadRefusal) : Type 0 where
  pub outside : is_version n ≡ false
  pub refusal : x ≡ ReadRefusal.OutsideValues

is_refused : (n : ℕ) {x : ReadRefusal} → version_read n ≡ Err x → NoVersion n x
is_refused n {x} e = by (eqb n 1) (eqb n 2) refl refl e
  where
    by : (one two : Bool) → eqb n 1 ≡ one → eqb n 2 ≡ two → cond one (Ok Version.One) (cond two (Ok Version.Two) (Err ReadRefusal.OutsideValues)) ≡ Err x → NoVersion n x
    by true two p q e = absurd cc
    by false true p q e = absurd cc
    by false false p q e = record { outside = rw (p, q); refusal = cc }

module _ {input : List ℕ} where
  pub head_refused : {x : ReadRefusal} → Takes input 0 is_version (Err x) → Heads input (Err x)
  unfolding record_read
  head_refused t = record { says = λ fifth. then_refused t (is_count (version_in (read_number input)) ∷ four_values ++ cond (eqb (version_in (read_number input)) 1) [] (fifth ∷ [])) }

  module _ (v : Version) {at : ℕ} (t : Takes input 0 is_version (Ok (version_number v, at))) where
    by_version : (fifth : ℕ → Bool) → record_read fifth input ≡ behind (version_number v) (numbers_read (is_count (version_number v) ∷ four_values ++ cond (eqb (version_number v) 1) [] (fifth ∷ [])) (drop at input))
    unfolding record_read
    by_version fifth = rw (known t).value (then_others t (is_count (version_number v) ∷ four_values ++ cond (eqb (version_number v) 1) [] (fifth ∷ [])))

    pub count_refused : {x : ReadRefusal} → Takes input at (is_count (version_number v)) (Err x) → Heads input (Err x)
    count_refused c = record { says = λ fifth. by_version fifth ∙ ap (behind (version_number v)) (then_refused c (four_values ++ cond (eqb (version_number v) 1) [] (fifth ∷ []))) }

    pub head_read : {n end : ℕ} → Takes input at (is_count (version_number v)) (Ok (n, end)) → Heads input (Ok (v, end))
    head_read {n} {end} c =
        let z : n ≡ field_count (version_number v) = eqb-true n (field_count (version_number v)) (known c).accepted in
        record {
          says =
              λ fifth.
              by_version fifth
              ∙ ap (behind (version_number v)) (then_others c (four_values ++ cond (eqb (version_number v) 1) [] (fifth ∷ [])))
              ∙ ap (λ (m : ℕ). behind (version_number v) (behind m (numbers_read (four_values ++ cond (eqb (version_number v) 1) [] (fifth ∷ [])) (drop end input)))) z;
        }

-- a number that was read, as a version
module _ {input : List ℕ} {r : Result (ℕ × ℕ) ReadRefusal} {t : ℕ × ℕ} (h : Takes input 0 any_number r) (e : r ≡ Ok t) where
  pub versioned : {v : Version} {read : Result Version ReadRefusal} → read ≡ version_read t.0 → read ≡ Ok v → Takes input 0 is_version (Ok (version_number v, t.1))
  versioned {v} p q =
      let z = is_read t.0 (sym p ∙ q) in
      subst (λ (n : ℕ). Takes input 0 is_version (Ok (n, t.1))) z (taken is_version h e refl (ap is_version z ∙ known_version v))
    where
      known_version : (v : Version) → is_version (version_number v) ≡ true
      known_version Version.One = refl
      known_version Version.Two = refl

  pub unversioned : {x : ReadRefusal} {read : Result Version ReadRefusal} → read ≡ version_read t.0 → read ≡ Err x → Heads input (Err x)
  unversioned p q =
      let z = is_refused t.0 (sym p ∙ q) in
      head_refused (outside is_version h e refl z.outside z.refusal)

-- a head that was read, by the arm in which its version stands
pub head_in : {input : List ℕ} {r : Result (Version × ℕ) ReadRefusal} {v w : Version} {at : ℕ} → Heads input r → r ≡ Ok (v, at) → v ≡ w → Heads input (Ok (w, at))
head_in {input} {r} {v} {w} {at} h e z = subst (Heads input) (e ∙ ap (λ (u : Version). Ok (u, at)) z) h

-- ---- the four fields

module _ {input : List ℕ} {at : ℕ} where
  pub first_refused : {x : ReadRefusal} → Takes input at is_scancode_set (Err x) → Fours input at (Err x)
  first_refused t = record { says = λ qs. then_refused t (is_sampling_rate ∷ is_resolution ∷ is_lamps ∷ qs) }

  module _ {set at2 : ℕ} (t : Takes input at is_scancode_set (Ok (set, at2))) where
    pub second_refused : {x : ReadRefusal} → Takes input at2 is_sampling_rate (Err x) → Fours input at (Err x)
    second_refused u = record { says = λ qs. then_others t (is_sampling_rate ∷ is_resolution ∷ is_lamps ∷ qs) ∙ ap (behind set) (then_refused u (is_resolution ∷ is_lamps ∷ qs)) }

    module _ {rate at3 : ℕ} (u : Takes input at2 is_sampling_rate (Ok (rate, at3))) where
      to_third : (qs : List (ℕ → Bool)) → numbers_read (four_values ++ qs) (drop at input) ≡ behind set (behind rate (numbers_read (is_resolution ∷ is_lamps ∷ qs) (drop at3 input)))
      to_third qs = then_others t (is_sampling_rate ∷ is_resolution ∷ is_lamps ∷ qs) ∙ ap (behind set) (then_others u (is_resolution ∷ is_lamps ∷ qs))

      pub third_refused : {x : ReadRefusal} → Takes input at3 is_resolution (Err x) → Fours input at (Err x)
      third_refused v = record { says = λ qs. to_third qs ∙ ap (λ (a : Answer (List ℕ)). behind set (behind rate a)) (then_refused v (is_lamps ∷ qs)) }

      module _ {resolution at4 : ℕ} (v : Takes input at3 is_resolution (Ok (resolution, at4))) where
        to_fourth : (qs : List (ℕ → Bool)) → numbers_read (four_values ++ qs) (drop at input) ≡ behind set (behind rate (behind resolution (numbers_read (is_lamps ∷ qs) (drop at4 input))))
        to_fourth qs = to_third qs ∙ ap (λ (a : Answer (List ℕ)). behind set (behind rate a)) (then_others v (is_lamps ∷ qs))

        pub fourth_refused : {x : ReadRefusal} → Takes input at4 is_lamps (Err x) → Fours input at (Err x)
        fourth_refused w = record { says = λ qs. to_fourth qs ∙ ap (λ (a : Answer (List ℕ)). behind set (behind rate (behind resolution a))) (then_refused w qs) }

        pub four_read : {lamps end : ℕ} → Takes input at4 is_lamps (Ok (lamps, end)) → Fours input at (Ok (record { set = set; rate = rate; resolution = resolution; lamps = lamps }, end))
        four_read w = record { says = λ qs. to_fourth qs ∙ ap (λ (a : Answer (List ℕ)). behind set (behind rate (behind resolution a))) (then_others w qs) }

-- ---- the end

module _ (input : List ℕ) (end : ℕ) where
  nothing_follows : leb (length input) end ≡ true → numbers_read [] (drop end input) ≡ gives []
  unfolding numbers_read
  nothing_follows h = rw (drop_of_length-le input (leb-true (length input) end h))

  bytes_follow : leb (length input) end ≡ false → numbers_read [] (drop end input) ≡ refuses 29
  unfolding numbers_read
  bytes_follow h = rw (drop-cons input end 0 (leb-false (length input) end h))

module _ {input : List ℕ} (fifth : ℕ → Bool) where
  module _ {at : ℕ} {four : Fields} {end : ℕ} (f : Fours input at (Ok (four, end))) where
    module _ (h : Heads input (Ok (Version.One, at))) where
      behind_1 : record_read fifth input ≡ behind_all (1 ∷ 4 ∷ four_fields four) (numbers_read [] (drop end input))
      behind_1 = h.says fifth ∙ ap (behind_all (1 ∷ 4 ∷ [])) (f.says [])

      pub one_follows : leb (length input) end ≡ false → record_read fifth input ≡ refuses 29
      one_follows l = behind_1 ∙ ap (behind_all (1 ∷ 4 ∷ four_fields four)) (bytes_follow input end l)

      pub one_ends : leb (length input) end ≡ true → record_read fifth input ≡ gives (1 ∷ 4 ∷ four_fields four)
      one_ends l = behind_1 ∙ ap (behind_all (1 ∷ 4 ∷ four_fields four)) (nothing_follows input end l)

    module _ (h : Heads input (Ok (Version.Two, at))) where
      behind_2 : record_read fifth input ≡ behind_all (2 ∷ 5 ∷ four_fields four) (numbers_read (fifth ∷ []) (drop end input))
      behind_2 = h.says fifth ∙ ap (behind_all (2 ∷ 5 ∷ [])) (f.says (fifth ∷ []))

      pub fifth_ends : {x : ReadRefusal} → Takes input end fifth (Err x) → record_read fifth input ≡ refuses (refusal_number x)
      fifth_ends t = behind_2 ∙ ap (behind_all (2 ∷ 5 ∷ four_fields four)) (then_refused t [])

      module _ {again last : ℕ} (t : Takes input end fifth (Ok (again, last))) where
        pub two_follows : leb (length input) last ≡ false → record_read fifth input ≡ refuses 29
        two_follows l = behind_2 ∙ ap (behind_all (2 ∷ 5 ∷ four_fields four)) (then_others t [] ∙ ap (behind again) (bytes_follow input last l))

        pub two_ends : leb (length input) last ≡ true → record_read fifth input ≡ gives (2 ∷ 5 ∷ four_fields four ++ again ∷ [])
        two_ends l = behind_2 ∙ ap (behind_all (2 ∷ 5 ∷ four_fields four)) (then_others t [] ∙ ap (behind again) (nothing_follows input last l))
