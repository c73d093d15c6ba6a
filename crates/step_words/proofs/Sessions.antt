-- The session that numbers stand for.
use Prim.Native.Nat.{ℕ, ◌<◌}
use mathlib.Core.Bool.{Bool, true, false, cond}
use mathlib.Core.List.{List}
use mathlib.Core.Path.{◌≡◌, refl, sym, ap, ◌∙◌}
use Rattle.std.specs.Prelude.{Option, Some, None, ltb, get_or}
use Rattle.std.proofs.lemmas.Bool.{lt-ltb, ltb-true}
use Rattle.questions.specs.declared.Going.{Going}
use Rattle.sessions.specs.declared.Operation.{Operation}
use Rattle.step_words.specs.declared.ends.Session.{Session}
use Rattle.step_words.specs.Places.{onward, place_in}
use Rattle.step_words.specs.Arguments.{operation_in}
use Rattle.step_words.specs.Sessions.{room, counted_in, session_in}

abbrev counted : Operation → ℕ → Option Going → Option Session
counted o m g = cond (ltb m room) (onward g (λ g. Some (record { operation = o; count = m; at = g }))) None

-- without a place there is none
neither : (v : Bool) → cond {A = Option Session} v None None ≡ None
neither true = refl
neither false = refl

no_place_at : (o : Option Operation) (f : List ℕ) → place_in f ≡ None → counted_in o f ≡ None
no_place_at None f p = refl
no_place_at (Some o) f p = ap (counted o (get_or f 2 0)) p ∙ neither (ltb (get_or f 2 0) room)

pub no_place : (f : List ℕ) → place_in f ≡ None → session_in f ≡ None
no_place f p = no_place_at (operation_in (get_or f 0 0) (get_or f 1 0)) f p

-- with an operation, a place and room there is one
within : (o : Operation) (g : Going) (m n : ℕ) → m ≡ n → n < 224 → cond {A = Option Session} (ltb m room) (Some (record { operation = o; count = m; at = g })) None ≡ Some (record { operation = o; count = n; at = g })
within o g m n e h = rw (e, lt-ltb n 224 h) refl

pub running : (f : List ℕ) (o : Operation) (g : Going) (n : ℕ) → operation_in (get_or f 0 0) (get_or f 1 0) ≡ Some o → place_in f ≡ Some g → get_or f 2 0 ≡ n → n < 224
    → session_in f ≡ Some (record { operation = o; count = n; at = g })
running f o g n p q e h = ap (λ x. counted_in x f) p ∙ ap (counted o (get_or f 2 0)) q ∙ within o g (get_or f 2 0) n e h

-- what there is of it
pub record Parts (f : List ℕ) (s : Session) : Type 0 where
  pub operation : operation_in (get_or f 0 0) (get_or f 1 0) ≡ Some s.operation
  pub place : place_in f ≡ Some s.at
  pub count : get_or f 2 0 ≡ s.count
  pub room : s.count < 224

record PartsAt (o : Option Operation) (g : Option Going) (m : ℕ) (s : Session) : Type 0 where
  operation : o ≡ Some s.operation
  place : g ≡ Some s.at
  count : m ≡ s.count
  room : s.count < 224

pub some_same : {A : Type 0} {a b : A} → Some a ≡ Some b → a ≡ b
some_same e = cc

of_room : (o : Operation) (g : Option Going) (m : ℕ) (s : Session) (v : Bool) → ltb m 224 ≡ v → cond v (onward g (λ g. Some (record { operation = o; count = m; at = g }))) None ≡ Some s
    → PartsAt (Some o) g m s
of_room o (Some g) m s true h e =
    let p : record { operation = o; count = m; at = g } ≡ s = some_same e in
    let n : m ≡ s.count = ap (λ s. s.count) p in
    record { operation = ap (λ s. Some s.operation) p; place = ap (λ s. Some s.at) p; count = n; room = rw (sym n) (ltb-true m 224 h) }
of_room o (Some g) m s false h e = cc
of_room o None m s true h e = cc
of_room o None m s false h e = cc

of_operation : (o : Option Operation) (f : List ℕ) (s : Session) → counted_in o f ≡ Some s → PartsAt o (place_in f) (get_or f 2 0) s
of_operation None f s e = cc
of_operation (Some o) f s e = of_room o (place_in f) (get_or f 2 0) s (ltb (get_or f 2 0) 224) refl e

pub parts : (f : List ℕ) (s : Session) → session_in f ≡ Some s → Parts f s
parts f s e =
    let p = of_operation (operation_in (get_or f 0 0) (get_or f 1 0)) f s e in
    record { operation = p.operation; place = p.place; count = p.count; room = p.room }
