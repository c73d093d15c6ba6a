-- A dispatcher's numbers, which stand for it.
use mathlib.Core.Path.{◌≡◌, refl, sym, ap, ◌∙◌}
use mathlib.Core.List.{List, [], ◌∷◌, ◌++◌}
use Prim.Native.Nat.{ℕ, ◌+◌, ◌-◌, ◌≤◌}
use native.Mathlib.Omega.{arith}
use lib.ListN.{length, get_or, drop, set, length-map, take-append-drop, drop_of_length-le}
use lib.Seq.{length-take-le, take_at, drop-cons, get_or-append-add, get_or-drop}
use Rattle.ps2_bytes.specs.Responses.{mouse_id_byte}
use Rattle.ps2_bytes.specs.declared.response.MouseId.{MouseId}
use Rattle.keyboard_sides.specs.declared.Side.{Side}
use Rattle.keyboard_record.specs.declared.KeyboardHandler.{KeyboardHandler}
use Rattle.handler_words.specs.Layout.{words_length}
use Rattle.handler_words.specs.Words.{record_of, word_of, words_of}
use Rattle.handler_words.proofs.Words.{record_words}
use Rattle.dispatcher.specs.declared.Dispatcher.{Dispatcher}
use Rattle.std.specs.Prelude.{Option, None, Some}
use Rattle.std.proofs.lemmas.List.{set-append_right}
use Rattle.dispatcher.specs.declared.Each.{Each}
use Rattle.dispatcher.specs.declared.Source.{Source}
use Rattle.dispatcher.specs.Sources.{with_place}
use Rattle.dispatcher.specs.Step.{with_handler, turn_over}
use Rattle.dispatcher_words.specs.Layout.{last_at, dispatcher_length}
use Rattle.dispatcher_words.specs.Steps.{with_turn}
use Rattle.dispatcher_words.specs.Words.{identity_of, source_number, last_of, handler_in, last_number, dispatcher_of, words_of_dispatcher, DispatcherFits}

pub identity_back : (id : MouseId) → identity_of (mouse_id_byte id) ≡ id
identity_back MouseId.Zero = refl
identity_back MouseId.Three = refl
identity_back MouseId.Four = refl

pub served_back : (source : Source) → last_of (source_number source) ≡ Some source
served_back (Source.Keyboard Side.First) = refl
served_back (Source.Keyboard Side.Second) = refl
served_back Source.Mouse = refl

last_back : (last : Option Source) → last_of (last_number last) ≡ last
last_back None = refl
last_back (Some source) = served_back source

pub same_dispatcher : {h k : KeyboardHandler} {i j : MouseId} {p q : Each ℕ} {l m : Option Source} → h ≡ k → i ≡ j → p ≡ q → l ≡ m
    → ◌≡◌ {A = Dispatcher} (record { handler = h; mouse = record { id = i }; places = p; last = l }) (record { handler = k; mouse = record { id = j }; places = q; last = m })
same_dispatcher h i p l = cc

-- ---- the numbers behind a record's

module _ (us : List ℕ) (h : length us ≡ words_length) (rest : List ℕ) where
  pub word_at : (n : ℕ) → get_or (us ++ rest) (words_length + n) 0 ≡ get_or rest n 0
  word_at n = ap (λ (k : ℕ). get_or (us ++ rest) (k + n) 0) (sym h) ∙ get_or-append-add us rest n 0

  -- a record's numbers and those behind it stand for this state
  pub stands : dispatcher_of (us ++ rest)
      ≡ record {
        handler = record_of us;
        mouse = record { id = identity_of (get_or rest 0 0) };
        places = record { first = get_or rest 1 0; second = get_or rest 2 0; mouse = get_or rest 3 0 };
        last = last_of (get_or rest 4 0);
      }
  unfolding dispatcher_of
  stands = rw (take_at us rest words_length h, word_at 0, word_at 1, word_at 2, word_at 3, word_at 4)

  turn_set : (n v w : ℕ) → words_length ≤ n → set (set (us ++ rest) n v) last_at w ≡ us ++ set (set rest (n - words_length) v) 4 w
  turn_set n v w le = rw (set-append_right us rest words_length n v h le, set-append_right us (set rest (n - words_length) v) words_length last_at w h (omega arith))

-- "its inverse": the numbers of a state, whose handler's record fits them, stand for this state
pub dispatcher_words : (d : Dispatcher) → DispatcherFits d → dispatcher_of (words_of_dispatcher d) ≡ d
dispatcher_words d f =
    let h : length (words_of d.handler) ≡ words_length = omega (arith, length-map d.handler.places word_of, f.places) in
    stands (words_of d.handler) h _ ∙ same_dispatcher (record_words d.handler f.handler) (identity_back d.mouse.id) refl (last_back d.last)

-- ---- the handler's numbers

-- they are as many as a record's
pub handler_length : (ws : List ℕ) → length ws ≡ dispatcher_length → length (handler_in ws) ≡ words_length
handler_length ws n = length-take-le words_length ws (omega (arith, n))

pub handler_stands : (ws : List ℕ) → (dispatcher_of ws).handler ≡ record_of (handler_in ws)
unfolding dispatcher_of
handler_stands ws = refl

-- other numbers of a record in their stead
pub handler_put : (us : List ℕ) → length us ≡ words_length → (ws : List ℕ) → dispatcher_of (us ++ drop words_length ws) ≡ with_handler (record_of us) (dispatcher_of ws)
unfolding dispatcher_of
handler_put us h ws =
    stands us h (drop words_length ws)
    ∙ rw (get_or-drop words_length ws 0 0, get_or-drop words_length ws 1 0, get_or-drop words_length ws 2 0, get_or-drop words_length ws 3 0, get_or-drop words_length ws 4 0)

-- ---- a source's turn over

pub five_behind : (ws : List ℕ) → length ws ≡ dispatcher_length → drop 144 ws ≡ get_or ws 144 0 ∷ get_or ws 145 0 ∷ get_or ws 146 0 ∷ get_or ws 147 0 ∷ get_or ws 148 0 ∷ []
five_behind ws n =
    let at : ℕ → ℕ = λ j. get_or ws j 0 in
    drop-cons ws 144 0 (omega (arith, n)) ∙ ap (λ (r : List ℕ). at 144 ∷ r) (drop-cons ws 145 0 (omega (arith, n))
    ∙ ap (λ (r : List ℕ). at 145 ∷ r) (drop-cons ws 146 0 (omega (arith, n)) ∙ ap (λ (r : List ℕ). at 146 ∷ r) (drop-cons ws 147 0 (omega (arith, n))
    ∙ ap (λ (r : List ℕ). at 147 ∷ r) (drop-cons ws 148 0 (omega (arith, n)) ∙ ap (λ (r : List ℕ). at 148 ∷ r) (drop_of_length-le ws {i = 149} (omega (arith, n)))))))

module _ (us : List ℕ) (h : length us ≡ words_length) where
  turned : (source : Source) (place a b c d e : ℕ)
      → dispatcher_of (with_turn source place (us ++ (a ∷ b ∷ c ∷ d ∷ e ∷ [])))
      ≡ record {
        handler = record_of us;
        mouse = record { id = identity_of a };
        places = with_place source place (record { first = b; second = c; mouse = d });
        last = Some source;
      }
  turned (Source.Keyboard Side.First) place a b c d e = ap dispatcher_of (turn_set us h (a ∷ b ∷ c ∷ d ∷ e ∷ []) 145 place 1 (omega arith)) ∙ stands us h _
  turned (Source.Keyboard Side.Second) place a b c d e = ap dispatcher_of (turn_set us h (a ∷ b ∷ c ∷ d ∷ e ∷ []) 146 place 2 (omega arith)) ∙ stands us h _
  turned Source.Mouse place a b c d e = ap dispatcher_of (turn_set us h (a ∷ b ∷ c ∷ d ∷ e ∷ []) 147 place 3 (omega arith)) ∙ stands us h _

  -- another handler's numbers, and a source's turn over, in a dispatcher's numbers
  pub turn_stands : (ws : List ℕ) → length ws ≡ dispatcher_length → (source : Source) (place : ℕ)
      → dispatcher_of (with_turn source place (us ++ drop words_length ws)) ≡ turn_over source (with_place source place (dispatcher_of ws).places) (record_of us) (dispatcher_of ws)
  unfolding dispatcher_of
  turn_stands ws n source place =
      ap (λ (l : List ℕ). dispatcher_of (with_turn source place (us ++ l))) (five_behind ws n)
      ∙ turned source place (get_or ws 144 0) (get_or ws 145 0) (get_or ws 146 0) (get_or ws 147 0) (get_or ws 148 0)

-- a source's turn over, with the handler's numbers as they were
pub turn_alone : (ws : List ℕ) → length ws ≡ dispatcher_length → (source : Source) (place : ℕ)
    → dispatcher_of (with_turn source place ws) ≡ turn_over source (with_place source place (dispatcher_of ws).places) (dispatcher_of ws).handler (dispatcher_of ws)
turn_alone ws n source place =
    ap (λ (l : List ℕ). dispatcher_of (with_turn source place l)) (sym (take-append-drop words_length ws)) ∙ turn_stands (handler_in ws) (handler_length ws n) ws n source place
    ∙ rw (handler_stands ws)
