-- A run of steps and takings on lent numbers is a list of the dispatcher's theorem.
use mathlib.Core.Path.{◌≡◌, refl, sym, ap, ◌∙◌}
use mathlib.Core.Bool.{Bool, true, ◌&&◌, ◌||◌, and-eq-true_iff}
use mathlib.Core.List.{List, ◌++◌}
use mathlib.Core.Logic.{◌≢◌}
use Rattle.std.specs.Prelude.{Option, None, Some}
use Prim.Native.Nat.{ℕ, ◌<◌}
use native.Mathlib.Omega.{arith}
use lib.Dec.{eqb, ltb}
use lib.ListN.{length, get_or, set, drop, length-set}
use lib.Seq.{length_front, get_or-drop}
use Rattle.std.proofs.lemmas.List.{get_or-set_same, get_or-set_other}
use Rattle.ps2_bytes.specs.Responses.{mouse_id_byte}
use Rattle.ps2_bytes.specs.declared.response.MouseId.{MouseId}
use Rattle.keyboard_sides.specs.declared.Side.{Side}
use Rattle.keyboard_record.specs.declared.KeyboardHandler.{KeyboardHandler}
use Rattle.keyboard_record.specs.declared.Table.{Table}
use Rattle.keyboard_record.specs.Record.{fresh}
use Rattle.keyboard_record.specs.Taking.{taken}
use Rattle.keyboard.specs.Handler.{effects}
use Rattle.keyboard.specs.KeyboardLamps.{keyboard_lamps}
use Rattle.theorem_history.specs.Past.{Past, nothing, ◌▸◌}
use Rattle.handler_words.specs.Layout.{words_length}
use Rattle.handler_words.specs.Words.{state_of, record_of, words_of}
use Rattle.handler_words.specs.Calls.{words_left, taken_numbers}
use Rattle.handler_words.proofs.Runs.{length_left, length_taken}
use Rattle.dispatcher.specs.declared.Dispatcher.{Dispatcher}
use Rattle.dispatcher.specs.declared.Source.{Source}
use Rattle.dispatcher.specs.Sources.{Scripts, scripts, bytes_of}
use Rattle.dispatcher.specs.Step.{Stepped, with_handler, new_dispatcher, step_of}
use Rattle.dispatcher.specs.Runs.{Move, stepping, taking, service_of}
use Rattle.theorem_dispatcher.specs.Through.{dispatched}
use Rattle.theorem_dispatcher.proofs.Through.{keyboard_history_through}
use Rattle.dispatcher_words.specs.Layout.{place_at, dispatcher_length}
use Rattle.dispatcher_words.specs.Words.{source_number, handler_in, names_all, dispatcher_of, words_of_dispatcher}
use Rattle.dispatcher_words.specs.Steps.{step_numbers, with_turn, with_call, words_stepped}
use Rattle.dispatcher_words.specs.Runs.{Ran, begun, steps, takes, by_value, AsDispatched}
use Rattle.dispatcher_words.proofs.Words.{word_at, handler_length, handler_stands, handler_put}

-- ---- no step changes how many numbers there are

long_turn : (source : Source) (place : ℕ) (ws : List ℕ) → length (with_turn source place ws) ≡ length ws
long_turn source place ws = rw (length-set, length-set)

long_call : (side : Side) (bytes log ws : List ℕ) → length (with_call side bytes log ws) ≡ length ws
long_call side bytes log ws =
    let x = effects keyboard_lamps side (state_of (handler_in ws)) bytes log in
    length_front ws (words_left side (handler_in ws) x) words_length (length_left side (handler_in ws) x)

length_stepped : (o : Option Source) (x : Stepped) (s : Scripts) (log ws : List ℕ) → length (words_stepped o x s log ws) ≡ length ws
length_stepped None x s log ws = refl
length_stepped (Some (Source.Keyboard side)) x s log ws =
    long_turn (Source.Keyboard side) _ (with_call side (bytes_of (dispatcher_of ws) s (Source.Keyboard side)) log ws) ∙ long_call side (bytes_of (dispatcher_of ws) s (Source.Keyboard side)) log ws
length_stepped (Some Source.Mouse) x s log ws = long_turn Source.Mouse _ ws

-- ---- nor makes any name nothing

module _ (identity : ℕ) where
  abbrev known : ℕ → Bool
  known last = (eqb identity 0 || (eqb identity 3 || eqb identity 4)) && ltb last 4

  known_source : (last : ℕ) (source : Source) → known last ≡ true → known (source_number source) ≡ true
  known_source last source e =
      let i = eqb identity 0 || (eqb identity 3 || eqb identity 4) in
      let p = (and-eq-true_iff i (ltb last 4)).0 e in
      rw p.0 (by_source source)
    where
      by_source : (s : Source) → ltb (source_number s) 4 ≡ true
      by_source (Source.Keyboard Side.First) = refl
      by_source (Source.Keyboard Side.Second) = refl
      by_source Source.Mouse = refl

place_before : (source : Source) → (place_at source ≢ 144) × (place_at source ≢ 148)
place_before (Source.Keyboard Side.First) = (λ e. absurd (omega (arith, e)), λ e. absurd (omega (arith, e)))
place_before (Source.Keyboard Side.Second) = (λ e. absurd (omega (arith, e)), λ e. absurd (omega (arith, e)))
place_before Source.Mouse = (λ e. absurd (omega (arith, e)), λ e. absurd (omega (arith, e)))

named_turn : (source : Source) (place : ℕ) (ws : List ℕ) → length ws ≡ dispatcher_length → names_all ws ≡ true → names_all (with_turn source place ws) ≡ true
unfolding names_all
named_turn source place ws h e =
    let us = set ws (place_at source) place in
    let l : 148 < length us = rw length-set (omega (arith, h)) in
    let a : get_or (with_turn source place ws) 144 0 ≡ get_or ws 144 0 =
    get_or-set_other us 148 144 (source_number source) 0 (λ q. absurd (omega (arith, q))) ∙ get_or-set_other ws (place_at source) 144 place 0 (λ q. (place_before source).0 (sym q)) in
    let b : get_or (with_turn source place ws) 148 0 ≡ source_number source = get_or-set_same us 148 (source_number source) 0 l in
    rw (a, b) (known_source (get_or ws 144 0) (get_or ws 148 0) source e)

named_front : (us ws : List ℕ) → length us ≡ words_length → names_all ws ≡ true → names_all (us ++ drop words_length ws) ≡ true
unfolding names_all
named_front us ws h e = rw (word_at us h (drop words_length ws) 0, word_at us h (drop words_length ws) 4, get_or-drop words_length ws 0 0, get_or-drop words_length ws 4 0) e

named_stepped : (o : Option Source) (x : Stepped) (s : Scripts) (log ws : List ℕ) → length ws ≡ dispatcher_length → names_all ws ≡ true → names_all (words_stepped o x s log ws) ≡ true
named_stepped None x s log ws h e = e
named_stepped (Some (Source.Keyboard side)) x s log ws h e =
    let bytes = bytes_of (dispatcher_of ws) s (Source.Keyboard side) in
    let y = effects keyboard_lamps side (state_of (handler_in ws)) bytes log in
    named_turn (Source.Keyboard side) _ (with_call side bytes log ws) (long_call side bytes log ws ∙ h)
    (named_front (words_left side (handler_in ws) y) ws (length_left side (handler_in ws) y ∙ handler_length ws h) e)
named_stepped (Some Source.Mouse) x s log ws h e = named_turn Source.Mouse _ ws h e

named_fresh : (d : Dispatcher) → length (words_of d.handler) ≡ words_length → d.last ≡ None → names_all (words_of_dispatcher d) ≡ true
unfolding names_all
named_fresh d h n = rw (word_at (words_of d.handler) h _ 0, word_at (words_of d.handler) h _ 4, n) (by_id d.mouse.id)
  where
    by_id : (id : MouseId) → known (mouse_id_byte id) 0 ≡ true
    by_id MouseId.Zero = refl
    by_id MouseId.Three = refl
    by_id MouseId.Four = refl

-- ---- the promises at the right length

module _ (table : Table) (id : MouseId) (moves : Past Move) (ws : List ℕ) (h : length ws ≡ dispatcher_length) (n : names_all ws ≡ true) (is : dispatcher_of ws ≡ by_value table id moves) where
  record_is : record_of (handler_in ws) ≡ (by_value table id moves).handler
  record_is = sym (handler_stands ws) ∙ ap (λ (d : Dispatcher). d.handler) is

  as_dispatched : AsDispatched table id moves ws
  as_dispatched =
      record {
        long = h;
        named = n;
        stands = is;
        follows = keyboard_history_through table (record { id = id }) moves;
        answers = λ first second third log answer ws' log' w.
            (w.long h n).answered ∙ ap (λ (d : Dispatcher). step_numbers (step_of keyboard_lamps d (scripts first second third) log).answer) is;
        takings = λ answer us w. (w.long (handler_length ws h)).answered ∙ ap (λ (g : KeyboardHandler). taken_numbers (taken g).answer) record_is;
      }

-- the theorem: a run of steps and takings on lent numbers, from fresh ones on, is a list of steps and takings through which the history rule holds
pub run_as_dispatched : (table : Table) (id : MouseId) {moves : Past Move} {ws : List ℕ} → Ran table id moves ws → AsDispatched table id moves ws
unfolding dispatched
run_as_dispatched table id (begun k p i q e h w) =
    let f = (rw (q, e) at w.is).0 h in
    as_dispatched table id nothing _ (ap length f.1) (ap names_all f.1 ∙ named_fresh (new_dispatcher (fresh table) (record { id = id })) refl refl) f.2
run_as_dispatched table id (steps {moves} {ws} {first = first} {second = second} {third = third} {log = log} r w) =
    let so_far = run_as_dispatched table id r in
    let x = w.long so_far.long so_far.named in
    let s = scripts first second third in
    let y = step_of keyboard_lamps (dispatcher_of ws) s log in
    as_dispatched table id (moves ▸ stepping s log) _ (ap length x.writes ∙ length_stepped (service_of y.answer) y s log ws ∙ so_far.long)
    (ap names_all x.writes ∙ named_stepped (service_of y.answer) y s log ws so_far.long so_far.named)
    (x.leaves ∙ ap (λ (d : Dispatcher). (step_of keyboard_lamps d s log).state) so_far.stands)
run_as_dispatched table id (takes {moves} {ws} {us} r w) =
    let so_far = run_as_dispatched table id r in
    let x = w.long (handler_length ws so_far.long) in
    let n : length us ≡ length (handler_in ws) = ap length x.writes ∙ length_taken (taken (record_of (handler_in ws))).answer (taken (record_of (handler_in ws))).now.state (handler_in ws) in
    as_dispatched table id (moves ▸ taking) (us ++ drop words_length ws) (length_front ws us words_length n ∙ so_far.long) (named_front us ws (n ∙ handler_length ws so_far.long) so_far.named)
    (handler_put us (n ∙ handler_length ws so_far.long) ws
    ∙ ap (λ (g : KeyboardHandler). with_handler g (dispatcher_of ws)) x.leaves
    ∙ ap (λ (g : KeyboardHandler). with_handler (taken g).now (dispatcher_of ws)) (sym (handler_stands ws))
    ∙ ap (λ (d : Dispatcher). with_handler (taken d.handler).now d) so_far.stands)
