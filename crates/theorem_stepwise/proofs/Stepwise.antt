-- Every session makes the path of its operation's definition, and hands back what the one call does.
use Prim.Native.Nat.{ℕ}
use mathlib.Core.List.{List}
use mathlib.Core.Path.{◌≡◌, refl, sym, ap, ◌∙◌}
use Rattle.std.specs.Prelude.{Option, Some, None}
use Rattle.exchange.specs.Exchange.{Exchange, done}
use Rattle.exchange.specs.Keeping.{Kept, kept, keeping}
use Rattle.exchange.specs.Trace.{Access, Makes, nothing}
use Rattle.ps2_answers.specs.Refusals.{port_of}
use Rattle.ps2_kept.specs.declared.KeptBytes.{KeptBytes}
use Rattle.ps2_kept.specs.Added.{added_thrown, keeping_onto}
use Rattle.ps2_kept.specs.Kept.{nothing_kept}
use Rattle.questions.specs.declared.Request.{Request}
use Rattle.questions.specs.declared.Request.TheVariants.{Read, Write}
use Rattle.questions.specs.Steps.{nothing as nothing_wanted, wants, after, requested}
use Rattle.sessions.specs.declared.Operation.{Operation}
use Rattle.sessions.specs.declared.Ending.{Ending}
use Rattle.step_words.specs.declared.ends.Session.{Session}
use Rattle.step_words.specs.declared.ends.Advance.{Advance}
use Rattle.step_words.specs.declared.ends.Advance.TheVariants.{Asks, Ends}
use Rattle.step_words.specs.Sessions.{session_in, kept_in, ending_in, left_in, said_rest, whole}
use Rattle.step_words.specs.Steps.{Said}
use Rattle.step_words.specs.Whole.{fields_of, counts_of, bytes_of, replies_of, StepAll}
use Rattle.theorem_stepwise.specs.Operations.{operation}
use Rattle.theorem_stepwise.specs.Runs.{Steps, no_step, reads, writes, Run, Stepwise}
use Rattle.theorem_stepwise.proofs.Operations.{whole_operation}
use Rattle.theorem_stepwise.proofs.Paths.{one_read, one_write, wants_keeping, unnoted, played_along}

-- what is left, with the bytes that were thrown away
abbrev left : Advance → List ℕ → Exchange (Kept KeptBytes Ending)
left a w = keeping_onto (kept_in (counts_of w) (bytes_of w)) (said_rest a (fields_of w) (replies_of w))

abbrev SaidOf : Advance → List ℕ → Type 0
SaidOf a w = Said a (fields_of w) (replies_of w)

no_request : (q : Request) → nothing_wanted ≡ requested q → ⊥
no_request (Read p) h = cc
no_request (Write p v) h = cc

-- one step of a session that asks
step_left : (w l : List ℕ) (b : ℕ) (q : Request) (r : Advance) (s : Option Session) → session_in (fields_of w) ≡ s → wants (left_in s (replies_of w)) ≡ requested q → StepAll w b r l
    → after (left (Asks q) w) b ≡ left r l
step_left w l b q r None e h t = absurd (no_request q h)
step_left w l b q r (Some s) e h t = ap (λ x. after (keeping_onto (kept_in (counts_of w) (bytes_of w)) (left_in x (replies_of w))) b) e ∙ t.steps s e

asks_of : (w : List ℕ) (q : Request) → SaidOf (Asks q) w → wants (left (Asks q) w) ≡ requested q
asks_of w q h = wants_keeping added_thrown (kept_in (counts_of w) (bytes_of w)) (said_rest (Asks q) (fields_of w) (replies_of w)) ∙ h.asks q refl

after_step : (w l : List ℕ) (b : ℕ) (q : Request) (r : Advance) → SaidOf (Asks q) w → StepAll w b r l → after (left (Asks q) w) b ≡ left r l
after_step w l b q r h t = step_left w l b q r (session_in (fields_of w)) refl (h.asks q refl) t

run : {a z : Advance} {w u : List ℕ} {l : List Access} → SaidOf a w → Steps a w l z u → Makes (left a w) l (left z u) × SaidOf z u
run h no_step = (nothing, h)
run h (reads {p = p} {w = w} {w' = w'} {w'' = u} {b = b} {r = r} {a = z} {more = more} t m) =
    let k = run t.says m in
    (one_read (left (Asks (Read p)) w) (left r w') (left z u) more (port_of p) b (asks_of w (Read p) h) (after_step w w' b (Read p) r h t) k.0, k.1)
run h (writes {p = p} {v = v} {b = b} {w = w} {w' = w'} {w'' = u} {r = r} {a = z} {more = more} t m) =
    let k = run t.says m in
    (one_write (left (Asks (Write p v)) w) (left r w') (left z u) more (port_of p) v b (asks_of w (Write p v) h) (after_step w w' b (Write p v) r h t) k.0, k.1)

ended_left : (n : ℕ) (w : List ℕ) → left (Ends n) w ≡ done (kept (ending_in (fields_of w)) (kept_in (counts_of w) (bytes_of w)))
unfolding keeping
ended_left n w = refl

begun_left : (o : Operation) (a : Advance) (w : List ℕ) → kept_in (counts_of w) (bytes_of w) ≡ nothing_kept → whole o ≡ said_rest a (fields_of w) (replies_of w) → left a w ≡ keeping_onto nothing_kept (operation o)
begun_left o a w p q = ap (λ k. keeping_onto k (said_rest a (fields_of w) (replies_of w))) p ∙ ap (keeping_onto nothing_kept) (sym q ∙ whole_operation o)

-- for every operation, every list of bytes and every device
pub stepwise : (o : Operation) (made : List Access) (n : ℕ) (w : List ℕ) → Run o made n w → Stepwise o made n w
stepwise o made n w r =
    let k = run (r.begins.says (replies_of r.begun)) r.steps in
    let e = begun_left o r.first r.begun r.begins.kept (r.begins.begins (replies_of r.begun)) in
    let m : Makes (keeping_onto nothing_kept (operation o)) made (done (kept (ending_in (fields_of w)) (kept_in (counts_of w) (bytes_of w)))) = rw (sym e, sym (ended_left n w)) k.0 in
    let t : Makes (operation o) made (done (ending_in (fields_of w))) =
    unnoted added_thrown nothing_kept (operation o) made (ending_in (fields_of w)) (kept_in (counts_of w) (bytes_of w)) m in
    record {
      path = t;
      call = λ log h. played_along (operation o) made (ending_in (fields_of w)) t log h;
      kept_bytes = m;
      refusal = (k.1.ends n refl).1;
    }
