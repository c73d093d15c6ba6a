-- `handler_words::take_words` meets its contract.
use mathlib.Core.Path.{◌≡◌, sym, ◌∙◌}
use mathlib.Core.Bool.{true}
use Prim.Native.Nat.{◌<◌}
use native.Mathlib.Omega.{arith}
use borrow.Author.Tests.{eq-eqb, ne_eqb}
use Rattle.keyboard_record.specs.Record.{well_formed}
use Rattle.keyboard_record.proofs.WellFormed.{well_is}
use Rattle.handler_words.proofs.Taken.{take_unread, take_malformed, take_none, take_one}
use Rattle.handler_words.proofs.take_words.Goals as goal
use Rattle.handler_words.proofs.take_words.Goals.{Else-state-eq0}

-- past the second test the record is well formed, and its start one of the places
well : (c : Else-state-eq0) → well_formed c.state_in-state.result ≡ true
well c = sym c.well_formed-2.ensures ∙ c.if-not-well_formed.false

started : (c : Else-state-eq0) → c.state_in-state.result.start < 128
started c = (well_is _ (well c)).start_in

pub returns-then-not-sides_pass : goal.returns-then-not-sides_pass
returns-then-not-sides_pass c =
    let whole = c.in-Some.ensures.cases in
    rw whole.same (take_unread c.args.words.now whole.long (rw whole.same at (sym c.sides_pass.ensures ∙ c.if-not-sides_pass.true)) c.no_event-then-not-sides_pass.ensures)

pub returns-then-not-well_formed : goal.returns-then-not-well_formed
returns-then-not-well_formed c =
    let whole = c.in-Some.ensures.cases in
    rw whole.same (take_malformed c.args.words.now whole.long (rw whole.same at c.state_in-state.ensures) (sym c.well_formed-2.ensures ∙ c.if-not-well_formed.true) c.no_event-then-not-well_formed.ensures)

pub returns-then-state-eq0 : goal.returns-then-state-eq0
returns-then-state-eq0 c =
    let whole = c.in-Some.ensures.cases in
    rw whole.same
    (take_none c.args.words.now whole.long (rw whole.same at c.state_in-state.ensures) (sym c.well_formed-2.ensures ∙ c.if-not-well_formed.false) (eq-eqb _ 0 c.if-state-eq0.true) c.no_event-then-state-eq0.ensures)

pub overflow_add-state : goal.overflow_add-state
overflow_add-state c = omega (arith, started (goal.at.overflow_add-state c).Else-state-eq0)

pub offset_bounds-words-state : goal.offset_bounds-words-state
offset_bounds-words-state c = omega (arith, started (goal.at.offset_bounds-words-state c).Else-state-eq0)

pub bounds-words-state : goal.bounds-words-state
bounds-words-state c = omega (arith, started (goal.at.bounds-words-state c).Else-state-eq0)

pub overflow_add-state-2 : goal.overflow_add-state-2
overflow_add-state-2 c = omega (arith, started (goal.at.overflow_add-state-2 c).Else-state-eq0)

pub returns : goal.returns
returns c =
    let whole = c.in-Some.ensures.cases in
    take_one c.args.words.now whole.long (rw whole.same at c.state_in-state.ensures) (well (goal.at.returns c).Else-state-eq0) (ne_eqb _ 0 c.if-state-eq0.false) c.oldest.ensures c.without_oldest.ensures
    (rw whole.same at c.event_taken-taken.ensures) (rw whole.same at c.put_queue.ensures)
